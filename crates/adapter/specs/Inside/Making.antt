-- How far the passes of the callers are dealt. The proofs alone use it: no public contract cites it.
use Rattle.std.specs.Prelude.{◌≡◌, ℕ, ◌+◌, ◌^◌, List, slice_get, Some}
use Rattle.adapter.specs.Imports.{Entry, TableId, View}
use Rattle.adapter.specs.Rows.{IsFreshRow}
use Rattle.adapter.specs.Callers.{Caller, IsFreshCaller}

-- fresh rows of passes of these locks, that of the last caller first
abbrev pub AreLastFirst : (callers : ℕ) → List TableId → List (List (TableId × View Entry)) → Type 0
AreLastFirst callers locks rows = (k who : ℕ) (row : List (TableId × View Entry)) → slice_get rows k ≡ Some row
    → who + k + 1 ≡ callers → IsFreshRow callers who locks row

-- fresh clients, in the order of their numbers
abbrev pub AreFreshClients : (callers : ℕ) → List TableId → List Caller → Type 0
AreFreshClients callers locks clients = (c : ℕ) (client : Caller) → slice_get clients c ≡ Some client
    → IsFreshCaller locks callers (c + 1) (2 ^ 40) client
