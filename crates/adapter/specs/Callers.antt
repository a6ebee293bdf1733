-- What a contract sees of the feeder and of a client.
use Rattle.std.specs.Prelude.{◌≡◌, ℕ, ◌+◌, ◌<◌, ◌^◌, List, [], ◌∷◌, length, slice_get, Some}
use Rattle.adapter.specs.Imports.{Entry, TableId, View}
use Rattle.adapter.specs.Rows.{Fits, AreSamePasses, IsFreshRow}

-- its number, how many calls it may make, and its passes of the nodes 0 to 32
pub record Caller : Type 0 where
  pub who : ℕ
  pub left : ℕ
  pub passes : List (TableId × View Entry)

-- it is the same caller, with passes of the same locks
abbrev pub IsSameCaller : Caller → Caller → Type 0
IsSameCaller old new = (new.who ≡ old.who) × AreSamePasses old.passes new.passes

-- some caller has this number
abbrev pub SomeIs : List Caller → ℕ → Type 0
SomeIs callers w = (k : ℕ) × (c : Caller) × (slice_get callers k ≡ Some c) × (c.who ≡ w)

-- These are the adapter's feeder and all its clients, in any order: each has a pass of each lock, into which no other
-- was joined, and each number that a lock has dealt is that of some caller.
pub record AreAllCallers (locks : List TableId) (callers : List Caller) : Type 0 where
  pub fits : (k : ℕ) (c : Caller) → slice_get callers k ≡ Some c → Fits locks c.passes
  pub own : (k : ℕ) (c : Caller) → slice_get callers k ≡ Some c → (i : ℕ) (p : TableId × View Entry)
      → slice_get c.passes i ≡ Some p → p.1.numbers ≡ c.who ∷ []
  pub all : (k : ℕ) (c : Caller) → slice_get callers k ≡ Some c → (i : ℕ) (p : TableId × View Entry)
      → slice_get c.passes i ≡ Some p → (w : ℕ) → w < p.1.callers → SomeIs callers w

-- a caller of this number that has made no call, with this number of calls left
pub record IsFreshCaller (locks : List TableId) (callers who left : ℕ) (c : Caller) : Type 0 where
  pub number : c.who ≡ who
  pub calls : c.left ≡ left
  pub row : IsFreshRow callers who locks c.passes

-- the feeder is caller 0, and client c is caller c + 1
pub record AreFreshCallers (locks : List TableId) (clients : ℕ) (feeder : Caller) (others : List Caller) : Type 0 where
  pub first : IsFreshCaller locks (clients + 1) 0 (2 ^ 44) feeder
  pub long : length others ≡ clients
  pub each : (c : ℕ) (other : Caller) → slice_get others c ≡ Some other
      → IsFreshCaller locks (clients + 1) (c + 1) (2 ^ 40) other
