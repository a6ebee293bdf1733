-- How the fields of the feeder and of a client are seen, and what holds of them.
use Rattle.std.specs.Prelude.{◌≡◌, ◌≤◌, ℕ, List, slice_get, Some}
use Rattle.adapter.specs.Imports.{Entry, TableId, View}
use Rattle.adapter.specs.Callers.{Caller}
use Rattle.adapter.specs.declared.client.Client.TheInside as client
use Rattle.adapter.specs.declared.feeder.Feeder.TheInside as feeder

abbrev pub client_view : client.Inside → Caller
client_view c = record { who = c.who; left = c.left; passes = c.passes }

abbrev pub feeder_view : feeder.Inside → Caller
feeder_view f = record { who = 0; left = f.left; passes = f.passes }

-- each pass is the caller's, and has a call left for each that the caller has
abbrev pub AreMine : (who left : ℕ) → List (TableId × View Entry) → Type 0
AreMine who left passes =
    (i : ℕ) (p : TableId × View Entry) → slice_get passes i ≡ Some p → (p.1.number ≡ who) × (left ≤ p.1.left)

abbrev pub ClientHolds : client.Inside → Type 0
ClientHolds c = AreMine c.who c.left c.passes

abbrev pub FeederHolds : feeder.Inside → Type 0
FeederHolds f = AreMine 0 f.left f.passes
