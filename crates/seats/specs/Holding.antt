-- Which nodes are a caller's, by its calls and by what its passes have seen.
use Rattle.std.specs.Prelude.{◌≡◌, ◌≢◌, ◌≤◌, ℕ, Bool, true, false, List, [], ◌∷◌, ◌++◌, fold, nat_eq, reverse, slice_get, Some, if◌then◌else◌}
use Rattle.seats.specs.Imports.{Act, Caller, DEMUX_NODES, Entry, KnowsItsCalls, LogEntry, Response, TableId, View, caller_of, is_accepted, owner}
use Rattle.dmx_calls.specs.declared.call.Call.TheVariants.{Open, Close}

-- By what its pass has seen of a node, a caller isn't the owner. What others call changes nothing of this.
abbrev pub HasLeft : (node : ℕ) → Caller → Type 0
HasLeft node c =
    (p : TableId × View Entry) → slice_get c.passes node ≡ Some p → owner (reverse p.1.seen) ≢ Some c.who

-- whether a caller is to be taken for the owner behind a call of its own, where it was so before or not
abbrev pub has_then : (had : Bool) → Act → Response → Bool
has_then had Open response = if is_accepted response then true else had
has_then had Close response = false
has_then had _ response = had

-- whether a node is held behind these calls of a caller: it was opened, and not closed since
abbrev pub holds : List LogEntry → (node : ℕ) → Bool
holds calls node = fold (λ had e. if nat_eq e.node node then has_then had e.act e.response else had) false calls

-- each Close among these calls, which come behind those, is on a node that is held then
abbrev pub CloseHeld : (before : List LogEntry) → List LogEntry → Type 0
CloseHeld before [] = Unit {0}
CloseHeld before (e ∷ es) = (e.act ≡ Close → holds before e.node ≡ true) × CloseHeld (before ++ e ∷ []) es

-- By these calls, which come behind those, a caller gives back what it has: it closes no node that it doesn't hold, and owns none
-- behind them.
pub record GivesBack (before calls : List LogEntry) (c : Caller) : Type 0 where
  pub held : CloseHeld before calls
  pub left : (node : ℕ) → node ≤ DEMUX_NODES → HasLeft node c

-- just the nodes that are held behind these calls are marked
abbrev pub AreMarked : List LogEntry → (held : List Bool) → Type 0
AreMarked calls held = (node : ℕ) → node ≤ DEMUX_NODES → slice_get held node ≡ Some (holds calls node)

-- A caller gives back what it has by these calls, which come behind those of a log, whatever calls come before these: where it
-- has marked just the nodes that are held behind all of them.
abbrev pub GivesBackMarked : (held : List Bool) → (log calls : List LogEntry) → Caller → Type 0
GivesBackMarked held log calls c = (gone : List LogEntry) → AreMarked (gone ++ log) held → GivesBack (gone ++ log) calls c

-- a pass that is this caller's alone, and knows all of its calls
pub record IsOwnPass (who : ℕ) (p : TableId × View Entry) : Type 0 where
  pub number : p.1.number ≡ who
  pub numbers : p.1.numbers ≡ who ∷ []
  pub calls : KnowsItsCalls caller_of p.1

-- Its passes are its own, and it has left each node that isn't marked as held.
pub record KnowsItsNodes (c : Caller) (held : List Bool) : Type 0 where
  pub own : (node : ℕ) (p : TableId × View Entry) → slice_get c.passes node ≡ Some p → IsOwnPass c.who p
  pub left : (node : ℕ) → slice_get held node ≡ Some false → HasLeft node c
