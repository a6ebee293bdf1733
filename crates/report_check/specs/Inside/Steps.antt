-- What the parts of a walk decide and do.
use Rattle.std.specs.Prelude.{◌≡◌, ℕ, ◌+◌, List, [], ◌∷◌, length, slice_get, slice_set, Some}
use Rattle.report_check.specs.Imports.{Act, Batches, LogEntry, Pass as PassAct, Poll as PollAct, Read as ReadAct, ClientRequest, SetFilter as SetFilterAct, SetPes as SetPesAct, Start as StartAct, act_of, call_of}

-- the moment of a call; 0 where it has none
abbrev pub moment_in : Act → ℕ
moment_in (SetFilterAct params now) = now
moment_in (SetPesAct params now) = now
moment_in (StartAct now) = now
moment_in (ReadAct now count) = now
moment_in (PollAct now) = now
moment_in (PassAct input batch now) = now
moment_in _ = 0

-- the call that is asked for by a client that plays these batches, made at the moment of this one
abbrev pub asked_at : Batches → ClientRequest → Act → Act
asked_at batches request act = act_of (call_of batches request (moment_in act))

-- an entry was taken from the front of a node's queue, and nothing else
pub record IsTaken (node : ℕ) (e : LogEntry) (old new : List (List LogEntry)) : Type 0 where
  pub later : List LogEntry
  pub at : slice_get old node ≡ Some (e ∷ later)
  pub is : new ≡ slice_set old node later

-- how many entries there are on all nodes
unfoldable pub left_on : List (List LogEntry) → ℕ
left_on [] = 0
left_on (h ∷ hs) = length h + left_on hs
