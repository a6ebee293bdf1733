-- What is said of a run beside the definition of a run: its moments, its batches,
-- its outcomes, and that it is accounted.
use Rattle.std.specs.Prelude.{◌≡◌, ◌<◌, ℕ, Bool, IsTrue, List, [], ◌∷◌, length, slice_get, Some}
use Rattle.script_run.specs.Imports.{Act, IsAccounted, LogEntry, Outcome, Pass as PassAct, Poll as PollAct, Read as ReadAct, Scripted, SetFilter as SetFilterAct, SetPes as SetPesAct, Start as StartAct, clients_in, filled, outcomes, rules_at}
use Rattle.script_run.specs.IsRun.{Batch, IsRun, replies, sources}

-- the moment of the call, if it has one, is a number that the clock may give
abbrev pub IsGiven : (may : ℕ → Bool) → Act → Type 0
IsGiven may (SetFilterAct params now) = IsTrue (may now)
IsGiven may (SetPesAct params now) = IsTrue (may now)
IsGiven may (StartAct now) = IsTrue (may now)
IsGiven may (ReadAct now count) = IsTrue (may now)
IsGiven may (PollAct now) = IsTrue (may now)
IsGiven may (PassAct input batch now) = IsTrue (may now)
IsGiven may _ = Unit {0}

-- every batch but the last has `most` packets
abbrev pub AreFull : (most : ℕ) → List Batch → Type 0
AreFull most [] = Unit {0}
AreFull most (b ∷ []) = Unit {0}
AreFull most (b ∷ next ∷ bs) = (b.size ≡ most) × AreFull most (next ∷ bs)

-- A run of the script in full batches, at moments that the clock may give. Each history is accounted, and `told` is
-- what became of each client's commands, by the replies that its calls in the histories got.
pub record IsWholeRun (script : Scripted) (most : ℕ) (may : ℕ → Bool) (stream : List (List ℕ))
    (told : List (List Outcome)) (hs : List (List LogEntry)) : Type 0 where
  pub run : IsRun script most stream hs
  pub accounted : (node : ℕ) (h : List LogEntry) → slice_get hs node ≡ Some h
      → IsAccounted (rules_at node) (filled (sources script stream) h)
  pub full : AreFull most run.fed.batches
  pub moments : (node place : ℕ) (h : List LogEntry) (e : LogEntry) → slice_get hs node ≡ Some h
      → slice_get h place ≡ Some e → IsGiven may e.act
  pub clients : length told ≡ clients_in script
  pub outcomes : (c : ℕ) (is : c < clients_in script)
      → slice_get told c ≡ Some (outcomes c script (replies (run.clients_done c is).made))
