-- Which reports are right for a script and a stream: those of a run of the script over the stream's packets (this project's own).
use Rattle.std.specs.Prelude.{◌≡◌, ◌<◌, ℕ, List, length, slice_get, Some}
use Rattle.report_check.specs.Imports.{IsInRange, IsReport, IsRun, LogEntry, Outcome, Scripted, StreamHead, Told, clients_in, outcomes, replies, report_of}
use Rattle.report_check.specs.Completed.{told_by, completed}

-- the histories are those of a run in batches of at most 64 packets, and `told` is what became of each client's commands in it,
-- by the replies that its calls got
pub record IsRunOf (script : Scripted) (packets : List (List ℕ)) (told : List (List Outcome)) (hs : List (List LogEntry))
    : Type 0 where
  pub run : IsRun script 64 packets hs
  pub clients : length told ≡ clients_in script
  pub outcomes : (c : ℕ) (is : c < clients_in script)
      → slice_get told c ≡ Some (outcomes c script (replies (run.clients_done c is).made))

-- the bytes are the report of this head and of a run, and the numbers that it tells fit their types
pub record IsReportOfRun (script : Scripted) (packets : List (List ℕ)) (head : StreamHead) (bytes : List ℕ) : Type 0 where
  pub histories : List (List LogEntry)
  pub outcomes : List (List Outcome)
  pub run : IsRunOf script packets outcomes histories
  pub range : IsInRange (told_by head outcomes histories)
  pub text : bytes ≡ report_of head outcomes histories

-- the bytes are a report that tells this head, and the histories for which it stands are those of a run
pub record IsRightReport (script : Scripted) (packets : List (List ℕ)) (head : StreamHead) (bytes : List ℕ) : Type 0 where
  pub told : Told
  pub report : IsReport told bytes
  pub same : told.head ≡ head
  pub run : IsRunOf script packets told.outcomes (completed told)
