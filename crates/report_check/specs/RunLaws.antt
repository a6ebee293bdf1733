-- Laws of what a report tells.
use Rattle.std.specs.Prelude.{◌≡◌, ℕ, true, List, [], ◌∷◌, length}
use Rattle.report_check.specs.Imports.{IsRun, LogEntry, Outcome, Scripted, StreamHead, ToldNode, are_rows, report_of, text_of}
use Rattle.report_check.specs.Completed.{shown, told_by, completed}
use Rattle.report_check.specs.Right.{IsReportOfRun, IsRightReport}

-- a report is the text of what it tells
abbrev pub ReportsTell : Type 0
ReportsTell =
    (head : StreamHead) (outcomes : List (List Outcome)) (hs : List (List LogEntry))
    → report_of head outcomes hs ≡ text_of (told_by head outcomes hs)

-- Where a client called a node, a report of a run gives all histories of the run.
abbrev pub RunsAreCompleted : Type 0
RunsAreCompleted =
    (script : Scripted) (most : ℕ) (packets : List (List ℕ)) (head : StreamHead) (outcomes : List (List Outcome))
    (hs : List (List LogEntry)) (n : ToldNode) (nodes : List ToldNode)
    → IsRun script most packets hs → shown 0 hs ≡ n ∷ nodes → completed (told_by head outcomes hs) ≡ hs

-- Where no client called a node, the histories that a report of a run stands for are those of a run, too.
abbrev pub IdleRunsAreRuns : Type 0
IdleRunsAreRuns =
    (script : Scripted) (most : ℕ) (packets : List (List ℕ)) (head : StreamHead) (outcomes : List (List Outcome))
    (hs : List (List LogEntry)) → head.tally.packets ≡ length packets
    → IsRun script most packets hs → shown 0 hs ≡ [] → IsRun script 64 packets (completed (told_by head outcomes hs))

-- The reports of runs are those that are right: to tell them by what is read of them is to tell them by the runs that there are.
-- The head is one of a stream with so many packets, its rows in their order.
abbrev pub RightAreOfRuns : Type 0
RightAreOfRuns =
    (script : Scripted) (packets : List (List ℕ)) (head : StreamHead) (bytes : List ℕ)
    → are_rows 0 head.rows ≡ true → head.tally.packets ≡ length packets
    → (IsReportOfRun script packets head bytes → IsRightReport script packets head bytes)
    × (IsRightReport script packets head bytes → IsReportOfRun script packets head bytes)
