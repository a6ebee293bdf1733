-- Laws of walks.
use Rattle.std.specs.Prelude.{◌≡◌, ℕ, List, [], slice_get, Some}
use Rattle.report_check.specs.Imports.{HasDone, LogEntry, Response, Scripted}
use Rattle.report_check.specs.Walk.{IsRest, queues_in}

-- each entry stands on its node and at its place
abbrev pub AreInPlace : List (List LogEntry) → Type 0
AreInPlace hs = (node place : ℕ) (h : List LogEntry) (e : LogEntry) → slice_get hs node ≡ Some h
    → slice_get h place ≡ Some e → (e.node ≡ node) × (e.place ≡ place)

-- a client whose queues can be walked has done what its commands ask
abbrev pub WalkedIsDone : Type 0
WalkedIsDone = (client : ℕ) (script : Scripted) (hs : List (List LogEntry)) → AreInPlace hs
    → (made : List LogEntry) → IsRest client script [] (queues_in client hs) made
    → (done : HasDone script client hs) × (done.made ≡ made)

-- the queues of a client that has done what its commands ask can be walked, in the order in which it called
abbrev pub DoneIsWalked : Type 0
DoneIsWalked = (client : ℕ) (script : Scripted) (hs : List (List LogEntry)) → AreInPlace hs
    → (done : HasDone script client hs) → IsRest client script [] (queues_in client hs) done.made

-- queues can be walked in one way only
abbrev pub WalksAreOne : Type 0
WalksAreOne = (client : ℕ) (script : Scripted) (done : List Response) (queues : List (List LogEntry))
    (made others : List LogEntry) → IsRest client script done queues made → IsRest client script done queues others
    → made ≡ others
