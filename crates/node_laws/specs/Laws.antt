-- Laws of histories.
use Rattle.std.specs.Prelude.{ℕ, ◌<◌, ◌≡◌, List, ◌++◌, reverse, Some}
use Rattle.node_laws.specs.Imports.{Entry, History, IsAccounted, IsLegalFor, Misfit, Rules, Since, over}
use Rattle.node_laws.specs.Plays.{Plays}

-- Each byte of each capture of a legal history is given, named as lost or named as dropped, in its place.
abbrev pub LegalIsAccounted : Rules → Type 0
LegalIsAccounted node = (h : History) → IsLegalFor node h → IsAccounted node h

-- What plays is legal: entries, the oldest first, of which each has the answer, are a legal history.
abbrev pub PlayedIsLegal : Rules → Type 0
PlayedIsLegal node = (entries : List Entry) → Plays node entries → IsLegalFor node (reverse entries)

-- The items of a capture only grow: as long as it is the capture that the same event began, its items
-- are the earlier ones and then new ones.
abbrev pub ItemsOnlyGrow : Rules → Type 0
ItemsOnlyGrow node =
    (later h : History) (s t : Since) → node.capture h ≡ Some s → node.capture (later ++ h) ≡ Some t → t.by ≡ s.by
    → (new : List (List ℕ)) × (node.items (later ++ h) ≡ node.items h ++ new)

-- The item of a pending overflow needs more than the room that it found.
abbrev pub OverflowNeedsMore : Rules → Type 0
OverflowNeedsMore node = (h : History) (x : Misfit) → over node h ≡ Some x → x.room < x.need
