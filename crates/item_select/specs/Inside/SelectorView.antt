-- What a selector keeps, from its fields.
use Rattle.std.specs.Prelude.{ℕ, Bool, List, [], filter, if◌then◌else◌}
use Rattle.section_parse.specs.Inside.Keeping.{Assembly, all_given as all_taken}
use Rattle.item_select.specs.declared.selector.Wanted.{Wanted}
use Rattle.item_select.specs.declared.selector.Wanted.TheVariants.{Nothing as NothingWanted, Sections as SectionsWanted, Packets as PacketsWanted}
use Rattle.item_select.specs.Items.{Choice, Nothing, Sections, Packets, is_selected, first_if, given_by}
use Rattle.item_select.specs.Selecting.{Selecting, listed}

abbrev pub choice_of : Wanted → Choice
choice_of NothingWanted = Nothing
choice_of (SectionsWanted pid wanted check once) = Sections pid wanted check once
choice_of (PacketsWanted give) = Packets give

-- The items that are ready: of a section filter those among the sections that the assembler holds; of a filter of
-- packets the one of its last packet, where that waits.
abbrev pub ready_of : Wanted → (is_spent : Bool) → (held : List (List ℕ)) → (waits : Bool) → (last : List ℕ)
    → List (List ℕ)
ready_of NothingWanted is_spent held waits last = []
ready_of (SectionsWanted pid wanted check once) is_spent held waits last =
    if is_spent then [] else first_if once (filter (is_selected wanted check) held)
ready_of (PacketsWanted give) is_spent held waits last = if waits then listed (given_by give last) else []

abbrev pub selecting_of : Wanted → Assembly → (is_spent waits : Bool) → (last : List ℕ) → Selecting
selecting_of wanted assembler is_spent waits last = record {
  choice = choice_of wanted;
  kept = all_taken assembler;
  is_spent = is_spent;
  ready = ready_of wanted is_spent assembler.ready waits last;
}
