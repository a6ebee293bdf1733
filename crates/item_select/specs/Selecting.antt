-- What a selector keeps between two calls, and how that stands for the packets offered.
-- These are the words of the machine. No definition of an item rests on them.
use Rattle.std.specs.Prelude.{ℕ, ◌+◌, ◌≡◌, ◌≢◌, ◌≤◌, MatchOption, Bool, true, false, ◌&&◌, ◌||◌, List, [], ◌∷◌, ◌++◌, drop, filter, length, slice_get, is_some, Option, Some, None, if◌then◌else◌}
use Rattle.std.specs.List.{sum_by}
use Rattle.section_parse.specs.Inside.Keeping.{Assembly, cleared, after_packet, all_given as all_taken, kept as kept_after_all, length_of}
use Rattle.item_select.specs.Items.{Choice, Nothing, Sections, Packets, is_selected, first_if, given_by, items_of}

-- what a selector keeps
pub record Selecting : Type 0 where
  -- what is selected
  pub choice : Choice
  -- what the assembler of a section filter keeps, apart from its sections
  pub kept : Assembly
  -- a one-shot filter has given its section
  pub is_spent : Bool
  -- the items found and not given yet
  pub ready : List (List ℕ)

-- the PID whose sections are selected
abbrev pub section_pid : Choice → ℕ
section_pid (Sections pid wanted check once) = pid
section_pid _ = 0

-- the filter is a one-shot filter
abbrev pub is_once : Choice → Bool
is_once (Sections pid wanted check once) = once
is_once _ = false

-- a filter that was offered nothing yet
abbrev pub begun : Choice → Selecting
begun choice = record {
  choice = choice;
  kept = cleared (section_pid choice);
  is_spent = false;
  ready = [];
}

-- the same filter anew
abbrev pub begun_again : Selecting → Selecting
begun_again s = begun s.choice

-- as a list of none or one
abbrev pub listed : Option (List ℕ) → List (List ℕ)
listed None = []
listed (Some item) = item ∷ []

-- what is kept after a packet, where all items before it were given
abbrev pub after_offer_by : Choice → Selecting → List ℕ → Selecting
after_offer_by Nothing s packet = s
after_offer_by (Sections pid wanted check once) s packet =
    if s.is_spent then s
    else record s {
      kept = all_taken (after_packet s.kept packet);
      ready = first_if once (filter (is_selected wanted check) (after_packet s.kept packet).ready);
    }
after_offer_by (Packets give) s packet = record s { ready = listed (given_by give packet) }

unfoldable pub after_offer : Selecting → List ℕ → Selecting
after_offer s packet = after_offer_by s.choice s packet

-- an item is ready
abbrev pub is_ready : List (List ℕ) → Bool
is_ready ready = is_some (slice_get ready 0)

-- without the item that is given next
abbrev pub without_first : Selecting → Selecting
without_first s =
    record s { ready = drop 1 s.ready; is_spent = s.is_spent || (is_once s.choice && is_ready s.ready) }

-- with all its items given
abbrev pub all_given : Selecting → Selecting
all_given s = record s { ready = []; is_spent = s.is_spent || (is_once s.choice && is_ready s.ready) }

-- the items that these packets bring, where each item is given before the next packet comes
unfoldable pub items_found : Selecting → List (List ℕ) → List (List ℕ)
items_found s [] = []
items_found s (packet ∷ packets) =
    (after_offer s packet).ready ++ items_found (all_given (after_offer s packet)) packets

-- what is kept behind them
unfoldable pub kept_after : Selecting → List (List ℕ) → Selecting
kept_after s [] = s
kept_after s (packet ∷ packets) = kept_after (all_given (after_offer s packet)) packets

-- The bytes of the items that are ready, and those that the assembler holds: a number that
-- each item given takes its length from.
abbrev pub bytes_held : Selecting → ℕ
bytes_held s = sum_by length s.ready + length_of s.kept.open_now

-- Of a section filter: until its one section was given, the assembler has taken in all packets; and then there is no
-- further item. No other filter gives one section alone.
abbrev pub Follows : Choice → List (List ℕ) → List (List ℕ) → Selecting → Type 0
Follows (Sections pid wanted check once) offered given s =
    (s.is_spent ≡ false → (s.kept ≡ kept_after_all pid offered) × (once ≡ true → given ≡ []))
    × (s.is_spent ≡ true → (once ≡ true) × (given ≢ []))
Follows _ offered given s = s.is_spent ≡ false

-- A selector that keeps `s` was offered these packets since its filter began anew, and has given these items: with
-- those that are ready they are the items of the packets.
pub record Selects (offered given : List (List ℕ)) (s : Selecting) : Type 0 where
  pub so_far : items_of s.choice offered ≡ given ++ s.ready
  pub follows : Follows s.choice offered given s

-- An item is given, or none: what is left is without it, and stands for the packets with it among the items given.
pub record Gave (old : Selecting) (item : Option (List ℕ)) (left : Selecting) : Type 0 where
  pub value : left ≡ without_first old
  pub drained : old.ready ≡ [] → left.ready ≡ []
  pub bytes : bytes_held left + length_of item ≤ bytes_held old
  pub stands : (offered given : List (List ℕ)) → Selects offered given old
      → MatchOption item (Selects offered given left) (λ x. Selects offered (given ++ x ∷ []) left)
