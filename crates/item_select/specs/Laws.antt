-- Laws of a selector over whole lists of packets.
use Rattle.std.specs.Prelude.{ℕ, ◌+◌, ◌*◌, ◌≡◌, ◌≢◌, ◌≤◌, true, List, [], ◌++◌, length}
use Rattle.std.specs.List.{All, sum_by}
use Rattle.item_select.specs.Selecting.{Selecting, Selects, is_once, items_found, kept_after, bytes_held}

-- These packets are offered, and each item is given before the next packet comes. Then all items
-- are given, the filter is the same, and the items have at most 188 bytes a packet.
pub record GivesAll (offered given : List (List ℕ)) (s : Selecting)
    (packets : List (List ℕ)) : Type 0 where
  pub stands : Selects (offered ++ packets) (given ++ items_found s packets) (kept_after s packets)
  pub drained : (kept_after s packets).ready ≡ []
  pub choice : (kept_after s packets).choice ≡ s.choice
  pub bytes : All (λ p. length p ≡ 188) packets
      → bytes_held (kept_after s packets) + sum_by length (items_found s packets) ≤ bytes_held s + 188 * length packets

abbrev pub AllAreGiven : Type 0
AllAreGiven = (packets offered given : List (List ℕ)) (s : Selecting)
    → Selects offered given s → s.ready ≡ [] → GivesAll offered given s packets

-- A one-shot filter that has given its section stands for whatever packets come later: they have no further item.
abbrev pub OneIsAll : Type 0
OneIsAll = (offered more given : List (List ℕ)) (s : Selecting) → Selects offered given s
    → s.is_spent ≡ true → s.ready ≡ [] → Selects (offered ++ more) given s

-- It has given its section where it has given any.
abbrev pub OneIsGiven : Type 0
OneIsGiven = (offered given : List (List ℕ)) (s : Selecting) → Selects offered given s
    → is_once s.choice ≡ true → given ≢ [] → s.is_spent ≡ true
