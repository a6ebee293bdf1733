-- What a compiled filter keeps beside the filter.
use Rattle.std.specs.Prelude.{◌≡◌, ℕ, Bool, nat_le, List, length}
use Rattle.std.specs.List.{list_all, list_any}
use Rattle.filter_match.specs.declared.filter.SectionFilter.{SectionFilter}
use Rattle.filter_match.specs.Match.{numbers_below, reaches_at, negates_at}

-- needed is the fewest bytes of a section that every masked byte stands against;
-- negates says whether a masked bit has mode 1
pub record IsCompiled (f : SectionFilter) (needed : ℕ) (negates : Bool) : Type 0 where
  pub reach : (s : List ℕ) → list_all (reaches_at f s) (numbers_below 16) ≡ nat_le needed (length s)
  pub negated : list_any (negates_at f) (numbers_below 16) ≡ negates
