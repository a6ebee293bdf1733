-- When a section matches a section filter (Linux media API, Digital TV demux, struct dmx_filter).
use Rattle.std.specs.Prelude.{ℕ, zero, suc, ◌+◌, ◌-◌, Bool, not, ◌&&◌, ◌||◌, nat_eq, nat_lt, List, [], ◌∷◌, ◌++◌, length, slice_index, bit_and, bit_xor, if◌then◌else◌}
use Rattle.std.specs.List.{list_all, list_any}
use Rattle.filter_match.specs.declared.filter.SectionFilter.{SectionFilter}

-- The section byte against which filter byte i stands. The two bytes behind the
-- first, with the length, are passed over.
abbrev pub place_of : ℕ → ℕ
place_of i = if nat_eq i 0 then 0 else i + 2

-- the numbers below n
unfoldable pub numbers_below : ℕ → List ℕ
numbers_below zero = []
numbers_below (suc n) = numbers_below n ++ n ∷ []

-- filter byte i isn't masked, or stands against a byte that the section has
unfoldable pub reaches_at : SectionFilter → List ℕ → ℕ → Bool
reaches_at f s i = nat_eq (slice_index f.mask i) 0 || nat_lt (place_of i) (length s)

-- the masked bits in which filter byte i and the section differ
unfoldable pub differences : SectionFilter → List ℕ → ℕ → ℕ
differences f s i = bit_and (bit_xor (slice_index f.filter i) (slice_index s (place_of i))) (slice_index f.mask i)

-- none of these differences has mode 0
unfoldable pub equals_at : SectionFilter → List ℕ → ℕ → Bool
equals_at f s i = nat_eq (bit_and (differences f s i) (255 - slice_index f.mode i)) 0

-- one of them has mode 1
unfoldable pub differs_at : SectionFilter → List ℕ → ℕ → Bool
differs_at f s i = not (nat_eq (bit_and (differences f s i) (slice_index f.mode i)) 0)

-- a masked bit of filter byte i has mode 1
unfoldable pub negates_at : SectionFilter → ℕ → Bool
negates_at f i = not (nat_eq (bit_and (slice_index f.mask i) (slice_index f.mode i)) 0)

-- Every masked byte is there, every masked bit with mode 0 is equal, and where masked
-- bits have mode 1, one of them differs.
unfoldable pub matches : SectionFilter → List ℕ → Bool
matches f s =
    list_all (reaches_at f s) (numbers_below 16)
    && list_all (equals_at f s) (numbers_below 16)
    && (not (list_any (negates_at f) (numbers_below 16)) || list_any (differs_at f s) (numbers_below 16))
