-- What a filter means, bit by bit, for the law that `matches` says just this.
use Rattle.std.specs.Prelude.{◌≡◌, ◌≢◌, ℕ, ◌/◌, ◌%◌, ◌^◌, ◌<◌, List, length, slice_index}
use Rattle.filter_match.specs.declared.filter.SectionFilter.{SectionFilter}
use Rattle.filter_match.specs.Match.{place_of}

-- bit k of byte i
abbrev pub bit_of : List ℕ → ℕ → ℕ → ℕ
bit_of bytes i k = slice_index bytes i / 2 ^ k % 2

-- bit k of filter byte i is masked, with this mode
pub record HasMode (f : SectionFilter) (i k mode : ℕ) : Type 0 where
  pub byte : i < 16
  pub bit : k < 8
  pub is_masked : bit_of f.mask i k ≡ 1
  pub has_mode : bit_of f.mode i k ≡ mode

-- The section matches. The API: bits with mode 0 have to be equal, and of those with mode 1 at least one has to differ.
pub record IsMatch (f : SectionFilter) (s : List ℕ) : Type 0 where
  -- each filter byte with a mask other than 0 stands against a byte that the section has
  pub reaches : (i : ℕ) → i < 16 → slice_index f.mask i ≢ 0 → place_of i < length s
  -- each masked bit with mode 0 is equal
  pub equals : (i k : ℕ) → HasMode f i k 0 → bit_of f.filter i k ≡ bit_of s (place_of i) k
  -- where a masked bit has mode 1, a masked bit with mode 1 differs
  pub differs : (i k : ℕ) → HasMode f i k 1
      → (j : ℕ) × (m : ℕ) × (HasMode f j m 1 × (bit_of f.filter j m ≢ bit_of s (place_of j) m))
