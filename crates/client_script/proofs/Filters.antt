-- What the words that are still to come make of a filter.
use Rattle.client_script.proofs.Imports.{◌≡◌, refl, ℕ, suc, ◌+◌, List, [], ◌∷◌, fold, Some, None, Ok, Err, SectionFilter, Place, with_place, Reading, and_then, mapped, place_named, Bytes, Byte, places_in}

-- the filter with the places that at most `left` words at the front spell, with numbers from `least` on
unfoldable pub filter_by : SectionFilter → (left least : ℕ) → List (List ℕ) → Reading SectionFilter
filter_by f left least words = mapped (fold with_place f) (places_in left least words)

pub filter_by-full : (f : SectionFilter) (left least : ℕ) (words : List (List ℕ)) → left ≡ 0 → filter_by f left least words ≡ Ok (f, words)
unfolding filter_by places_in
filter_by-full f left least words full = rw full refl

pub filter_by-end : (f : SectionFilter) (left more least : ℕ) (words : List (List ℕ)) → left ≡ suc more → words ≡ [] → filter_by f left least words ≡ Ok (f, [])
unfolding filter_by places_in
filter_by-end f left more least words some none = rw (some, none) refl

pub filter_by-fault : (f : SectionFilter) (left more least : ℕ) (all : List (List ℕ)) (word : List ℕ) (words : List (List ℕ)) → left ≡ suc more → all ≡ word ∷ words → place_named least word ≡ None
    → filter_by f left least all ≡ Err (record { kind = Bytes; wanted = Byte least }, words)
unfolding filter_by places_in
filter_by-fault f left more least all word words some split none = rw (some, split, none) refl

pub filter_by-place : (f : SectionFilter) (left more least : ℕ) (all : List (List ℕ)) (word : List ℕ) (words : List (List ℕ)) (place : Place) → left ≡ suc more → all ≡ word ∷ words → place_named least word ≡ Some place
    → filter_by f left least all ≡ filter_by (with_place f place) more (place.number + 1) words
unfolding filter_by places_in
filter_by-place f left more least all word words place some split found = rw (some, split, found) (go (places_in more (place.number + 1) words))
  where
    go : (later : Reading (List Place)) → mapped (fold with_place f) (and_then later (λ places words. Ok (place ∷ places, words))) ≡ mapped (fold with_place (with_place f place)) later
    go (Ok read) = refl
    go (Err fault) = refl
