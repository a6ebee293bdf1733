-- The words that name the bytes of a section filter (this project's own).
use Rattle.std.specs.Prelude.{◌≡◌, ℕ, ◌<◌, ◌+◌, ◌-◌, ◌==◌, ◌&&◌, Bool, not, List, [], ◌∷◌, ◌++◌, length, take, drop, map, nat_eq, Option, Some, None, if◌then◌else◌, codes}
use Rattle.text_forms.specs.Imports.{All, Place, SectionFilter, decimal, filter, flat_map, list_all, numbers_below, option_and_then, option_map, place_at}
use Rattle.text_forms.specs.Hex.{hex_byte, byte_text}
use Rattle.text_forms.specs.Numbers.{number_between}

-- ------ written

-- a place as `I=FF/MM/DD`: its number, and its filter, mask and mode byte
abbrev pub place_text : Place → List ℕ
place_text p =
    decimal p.number ++ (codes "=" ++ (byte_text p.filter
    ++ (codes "/" ++ (byte_text p.mask ++ (codes "/" ++ byte_text p.mode)))))

-- the three bytes of a place are bytes
abbrev pub HasBytes : Place → Type 0
HasBytes p = (p.filter < 256) × (p.mask < 256) × (p.mode < 256)

-- whether the three bytes of a place are all 0
abbrev pub is_zero : Place → Bool
is_zero p = list_all (nat_eq 0) (p.filter ∷ p.mask ∷ p.mode ∷ [])

-- place i of a filter behind a space; nothing where its three bytes are all 0
abbrev pub filter_place_text : SectionFilter → ℕ → List ℕ
filter_place_text f i = if is_zero (place_at f i) then [] else codes " " ++ place_text (place_at f i)

-- the places of a filter whose three bytes aren't all 0, each behind a space, in ascending order
abbrev pub filter_text : SectionFilter → List ℕ
filter_text f = flat_map (filter_place_text f) (numbers_below 16)

-- the same places one after another, and their words
abbrev pub filter_places : SectionFilter → List Place
filter_places f = filter (λ p. not (is_zero p)) (map (place_at f) (numbers_below 16))

abbrev pub filter_words : SectionFilter → List (List ℕ)
filter_words f = map place_text (filter_places f)

-- ------ read

-- what follows from a value, where there is one
abbrev pub given : {A B : Type 0} → Option A → (A → Option B) → Option B
given value next = option_and_then next value

-- the place of this number with the bytes that `=FF/MM/DD` spells; `=` is byte 61, `/` is byte 47
unfoldable pub place_with : (number : ℕ) → List ℕ → Option Place
place_with number (equals ∷ f ∷ f' ∷ slash ∷ m ∷ m' ∷ slash' ∷ d ∷ d' ∷ []) =
    if equals == 61 && (slash == 47 && slash' == 47)
    then given (hex_byte f f') (λ filter.
    given (hex_byte m m') (λ mask.
    given (hex_byte d d') (λ mode.
    Some (record { number = number; filter = filter; mask = mask; mode = mode }))))
    else None
place_with number _ = None

-- the place that a word `I=FF/MM/DD` spells, with I from `least` to 15; behind I stand the last nine bytes of the word
unfoldable pub place_named : (least : ℕ) → List ℕ → Option Place
place_named least word =
    given (number_between least 15 (take (length word - 9) word))
    (λ number. place_with number (drop (length word - 9) word))

-- the places that words spell, each with a greater number than the one before, and the first with `least` or more
unfoldable pub places_named : (least : ℕ) → List (List ℕ) → Option (List Place)
places_named least [] = Some []
places_named least (word ∷ words) =
    given (place_named least word) (λ place. option_map (λ later. place ∷ later)
    (places_named (place.number + 1) words))

-- sixteen bytes
abbrev pub IsSixteenBytes : List ℕ → Type 0
IsSixteenBytes bytes = (length bytes ≡ 16) × All (λ byte. byte < 256) bytes

-- a filter has sixteen bytes of each kind
abbrev pub IsFilter : SectionFilter → Type 0
IsFilter f = IsSixteenBytes f.filter × IsSixteenBytes f.mask × IsSixteenBytes f.mode
