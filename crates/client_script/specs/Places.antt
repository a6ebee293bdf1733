-- How words name the bytes of a section filter (this project's own).
use Rattle.std.specs.Prelude.{ℕ, zero, suc, ◌+◌, List, [], ◌∷◌, Ok}
use Rattle.client_script.specs.Imports.{Place, SectionFilter, filter_with, place_named}
use Rattle.client_script.specs.Words.{Reading, and_then, mapped, or_fault}
use Rattle.client_script.specs.declared.fault.FaultKind.TheVariants.{Bytes}
use Rattle.client_script.specs.declared.wanted.WantedWord.TheVariants.{Byte}

-- The places that the words at the front spell, of at most `left` words. Each has a greater number than the one
-- before, and the first has `least` or more.
unfoldable pub places_in : (left least : ℕ) → List (List ℕ) → Reading (List Place)
places_in zero least words = Ok ([], words)
places_in (suc left) least [] = Ok ([], [])
places_in (suc left) least (word ∷ words) =
    and_then (or_fault Bytes (Byte least) (place_named least word) words) (λ place words.
    and_then (places_in left (place.number + 1) words) (λ places words.
    Ok (place ∷ places, words)))

-- the filter that the words at the front spell, by at most one word for each of its 16 places
unfoldable pub filter_in : List (List ℕ) → Reading SectionFilter
filter_in words = mapped filter_with (places_in 16 0 words)
