-- What stays a filter of sixteen places of bytes.
use Rattle.text_forms.proofs.Imports.{refl, ◌∙◌, ◌<◌, replicate, arith, length-set, All-replicate, All-set, All, SectionFilter, Place, HasBytes, IsFilter, with_place}

-- a filter with one more place is a filter
pub with_place-IsFilter : (f : SectionFilter) (place : Place) → IsFilter f → HasBytes place → IsFilter (with_place f place)
unfolding with_place
with_place-IsFilter f place is bytes = (
  (length-set f.filter place.number place.filter ∙ is.0.0, All-set (λ byte. byte < 256) f.filter place.number place.filter bytes.0 is.0.1),
  (length-set f.mask place.number place.mask ∙ is.1.0, All-set (λ byte. byte < 256) f.mask place.number place.mask bytes.1 is.1.1),
  (length-set f.mode place.number place.mode ∙ is.2.0, All-set (λ byte. byte < 256) f.mode place.number place.mode bytes.2 is.2.1),
)

-- zeros are a filter
pub zeros-IsFilter : IsFilter (record { filter = replicate 16 0; mask = replicate 16 0; mode = replicate 16 0 })
zeros-IsFilter =
    let bytes : All (λ byte. byte < 256) (replicate 16 0) = All-replicate (λ byte. byte < 256) 16 0 (omega arith) in
    ((refl, bytes), (refl, bytes), (refl, bytes))
