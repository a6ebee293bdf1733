use Rattle.text_forms.proofs.PlacesRead.{place_named-place_text}
use Rattle.text_forms.proofs.laws.places_are_read_again.Goals as goal

pub returns : goal.returns
returns c least p low high bytes = place_named-place_text least p low high bytes
