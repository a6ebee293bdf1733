use Rattle.text_forms.proofs.Imports.{ap}
use Rattle.std.specs.Prelude.{Some}
use Rattle.text_forms.proofs.FiltersRead.{filter_text-words, places_named-filter_words, filter_with-filter_places}
use Rattle.text_forms.proofs.laws.filters_are_read_again.Goals as goal

pub returns-clause-words : goal.returns-clause-words
returns-clause-words c f = filter_text-words f

pub returns-clause-read : goal.returns-clause-read
returns-clause-read c f is = rw (places_named-filter_words f is) (ap Some (filter_with-filter_places f is))
