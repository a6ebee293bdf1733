-- The numbers below one more.
use Rattle.text_forms.proofs.Imports.{◌++◌, ◌∙◌, ap, sym, append-nil, arith, rules, flat_map_more, filter_place_text, ◌≡◌, ◌+◌, refl, ℕ, [], ◌∷◌, add-one}
use Rattle.filter_match.specs.Match.{numbers_below}
use Rattle.text_forms.proofs.places.write_filter.Goals as goal

pub below_more : (n : ℕ) → numbers_below (n + 1) ≡ numbers_below n ++ n ∷ []
unfolding numbers_below
below_more n = rw (add-one n) refl

pub places-init : goal.places-init
unfolding numbers_below
places-init c = record { written = sym (append-nil c.reserve.new.self.items); room = search rules; few = search rules; kept = search rules }

pub places-preserved : goal.places-preserved
places-preserved c =
    let f = filter_place_text c.args.filter.now in
    record {
      written = rw (below_more c.places.i) (c.put_filter_place.ensures.appended ∙ (ap (λ text. text ++ f c.places.i) c.places.invariant.written ∙ flat_map_more f c.reserve.new.self.items (numbers_below c.places.i) c.places.i));
      room = omega arith;
      few = omega arith;
      kept = omega arith;
    }
