use Rattle.dvr_core.proofs.Imports.{◌∙◌, ◌||◌, Some, take, ap, sym, arith, or-false, list_any, list_any_more, is_named, tap_names}
use Rattle.dvr_core.proofs.taps.Taps.places.Goals.{in-Some, in_default}
use Rattle.dvr_core.proofs.taps.Taps.places.Goals as goal

pub taps-preserved : goal.taps-preserved
taps-preserved c = λ n packet at.
    let i = c.taps.tap-index in
    let taps = c.self.inside.taps in
    let so_far = list_any (tap_names packet) (take i taps) in
    let one_more = sym (list_any_more (tap_names packet) taps i c.tap-item.result (omega (arith, c.type_inv.tap-items, c.taps-test.true))) in
    elim c.match-tap.branch [
      | in-Some w ↦ rw w.places-is (w.add_all.ensures n packet at ∙ ap (λ b. b || is_named w.tap.inside.pids packet) (c.taps.invariant n packet at)
          ∙ ap (λ o. so_far || tap_names packet o) (ap Some w.tap.view_is ∙ sym w.in-Some.is) ∙ one_more)
      | in_default w ↦ rw w.places-is (c.taps.invariant n packet at ∙ sym (or-false so_far)
          ∙ ap (λ o. so_far || tap_names packet o) (sym w.in_default.is) ∙ one_more)
    ]
