use Rattle.emu_top.proofs.Imports.{List, subst, All-map, Vec, Global, All, Outcome, IsOutcomeInRange, IsRowInRange}
use Rattle.emu_top.proofs.fitting.look_at.Goals as goal

pub returns : goal.returns
returns c = record {
  tally = c.look_at_tally.ensures;
  rows = subst (All IsRowInRange) c.deref.ensures.value c.look_at_rows.ensures;
  commands =
      let each = subst (λ (those : List (Vec Outcome Global)). All (λ o. All IsOutcomeInRange o.items) those) c.deref-2.ensures.value c.look_at_clients.ensures in
      All-map (All IsOutcomeInRange) (λ o. o.items) c.args.left.now.outcomes.items each;
  entries = c.look_at_histories.ensures;
}
