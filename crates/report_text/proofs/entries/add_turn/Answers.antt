use Rattle.report_text.proofs.Imports.{◌∙◌, ◌++◌, ap, on_ok_weaker, tail_text, turn, rules}
use Rattle.std.specs.Fmt.{decimal}
use Rattle.report_text.proofs.Texts.{behind}
use Rattle.report_text.proofs.Turning.{line-is}
use Rattle.report_text.proofs.entries.add_turn.Goals as goal

pub returns : goal.returns
returns c = record {
  items =
      on_ok_weaker c.add_turn_tail.result
      (λ last. behind c.args.out.now.items (decimal c.args.place) (tail_text c.args.step (turn c.args.feeding.now c.args.step)) c.in_ok-write_decimal.ensures.appended.items last
      ∙ ap (λ line. c.args.out.now.items ++ line) (line-is c.args.place c.args.step (turn c.args.feeding.now c.args.step)))
      c.add_turn_tail.ensures.items;
  full = search rules;
  few = search rules;
  room = search rules;
}
