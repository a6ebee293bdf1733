use Rattle.report_text.proofs.Imports.{◌++◌, codes, decimal, on_ok_weaker, input_text, rules}
use Rattle.report_text.proofs.Texts.{behind}
use Rattle.report_text.proofs.acts.add_pass.Goals as goal

pub returns : goal.returns
returns c = record {
  items =
      on_ok_weaker c.add_field-3.result
      (λ last.
      behind c.args.out.now.items (codes "pass input=" ++ input_text c.args.input) _ c.in_ok-add_input.ensures.items (
      behind c.add_input.new.out.items (codes " first=" ++ decimal c.args.first) _ c.in_ok-add_field.ensures.items (
      behind c.add_field.new.out.items (codes " count=" ++ decimal c.args.count) _ c.in_ok-add_field-2.ensures.items last)))
      c.add_field-3.ensures.items;
  full = search rules;
  few = search rules;
  room = search rules;
}
