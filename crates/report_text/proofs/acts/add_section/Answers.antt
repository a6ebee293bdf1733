use Rattle.report_text.proofs.Imports.{◌++◌, codes, decimal, on_ok_weaker, rules}
use Rattle.report_text.proofs.Texts.{behind}
use Rattle.report_text.proofs.acts.add_section.Goals as goal

pub returns : goal.returns
returns c = record {
  items =
      on_ok_weaker c.write_filter.result
      (λ last.
      behind c.args.out.now.items (codes "section pid=" ++ decimal c.args.params.now.pid) _ c.in_ok-add_field.ensures.items (
      behind c.add_field.new.out.items (codes " timeout=" ++ decimal c.args.params.now.timeout) _ c.in_ok-add_field-2.ensures.items (
      behind c.add_field-2.new.out.items (codes " flags=" ++ decimal c.args.params.now.flags) _ c.in_ok-add_field-3.ensures.items (
      behind c.add_field-3.new.out.items (codes " at=" ++ decimal c.args.now) _ c.in_ok-add_field-4.ensures.items last))))
      c.write_filter.ensures.appended.items;
  full = search rules;
  few = search rules;
  room = search rules;
}
