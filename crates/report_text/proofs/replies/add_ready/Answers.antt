use Rattle.report_text.proofs.Imports.{◌++◌, ◌≤◌, codes, decimal, length, on_ok_weaker, rules, subst, sym}
use Rattle.report_text.proofs.Texts.{behind, short_pending}
use Rattle.report_text.proofs.replies.add_ready.Goals as goal

pub returns : goal.returns
returns c =
    let short : length c.name.result.now ≤ 8 = subst (λ text. length text ≤ 8) (sym c.name.ensures) (short_pending c.args.error) in
    record {
      items =
          rw (← c.flag_name.ensures.value, ← c.name.ensures, ← c.flag_name-2.ensures.value)
          (on_ok_weaker c.add_word-3.result
          (λ last.
          behind c.args.out.now.items (codes "ready readable=" ++ c.flag_name.result.now) _ c.in_ok-add_word.ensures.items (
          behind c.add_word.new.out.items (codes " error=" ++ c.name.result.now) _ c.in_ok-add_word-2.ensures.items (
          behind c.add_word-2.new.out.items (codes " at=" ++ decimal c.args.at) _ c.in_ok-add_field.ensures.items last)))
          c.add_word-3.ensures.items);
      full = search rules;
      few = search rules;
      room = search rules;
    }
