use Rattle.report_text.proofs.Imports.{sym, ◌∙◌, rules, tests, YieldsList-from_slice, any_from_yields_List, any_of_map, told_entry, is_of_client}
use Rattle.report_text.proofs.entries.is_called.Goals as goal

pub returns : goal.returns
returns c =
    any_from_yields_List (λ e. is_of_client (told_entry e)) _ _ _ c.any.ensures.ran (YieldsList-from_slice c.args.calls.now cc) (λ x b q k. search (rules, tests))
    ∙ sym (any_of_map is_of_client told_entry c.args.calls.now)
