use Rattle.report_check.proofs.Imports.{◌<◌, ◌^◌, List, sym, subst, told_of, told_nodes, dealt, left_on}
use Rattle.report_check.proofs.Dealt.{Node}
use Rattle.report_check.proofs.Few.{few_left}
use Rattle.report_check.proofs.report.explained.Goals as goal

pub expected_of_caller-requires-clause-few : goal.expected_of_caller-requires-clause-few
expected_of_caller-requires-clause-few c =
    subst (λ (ns : List Node). left_on (dealt (told_nodes ns)) < 2 ^ 46) (sym c.deref-in_default-kind.ensures.value) (few_left (told_of c.args.told.now) c.requires.few)
