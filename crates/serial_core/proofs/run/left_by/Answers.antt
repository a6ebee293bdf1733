use Rattle.serial_core.proofs.Imports.{sym, ap, ◌∙◌, ◌++◌, head_of}
use Rattle.serial_core.proofs.Ending.{all_woven}
use Rattle.serial_core.proofs.run.left_by.Goals as goal

pub returns-clause-histories : goal.returns-clause-histories
returns-clause-histories c r at order = c.in_ok-histories.ensures ∙ all_woven c.args.runner.nodes r at c.requires.ended order

pub returns-clause-head : goal.returns-clause-head
returns-clause-head c ahead taken given p = c.in_ok-head.ensures.head ahead taken given p ∙ ap (head_of c.args.runner.puller.cutting.size (ahead ++ taken)) (sym c.in_ok-head.ensures.fault)
