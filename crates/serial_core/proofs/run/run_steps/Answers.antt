use Rattle.serial_core.proofs.Imports.{refl, [], draws_none}
use Rattle.serial_core.proofs.run.run_steps.Goals as goal

pub returns-in-Err-clause-draws : goal.returns-in-Err-clause-draws
returns-in-Err-clause-draws g c = ([], (c.args.puller, draws_none _ c.args.puller))

pub returns-in-Err-new-clause-draws : goal.returns-in-Err-new-clause-draws
returns-in-Err-new-clause-draws g c = ([], (c.args.puller, draws_none _ c.args.puller))

pub run_over-requires-clause-begun : goal.run_over-requires-clause-begun
run_over-requires-clause-begun g c =
    let k = c.in-Ok-new.ensures in
    record { nodes = k.at; moment = refl; made = k.none; given = c.requires.fresh; unended = k.open; counted = k.counted }
