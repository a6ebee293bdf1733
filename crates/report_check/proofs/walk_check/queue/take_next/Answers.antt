use Rattle.report_check.proofs.Queues.{empty_at, taken_at, fewer}
use Rattle.report_check.proofs.walk_check.queue.take_next.Goals as goal

pub returns-in-None-clause-next : goal.returns-in-None-clause-next
returns-in-None-clause-next c = empty_at c.args.client c.args.nodes.now.items c.args.node c.index-entries.result.now c.requires.node c.index-entries.ensures c.in-None.ensures.next

pub returns-in-Some-clause-next : goal.returns-in-Some-clause-next
returns-in-Some-clause-next c = taken_at c.args.client c.args.nodes.now.items c.args.node c.index-entries.result.now c.in-Some.later c.in-Some.first.now c.requires.node c.index-entries.ensures c.in-Some.ensures.next

pub returns-in-Some-clause-fewer : goal.returns-in-Some-clause-fewer
returns-in-Some-clause-fewer c = fewer c.args.nodes.now.items c.args.node c.index-entries.result.now c.in-Some.later c.requires.node c.index-entries.ensures c.in-Some.ensures.fewer
