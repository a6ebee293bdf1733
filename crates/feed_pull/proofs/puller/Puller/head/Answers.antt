use Rattle.feed_pull.proofs.Imports.{◌++◌, cut, has_failed, head-is}
use Rattle.feed_pull.proofs.puller.Puller.head.Goals as goal

pub returns-clause-head : goal.returns-clause-head
returns-clause-head c = λ ahead taken given h.
    head-is c.args.self.now.cutting.size (ahead ++ taken) (has_failed c.args.self.now.reading) (record { tally = c.tally.result; rows = c.in_ok-rows.field-0; read_fault = c.read_failed.result })
    (c.tally.ensures ahead taken given h)
    (c.in_ok-rows.ensures (cut c.args.self.now.cutting.size (ahead ++ taken)).packets (c.watch.ensures ahead taken given h))
    c.read_failed.ensures
