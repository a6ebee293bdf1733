use Rattle.feed_pull.proofs.PullLemmas.{Pulls-tally}
use Rattle.feed_pull.proofs.puller.Puller.tally.Goals as goal

pub returns : goal.returns
returns c = rw (← c.self.view_is) (Pulls-tally _ c.finish.result c.finish.ensures.tally (rw (← c.self.view_is) at c.requires))
