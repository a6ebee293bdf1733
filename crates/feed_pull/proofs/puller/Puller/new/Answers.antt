use Rattle.feed_pull.proofs.Imports.{ap, refl, ◌∙◌, Gathered}
use Rattle.feed_pull.proofs.PullLemmas.{Pulls-new}
use Rattle.feed_pull.proofs.puller.Puller.new.Goals as goal

pub returns-clause-stream : goal.returns-clause-stream
returns-clause-stream c = Pulls-new c.args.ahead.items c.args.size _ (ap (λ (r : Gathered). r.packets) c.new-2.ensures) (c.in_ok-piece.ensures ∙ c.deref.ensures.value) refl refl c.new.ensures.stream c.in_ok-new.ensures.stands
