use Rattle.feed_pull.proofs.Imports.{rules, arith, ◌≡◌, [], length, given_by}
use Rattle.feed_pull.proofs.PullLemmas.{Carries-by, HasGiven-none, Pulls-front, Pulls-size, near-from}
use Rattle.feed_pull.proofs.puller.Puller.pull.Goals as goal

pub returns-clause-stream : goal.returns-clause-stream
returns-clause-stream g c = Carries-by c.args.self.now c.gather.new.self c.give.new.self _ _ _ c.gather.ensures.gathers c.give.ensures.gives

pub returns-clause-front : goal.returns-clause-front
returns-clause-front g c = λ ahead taken given h. Pulls-front ahead taken given c.give.new.self h

pub returns-clause-packets : goal.returns-clause-packets
returns-clause-packets g c = λ ahead taken given h. Pulls-size ahead taken given c.give.new.self h

pub returns-clause-late : goal.returns-clause-late
returns-clause-late g c = λ h. c.give.ensures.late (c.gather.ensures.late h)

pub returns-clause-near : goal.returns-clause-near
returns-clause-near g c = λ h. near-from c.give.result (λ batch. length batch.value.packets) c.args.most c.give.new.self (c.give.ensures.whole (c.gather.ensures.late h))

pub returns-clause-asked : goal.returns-clause-asked
returns-clause-asked g c = λ h. (let k = c.gather.ensures.late h in omega (arith, c.give.ensures.gives.found_before_last_read, c.give.ensures.gives.given))

pub returns-in_err-gather-clause-stream : goal.returns-in_err-gather-clause-stream
returns-in_err-gather-clause-stream g c =
    let none : given_by c.from_residual.result (λ batch. batch.value.packets) ≡ [] = search rules in
    rw none (Carries-by c.args.self.now c.gather.new.self c.gather.new.self _ _ _ c.gather.ensures.gathers (HasGiven-none c.gather.new.self))

pub returns-in_err-gather-clause-front : goal.returns-in_err-gather-clause-front
returns-in_err-gather-clause-front g c = λ ahead taken given h. Pulls-front ahead taken given c.gather.new.self h

pub returns-in_err-gather-clause-packets : goal.returns-in_err-gather-clause-packets
returns-in_err-gather-clause-packets g c = λ ahead taken given h. Pulls-size ahead taken given c.gather.new.self h
