use Rattle.feed_pull.proofs.Imports.{◌≡◌, ◌∙◌, ◌+◌, ◌≤◌, ◌++◌, ℕ, List, length, drop, ap, subst, Watched}
use Rattle.feed_pull.proofs.PullLemmas.{Goes-cut, IsPulling-cut}
use Rattle.feed_pull.proofs.puller.Puller.cut.Goals as goal

pub invariant_of-self : goal.invariant_of-self
invariant_of-self c =
    let f = c.push-count.ensures in
    let w = c.push-count.new.out.packets in
    let t = c.watch_all.new.watch in
    let within : c.push-count.result ≤ length c.self.inside.piece = rw c.rest.ensures.bytes at f.within in
    let shown : c.behind.result.now ≡ drop (length c.self.inside.room.packets) w = c.behind.ensures.value ∙ ap (λ (n : ℕ). drop n w) c.len-before.ensures.value in
    let watched : t.watched ≡ c.self.inside.watch.watched + length (drop (length c.self.inside.room.packets) w) = c.watch_all.ensures.watched ∙ ap (λ (l : List (List ℕ)). c.self.inside.watch.watched + length l) shown in
    IsPulling-cut _ c.push-count.new.self w c.push-count.new.out.most c.pass.new.self c.rest.result.now c.push-count.result t c.self.invariant c.rest.ensures.bytes f.cuts f.appended c.pass.ensures within f.counted c.behind.ensures.fits watched

pub returns-clause-goes : goal.returns-clause-goes
returns-clause-goes c =
    let f = c.push-count.ensures in
    let w = c.push-count.new.out.packets in
    let t = c.watch_all.new.watch in
    let shown : c.behind.result.now ≡ drop (length c.self.inside.room.packets) w = c.behind.ensures.value ∙ ap (λ (n : ℕ). drop n w) c.len-before.ensures.value in
    let stands : (before : List (List ℕ)) → Watched before c.self.inside.watch → Watched (before ++ drop (length c.self.inside.room.packets) w) t =
    λ before h. subst (λ (l : List (List ℕ)). Watched (before ++ l) t) shown (c.watch_all.ensures.stands before h) in
    rw (← c.self.view_is) (Goes-cut _ c.push-count.new.self w c.push-count.new.out.most c.pass.new.self c.rest.result.now c.push-count.result t c.rest.ensures.bytes f.cuts f.appended c.pass.ensures stands)
