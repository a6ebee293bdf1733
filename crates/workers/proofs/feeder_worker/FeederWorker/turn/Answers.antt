use Rattle.workers.proofs.Imports.{rules, ◌≡◌, ◌<◌, ◌≤◌, ℕ, [], ◌∷◌, length, refl, subst, Fed, IsDone, given_by, is_in}
use Rattle.workers.proofs.FeederWork.{leaves_others, passed_none, passed_batch}
use Rattle.workers.proofs.feeder_worker.FeederWorker.turn.Goals as goal

-- what holds of a batch holds of the same one
same_fed : {first begun count long : ℕ} (now : ℕ) → first ≡ begun → count ≡ long → (P : Fed → Type 0) → P (record { first = first; count = count; now = now }) → P (record { first = begun; count = long; now = now })
same_fed {first} {begun} {count} {long} now one two P p = subst (λ (n : ℕ). P (record { first = begun; count = n; now = now })) two (subst (λ (n : ℕ). P (record { first = n; count = count; now = now })) one p)

pub returns-in_default-clause-passed : goal.returns-in_default-clause-passed
returns-in_default-clause-passed g c before first was h =
    let e = c.pull.ensures in
    let qs = given_by c.pull.result (λ batch. batch.value.packets) in
    let none : qs ≡ [] = search rules in
    let done : IsDone c.pull.new.self = search rules in
    passed_none (is_in c.args.nodes.now) c.args.most (g.C.Clock.may_give c.args.clock.now) (g.C.Clock.may_give_behind c.args.clock.now) g.B.Batches.took before _ _ first was c.args.batches.now c.args.self.now (record c.args.self.now { puller = c.pull.new.self }) qs
    (record { carries = e.stream; follows = e.follows; start = e.start }) e.given h none refl done

pub returns-in_err-take-clause-others : goal.returns-in_err-take-clause-others
returns-in_err-take-clause-others g c = leaves_others (is_in c.args.nodes.now) _ _ _ _ c.feed-places.ensures.entries

pub returns-clause-others : goal.returns-clause-others
returns-clause-others g c = leaves_others (is_in c.args.nodes.now) _ _ _ _ c.feed-places.ensures.entries

pub returns-clause-passed : goal.returns-clause-passed
returns-clause-passed g c before first was h =
    let e = c.pull.ensures in
    let batch = c.in-Some.batch.value in
    let qs = given_by c.pull.result (λ batch. batch.value.packets) in
    let is : qs ≡ batch.packets = search rules in
    let number : batch.first ≡ c.args.self.now.puller.given = search rules in
    let some : 1 ≤ length batch.packets = search rules in
    let few : length batch.packets ≤ c.args.most = search rules in
    let done : length batch.packets < c.args.most → IsDone c.pull.new.self = search rules in
    let one : c.first.result ≡ batch.first = search rules in
    let two : c.count.result ≡ length batch.packets = search rules in
    let took = same_fed c.now_behind-now.result one two (λ (f : Fed). g.B.Batches.took (f ∷ []) c.begin.new.self c.take.new.self) c.in_ok-take.ensures in
    let told = g.met.B.Batches.took_both c.args.batches.now c.begin.new.self c.take.new.self [] _ c.begin.ensures took in
    passed_batch (is_in c.args.nodes.now) c.args.most (g.C.Clock.may_give c.args.clock.now) (g.C.Clock.may_give_behind c.args.clock.now) g.B.Batches.took before _ _ first was c.args.batches.now c.args.self.now _ qs
    (record { carries = e.stream; follows = e.follows; start = e.start }) e.given h c.take.new.self batch c.now_behind-now.result c.feed-places.result
    g.met.B.Batches.took_both told is c.feed-places.ensures.same.0 c.feed-places.ensures.entries number some few c.now_behind-now.ensures.any c.now_behind-now.ensures.behind done e.stopped
