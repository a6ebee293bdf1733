use Rattle.std.proofs.Common.{rules, arith, ◌≡◌, ◌≢◌, ℕ, List, [], ◌++◌, length, None, ap, sym, ◌∙◌, refl, length-append, append-nil}
use Rattle.std.proofs.KnownBytes.{Consumes-trans, Consumes-whole}
use Rattle.ts_packet.specs.Cut.{cut}
use Rattle.feed_pull.specs.declared.fault.Reading.{Reading}
use Rattle.feed_pull.specs.declared.fault.Reading.TheVariants.{Going, Ended, Failed, TooMany}
use Rattle.feed_pull.specs.Pulling.{fault_of}
use Rattle.feed_pull.proofs.PullLemmas.{Follows-then}
use Rattle.tests_low.proofs.tests.streams.count_all.Goals as goal

ended-without_fault : (r : Reading) → r ≢ Going → fault_of r ≡ None → r ≡ Ended
ended-without_fault Going h e = absurd (h refl)
ended-without_fault Ended h e = refl
ended-without_fault Failed h e = absurd cc
ended-without_fault TooMany h e = absurd cc

pub all-preserved : goal.all-preserved
all-preserved g c =
    let st = rw c.in-Some.is at c.in_ok-batch.ensures.stream in
    let i = c.all.invariant in
    let s = i.stands in
    let packets = c.in-Some.batch.value.packets in
    let n : c.count.result ≡ length packets = search rules in
    record {
      size = st.size ∙ i.size;
      stands = (s.0 ++ st.more, s.1 ++ packets, Consumes-trans _ _ _ _ _ s.2 st.consumes, omega (arith, s.3, n, length-append s.1 packets), st.pulls [] s.0 s.1 s.4);
      follows = Follows-then _ _ _ _ _ _ i.follows c.in_ok-batch.ensures.follows;
    }

pub returns : goal.returns
returns g c = λ well.
    let e = c.in_default.is in
    let st = rw e at c.in_ok-batch.ensures.stream in
    let done = rw e at c.in_ok-batch.ensures.none in
    let all = rw e at c.in_ok-batch.ensures.all in
    let i = c.all.invariant in
    let s = i.stands in
    let f = Follows-then _ _ _ _ _ _ i.follows c.in_ok-batch.ensures.follows in
    let whole = all [] (s.0 ++ st.more) (s.1 ++ []) (st.pulls [] s.0 s.1 s.4) in
    let kept : c.pull.new.self.cutting.size ≡ c.args.puller.now.cutting.size = st.size ∙ i.size in
    Consumes-whole _ _ (s.0 ++ st.more) (λ (input : List ℕ). c.all.count ≡ length (cut c.args.puller.now.cutting.size input).packets) (Consumes-trans _ _ _ _ _ s.2 st.consumes) (f.ends c.requires.going (ended-without_fault c.pull.new.self.reading done.stopped well)) (s.3 ∙ ap length (sym (append-nil s.1) ∙ (sym whole ∙ ap (λ size. (cut size (s.0 ++ st.more)).packets) kept)))
