use Rattle.report_check.proofs.Imports.{◌≡◌, ◌<◌, ◌+◌, [], ◌∷◌, ◌++◌, length, take, arith, sym, ap, subst, ◌∙◌, length-take-le, take_more, flat_map, None, slice_index_or, writes_of, packets_in, HasPlayed, cut_of, are_counted, are_joined}
use Rattle.std.proofs.lemmas.List.{take_all}
use Rattle.report_check.proofs.Players.{batch_more, batches_more}
use Rattle.report_check.proofs.played.played_with.Goals as goal

pub push-requires-clause-room : goal.push-requires-clause-room
push-requires-clause-room g c =
    let ws = writes_of c.args.client c.args.script.now.writes in
    let i = c.writes.write in
    let count = c.writes-write-end.ensures.count in
    let bound = c.writes-write-end.ensures.bound in
    let under = c.writes-test.true in
    let long : length (take i ws) ≡ i = length-take-le i ws (omega (arith, under, count)) in
    let made : length c.writes.plays.batches ≡ length (take i ws) = ap length c.writes.invariant.played.batches ∙ are_counted (take i ws) in
    omega (arith, made, long, under, bound)

pub batch-requires : goal.batch-requires
batch-requires g c =
    let ws = writes_of c.args.client c.args.script.now.writes in
    let i = c.writes.write in
    let under : i < length ws = omega (arith, c.writes-test.true, c.writes-write-end.ensures.count) in
    let made : length c.writes.plays.batches ≡ i = ap length c.writes.invariant.played.batches ∙ are_counted (take i ws) ∙ length-take-le i ws (omega (arith, under)) in
    let more : length c.push.new.self.batches ≡ length c.writes.plays.batches + 1 = batches_more c.writes.plays c.push.new.self c.written.result.now c.in_ok-push.ensures.played in
    omega (arith, made, more)

pub writes-preserved : goal.writes-preserved
writes-preserved g c =
    let ws = writes_of c.args.client c.args.script.now.writes in
    let i = c.writes.write in
    let bytes = c.written.result.now in
    let under : i < length ws = omega (arith, c.writes-test.true, c.writes-write-end.ensures.count) in
    let next : take (i + 1) ws ≡ take i ws ++ bytes ∷ [] = take_more ws i [] under ∙ ap (λ b. take i ws ++ b ∷ []) (sym c.written.ensures.bytes) in
    let made : length c.writes.plays.batches ≡ i = ap length c.writes.invariant.played.batches ∙ are_counted (take i ws) ∙ length-take-le i ws (omega (arith, under)) in
    record {
      played = subst (λ l. HasPlayed l c.push.new.self) (sym next) (c.in_ok-push.ensures.tied (take i ws) c.writes.invariant.played);
      packets = c.in_ok-add_some.ensures ∙ ap (λ o. c.writes.packets.items ++ packets_in o) c.batch.ensures
          ∙ ap (λ l. l ++ packets_in (slice_index_or c.push.new.self.batches i None)) c.writes.invariant.packets ∙ sym (batch_more c.writes.plays c.push.new.self bytes i made c.in_ok-push.ensures.played);
    }

pub returns : goal.returns
returns g c =
    let ws = writes_of c.args.client c.args.script.now.writes in
    let all : take c.writes.write ws ≡ ws = take_all c.writes.write ws (omega (arith, c.writes-test.false, c.writes-write-end.ensures.count)) in
    c.writes.invariant.packets ∙ ap (flat_map packets_in) c.writes.invariant.played.batches ∙ are_joined (take c.writes.write ws) ∙ ap (λ l. (cut_of l).packets) all
