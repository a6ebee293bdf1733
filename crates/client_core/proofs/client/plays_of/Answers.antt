use Rattle.client_core.proofs.Imports.{◌≡◌, ◌∙◌, ap, length, take, arith, length-take-le, writes_of}
use Rattle.client_core.proofs.Joining.{are_counted}
use Rattle.client_core.proofs.client.plays_of.Goals as goal

pub push-requires-clause-room : goal.push-requires-clause-room
push-requires-clause-room c =
    let ws = writes_of c.args.client c.args.script.now.writes in
    let i = c.writes.write in
    let count = c.writes-write-end.ensures.count in
    let bound = c.writes-write-end.ensures.bound in
    let under = c.writes-test.true in
    let long : length (take i ws) ≡ i = length-take-le i ws (omega (arith, under, count)) in
    let made : length c.writes.plays.batches ≡ length (take i ws) = ap length c.writes.invariant.batches ∙ are_counted (take i ws) in
    omega (arith, made, long, under, bound)
