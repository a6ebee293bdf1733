use Rattle.std.proofs.Common.{◌<◌, ◌≤◌, length, arith}
use Rattle.dmx_calls.specs.Invocation as call
use Rattle.serial_core.proofs.FedOn.{fed_more, fed_few, fed_at, fed_under}
use Rattle.serial_core.proofs.nodes.end_all.Goals as goal

pub end-requires : goal.end-requires
end-requires g c =
    let there : c.seats.seat-index < length c.seats.seats = omega (arith, c.seats.auto.seats, c.seats-test.true) in
    record { few = fed_few call.End c.args.seats.now c.seats.seats c.seats.seat-index c.seat-item.result there c.requires.few c.seats.invariant }

pub seats-preserved : goal.seats-preserved
seats-preserved g c =
    let there : c.seats.seat-index < length c.seats.seats = omega (arith, c.seats.auto.seats, c.seats-test.true) in
    let k = c.in_ok-end.ensures in
    fed_more call.End c.args.seats.now c.seats.seats c.seats.seat-index c.end.new.self c.seat-item.result there k.at k.rises c.seats.invariant

pub returns-clause-at : goal.returns-clause-at
returns-clause-at g c =
    let all : length c.seats.seats ≤ c.seats.seat-index = omega (arith, c.seats.auto.seats, c.seats-test.false) in
    fed_at call.End c.args.seats.now c.seats.seats c.seats.seat-index all c.seats.invariant

pub returns-clause-rises : goal.returns-clause-rises
returns-clause-rises g c =
    let all : length c.seats.seats ≤ c.seats.seat-index = omega (arith, c.seats.auto.seats, c.seats-test.false) in
    fed_under call.End c.args.seats.now c.seats.seats c.seats.seat-index all c.seats.invariant
