use Rattle.serial_core.proofs.Imports.{◌<◌, ◌≤◌, length, arith, Frontend}
use Rattle.dmx_calls.specs.Invocation as call
use Rattle.serial_core.proofs.FedOn.{fed_more, fed_few, fed_at, fed_under}
use Rattle.serial_core.proofs.nodes.pass_all.Goals as goal

pub pass-requires : goal.pass-requires
pass-requires g c =
    let there : c.seats.seat-index < length c.seats.seats = omega (arith, c.seats.auto.seats, c.seats-test.true) in
    record { few = fed_few (call.Pass Frontend c.args.batch.now.first c.args.batch.now.packets c.args.now) c.args.seats.now c.seats.seats c.seats.seat-index c.seat-item.result there c.requires.few c.seats.invariant }

pub seats-preserved : goal.seats-preserved
seats-preserved g c =
    let there : c.seats.seat-index < length c.seats.seats = omega (arith, c.seats.auto.seats, c.seats-test.true) in
    let k = c.pass.ensures in
    fed_more (call.Pass Frontend c.args.batch.now.first c.args.batch.now.packets c.args.now) c.args.seats.now c.seats.seats c.seats.seat-index c.pass.new.self c.seat-item.result there k.at k.rises c.seats.invariant

pub returns-clause-at : goal.returns-clause-at
returns-clause-at g c =
    let all : length c.seats.seats ≤ c.seats.seat-index = omega (arith, c.seats.auto.seats, c.seats-test.false) in
    fed_at (call.Pass Frontend c.args.batch.now.first c.args.batch.now.packets c.args.now) c.args.seats.now c.seats.seats c.seats.seat-index all c.seats.invariant

pub returns-clause-rises : goal.returns-clause-rises
returns-clause-rises g c =
    let all : length c.seats.seats ≤ c.seats.seat-index = omega (arith, c.seats.auto.seats, c.seats-test.false) in
    fed_under (call.Pass Frontend c.args.batch.now.first c.args.batch.now.packets c.args.now) c.args.seats.now c.seats.seats c.seats.seat-index all c.seats.invariant
