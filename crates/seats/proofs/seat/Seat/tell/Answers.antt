use Rattle.seats.proofs.Imports.{rules, ◌≡◌, length, head_of, data_read, call_at}
use Rattle.seats.proofs.Wiring.{told_whole, told_off, told_none}
use Rattle.seats.proofs.seat.Seat.tell.Goals as goal

pub returns-in_err-write_whole-clause-cut : goal.returns-in_err-write_whole-clause-cut
returns-in_err-write_whole-clause-cut g c =
    let bytes = data_read (call_at c.args.self.now.made.items c.args.answered.now.at) in
    let head : c.as_slice.result.now ≡ head_of c.args.answered.now.tell (length bytes) = search rules in
    told_none c.from_residual.result _ _ c.as_slice.result.now (head_of c.args.answered.now.tell (length bytes)) bytes head c.in_err-write_whole.ensures.cut

pub returns : goal.returns
returns g c =
    let bytes = data_read (call_at c.args.self.now.made.items c.args.answered.now.at) in
    let head : c.as_slice.result.now ≡ head_of c.args.answered.now.tell (length bytes) = search rules in
    let rest : c.data_at-data.result.now ≡ bytes = search rules in
    record {
      whole = told_whole c.write_whole-2.result _ _ _ c.as_slice.result.now c.data_at-data.result.now (head_of c.args.answered.now.tell (length bytes)) bytes head rest c.in_ok-write_whole.ensures.whole c.write_whole-2.ensures.whole;
      cut = told_off c.write_whole-2.result _ _ _ c.as_slice.result.now c.data_at-data.result.now (head_of c.args.answered.now.tell (length bytes)) bytes head rest c.in_ok-write_whole.ensures.whole c.write_whole-2.ensures.cut;
    }
