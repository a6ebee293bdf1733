use Rattle.std.proofs.Common.{◌^◌, ◌-◌, ◌<◌, arith}
use Rattle.serial_core.proofs.Going.{under_more, whole_back}
use Rattle.serial_core.proofs.nodes.Nodes.end.Goals as goal

pub end_all-requires : goal.end_all-requires
end_all-requires g c =
    let few : c.args.self.now.made < 2 ^ 50 - 1 = c.requires.few in
    record { few = rw c.deref_mut.ensures.value (under_more c.args.self.now.seats.items c.args.self.now.made (2 ^ 50 - 1) (omega (arith, few)) c.requires.counted) }

pub returns-clause-counted : goal.returns-clause-counted
returns-clause-counted g c =
    let whole = whole_back c.args.self.now.seats.items c.deref_mut.result.now c.end_all.new.seats c.args.self.now.seats.len c.args.self.now.seats.ok.0 c.deref_mut.ensures.value c.end_all.auto.seats in
    let under = rw c.deref_mut.ensures.value at c.in_ok-end_all.ensures.rises in
    rw whole (under c.args.self.now.made c.requires.counted)
