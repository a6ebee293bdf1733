use Rattle.std.proofs.Common.{◌^◌, ◌-◌, ◌<◌, arith}
use Rattle.serial_core.proofs.Going.{under_more, whole_back}
use Rattle.serial_core.proofs.nodes.Nodes.pass.Goals as goal

pub pass_all-requires : goal.pass_all-requires
pass_all-requires g c =
    let few : c.args.self.now.made < 2 ^ 50 - 1 = c.requires.few in
    record { few = rw c.deref_mut.ensures.value (under_more c.args.self.now.seats.items c.args.self.now.made (2 ^ 50 - 1) (omega (arith, few)) c.requires.counted) }

pub returns-clause-counted : goal.returns-clause-counted
returns-clause-counted g c =
    let whole = whole_back c.args.self.now.seats.items c.deref_mut.result.now c.pass_all.new.seats c.args.self.now.seats.len c.args.self.now.seats.ok.0 c.deref_mut.ensures.value c.pass_all.auto.seats in
    let under = rw c.deref_mut.ensures.value at c.pass_all.ensures.rises in
    rw whole (under c.args.self.now.made c.requires.counted)
