use Rattle.section_parse.proofs.Imports.{◌≤◌, length, arith, length-drop, carried, unread, bytes_of}
use Rattle.section_parse.proofs.Reading.{open-left}
use Rattle.section_parse.proofs.Assembled.{pushes-clean, pushes-none}
use Rattle.section_parse.proofs.assembler.Assembler.push.Goals as goal

pub returns-in-Some : goal.returns-in-Some
returns-in-Some c =
    let i = c.self.inside in
    let h = c.in-Some.ensures in
    let few : length (carried c.args.packet.now) ≤ 184 = rw (← h.1) (omega (arith, h.3, h.4, length-drop c.in-Some.first c.args.packet.now)) in
    let g = pushes-clean c.args.self.now c.take.new.self c.args.packet.now c.requires.drained (rw (← c.self.view_is) (open-left (unread i.open_now (bytes_of i.last)))) few c.take.ensures.value in
    record { value = g.value; pid = g.pid; stands = g.stands; bytes = g.bytes }

pub returns-in_default : goal.returns-in_default
returns-in_default c =
    let g = pushes-none c.args.self.now c.args.packet.now c.requires.drained (rw (← c.self.view_is) (c.in_default.ensures)) in
    record { value = g.value; pid = g.pid; stands = g.stands; bytes = g.bytes }
