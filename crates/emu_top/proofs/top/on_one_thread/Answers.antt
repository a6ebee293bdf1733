use Rattle.emu_top.proofs.Imports.{◌≡◌, made, IsSerialOutput, IsSums}
use Rattle.emu_top.proofs.Answering.{does, gives}
use Rattle.emu_top.proofs.Judging.{checks}
use Rattle.emu_top.proofs.top.on_one_thread.Goals as goal

pub returns-in-Steps-clause-obeys : goal.returns-in-Steps-clause-obeys
returns-in-Steps-clause-obeys g c may = rw c.in-Steps.is (does (IsSerialOutput c.in-Steps.batch c.in-Steps.packet) _ _ _ _ c.steps.result c.steps.ensures.says)

pub returns-in-Make-clause-obeys : goal.returns-in-Make-clause-obeys
returns-in-Make-clause-obeys g c may = rw c.in-Make.is (gives (λ text. text ≡ made c.in-Make.number) _ _ _ c.make.result (c.make.ensures.tells _))

pub returns-in-SelfTest-clause-obeys : goal.returns-in-SelfTest-clause-obeys
returns-in-SelfTest-clause-obeys g c may = rw c.in-SelfTest.is (gives (IsSums c.in-SelfTest.number c.in-SelfTest.batch) _ _ _ c.self_test.result (c.self_test.ensures.tells _))

pub returns-in-Check-clause-obeys : goal.returns-in-Check-clause-obeys
returns-in-Check-clause-obeys g c may = rw c.in-Check.is (checks c.in-Check.packet _ _ _ _ c.check.result c.check.ensures.answers)
