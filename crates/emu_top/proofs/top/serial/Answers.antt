use Rattle.std.proofs.Common.{◌∙◌, sym}
use Rattle.emu_top.proofs.Answering.{serves}
use Rattle.emu_top.proofs.top.serial.Goals as goal

pub returns-in-Ok-Some : goal.returns-in-Ok-Some
returns-in-Ok-Some g c = record {
  serves = λ may. serves _ c.in-Ok-Some.command may _ _ c.on_one_thread.result (sym c.in-Ok-Some.ensures.value ∙ c.in-Ok-Some.field-0-is) (c.on_one_thread.ensures.obeys may) c.on_one_thread.ensures.reads_once c.on_one_thread.ensures.writes_once;
}
