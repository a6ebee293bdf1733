use Rattle.emu_top.proofs.Imports.{◌∙◌, ap, sym, Run, IsThreadOutput}
use Rattle.std.proofs.Common.{Some}
use Rattle.emu_top.proofs.Answering.{does, serves}
use Rattle.emu_top.proofs.top.emulate.Goals as goal

pub returns-in-Ok-Some-Run : goal.returns-in-Ok-Some-Run
returns-in-Ok-Some-Run g c =
    let batch = c.in-Ok-Some-Run.batch in
    let packet = c.in-Ok-Some-Run.packet in
    let done = does (IsThreadOutput batch packet _) _ _ _ _ c.run.result c.run.ensures.says in
    record {
      serves = serves _ (Run batch packet) _ _ _ c.run.result (sym c.in-Ok-Some-Run.ensures.value ∙ (c.in-Ok-Some-Run.field-0-is ∙ ap Some c.in-Ok-Some-Run.field-0-0-is)) done c.run.ensures.reads_once c.run.ensures.writes_once;
    }

pub returns-in-Ok-Some : goal.returns-in-Ok-Some
returns-in-Ok-Some g c = record {
  serves = serves _ c.in-Ok-Some.command _ _ _ c.on_one_thread.result (sym c.in-Ok-Some.ensures.value ∙ c.in-Ok-Some.field-0-is) (c.on_one_thread.ensures.obeys _) c.on_one_thread.ensures.reads_once c.on_one_thread.ensures.writes_once;
}
