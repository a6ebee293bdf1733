use Rattle.emu_top.proofs.Imports.{◌≡◌, ◌∙◌, made}
use Rattle.emu_top.proofs.Answering.{told_as}
use Rattle.emu_top.proofs.top.make.Goals as goal

pub returns-in-Ok-clause-tells : goal.returns-in-Ok-clause-tells
returns-in-Ok-clause-tells g c source = told_as (λ text. text ≡ made c.args.number) c.deref.result.now _ _ c.write_text.result (c.deref.ensures.value ∙ c.in-Ok.ensures) (c.write_text.ensures.tells source)
