use Rattle.emu_top.proofs.Imports.{take, All, pass_act, IsActInRange}
use Rattle.emu_top.proofs.fitting.look_at_feeding.Given as goal

abbrev pub invariant-feeding : goal.invariant-feeding
invariant-feeding l = All (λ fed. IsActInRange (pass_act fed)) (take l.fed-index l.feeding)
