use Rattle.emu_top.proofs.Imports.{◌<◌, take, All}
use Rattle.emu_top.proofs.fitting.look_at_sixteen.Given as goal

abbrev pub invariant-bytes : goal.invariant-bytes
invariant-bytes l = All (λ byte. byte < 256) (take l.byte-index l.bytes)
