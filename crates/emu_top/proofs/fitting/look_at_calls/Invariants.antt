use Rattle.emu_top.proofs.Imports.{take, All, told_entry, IsEntryInRange}
use Rattle.emu_top.proofs.fitting.look_at_calls.Given as goal

abbrev pub invariant-calls : goal.invariant-calls
invariant-calls l = All (λ entry. IsEntryInRange (told_entry entry)) (take l.entry-index l.calls)
