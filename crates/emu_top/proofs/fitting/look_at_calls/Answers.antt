use Rattle.emu_top.proofs.Imports.{arith, told_entry, IsEntryInRange}
use Rattle.emu_top.proofs.Ranged.{next_in, all_in}
use Rattle.emu_top.proofs.fitting.look_at_calls.Goals as goal

pub calls-preserved : goal.calls-preserved
calls-preserved c = next_in (λ entry. IsEntryInRange (told_entry entry)) c.args.calls.now c.calls.entry-index c.entry-item.result c.calls-test.true c.entry-item.is c.calls.invariant c.look_at_entry.ensures

pub returns : goal.returns
returns c = all_in (λ entry. IsEntryInRange (told_entry entry)) c.args.calls.now c.calls.entry-index (omega (arith, c.calls-test.false)) c.calls.invariant
