use Rattle.std.proofs.Common.{rules, arith, inl, inr, refl}
use Rattle.emu_io.proofs.sinks.MemSinkSink.write.Goals as goal

pub returns-then-contains-clause-fails : goal.returns-then-contains-clause-fails
returns-then-contains-clause-fails c = (
  λ _. elim c.then-contains.either [
    | inl e ↦ inl (search rules)
    | inr e ↦ inr (rw (← c.self.view_is) (omega arith))
  ],
  λ _. refl,
)
