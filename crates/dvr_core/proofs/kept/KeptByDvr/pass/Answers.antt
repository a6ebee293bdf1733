use Rattle.std.proofs.Common.{refl}
use Rattle.dvr_core.proofs.kept.KeptByDvr.pass.Goals as goal

pub returns-in-Some-Frontend-clause-after : goal.returns-in-Some-Frontend-clause-after
returns-in-Some-Frontend-clause-after g c = rw (c.record_all.ensures.after, c.in-Some-Frontend.is-0, c.in-Some-Frontend.is-1) refl
