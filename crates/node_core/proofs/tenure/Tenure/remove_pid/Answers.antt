use Rattle.node_core.proofs.Imports.{rules, Pes}
use Rattle.node_core.proofs.FewPids.{few_removed}
use Rattle.node_core.proofs.tenure.Tenure.remove_pid.Goals as goal

pub invariant_of-self : goal.invariant_of-self
invariant_of-self c =
    let before = rw c.in-Pes.is at c.args.self.now.few in
    record {
      told = search rules;
      few = rw c.remove-removed.ensures.set (few_removed (Pes c.in-Pes.params) c.args.pid c.in-Pes.pids before);
    }
