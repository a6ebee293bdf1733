use Rattle.node_core.proofs.Imports.{true, Some, rules, knows_in}
use Rattle.node_core.proofs.FewPids.{few_granted}
use Rattle.node_core.proofs.tenure.Tenure.add_pid.Goals as goal

pub invariant_of-self : goal.invariant_of-self
invariant_of-self c =
    let t = c.args.self.now in
    let few = few_granted (knows_in true (Some t)).facts c.args.pid c.add.result c.add.new.self c.requires.granted t.few (rw c.in-Pes.is c.add.ensures.set) (rw c.in-Pes.is c.add.ensures.unchanged) in
    record {
      told = search rules;
      few = rw c.in-Pes.is at few;
    }
