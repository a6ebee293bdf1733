use Rattle.std.proofs.Common.{rules}
use Rattle.emu_top.proofs.Fronts.{fault_is, holds, pulls_ahead}
use Rattle.emu_top.proofs.session.session_of.Goals as goal

pub returns-in-Err-clause-fault : goal.returns-in-Err-clause-fault
returns-in-Err-clause-fault c = rw c.status_of_script.ensures (fault_is c.args.front.part c.end.result c.in-Err.error (search rules) (search rules))

pub returns-in-Ok-new-clause-begins : goal.returns-in-Ok-new-clause-begins
returns-in-Ok-new-clause-begins c =
    let items = c.in-Ok-to_vec.ensures.items_if_clones_equal (λ x y e. e) in
    let pulls = pulls_ahead c.in-Ok-to_vec.ahead.items c.bytes-bytes.result.now c.args.front.part c.unwrap_or-end.result c.end.result c.in-Ok-new.puller (search rules) items (search rules) (search rules) in
    holds c.args.front.part c.end.result c.args.size c.in-Ok.script c.in-Ok-new.puller c.requires.few (search rules) (search rules) (search rules) pulls (search rules) (search rules)
