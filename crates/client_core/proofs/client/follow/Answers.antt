use Rattle.client_core.proofs.Imports.{◌≡◌, ◌+◌, ◌*◌, subst, arith, AreFew}
use Rattle.client_core.proofs.client.follow.Goals as goal

pub returns-then-not-is_empty-clause-few : goal.returns-then-not-is_empty-clause-few
returns-then-not-is_empty-clause-few c =
    let sum : 65536 * c.args.step + 65536 ≡ 65536 * (c.args.step + 1) = omega arith in
    subst (λ n. AreFew n c.follow.new.self) sum (c.follow.ensures.few (65536 * c.args.step) c.requires.few)
