use Rattle.adapter.proofs.Imports.{rules, ◌≡◌, ◌++◌, ◌∷◌, [], length, subst, sym, AreFreshRows}
use Rattle.adapter.proofs.Deals.{fresh_rows}
use Rattle.adapter.proofs.making.build.Goals as goal

pub nodes-preserved : goal.nodes-preserved
nodes-preserved c =
    let e = c.in-Ok.ensures.passes in let more : c.push.new.self.items ≡ c.nodes.locks.items ++ c.in-Ok.lock ∷ [] = search rules in
    let long : length c.in-Ok.passes.items ≡ c.args.callers = search rules in (
      search rules,
      subst (λ l. AreFreshRows (λ r. r.items) c.args.callers l c.deal.new.rows) (sym more)
          (fresh_rows (λ r. r.items) c.args.callers c.nodes.locks.items c.in-Ok.lock c.nodes.rows c.deal.new.rows c.in-Ok.passes.items c.nodes.invariant.1 e.1 long c.in_ok-deal.ensures),
    )
