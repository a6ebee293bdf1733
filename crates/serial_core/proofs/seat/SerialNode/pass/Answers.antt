use Rattle.serial_core.proofs.Imports.{refl, sym, subst, ◌∷◌, Frontend, entry_of, rules_at, history_of, StandsAt}
use Rattle.dmx_calls.specs.Invocation as asks
use Rattle.serial_core.proofs.Seats.{seat_fed, is_passed}
use Rattle.serial_core.proofs.seat.SerialNode.pass.Goals as goal

pub returns-clause-at : goal.returns-clause-at
returns-clause-at g c acts n at =
    let h = history_of n in
    let call = asks.Pass Frontend c.args.batch.now.first c.args.batch.now.packets c.args.now in
    let stands = subst (λ r. StandsAt c.pass.new.self n.number (entry_of 0 call r ∷ h)) (sym (is_passed (rules_at n.number) h 0 call tt)) (c.pass.ensures.stands n.number h at.core) in
    seat_fed acts c.args.self.now _ n call tt refl refl stands at
