use Rattle.serial_core.proofs.Imports.{refl, ap, ◌∙◌, [], ◌∷◌, ◌++◌, invocation_of, Entry, history_of}
use Rattle.serial_core.proofs.Seats.{entries_count, seat_called}
use Rattle.serial_core.proofs.seat.SerialNode.call.Goals as goal

pub returns-clause-at : goal.returns-clause-at
returns-clause-at g c acts n at =
    let k = c.in_ok-reply.ensures.answer n at.core in
    let e : Entry = record { place = c.entries-place.result; step = c.args.nth; node = c.hear.new.self.node; who = c.args.who; act = c.in_ok-act.act; reply = c.in_ok-kept.kept } in
    seat_called acts c.args.self.now _ n c.args.who c.args.nth (invocation_of c.args.call) e
    c.in_ok-reply.ensures.node (c.in_ok-push.ensures.items ∙ ap (λ es. es.items ++ e ∷ []) c.in_ok-reply.ensures.entries)
    c.in_ok-reply.ensures.node (c.entries-place.ensures ∙ entries_count c.args.self.now.core n.number (history_of n) at.core) refl refl (c.in_ok-act.ensures ∙ c.act-act.ensures) (c.in_ok-kept.ensures ∙ k.0) k.1 at
