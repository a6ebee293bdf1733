-- Each logged call of a client is on a node that its script can name.
use Rattle.workers.proofs.Imports.{◌≡◌, ℕ, true, List, Option, Some, None, sym, subst, refl, Response, LogEntry, Scripted, Event, Batches, plays_of, next_event, IsEvent, is_named}
use Rattle.workers.proofs.NamedNodes.{named_next}

pub named_call : (script : Scripted) (client : ℕ) (rs : List Response) (e : LogEntry) → IsEvent (plays_of client script) (next_event client script rs) e → is_named script.lines e.node ≡ true
named_call script client rs e is = of_event (plays_of client script) (next_event client script rs) (named_next script client rs) is where
  of_event : (batches : Batches) (o : Option Event) → ((event : Event) → o ≡ Some event → is_named script.lines event.node ≡ true) → IsEvent batches o e → is_named script.lines e.node ≡ true
  of_event batches None named is = absurd is
  of_event batches (Some event) named is = subst (λ n. is_named script.lines n ≡ true) (sym is.0) (named event refl)
