-- Which calls leave the end of the stream as it was.
use Rattle.serial_core.proofs.Imports.{◌≡◌, refl, ap, ◌∙◌, ℕ, Bool, true, false, ◌∷◌, Option, Some, None, ◌||◌, Invocation, Response, Passed, is_accepted, History, event, entry_of, is_end, has_ended, Rules, has_ended_refused, has_ended_after, ClientRequest, Own, Batches, batch_at, Packets, Open, call_of, pass_of, facts, answer}
use Rattle.dmx_calls.specs.Invocation as call
use Rattle.client_core.specs.declared.event.ClientRequest.TheVariants.{Pass}

-- ------ calls of the feeder and of clients

pub end_answer : (node : Rules) (h : History) (who : ℕ) → answer node h who call.End ≡ Passed
unfolding answer facts
end_answer node h who = refl

-- a call that isn't End leaves the end of the stream as it was
pub end_stays : (who : ℕ) (c : Invocation) (r : Response) (h : History) → is_end (event (entry_of who c r) h) ≡ false → has_ended (entry_of who c r ∷ h) ≡ has_ended h
end_stays who c r h isnt = go (is_accepted r) refl where
  go : (b : Bool) → is_accepted r ≡ b → has_ended (entry_of who c r ∷ h) ≡ has_ended h
  go true yea = has_ended_after (entry_of who c r) h yea ∙ ap (λ b. b || has_ended h) isnt
  go false nay = has_ended_refused (entry_of who c r) h nay

pub ends : (who : ℕ) (r : Response) (h : History) → is_accepted r ≡ true → has_ended (entry_of who call.End r ∷ h) ≡ true
ends who r h ok = has_ended_after (entry_of who call.End r) h ok

-- a client doesn't end the stream
pass_ends : (o : Option Packets) (now who : ℕ) (r : Response) (h : History) → is_end (event (entry_of who (pass_of o now) r) h) ≡ false
pass_ends None now who r h = refl
pass_ends (Some batch) now who r h = refl

pub no_end : (batches : Batches) (w : ClientRequest) (now who : ℕ) (r : Response) (h : History) → is_end (event (entry_of who (call_of batches w now) r) h) ≡ false
no_end batches (Own Open) now who r h = refl
no_end batches (Pass write) now who r h = pass_ends (batch_at batches write) now who r h
no_end batches _ now who r h = refl
