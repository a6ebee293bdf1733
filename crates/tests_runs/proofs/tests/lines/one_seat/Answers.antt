use Rattle.tests_runs.proofs.Imports.{◌≡◌, ◌^◌, ◌∙◌, ℕ, List, length, map, Some, Ok, Err, Result, IfOk, Vec, Global, ap, sym, subst, slice_index_or, option_map, All, result_ok, All-pop, slice_get-map, slice_get-get_or, TableId, Caller, AreFreshCallers, caller_fits, Desk, IsReadyToHand, AreReady}
use Rattle.tests_runs.proofs.tests.lines.one_seat.Goals as goal

-- each of the desks has a ready seat that has called nothing
all_ready : {T : Type 0} (locks : List TableId) (clients : List Caller) (desks : List (Desk T)) → AreReady locks clients (map (λ (d : Desk T). d.seat) desks) → All (λ (d : Desk T). IsReadyToHand locks d.seat) desks
all_ready locks clients desks ready k d low =
    let x = slice_index_or desks k d in
    ready.each k x.seat (slice_get-map (λ (z : Desk _). z.seat) desks k ∙ ap (option_map (λ (z : Desk _). z.seat)) (slice_get-get_or desks k d low))

counted : (locks : List TableId) (n : ℕ) (feeder : Caller) (clients : List Caller) → AreFreshCallers locks n feeder clients → AreFreshCallers locks (length clients) feeder clients
counted locks n feeder clients fresh = subst (λ (k : ℕ). AreFreshCallers locks k feeder clients) (sym fresh.long) fresh

if_some : {A E : Type 0} (P : A → Type 0) (r : Result A E) (a : A) → Some a ≡ result_ok r → IfOk r P → P a
if_some P (Ok x) a e h = subst P (cc e) h
if_some P (Err x) a e h = absurd (cc e)

pub returns-clause-ready : goal.returns-clause-ready
returns-clause-ready c =
    let locks = c.args.adapter.now in let clients = c.args.clients.items in let desks = c.in_ok-desks.desks in
    let ready = if_some (λ (v : Vec (Desk ℕ) Global). (ls : List TableId) (f : Caller) → AreFreshCallers ls (length clients) f clients → AreReady ls clients (map (λ (d : Desk ℕ). d.seat) v.items))
    c.desks_of.result desks c.in_ok-desks.ensures.value c.desks_of.ensures.ready in
    let all = all_ready locks clients desks.items (ready locks c.args.feeder.now (counted locks 1 c.args.feeder.now clients c.requires)) in
    (All-pop (λ (d : Desk ℕ). IsReadyToHand locks d.seat) desks.items c.pop.new.self.items (Some c.in_ok-seat.field-0) c.in_ok-seat.ensures.items all).1

pub returns-clause-feeder : goal.returns-clause-feeder
returns-clause-feeder c = let f = c.requires.first in (caller_fits 2 c.args.adapter.now 0 (2 ^ 44) c.args.feeder.now f, f.calls)
