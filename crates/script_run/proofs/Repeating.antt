-- How often a client repeats a read, by its log: each repeat follows a read that gave bytes, named some as lost, or was
-- answered Again, after which the client waits on the same node.
use Rattle.script_run.proofs.Imports.{◌≡◌, refl, sym, ap, subst, ◌∙◌, ℕ, zero, suc, ◌+◌, ◌-◌, ◌*◌, ◌<◌, ◌≤◌, Bool, true, false, List, [], ◌∷◌, ◌++◌, Option, Some, None, length, take, slice_get, inl, inr, arith, ◌⊎◌, if◌then◌else◌, IsSome, map-append, Act, ReadAct, LogEntry, act_of, Response, Done, Busy, Refused, NoMemory, Data, Again, Overflow, TimedOut, Ready, Passed, Scripted, Event, ClientRequest, Own, Pass, Open, Packets, Batches, batch_at, call_of, commands_of, ends_drain, pass_of, plays_of, Standing, progress, next_event, waits_on, no_slots, AreAsked, IsEvent, replies, bytes_in, added_by, one_reply_more, some_of, repeats_none, at_place, first_calls, stays_on}
use Rattle.client_core.specs.Repeats.{repeats}
use Rattle.script_run.proofs.Counting.{total, total_le, total_add, weigh, weight_at, weigh_places, weight_got}
use Rattle.script_run.proofs.Lists.{take_next, length_taken}
use Rattle.script_run.proofs.ReadReplies.{IsOpenAgain, not_ended, IsAnyReadReply}

-- ------ one entry

-- the repeats that an entry may add: one, where it is a read that ends no drain
abbrev pub adds_to : Act → Response → ℕ
adds_to (ReadAct now count) r = if ends_drain r then 0 else 1
adds_to _ r = 0

abbrev pub adds : LogEntry → ℕ
adds e = adds_to e.act e.response

-- a pass adds none
passed_adds : (batch : Option Packets) (moment : ℕ) (r : Response) → adds_to (act_of (pass_of batch moment)) r ≡ 0
passed_adds None m r = refl
passed_adds (Some batch) m r = refl

asked : (batches : Batches) (w : ClientRequest) (moment : ℕ) (r : Response) → adds_to (act_of (call_of batches w moment)) r ≡ added_by w r
asked batches (Own Open) m r = refl
asked batches (Pass write) m r = passed_adds (batch_at batches write) m r
asked batches _ m r = refl

if_one : (b : Bool) → (if b then 0 else 1) ≤ 1
if_one true = omega arith
if_one false = omega arith

one_at_most : (a : Act) (r : Response) → adds_to a r ≤ 1
one_at_most (ReadAct now count) r = if_one (ends_drain r)
one_at_most _ r = omega arith

-- a read that ends no drain
pub record IsGoing (a : Act) (r : Response) : Type 0 where
  pub now : ℕ
  pub count : ℕ
  pub read : a ≡ ReadAct now count
  pub goes_on : ends_drain r ≡ false

if_going : (now count : ℕ) (r : Response) (b : Bool) → ends_drain r ≡ b → 0 < (if b then 0 else 1) → IsGoing (ReadAct now count) r
if_going now count r true is more = absurd (omega (arith, more))
if_going now count r false is more = record { now = now; count = count; read = refl; goes_on = is }

pub going : (a : Act) (r : Response) → 0 < adds_to a r → IsGoing a r
going (ReadAct now count) r more = if_going now count r (ends_drain r) refl more
going _ r more = absurd (omega (arith, more))

-- it adds none
abbrev pub quiet : LogEntry → ℕ
quiet e = 1 - adds e

all_calls : (log : List LogEntry) → weigh quiet log + weigh adds log ≡ length log
all_calls [] = refl
all_calls (e ∷ log) = omega (arith, one_at_most e.act e.response, all_calls log)

abbrev pub is_again : Response → Bool
is_again (Again ended) = true
is_again _ = false

abbrev pub again_at : Option LogEntry → Bool
again_at None = false
again_at (Some e) = is_again e.response

-- what the client's commands ask for
pub record Asked (batches : Batches) (o : Option Event) (e : LogEntry) : Type 0 where
  pub event : Event
  pub is : o ≡ Some event
  pub node : e.node ≡ event.node
  pub moment : ℕ
  pub act : e.act ≡ act_of (call_of batches event.want moment)

pub asked_by : (batches : Batches) (o : Option Event) (e : LogEntry) → IsEvent batches o e → Asked batches o e
asked_by batches None e is = absurd is
asked_by batches (Some event) e is = record { event = event; is = refl; node = is.0; moment = is.1.0; act = is.1.1 }

-- ------ along the log

module _ (script : Scripted) (client : ℕ) (log : List LogEntry) (events : AreAsked script client log) where
  -- the repeats after so many calls
  abbrev pub repeats_after : ℕ → ℕ
  repeats_after i = repeats client script (replies (take i log))

  -- those that this call adds
  abbrev pub grows : ℕ → ℕ
  grows i = repeats_after (suc i) - repeats_after i

  pub record OneCall (i : ℕ) (e : LogEntry) : Type 0 where
    pub few : i < 33 * length (commands_of client script) + repeats_after i
    pub more : repeats_after (suc i) ≤ repeats_after i + adds e
    pub waits : e.response ≡ Again false → waits_on client script (replies (take (suc i) log)) ≡ None → repeats_after (suc i) ≤ repeats_after i
    pub stays : e.response ≡ Again false → repeats_after i < repeats_after (suc i) → (f : LogEntry) → slice_get log (suc i) ≡ Some f → f.node ≡ e.node

  pub one_call : (i : ℕ) (e : LogEntry) → slice_get log i ≡ Some e → OneCall i e
  one_call i e is =
      let a : Asked (plays_of client script) (next_event client script (replies (take i log))) e = asked_by (plays_of client script) (next_event client script (replies (take i log))) e (events i e is) in
      let s = some_of (progress client script (replies (take i log))).standing a.event a.is in
      let next : replies (take (suc i) log) ≡ replies (take i log) ++ e.response ∷ [] = ap replies (take_next log i e is) ∙ map-append (λ (x : LogEntry). x.response) (take i log) (e ∷ []) in
      let more = one_reply_more client script (replies (take i log)) e.response a.event a.is in
      let added : adds e ≡ added_by a.event.want e.response = ap (λ x. adds_to x e.response) a.act ∙ asked (plays_of client script) a.event.want a.moment e.response in
      let grown : repeats_after (suc i) ≡ repeats client script (replies (take i log) ++ e.response ∷ []) = ap (λ rs. repeats client script rs) next in
      let long : length (replies (take i log)) ≡ i = length_taken (λ (x : LogEntry). x.response) log i e is in
      record {
        few = omega (arith, long, first_calls client script (replies (take i log)) s.0 s.1);
        more = omega (arith, grown, added, more.0);
        waits = λ again none. omega (arith, grown, more.1 again (sym (ap (λ rs. waits_on client script rs) next) ∙ none));
        stays = λ again less f there. still a s.0 s.1 s.2 (next ∙ ap (λ r. replies (take i log) ++ r ∷ []) again) less f there;
      } where
        still : (a : Asked (plays_of client script) (next_event client script (replies (take i log))) e) (s : Standing) → (progress client script (replies (take i log))).standing ≡ Some s → s.event ≡ a.event
            → replies (take (suc i) log) ≡ replies (take i log) ++ Again false ∷ [] → repeats_after i < repeats_after (suc i) → (f : LogEntry) → slice_get log (suc i) ≡ Some f → f.node ≡ e.node
        still a s stood same next less f there =
            let b : Asked (plays_of client script) (next_event client script (replies (take (suc i) log))) f = asked_by (plays_of client script) (next_event client script (replies (take (suc i) log))) f (events (suc i) f there) in
            let t = some_of (progress client script (replies (take (suc i) log))).standing b.event b.is in
            let kept : t.0.event.node ≡ s.event.node =
            stays_on client script (replies (take i log)) s stood (subst (λ rs. repeats_after i < repeats client script rs) next less) t.0 (sym (ap (λ rs. (progress client script rs).standing) next) ∙ t.1) in
            b.node ∙ sym (ap (λ x. x.node) t.2) ∙ kept ∙ ap (λ x. x.node) same ∙ sym a.node

  none_at_first : repeats_after 0 ≡ 0
  unfolding repeats
  none_at_first = repeats_none no_slots 0 (commands_of client script)

  -- the repeats are those that the calls add
  pub all_repeats : (n : ℕ) → repeats_after n ≤ total grows n
  all_repeats zero = omega (arith, none_at_first)
  all_repeats (suc n) = let deeper = all_repeats n in omega (arith, deeper)

  grows_by : (i : ℕ) → i < length log → grows i ≤ weight_at adds log i
  grows_by i lt =
      let e = at_place log i lt in
      omega (arith, (one_call i e.0 e.1).more, weight_got adds log i e.0 e.1)

  -- how many calls there are but the last
  abbrev pub but_one : ℕ → ℕ
  but_one zero = 0
  but_one (suc k) = k

  few_to : (n : ℕ) → length log ≡ n → n ≤ 33 * length (commands_of client script) + total grows (but_one n)
  few_to zero is = omega arith
  few_to (suc k) is =
      let e = at_place log k (omega (arith, is)) in
      omega (arith, (one_call k e.0 e.1).few, all_repeats k)

  -- A client makes 33 calls a command, beside the repeats that all its calls but the last add.
  pub calls_and_repeats : length log ≤ 33 * length (commands_of client script) + total grows (but_one (length log))
  calls_and_repeats = few_to (length log) refl

  quiet_to : (n : ℕ) → length log ≡ n → weigh quiet log ≤ 33 * length (commands_of client script)
  quiet_to zero is = omega (arith, all_calls log, is)
  quiet_to (suc k) is =
      let fewer : total grows k ≤ total (weight_at adds log) k = total_le grows (weight_at adds log) k (λ i lt. grows_by i (omega (arith, lt, is))) in
      let all : weigh adds log ≡ total (weight_at adds log) (suc k) = weigh_places adds log ∙ ap (λ n. total (weight_at adds log) n) is in
      omega (arith, few_to (suc k) is, fewer, all, all_calls log, is)

  -- Of its calls, those that add no repeat are at most 33 a command.
  pub quiet_calls : weigh quiet log ≤ 33 * length (commands_of client script)
  quiet_calls = quiet_to (length log) refl

  -- ------ repeats by bytes and repeats after Again

  abbrev pub by_bytes : ℕ → ℕ
  by_bytes i = if again_at (slice_get log i) then 0 else grows i

  abbrev pub by_again : ℕ → ℕ
  by_again i = if again_at (slice_get log i) then grows i else 0

  pub both_kinds : (n : ℕ) → total grows n ≤ total by_bytes n + total by_again n
  both_kinds n = let sums = total_add by_bytes by_again n in omega (arith, sums, total_le grows (λ i. by_bytes i + by_again i) n (λ i lt. go (again_at (slice_get log i)) (grows i))) where
    go : (b : Bool) (k : ℕ) → k ≤ (if b then 0 else k) + (if b then k else 0)
    go true k = omega arith
    go false k = omega arith

  -- a call that adds a repeat is a read that ends no drain
  grown : (i : ℕ) (e : LogEntry) → slice_get log i ≡ Some e → 0 < grows i → IsGoing e.act e.response × (grows i ≤ 1)
  grown i e is more =
      let one = one_call i e is in
      (going e.act e.response (omega (arith, more, one.more)), omega (arith, one.more, one_at_most e.act e.response))

  bytes_go : (i : ℕ) (e : LogEntry) → slice_get log i ≡ Some e → ((now count : ℕ) → e.act ≡ ReadAct now count → IsAnyReadReply e.response)
      → (b : Bool) → is_again e.response ≡ b → 0 < (if b then 0 else grows i) → (if b then 0 else grows i) ≤ bytes_in e.response
  bytes_go i e is answers true yea more = absurd (omega (arith, more))
  bytes_go i e is answers false nay more =
      let g = grown i e is more in
      let a = answers g.0.now g.0.count g.0.read in
      by a.0 (not_ended a.0 e.response a.1 g.0.goes_on) where
        by : (ended : Bool) → (0 < bytes_in e.response) ⊎ IsOpenAgain ended e.response → grows i ≤ bytes_in e.response
        by ended (inl some) = omega (arith, some, (grown i e is more).1)
        by ended (inr again) = absurd (let k : is_again (Again false) ≡ false = sym (ap is_again again.0) ∙ nay in cc k)

  -- where no Again adds a repeat, the bytes do
  pub bytes_pay : (i : ℕ) (e : LogEntry) → slice_get log i ≡ Some e → ((now count : ℕ) → e.act ≡ ReadAct now count → IsAnyReadReply e.response) → 0 < by_bytes i → by_bytes i ≤ bytes_in e.response
  bytes_pay i e is answers more =
      let same : again_at (slice_get log i) ≡ is_again e.response = ap again_at is in
      let small : (if is_again e.response then 0 else grows i) ≤ bytes_in e.response =
      bytes_go i e is answers (is_again e.response) refl (subst (λ b. 0 < (if b then 0 else grows i)) same more) in
      subst (λ b. (if b then 0 else grows i) ≤ bytes_in e.response) (sym same) small

  -- after an Again that adds a repeat the client waits, on the same node
  pub record IsWaiting (i : ℕ) (e : LogEntry) : Type 0 where
    pub going : IsGoing e.act e.response
    pub again : e.response ≡ Again false
    pub waits : IsSome (waits_on client script (replies (take (suc i) log)))
    pub stays : (f : LogEntry) → slice_get log (suc i) ≡ Some f → f.node ≡ e.node
    pub once : by_again i ≤ 1

  which_again : (r : Response) → is_again r ≡ true → ends_drain r ≡ false → r ≡ Again false
  which_again (Again true) is on = absurd (cc on)
  which_again (Again false) is on = refl
  which_again (Done a b c) is on = absurd (cc is)
  which_again (Busy a) is on = absurd (cc is)
  which_again (Refused a) is on = absurd (cc is)
  which_again NoMemory is on = absurd (cc is)
  which_again (Data a) is on = absurd (cc is)
  which_again (Overflow a b c d e) is on = absurd (cc is)
  which_again (TimedOut a b c) is on = absurd (cc is)
  which_again (Ready a b c d) is on = absurd (cc is)
  which_again Passed is on = absurd (cc is)

  some_waits : (o : Option ℕ) → (o ≡ None → ⊥) → IsSome o
  some_waits None not = absurd (not refl)
  some_waits (Some n) not = refl

  waiting_go : (i : ℕ) (e : LogEntry) → slice_get log i ≡ Some e → (b : Bool) → is_again e.response ≡ b → 0 < (if b then grows i else 0) → again_at (slice_get log i) ≡ b → IsWaiting i e
  waiting_go i e is false nay more at = absurd (omega (arith, more))
  waiting_go i e is true yea more at =
      let g = grown i e is more in
      let again : e.response ≡ Again false = which_again e.response yea g.0.goes_on in
      let one = one_call i e is in
      record {
        going = g.0;
        again = again;
        waits = some_waits (waits_on client script (replies (take (suc i) log))) (λ none. omega (arith, more, one.waits again none));
        stays = one.stays again (omega (arith, more));
        once = subst (λ b. (if b then grows i else 0) ≤ 1) (sym at) g.1;
      }

  pub waiting : (i : ℕ) (e : LogEntry) → slice_get log i ≡ Some e → 0 < by_again i → IsWaiting i e
  waiting i e is more =
      let same : again_at (slice_get log i) ≡ is_again e.response = ap again_at is in
      waiting_go i e is (is_again e.response) refl (subst (λ b. 0 < (if b then grows i else 0)) same more) same
