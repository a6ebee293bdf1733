-- The steps of a client at work.
use Rattle.workers.proofs.Imports.{◌≡◌, suc, ◌+◌, ℕ, List, [], ◌∷◌, ◌++◌, length, map, Option, Some, refl, ap, sym, ◌∙◌, subst, arith, option_map, slice_get-map, TableId, View, IsSamePass, Entry, caller_of, Caller, IsSameCaller, Fits, OneLooks, same_trans, one_value, ClientWorker, log_of, HasLooked, map-append, told_entry, ToldEntry, Invocation, IsFrom, LogEntry, act_of, Response, Scripted, Event, ClientRequest, Batches, call_of, plays_of, Core, IsAfter, next_of, coming, behind, next_event, progress, Progress, IsEvent, sources, is_from}
use Rattle.std.specs.Prelude.{slice_get}
use Rattle.workers.proofs.Logging.{called_looked}
use Rattle.std.proofs.lemmas.List.{append-nil}

-- the next call of a core that stands after these replies is the one that the script asks for
pub next_is : (script : Scripted) (client : ℕ) (rs : List Response) (c : Core) → IsAfter client script rs c → next_event client script rs ≡ next_of c
next_is script client rs c after =
    let same : progress client script rs ≡ behind after.ended (coming c []) = ap (progress client script) (sym (append-nil rs)) ∙ after.goes_on [] in
    ap (λ (p : Progress). option_map (λ s. s.event) p.standing) same

-- a call that it asks for, whatever its moment, is an event of the script
pub is_event : (script : Scripted) (client : ℕ) (rs : List Response) (c : Core) (event : Event) (e : LogEntry) (moment : ℕ) → IsAfter client script rs c → next_of c ≡ Some event
    → e.node ≡ event.node → e.act ≡ act_of (call_of c.plays event.want moment) → IsEvent (plays_of client script) (next_event client script rs) e
is_event script client rs c event e moment after is node act =
    subst (λ (o : Option Event). IsEvent (plays_of client script) o e) (sym (next_is script client rs c after ∙ is))
    (node, (moment, act ∙ ap (λ (batches : Batches). act_of (call_of batches event.want moment)) after.plays))

-- and brings packets that the client plays
pub brings_played : (script : Scripted) (stream : List (List ℕ)) (client : ℕ) (rs : List Response) (c : Core) (want : ClientRequest) (moment : ℕ) {call : Invocation} → IsAfter client script rs c
    → call ≡ call_of c.plays want moment → IsFrom (sources script stream (suc client)) call
brings_played script stream client rs c want moment after is =
    subst (IsFrom (sources script stream (suc client))) (sym (is ∙ ap (λ (batches : Batches). call_of batches want moment) after.plays)) (is_from script stream client want moment)

pub logs_one : (es : List ToldEntry) (e : ToldEntry) (now : List ToldEntry) → now ≡ es ++ e ∷ [] → map told_entry now ≡ map told_entry es ++ told_entry e ∷ []
logs_one es e now is = ap (map told_entry) is ∙ map-append told_entry es (e ∷ [])

pub same_self : (c : Caller) → IsSameCaller c c
same_self c = (refl, (refl, λ i p q a b. subst (λ (z : TableId × View Entry). IsSamePass p z) (one_value c.passes i p q a b) (refl, refl, refl, refl)))

-- ------ looks

pub looked_none : (locks : List TableId) (w : ClientWorker) → HasLooked locks w w
looked_none locks w = record { same = same_self w.client; fit = λ f. f; core = refl; log = refl; goes_on = λ may script client h. h }

-- one look more
pub looked_on : (locks : List TableId) (v w : ClientWorker) (d : Caller) (S : List Entry → Type 0) (node len : ℕ) → HasLooked locks v w → OneLooks caller_of S node len w.client.passes d.passes → d.left ≡ w.client.left → IsSameCaller w.client d → Fits locks d.passes
    → HasLooked locks v (record w { client = d })
looked_on locks v w d S node len h o left same fits = record {
  same = same_trans v.client w.client d h.same same;
  fit = λ f. let k = h.fit f in record { fits = fits; who = k.who ∙ sym same.0; left = let now = k.left in omega arith; steps = k.steps; nodes = k.nodes };
  core = h.core;
  log = h.log;
  goes_on = λ may script client is. let k = h.goes_on may script client is in
      record { called = called_looked w.client d S node len o same.0 script client may (log_of w) k.called; after = k.after };
}

-- the last of a list
pub last_of : (xs : List ToldEntry) (i : ℕ) (e : LogEntry) (x : ToldEntry) → slice_get (map told_entry xs) i ≡ Some e → i + 1 ≡ length xs → slice_get xs i ≡ Some x → e ≡ told_entry x
last_of xs i e x at long is = let same : Some e ≡ Some (told_entry x) = sym at ∙ (slice_get-map told_entry xs i ∙ ap (option_map told_entry) is) in cc same
