-- The workers before the first call.
use Rattle.workers.proofs.Imports.{◌≡◌, ◌≢◌, inr, ℕ, Bool, true, false, ◌+◌, ◌≤◌, ◌^◌, List, [], ◌∷◌, ◌++◌, length, map, Some, refl, ap, sym, ◌∙◌, subst, arith, option_map, IsTrue, if◌then◌else◌, SourceEnd, slice_get-map, slice_get_within, All-nil, TableId, View, Entry, told_entry, LogEntry, Fed, ToldEntry, Scripted, MOST_CALLS, IsAfter, replies, IsGiven, Caller, IsFreshCaller, AreFreshCallers, AreAllCallers, Fits, at_place, at_before, at_last, AreOnNodes, ClientWorker, FeederWorker, IsLogged, HasCalled, IsFit, IsWorking, AreFreshWorkers, HasFed, HasMade, IsFitFeeder, HasPassed, IsReadBehind, draws_none}
use Rattle.std.specs.Prelude.{slice_get}
use Rattle.dmx_calls.specs.Response.{NoMemory}

module _ (locks : List TableId) (callers who left : ℕ) (c : Caller) (f : IsFreshCaller locks callers who left c) where
  -- a pass that has made no call
  pub fresh_pass : (i : ℕ) (p : TableId × View Entry) → slice_get c.passes i ≡ Some p → (p.1.number ≡ who) × (p.1.own ≡ [])
  fresh_pass i p at =
      let low = slice_get_within c.passes i p at in let long = f.row.0 in let l = at_place locks i (omega arith) in
      let e = f.row.1 i l.0 p l.1 at in (ap (λ (z : TableId × View Entry). z.1.number) e, ap (λ (z : TableId × View Entry). z.1.own) e)

  logged_none : IsLogged c []
  logged_none = record {
    mine = λ node p at. (fresh_pass node p at).0 ∙ sym f.number;
    steps = λ i e at. absurd (cc at);
    tells = λ i e at. absurd (cc at);
    in_order = λ i j e g low at more same. absurd (cc at);
    just = λ node p at. (fresh_pass node p at).1;
  }

  pub called_none : (script : Scripted) (client : ℕ) (may : ℕ → Bool) → who ≡ client + 1 → HasCalled script client may c []
  called_none script client may is = record {
    who = f.number ∙ is;
    logged = logged_none;
    events = λ i e at. absurd (cc at);
    brought = λ stream i e at. absurd (cc at);
    found = All-nil (λ (e : LogEntry). e.response ≢ NoMemory);
    moments = All-nil (λ (e : LogEntry). IsGiven may e.act);
    paid = λ i e g at next waits. absurd (cc at);
  }

  pub fed_none : (among : ℕ → Bool) (most : ℕ) (may : ℕ → Bool) → who ≡ 0 → HasFed among most may [] [] c []
  fed_none among most may is = record {
    who = f.number ∙ is;
    tiles = refl;
    moments = All-nil (λ (x : Fed). IsTrue (may x.now));
    made = λ node p at. either (among node) p (record { places = []; number = (fresh_pass node p at).0 ∙ is; own = (fresh_pass node p at).1; stand = tt; rise = λ i j a b low first second. absurd (cc first) });
  } where
    either : (b : Bool) (p : TableId × View Entry) → HasMade [] p → HasMade (if b then [] else []) p
    either true p m = m
    either false p m = m

module _ (script : Scripted) (locks : List TableId) (n : ℕ) (feeder : Caller) (clients : List Caller) (fresh : AreFreshCallers locks n feeder clients) (all : AreAllCallers locks (clients ++ feeder ∷ [])) where
  -- a client's worker before its first call
  module _ (workers : List ClientWorker) (b : AreFreshWorkers script clients workers) (c : ℕ) (w : ClientWorker) (at : slice_get workers c ≡ Some w) where
    its_client : slice_get clients c ≡ Some w.client
    its_client = ap (λ (l : List Caller). slice_get l c) (sym b.are) ∙ (slice_get-map (λ (v : ClientWorker). v.client) workers c ∙ ap (λ o. option_map (λ (v : ClientWorker). v.client) o) at)

    pub begun_fit : IsFit locks w
    begun_fit = let f = fresh.each c w.client its_client in let k = b.each c w at in record {
      fits = all.fits c w.client (at_before clients (feeder ∷ []) c w.client its_client);
      who = k.who ∙ sym f.number;
      left = let size = ap length k.log in let calls = f.calls in omega (arith, size, calls);
      steps = k.core.steps ∙ ap length (sym k.log);
      nodes = subst AreOnNodes (sym k.log) (All-nil (λ (e : ToldEntry). e.node ≤ 32));
    }

    pub begun_works : (may : ℕ → Bool) → IsWorking script c may w
    begun_works may = let f = fresh.each c w.client its_client in let k = b.each c w at in record {
      called = subst (λ (es : List ToldEntry). HasCalled script c may w.client (map told_entry es)) (sym k.log) (called_none locks (n + 1) (c + 1) (2 ^ 40) w.client f script c may refl);
      after = subst (λ (es : List ToldEntry). IsAfter c script (replies (map told_entry es)) w.core) (sym k.log) k.core;
    }

    pub begun_few : w.core.step ≤ MOST_CALLS
    begun_few = let k = b.each c w at in let none = k.core.steps in omega (arith, none)

  -- the feeder before its first call
  module _ (f : FeederWorker) (is : f.feeder ≡ feeder) (none : f.count ≡ 0) (given : f.puller.given ≡ 0) where
    pub begun_feeder : IsFitFeeder locks f
    begun_feeder = record {
      fits = subst (λ (x : Caller). Fits locks x.passes) (sym is) (all.fits (length clients) feeder (at_last clients feeder));
      left = let calls = ap (λ (x : Caller). x.left) is ∙ fresh.first.calls in omega (arith, calls);
      count = omega (arith, none);
      given = omega (arith, given);
    }

    pub begun_passed : {B : Type 0} (among : ℕ → Bool) (most : ℕ) (may : ℕ → Bool) (behind : SourceEnd → ℕ → Bool) (took : List Fed → B → B → Type 0) (x : SourceEnd) (was : B) → took [] was was → HasPassed among most may behind took x x f.puller was was f
    begun_passed among most may behind took x was nothing = record {
      feeding = [];
      told = nothing;
      clock = All-nil (IsReadBehind behind x f.puller);
      packets = [];
      draws = draws_none x f.puller;
      given = given;
      fed = subst (λ (y : Caller). HasFed among most may [] [] y []) (sym is) (fed_none locks (n + 1) 0 (2 ^ 44) feeder fresh.first among most may refl);
      full = λ ahead taken given pulls. (tt, inr (All-nil (λ (fed : Fed). fed.count ≡ most)));
    }
