-- Each node's history is legal, finds memory, brings the packets of its callers, and its end or not; and its log tells it.
use Rattle.serial_core.proofs.Imports.{◌≡◌, ◌≢◌, refl, sym, ap, subst, ◌∙◌, ℕ, ◌≤◌, Bool, true, false, nat_eq, List, [], ◌∷◌, Option, Some, None, length, map, reverse, inl, inr, if◌then◌else◌, slice_get, map-append, reverse-append, Errno, Invocation, Response, NoMemory, Again, TapChange, History, entry_of, has_ended, Rules, rules_at, Ledger, Facts, ReadTerms, read_terms, with_call, response_unless, refusal_to, response_to, response_of_read, expired_of, open_response, done_dropping, IsLegalFor, IsFrom, LogEntry, Sources, act_of, filled, filled_entry, read_each, fills, Told, Node, history_in, history_of, answer_by, answered, log_in, at_end, facts, answer}
use Rattle.dmx_calls.specs.Invocation as call
use Rattle.serial_core.proofs.Logs.{entries_of, log_number}

-- ------ an answer is never want of memory, and Again says whether the stream has ended

abbrev pub IsFit : (ended : Bool) → Response → Type 0
IsFit ended NoMemory = ⊥
IsFit ended (Again has) = has ≡ ended
IsFit ended _ = Unit {0}

module _ (ended : Bool) where
  if_fit : (b : Bool) (r q : Response) → IsFit ended r → IsFit ended q → IsFit ended (if b then r else q)
  if_fit true r q x y = x
  if_fit false r q x y = y

  unless_fit : (o : Option Errno) (r : Response) → IsFit ended r → IsFit ended (response_unless o r)
  unless_fit None r is = is
  unless_fit (Some errno) r is = tt

  open_fit : (o : Option ℕ) → IsFit ended (open_response o)
  open_fit None = tt
  open_fit (Some who) = tt

  dropping_fit : (o : Option Ledger) (tap : TapChange) → IsFit ended (done_dropping o tap)
  dropping_fit None tap = tt
  dropping_fit (Some l) tap = tt

read_fit : (t : ReadTerms) (o : Option Ledger) (expired : Option ℕ) (count : ℕ) → IsFit t.has_ended (response_of_read t o expired count)
read_fit t None expired count = tt
read_fit t (Some l) expired count = read_each (IsFit t.has_ended) t l expired count (λ x is none. tt) (λ moment is. tt) tt refl tt

response_fit : (f g : Facts) (c : Invocation) → IsFit f.has_ended (response_to f g c)
response_fit f g call.Open = open_fit f.has_ended f.owner
response_fit f g call.Close = dropping_fit f.has_ended f.ledger _
response_fit f g (call.SetFilter p now) = dropping_fit f.has_ended f.ledger _
response_fit f g (call.SetPes p now) = dropping_fit f.has_ended f.ledger _
response_fit f g (call.AddPid n) = tt
response_fit f g (call.RemovePid n) = tt
response_fit f g (call.Start now) = dropping_fit f.has_ended f.ledger _
response_fit f g call.Stop = tt
response_fit f g (call.SetSize n) = if_fit f.has_ended (nat_eq n f.size) _ (done_dropping f.ledger _) tt (dropping_fit f.has_ended f.ledger _)
response_fit f g (call.Read now count) = read_fit (read_terms f) f.ledger (expired_of g.ledger) count
response_fit f g (call.Poll now) = tt
response_fit f g (call.Pass i first ps now) = tt
response_fit f g call.End = tt
response_fit f g (call.Attach n ps) = tt
response_fit f g (call.Detach n) = tt

answer_fit : (node : Rules) (h : History) (who : ℕ) (c : Invocation) → IsFit (has_ended h) (answer node h who c)
unfolding answer facts
answer_fit node h who c =
    unless_fit (has_ended h) (refusal_to node.kind (facts node h) who c) (response_to (facts node h) (facts node (with_call h who c)) c) (response_fit (facts node h) (facts node (with_call h who c)) c)

pub answer_found : (node : Rules) (h : History) (who : ℕ) (c : Invocation) → answer node h who c ≢ NoMemory
answer_found node h who c same = subst (IsFit (has_ended h)) same (answer_fit node h who c)

-- Again false is answered only where the stream has not ended
pub answer_open : (node : Rules) (h : History) (who : ℕ) (c : Invocation) → answer node h who c ≡ Again false → has_ended h ≡ false
answer_open node h who c same = sym (subst (IsFit (has_ended h)) same (answer_fit node h who c))

-- ------ a node

module _ (packets : Sources) (clients : ℕ) where
  -- callers are the feeder and the clients, memory was found, and the packets are those of the caller
  abbrev pub AreGood : List Told → Type 0
  AreGood [] = Unit {0}
  AreGood (told ∷ calls) = AreGood calls × (told.entry.who ≤ clients) × (told.entry.response ≢ NoMemory) × IsFrom (packets told.entry.who) told.entry.invocation

  pub record IsSound (over : Bool) (node : ℕ) (n : Node) : Type 0 where
    pub number : n.number ≡ node
    pub legal : IsLegalFor (rules_at n.number) (history_of n)
    pub good : AreGood n.calls
    pub ended : has_ended (history_of n) ≡ over

  pub sound_answered : (ended over : Bool) (node : ℕ) (n : Node) (who step : ℕ) (c : Invocation) → who ≤ clients → IsFrom (packets who) c
      → has_ended (entry_of who c (answer_by who c n) ∷ history_of n) ≡ over → IsSound ended node n → IsSound over node (answered who step c n)
  sound_answered ended over node n who step c le of is s = record {
    number = s.number;
    legal = (s.legal, inl refl);
    good = (s.good, le, answer_found (rules_at n.number) (history_of n) who c, of);
    ended = is;
  }

  -- what a log says of its entries
  abbrev pub IsPlaced : (number place : ℕ) → LogEntry → Type 0
  IsPlaced number place e = (e.node ≡ number) × (e.place ≡ place) × (e.who ≤ clients) × (e.response ≢ NoMemory)

  -- the entry of a call on the node of this number, behind those before it
  abbrev last_in : (number : ℕ) → Told → List Told → LogEntry
  last_in number told calls = record {
    node = (log_in number calls).node;
    place = length (log_in number calls).entries;
    step = told.step;
    who = told.entry.who;
    act = act_of told.entry.invocation;
    response = told.entry.response;
  }

  placed : (number : ℕ) (calls : List Told) → AreGood calls → (place : ℕ) (e : LogEntry) → slice_get (log_in number calls).entries place ≡ Some e → IsPlaced number place e
  placed number [] good place e is = absurd (cc)
  placed number (told ∷ calls) good place e is = elim (at_end (log_in number calls).entries (last_in number told calls) e place is) [
    | inl old ↦ placed number calls good.0 place e old
    | inr new ↦ subst (IsPlaced number place) new.1 (log_number number calls, sym new.0, good.1, good.2)
  ]

  pub sound_placed : (ended : Bool) (node : ℕ) (n : Node) → IsSound ended node n → (place : ℕ) (e : LogEntry) → slice_get (entries_of n) place ≡ Some e → IsPlaced node place e
  sound_placed ended node n s place e is = subst (λ k. IsPlaced k place e) s.number (placed n.number n.calls s.good place e is)

  -- filled with the packets of the callers, a log is the history
  fills_log : (number : ℕ) (calls : List Told) → AreGood calls → filled packets (log_in number calls).entries ≡ history_in calls
  fills_log number [] good = refl
  fills_log number (told ∷ calls) good =
      let x : LogEntry = last_in number told calls in
      ap reverse (map-append (filled_entry packets) (log_in number calls).entries (x ∷ []))
      ∙ reverse-append (map (filled_entry packets) (log_in number calls).entries) (filled_entry packets x ∷ [])
      ∙ ap (λ h. filled_entry packets x ∷ h) (fills_log number calls good.0)
      ∙ ap (λ c. record { who = told.entry.who; invocation = c; response = told.entry.response } ∷ history_in calls) (fills (packets told.entry.who) told.entry.invocation good.3)

  pub sound_filled : (ended : Bool) (node : ℕ) (n : Node) → IsSound ended node n → filled packets (entries_of n) ≡ history_of n
  sound_filled ended node n s = fills_log n.number n.calls s.good
