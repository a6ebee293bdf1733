-- What a node answers to a read, the bytes of a reply, and what it answers to the call of another behind a read.
use Rattle.script_run.proofs.Imports.{◌≡◌, refl, sym, ap, subst, ◌∙◌, ℕ, zero, suc, ◌<◌, Bool, true, false, nat_lt, List, [], ◌∷◌, ◌++◌, map, slice_get, Option, Some, None, inl, inr, arith, append_assoc, if◌then◌else◌, reverse, reverse-append, ReadAct, DEMUX_NODES, Errno, Invocation, Response, Done, Busy, Refused, NoMemory, Data, Again, Overflow, TimedOut, Ready, Passed, Entry, History, Since, event, entry_of, has_ended, Rules, demux, dvr, answered_in, ledger_of, ledger_at, ReadTerms, read_terms, with_call, response_unless, refusal_to, response_of_read, expired_of, May, IsLegalFor, OverflowNamesAByte, read_each, ends_drain, bytes_in, LogEntry, Sources, filled, filled_act, filled_entry, HasRead, demux_keeps, dvr_keeps, names_a_byte, readers_call_between, at_map, rules_at, facts, answer}
use Rattle.std.proofs.Common.{◌⊎◌}
use Rattle.std.specs.Prelude.{◌≢◌}
use Rattle.dmx_calls.specs.Invocation as call

-- a reply to a read, where the stream has ended or not
abbrev pub IsReadReply : (ended : Bool) → Response → Type 0
IsReadReply ended (Refused errno) = Unit {0}
IsReadReply ended (Data bytes) = Unit {0}
IsReadReply ended (Again has) = has ≡ ended
IsReadReply ended (Overflow from to item need room) = from < to
IsReadReply ended (TimedOut started now timeout) = Unit {0}
IsReadReply ended _ = ⊥

unless_reads : (ended : Bool) (o : Option Errno) (r : Response) → IsReadReply ended r → IsReadReply ended (response_unless o r)
unless_reads ended None r is = is
unless_reads ended (Some errno) r is = tt

module _ (node : Rules) (names : OverflowNamesAByte node) where
  ledger_read : (h : History) (t : ReadTerms) (o : Option Since) (expired : Option ℕ) (count : ℕ) → IsLegalFor node h
      → IsReadReply t.has_ended (response_of_read t (ledger_of node h o) expired count)
  ledger_read h t None expired count legal = tt
  ledger_read h t (Some s) expired count legal =
      read_each (IsReadReply t.has_ended) t (ledger_at node h) expired count (λ x is none. names h x legal is) (λ moment is. tt) tt refl tt

  pub reads : (h : History) (who now count : ℕ) → IsLegalFor node h → IsReadReply (has_ended h) (answer node h who (call.Read now count))
  unfolding answer facts
  reads h who now count legal =
      unless_reads (has_ended h) (refusal_to node.kind (facts node h) who (call.Read now count)) _
      (ledger_read h (read_terms (facts node h)) (node.capture h) (expired_of (facts node (with_call h who (call.Read now count))).ledger) count legal)

-- ------ the bytes of a reply

-- they are those that its entry answers
pub bytes_same : (who : ℕ) (c : Invocation) (r : Response) (h : History) → answered_in (event (entry_of who c r) h) ≡ bytes_in r
bytes_same who c (Done a b tap) h = refl
bytes_same who c (Busy o) h = refl
bytes_same who c (Refused x) h = refl
bytes_same who c NoMemory h = refl
bytes_same who c (Data d) h = refl
bytes_same who c (Again b) h = refl
bytes_same who c (Overflow from to item need room) h = refl
bytes_same who c (TimedOut a b d) h = refl
bytes_same who c (Ready a b d e) h = refl
bytes_same who c Passed h = refl

-- Again, where the stream has not ended
abbrev pub IsOpenAgain : (ended : Bool) → Response → Type 0
IsOpenAgain ended r = (r ≡ Again false) × (ended ≡ false)

-- a reply to a read that ends no drain gives a byte, or names one as lost, or it is Again
pub not_ended : (ended : Bool) (r : Response) → IsReadReply ended r → ends_drain r ≡ false → (0 < bytes_in r) ⊎ IsOpenAgain ended r
not_ended ended (Refused x) is nay = absurd (cc nay)
not_ended ended (Data []) is nay = absurd (cc nay)
not_ended ended (Data (x ∷ xs)) is nay = inl (omega arith)
not_ended ended (Again true) is nay = absurd (cc nay)
not_ended ended (Again false) is nay = inr (refl, sym is)
not_ended ended (Overflow from to item need room) is nay = inl (omega (arith, is))
not_ended ended (TimedOut a b c) is nay = absurd (cc nay)
not_ended ended (Done a b c) is nay = absurd is
not_ended ended (Busy a) is nay = absurd is
not_ended ended NoMemory is nay = absurd is
not_ended ended (Ready a b c d) is nay = absurd is
not_ended ended Passed is nay = absurd is

-- ------ along a history

-- a reply to a read, whether or not the stream has ended
abbrev pub IsAnyReadReply : Response → Type 0
IsAnyReadReply r = (ended : Bool) × IsReadReply ended r

module _ (node : Rules) (names : OverflowNamesAByte node) where
  -- a read takes no memory
  may_read : (h : History) (who now count : ℕ) (r : Response) → IsLegalFor node h → May node h who (call.Read now count) r → IsAnyReadReply r
  may_read h who now count r legal (inl same) = subst IsAnyReadReply (sym same) (has_ended h, reads node names h who now count legal)
  may_read h who now count r legal (inr (no_memory, done, takes)) = absurd (cc takes)

module _ (node : ℕ) where
  reads_at : (h : History) (who now count : ℕ) (r : Response) → IsLegalFor (rules_at node) h → May (rules_at node) h who (call.Read now count) r → IsAnyReadReply r
  unfolding rules_at
  reads_at h who now count r legal may = go (nat_lt node DEMUX_NODES) legal may where
    go : (b : Bool) → IsLegalFor (if b then demux else dvr) h → May (if b then demux else dvr) h who (call.Read now count) r → IsAnyReadReply r
    go true l m = may_read demux (names_a_byte demux demux_keeps) h who now count r l m
    go false l m = may_read dvr (names_a_byte dvr dvr_keeps) h who now count r l m

  legal_behind : (later h : History) → IsLegalFor (rules_at node) (later ++ h) → IsLegalFor (rules_at node) h
  legal_behind [] h legal = legal
  legal_behind (e ∷ later) h legal = legal_behind later h legal.0

  -- what stands before an entry and behind it
  record Split (h : List Entry) (i : ℕ) (e : Entry) : Type 0 where
    front : List Entry
    back : List Entry
    whole : h ≡ front ++ e ∷ back
    next : (x : Entry) → slice_get h (suc i) ≡ Some x → slice_get back 0 ≡ Some x

  split : (h : List Entry) (i : ℕ) (e : Entry) → slice_get h i ≡ Some e → Split h i e
  split [] i e is = absurd (cc is)
  split (y ∷ h) zero e is =
      let same : y ≡ e = cc is in
      record { front = []; back = h; whole = ap (λ z. z ∷ h) same; next = λ x there. there }
  split (y ∷ h) (suc i) e is =
      let deeper = split h i e is in
      record { front = y ∷ deeper.front; back = deeper.back; whole = ap (λ l. y ∷ l) deeper.whole; next = λ x there. deeper.next x there }

  turned : (front back : List Entry) (e : Entry) → reverse (front ++ e ∷ back) ≡ reverse back ++ e ∷ reverse front
  turned front back e =
      reverse-append front (e ∷ back) ∙ ap (λ l. l ++ reverse front) (reverse-append (e ∷ []) back) ∙ append_assoc (reverse back) (e ∷ []) (reverse front)

  legal_to : (front back : List Entry) (e : Entry) → IsLegalFor (rules_at node) (reverse (front ++ e ∷ back)) → IsLegalFor (rules_at node) (e ∷ reverse front)
  legal_to front back e legal = legal_behind (reverse back) (e ∷ reverse front) (subst (λ h. IsLegalFor (rules_at node) h) (turned front back e) legal)

  -- the response to a read in a legal history
  read_in : (h : List Entry) (i : ℕ) (e : Entry) (now count : ℕ) → IsLegalFor (rules_at node) (reverse h) → slice_get h i ≡ Some e → e.invocation ≡ call.Read now count
      → IsAnyReadReply e.response
  read_in h i e now count legal is read =
      let s : Split h i e = split h i e is in
      let to : IsLegalFor (rules_at node) (e ∷ reverse s.front) = legal_to s.front s.back e (subst (λ l. IsLegalFor (rules_at node) (reverse l)) s.whole legal) in
      reads_at (reverse s.front) e.who now count e.response to.0 (subst (λ c. May (rules_at node) (reverse s.front) e.who c e.response) read to.1)

  behind_it : (back front : List Entry) (e x : Entry) → IsLegalFor (rules_at node) (reverse (front ++ e ∷ back)) → slice_get back 0 ≡ Some x → IsLegalFor (rules_at node) (x ∷ e ∷ reverse front)
  behind_it [] front e x legal is = absurd (cc is)
  behind_it (y ∷ back) front e x legal is =
      let same : y ≡ x = cc is in
      let l : IsLegalFor (rules_at node) ((reverse back ++ y ∷ []) ++ e ∷ reverse front) =
      subst (λ h. IsLegalFor (rules_at node) h) (turned front (y ∷ back) e ∙ ap (λ g. g ++ e ∷ reverse front) (reverse-append (y ∷ []) back)) legal in
      subst (λ z. IsLegalFor (rules_at node) (z ∷ e ∷ reverse front)) same
      (legal_behind (reverse back) (y ∷ e ∷ reverse front) (subst (λ h. IsLegalFor (rules_at node) h) (append_assoc (reverse back) (y ∷ []) (e ∷ reverse front)) l))

  -- Right behind a read that wasn't refused a read by another is refused.
  refused_in : (h : List Entry) (i one other : ℕ) (e x : Entry) → IsLegalFor (rules_at node) (reverse h) → slice_get h i ≡ Some e → slice_get h (suc i) ≡ Some x
      → one ≢ other → HasRead one e → HasRead other x → ⊥
  refused_in h i one other e x legal is there differ read again =
      let s : Split h i e = split h i e is in
      readers_call_between (rules_at node) (reverse s.front) [] one other e x
      (behind_it s.back s.front e x (subst (λ l. IsLegalFor (rules_at node) (reverse l)) s.whole legal) (s.next x there)) differ read again tt

  -- ------ filled with the packets that passes bring

  module _ (packets : Sources) (es : List LogEntry) (legal : IsLegalFor (rules_at node) (filled packets es)) where
    -- the response to a read
    pub read_there : (i : ℕ) (e : LogEntry) (now count : ℕ) → slice_get es i ≡ Some e → e.act ≡ ReadAct now count → IsAnyReadReply e.response
    read_there i e now count is read =
        read_in (map (filled_entry packets) es) i (filled_entry packets e) now count legal (at_map (filled_entry packets) es i e is) (ap (filled_act (packets e.who)) read)

    -- Right behind a read that wasn't refused a read by another is refused.
    pub next_is_refused : (i : ℕ) (e x : LogEntry) → slice_get es i ≡ Some e → slice_get es (suc i) ≡ Some x → e.who ≢ x.who → HasRead e.who (filled_entry packets e) → HasRead x.who (filled_entry packets x) → ⊥
    next_is_refused i e x is next =
        refused_in (map (filled_entry packets) es) i e.who x.who (filled_entry packets e) (filled_entry packets x) legal (at_map (filled_entry packets) es i e is) (at_map (filled_entry packets) es (suc i) x next)
