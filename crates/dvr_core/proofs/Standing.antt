-- The dvr node that makes a call goes on to stand for the history with that entry.
use Rattle.dvr_core.proofs.Imports.{ℕ, ◌+◌, ◌≡◌, refl, sym, ◌∙◌, ap, subst, ◌∷◌, length, add-one, Invocation, Response, History, entry_of, dvr, May, CoherentIn, Knows, next, Gives, CoreValue, StandsFor, Bool, true, false, ◌||◌, List, Some, None, if◌then◌else◌, not, nat_eq, Dvr, Ebadf, Einval, Open, Close, SetFilter, SetPes, AddPid, RemovePid, Start, Stop, SetSize, Read, Poll, Pass, End, Attach, Detach, Passed, is_accepted, Facts, is_bad_argument, is_for_filters, is_for_anybody, is_owned_by, is_same_size, refusal_to, holds, as_done, as_ready, dropping_unless, moved, [], take, zero-add, sub-add_cancel, option_map, Data, Again, Overflow, Entry, Since, dvr_capture, total, answered, Ledger, ledger_at, ReadTerms, read_terms, most_bytes, read_response, expired_of, with_response, Coherent, read_each, Granted, goes_on, silent, whatever}
use Rattle.dmx_calls.specs.Facts.{facts}
use Rattle.dvr_core.proofs.Moves.{known, Stands, unaccepted, Moves, open_moves, close_moves, attach_moves, detach_moves, poll_moves, size_moves, end_moves, pass_moves, known_by, taps_stay, coherent}
use Rattle.dvr_core.proofs.Going.{Stays, facts_goes}
use Rattle.dvr_core.proofs.Ledgers.{ledger_read, ledger_told}

-- ------ The same for a Read
-- what a Read answers in a capture; Passed stands for any response by which it is accepted
pub data ReadGives (h : History) : Response → Type 0 where
  gives_bytes : (bytes : List ℕ) → ReadGives h (Data bytes)
  gives_again : (ended : Bool) → ReadGives h (Again ended)
  gives_over : (item need room : ℕ) → ReadGives h (Overflow (answered dvr h) (total dvr h) item need room)
  gives_nothing : ReadGives h Passed

-- it fits the capture, if there is one
abbrev pub Fits : History → Response → Type 0
Fits h r = (s : Since) → dvr_capture h ≡ Some s → ReadGives h r

-- ------ the ledger after it

module _ (h : History) (sound : CoherentIn (facts dvr h).ledger) (who now count : ℕ) where
  stays_read : (r : Response) → is_accepted r ≡ true → Stays (entry_of who (Read now count) r) h
  stays_read r ok = record { ok = ok; no_open = refl; no_close = refl; no_begin = refl; same_size = refl }

  module _ (s : Since) (runs : dvr_capture h ≡ Some s) where
    c : Coherent (ledger_at dvr h)
    c = coherent h sound s runs

    ledger_after : (r : Response) → is_accepted r ≡ true → ReadGives h r → ledger_at dvr (entry_of who (Read now count) r ∷ h) ≡ with_response false r (ledger_at dvr h)
    ledger_after _ ok (gives_bytes bytes) = ledger_read (entry_of who (Read now count) (Data bytes)) h s (stays_read (Data bytes) ok) runs refl c refl
    ledger_after _ ok (gives_again ended) =
        ledger_read (entry_of who (Read now count) (Again ended)) h s (stays_read (Again ended) ok) runs refl c refl ∙ rw (zero-add (answered dvr h)) refl
    ledger_after _ ok (gives_over item need room) =
        let r : Response = Overflow (answered dvr h) (total dvr h) item need room in
        ledger_told (entry_of who (Read now count) r) h s (stays_read r ok) runs refl refl (sub-add_cancel c.answered)
    ledger_after _ ok gives_nothing =
        ledger_read (entry_of who (Read now count) Passed) h s (stays_read Passed ok) runs refl c refl ∙ rw (zero-add (answered dvr h)) refl

  pub read_moves : (r : Response) → is_accepted r ≡ true → Fits h r → Moves h who (Read now count) r
  unfolding facts
  read_moves r ok fits =
      let e : Entry = entry_of who (Read now count) r in
      known_by _ _ _ (facts_goes e h (stays_read r ok) _ (λ s runs. ledger_after s runs r ok (fits s runs))) (taps_stay e h ok (λ node. refl))

-- ------ the answer to it

module _ (h : History) (count : ℕ) where
  ledger_fits : ReadGives h (read_response (facts dvr h) (Some (ledger_at dvr h)) None count)
  ledger_fits =
      let l : Ledger = ledger_at dvr h in
      let t : ReadTerms = read_terms (facts dvr h) in
      read_each (ReadGives h) t l None count
      (λ x is none. gives_over x.item x.need x.room)
      (λ moment is. absurd (let none : None ≡ Some moment = is in cc))
      (gives_bytes [])
      (gives_again t.has_ended)
      (gives_bytes (take (most_bytes t.by_section l count) l.unread))

  -- Passed stands for any response
  pub answer_fits : Fits h (read_response (facts dvr h) (facts dvr h).ledger (expired_of (option_map (with_response false Passed) (facts dvr h).ledger)) count)
  unfolding facts
  answer_fits s runs = rw runs ledger_fits

-- ------ Each call that isn't refused
-- calls for filters are always refused
refused_always : (f : Facts) (who : ℕ) (call : Invocation) → is_for_anybody Dvr call ≡ false → is_same_size f call ≡ false → is_for_filters call ≡ true
    → refusal_to Dvr f who call ≡ None → ⊥
refused_always f who call not_all other filter is = by_test (is_owned_by who f.owner) (is_bad_argument call) (rw (not_all, other, filter) at is) where
  by_test : (own bad : Bool) → (if not own then Some Ebadf else (if bad || true then Some Einval else None)) ≡ None → ⊥
  by_test false bad is = cc
  by_test true true is = cc
  by_test true false is = cc

module _ (h : History) (who : ℕ) (sound : CoherentIn (facts dvr h).ledger) where
  not_for_filters : (call : Invocation) → is_for_anybody Dvr call ≡ false → is_same_size (facts dvr h) call ≡ false → is_for_filters call ≡ true → refusal_to Dvr (facts dvr h) who call ≡ None
      → Granted (λ k. k.facts) moved Stands h (known h) who call
  not_for_filters call not_all other filter is = absurd (refused_always (facts dvr h) who call not_all other filter is)

  granted : (call : Invocation) → refusal_to Dvr (facts dvr h) who call ≡ None → Granted (λ k. k.facts) moved Stands h (known h) who call
  granted Open is = whatever (open_moves h who)
  granted Close is = whatever (close_moves h who)
  granted (SetFilter p now) is = not_for_filters (SetFilter p now) refl refl refl is
  granted (SetPes p now) is = not_for_filters (SetPes p now) refl refl refl is
  granted (AddPid pid) is = not_for_filters (AddPid pid) refl refl refl is
  granted (RemovePid pid) is = not_for_filters (RemovePid pid) refl refl refl is
  granted (Start now) is = not_for_filters (Start now) refl refl refl is
  granted Stop is = not_for_filters Stop refl refl refl is
  granted (SetSize n) is =
      let t = holds dvr h who (SetSize n) refl is in
      silent (λ r s. size_moves h sound who r s t.0 t.1 n) (λ f g. dropping_unless (nat_eq n f.size) f.ledger _)
  granted (Read now count) is = record { told = read_moves h sound who now count Passed refl (λ s runs. gives_nothing); moves = λ ok. read_moves h sound who now count _ ok (answer_fits h count) }
  granted (Poll now) is = silent (λ r s. poll_moves h sound who r s now) (λ f g. as_ready _ _ _ _)
  granted (Pass input first packets now) is = let moves = pass_moves h sound who input first packets now in record { told = moves; moves = λ ok. moves }
  granted End is = let moves = end_moves h sound who in record { told = moves; moves = λ ok. moves }
  granted (Attach node pids) is = silent (λ r s. attach_moves h sound who r s node pids) (λ f g. as_done _ _ _)
  granted (Detach node) is = silent (λ r s. detach_moves h sound who r s node) (λ f g. as_done _ _ _)

-- ------ what the node then stands for

-- what a node knows
abbrev pub knows : CoreValue → Knows
knows c = record { facts = c.facts; taps = c.taps }

pub stands_on : (c c' : CoreValue) (who : ℕ) (call : Invocation) (r : Response) → CoherentIn c.facts.ledger → Gives (knows c) who call r
    → knows c' ≡ next (knows c) who call r → c'.entries ≡ c.entries + 1
    → (h : History) → StandsFor c h → May dvr h who call r × StandsFor c' (entry_of who call r ∷ h)
stands_on c c' who call r sound gives after more h s =
    let same : known h ≡ knows c = known_by h c.facts c.taps (sym s.known) (sym s.taps) in
    let P : Knows → Type 0 = λ k. CoherentIn k.facts.ledger → Gives k who call r → knows c' ≡ next k who call r → May dvr h who call r × Stands (entry_of who call r ∷ h) (knows c') in
    let go = subst P same (λ sound' gives' after'.
    let goes = goes_on (λ k. k.facts) moved Stands dvr (λ h k is. ap (λ k. k.facts) is) unaccepted h (known h) who call refl (granted h who sound' call) r gives' in
    (goes.0, goes.1 ∙ sym after')) sound gives after in (
      go.0,
      record {
        legal = (s.legal, go.0);
        count = more ∙ (ap (λ n. n + 1) s.count ∙ add-one (length h));
        known = ap (λ k. k.facts) (sym go.1);
        taps = ap (λ k. k.taps) (sym go.1);
      },
    )
