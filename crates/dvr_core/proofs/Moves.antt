-- What is known of the history with one entry more, as the step of what was known before.
use Rattle.dvr_core.proofs.Imports.{ℕ, ◌≡◌, refl, ◌∙◌, ap, Bool, true, false, ◌||◌, List, [], ◌∷◌, Option, Some, nat_eq, option_map_id, eqb-true, Input, Frontend, Invocation, Open, Close, SetSize, Poll, Pass, End, Attach, Detach, Response, Passed, is_accepted, Entry, History, entry_of, event, accepted, Since, tenure, dvr_size, is_end, has_ended, dvr_capture, packets_in, Tap, tap_after, dvr, answered_in, is_overflow, Facts, ledger_at, dvr_same, Coherent, CoherentIn, Silent, accepted_of, quiet_of, nothing_of, taps_of, Knows, moved, tap_of}
use Rattle.dmx_calls.specs.Facts.{facts}
use Rattle.dvr_core.proofs.Tapping.{taps_same, taps_refused, taps_attached, taps_detached}
use Rattle.dvr_core.proofs.Going.{facts_opened, facts_closed, facts_resized, Stays, facts_goes}
use Rattle.dvr_core.proofs.Ledgers.{ledger_recorded}

-- what a node knows that stands for this history
abbrev pub known : History → Knows
known h = record { facts = facts dvr h; taps = taps_of h }

-- it stands for this history
abbrev pub Stands : History → Knows → Type 0
Stands h k = known h ≡ k

-- By the step of an accepted call a node knows what the history with its entry says.
abbrev pub Moves : History → (who : ℕ) → Invocation → Response → Type 0
Moves h who call r = Stands (entry_of who call r ∷ h) (moved (known h) who call r)

pub known_by : (h : History) (f : Facts) (taps : List (Option Tap)) → facts dvr h ≡ f → taps_of h ≡ taps → known h ≡ record { facts = f; taps = taps }
known_by h f taps e1 e2 = rw (e1, e2) refl

-- an entry that isn't accepted changes nothing
pub unaccepted : (e : Entry) (h : History) (k : Knows) → is_accepted e.response ≡ false → Stands h k → Stands (e ∷ h) k
unaccepted e h k nay is = known_by (e ∷ h) (facts dvr h) (taps_of h) (dvr_same e h nay).facts (taps_refused e h nay) ∙ is

-- an accepted call that is neither Attach nor Detach
pub taps_stay : (e : Entry) (h : History) → is_accepted e.response ≡ true → ((node : ℕ) → tap_after node (event e h ∷ accepted h) ≡ tap_after node (accepted h)) → taps_of (e ∷ h) ≡ taps_of h
unfolding tap_of
taps_stay e h ok same = taps_same e h (λ node. rw ok (same node))

-- ------ Open and Close

module _ (h : History) (who : ℕ) (r : Response) (ok : is_accepted r ≡ true) where
  pub open_moves : Moves h who Open r
  open_moves = known_by _ _ _ (facts_opened h who r ok) (taps_stay (entry_of who Open r) h ok (λ node. refl))

  pub close_moves : Moves h who Close r
  close_moves = known_by _ _ _ (facts_closed h who r ok) (taps_stay (entry_of who Close r) h ok (λ node. refl))

-- ------ calls by which a capture goes on

pub coherent : (h : History) → CoherentIn (facts dvr h).ledger → (s : Since) → dvr_capture h ≡ Some s → Coherent (ledger_at dvr h)
unfolding facts
coherent h sound s runs = rw runs at sound

module _ (h : History) (sound : CoherentIn (facts dvr h).ledger) where
  -- an entry that answers no bytes, and with which no packet passes
  module _ (e : Entry) (stays : Stays e h) (quiet : is_overflow (event e h) ≡ false) (nothing : answered_in (event e h) ≡ 0) (none : packets_in Frontend (event e h) ≡ []) where
    facts_same : facts dvr (e ∷ h) ≡ record (facts dvr h) { has_ended = is_end (event e h) || has_ended h }
    facts_same =
        facts_goes e h stays (λ l. l) (λ s runs. ledger_recorded e h s stays runs (coherent h sound s runs) quiet nothing ∙ rw none refl)
        ∙ ap (λ l. record (facts dvr h) { has_ended = is_end (event e h) || has_ended h; ledger = l }) (option_map_id (facts dvr h).ledger)

  module _ (who : ℕ) (r : Response) (silent : Silent r) where
    ok : is_accepted r ≡ true
    ok = accepted_of r silent

    facts_silent : (call : Invocation) → Stays (entry_of who call r) h → packets_in Frontend (event (entry_of who call r) h) ≡ []
        → facts dvr (entry_of who call r ∷ h) ≡ record (facts dvr h) { has_ended = is_end (event (entry_of who call r) h) || has_ended h }
    facts_silent call stays none = facts_same (entry_of who call r) stays (quiet_of who call h r silent) (nothing_of who call h r silent) none

    pub attach_moves : (node : ℕ) (pids : List ℕ) → Moves h who (Attach node pids) r
    unfolding facts
    attach_moves node pids =
        let stays : Stays (entry_of who (Attach node pids) r) h = record { ok = ok; no_open = refl; no_close = refl; no_begin = refl; same_size = refl } in
        known_by _ _ _ (facts_silent (Attach node pids) stays refl) (taps_attached h who r ok node pids)

    pub detach_moves : (node : ℕ) → Moves h who (Detach node) r
    unfolding facts
    detach_moves node =
        let stays : Stays (entry_of who (Detach node) r) h = record { ok = ok; no_open = refl; no_close = refl; no_begin = refl; same_size = refl } in
        known_by _ _ _ (facts_silent (Detach node) stays refl) (taps_detached h who r ok node)

    pub poll_moves : (now : ℕ) → Moves h who (Poll now) r
    unfolding facts
    poll_moves now =
        let stays : Stays (entry_of who (Poll now) r) h = record { ok = ok; no_open = refl; no_close = refl; no_begin = refl; same_size = refl } in
        known_by _ _ _ (facts_silent (Poll now) stays refl) (taps_stay (entry_of who (Poll now) r) h ok (λ node. refl))

    pub size_moves : (t : Since) → tenure h ≡ Some t → (n : ℕ) → Moves h who (SetSize n) r
    unfolding facts
    size_moves t held n = by_size (nat_eq n (dvr_size h)) refl where
      by_size : (b : Bool) → nat_eq n (dvr_size h) ≡ b → Moves h who (SetSize n) r
      by_size true same =
          let stays : Stays (entry_of who (SetSize n) r) h = record { ok = ok; no_open = refl; no_close = refl; no_begin = rw same refl; same_size = eqb-true n (dvr_size h) same } in
          rw same (known_by _ _ _ (facts_silent (SetSize n) stays refl) (taps_stay (entry_of who (SetSize n) r) h ok (λ node. refl)))
      by_size false other = rw other (known_by _ _ _ (facts_resized h t who r held ok n other) (taps_stay (entry_of who (SetSize n) r) h ok (λ node. refl)))

  pub end_moves : (who : ℕ) → Moves h who End Passed
  unfolding facts
  end_moves who =
      let stays : Stays (entry_of who End Passed) h = record { ok = refl; no_open = refl; no_close = refl; no_begin = refl; same_size = refl } in
      known_by _ _ _ (facts_same (entry_of who End Passed) stays refl refl refl) (taps_stay (entry_of who End Passed) h refl (λ node. refl))

  pub pass_moves : (who : ℕ) (input : Input) (first : ℕ) (packets : List (List ℕ)) (now : ℕ) → Moves h who (Pass input first packets now) Passed
  unfolding facts
  pass_moves who input first packets now =
      let e : Entry = entry_of who (Pass input first packets now) Passed in
      let stays : Stays e h = record { ok = refl; no_open = refl; no_close = refl; no_begin = refl; same_size = refl } in
      known_by _ _ _ (facts_goes e h stays _ (λ s runs. ledger_recorded e h s stays runs (coherent h sound s runs) refl refl)) (taps_stay e h refl (λ node. refl))
