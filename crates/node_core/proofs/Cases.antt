-- Each call that isn't refused: what is known after it.
use Rattle.node_core.proofs.Imports.{ℕ, ◌≡◌, refl, ap, Bool, true, false, ◌||◌, ◌∷◌, Option, Some, None, if◌then◌else◌, not, nat_eq, nat_lt, Demux, SectionParams, PesParams, ALL_PACKETS, Errno, Ebadf, Einval, Invocation, Open, Close, SetFilter, SetPes, AddPid, RemovePid, Start, Stop, SetSize, Read, Poll, Pass, End, Attach, Detach, Response, Passed, is_accepted, Entry, History, entry_of, Since, tenure, size, Params, setting, capture, demux, Facts, state_of, is_allocated, is_pes, add_refusal, is_owned_by, refusal_to, read_response, setting_some, Selecting, owned, holds, Silent, as_done, as_ready, accepted_of, dropping_unless, moved, HasSelected, IsSound, IMMEDIATE_START, Event, event, Section, Pes, has_flag, begins, more, begun, tenure_after, capture_begun, fresh, offered-fresh, items-fresh, facts_opened, facts_closed, facts_started, facts_set_filter, facts_set_pes, facts_resized, Choice, begun_selecting, Selects-begun, choice_of, Granted, silent, whatever}
use Rattle.dmx_calls.specs.Facts.{facts}
use Rattle.node_core.proofs.Looking.{HasItsPid}
use Rattle.node_core.proofs.Moves.{known, Stands, Moves, stop_moves, poll_moves, same_size_moves, add_moves, remove_moves, end_moves, no_run, stands_free}
use Rattle.node_core.proofs.Passes.{pass_moves}
use Rattle.node_core.proofs.Reading.{ReadGives, read_moves, read_gives, gives_nothing}
use Rattle.node_core.proofs.Takings.{selected_none}

-- ------ The same for calls that begin or end a tenure or a capture
-- a capture that has just begun has offered nothing
selected_begun : (g : History) (ev : Event) → capture g ≡ Some (begun ev) → (choice : Choice) → HasSelected g (begun_selecting choice)
selected_begun g ev is choice = λ c runs. rw (offered-fresh g ev is, items-fresh g ev is) (Selects-begun choice)

module _ (h : History) (k : Selecting) (who : ℕ) (r : Response) (ok : is_accepted r ≡ true) where
  pub open_moves : Moves h k who Open r
  unfolding facts
  open_moves = stands_free _ _ (facts_opened h who r ok) refl

  pub close_moves : Moves h k who Close r
  unfolding facts
  close_moves = stands_free _ _ (facts_closed h who r ok) refl

  module _ (t : Since) (held : tenure h ≡ Some t) where
    pub start_moves : (now : ℕ) → Moves h k who (Start now) r
    unfolding facts
    start_moves now =
        let e : Entry = entry_of who (Start now) r in
        record {
          told = facts_started h t who r held ok now;
          selected = selected_begun (e ∷ h) (event e h) (capture_begun e h t held (tenure_after e h t ok refl refl held) refl) k.choice;
        }

    -- a set call, by whether it starts the filter
    set_selected : (e : Entry) → tenure (e ∷ h) ≡ Some (more (event e h) t) → (choice : Choice) (now : ℕ) → (b : Bool) → begins (event e h) ≡ b
        → (facts demux (e ∷ h)).ledger ≡ (if b then Some (fresh now) else None) → HasSelected (e ∷ h) (begun_selecting choice)
    set_selected e longer choice now true yea l = selected_begun (e ∷ h) (event e h) (capture_begun e h t held longer yea) choice
    set_selected e longer choice now false nay l = selected_none (e ∷ h) _ (no_run (e ∷ h) l)

    pub set_filter_moves : (p : SectionParams) (now : ℕ) → Moves h k who (SetFilter p now) r
    unfolding facts
    set_filter_moves p now =
        let e : Entry = entry_of who (SetFilter p now) r in
        record {
          told = facts_set_filter h t who r held ok p now;
          selected = set_selected e (tenure_after e h t ok refl refl held) (choice_of (Section p)) now (has_flag IMMEDIATE_START p.flags) refl (ap (λ f. f.ledger) (facts_set_filter h t who r held ok p now));
        }

    pub set_pes_moves : (p : PesParams) (now : ℕ) → Moves h k who (SetPes p now) r
    unfolding facts
    set_pes_moves p now =
        let e : Entry = entry_of who (SetPes p now) r in
        record {
          told = facts_set_pes h t who r held ok p now;
          selected = set_selected e (tenure_after e h t ok refl refl held) (choice_of (Pes p)) now (has_flag IMMEDIATE_START p.flags) refl (ap (λ f. f.ledger) (facts_set_pes h t who r held ok p now));
        }

    pub resized_moves : (n : ℕ) → nat_eq n (size h) ≡ false → Moves h k who (SetSize n) r
    unfolding facts
    resized_moves n other = rw other (stands_free _ _ (facts_resized h t who r held ok n other) refl)

-- ------ refusals

-- PIDs are added and removed where a filter of packets is set
unless_pes : (set : Params) (bad allocated : Bool) (rest : Option Errno) → (if bad then Some Einval else (if allocated || not (is_pes set) then Some Einval else rest)) ≡ None → is_pes set ≡ true
unless_pes set bad allocated rest is = by_test bad allocated (is_pes set) is where
  by_test : (bad allocated pes : Bool) → (if bad then Some Einval else (if allocated || not pes then Some Einval else rest)) ≡ None → pes ≡ true
  by_test false false true is = refl
  by_test _ _ _ is = absurd (cc)

added_pes : (f : Facts) (who pid : ℕ) → refusal_to Demux f who (AddPid pid) ≡ None → is_pes f.params ≡ true
added_pes f who pid is =
    let own : is_owned_by who f.owner ≡ true = owned Demux f who (AddPid pid) refl is in
    unless_pes f.params (nat_lt ALL_PACKETS pid) (is_allocated (state_of f)) (add_refusal f.params f.pids pid) (rw own at is)

removed_pes : (f : Facts) (who pid : ℕ) → refusal_to Demux f who (RemovePid pid) ≡ None → is_pes f.params ≡ true
removed_pes f who pid is =
    let own : is_owned_by who f.owner ≡ true = owned Demux f who (RemovePid pid) refl is in
    unless_pes f.params (nat_lt ALL_PACKETS pid) (is_allocated (state_of f)) None (rw own at is)

pes_set : (h : History) → is_pes (facts demux h).params ≡ true → (s : Since) × (setting h ≡ Some s)
unfolding facts
pes_set h is = setting_some h (λ empty. let nay : false ≡ true = rw empty at is in cc)

-- a call that the table refuses in every state
always_refused : (own : Bool) → (if not own then Some Ebadf else Some Einval) ≡ None → ⊥
always_refused true is = cc
always_refused false is = cc

-- ------ the calls

module _ (h : History) (k : Selecting) (who : ℕ) (sound : IsSound (known h k)) (own : HasItsPid (facts demux h).params (facts demux h).pids) (has : HasSelected h k) where
  size_moves : (n : ℕ) (t : Since) → tenure h ≡ Some t → (r : Response) → Silent r → Moves h k who (SetSize n) r
  size_moves n t held r s = by_size (nat_eq n (size h)) refl where
    by_size : (b : Bool) → nat_eq n (size h) ≡ b → Moves h k who (SetSize n) r
    by_size true same = same_size_moves h k t who r held sound has s n same
    by_size false other = resized_moves h k who r (accepted_of r s) t held n other

  -- whatever the expiry is, the answer to a Read fits the capture
  answer_fits : (x : Option ℕ) (count : ℕ) (s : Since) → capture h ≡ Some s → ReadGives h (read_response (facts demux h) (facts demux h).ledger x count)
  unfolding facts
  answer_fits x count s runs = rw runs (read_gives h x count)

  pub granted : (call : Invocation) → refusal_to Demux (facts demux h) who call ≡ None → Granted (λ k. k.facts) moved Stands h (known h k) who call
  granted Open is = whatever (open_moves h k who)
  granted Close is = whatever (close_moves h k who)
  granted (SetFilter p now) is =
      let t = holds demux h who (SetFilter p now) refl is in
      whatever (λ r ok. set_filter_moves h k who r ok t.0 t.1 p now)
  granted (SetPes p now) is =
      let t = holds demux h who (SetPes p now) refl is in
      whatever (λ r ok. set_pes_moves h k who r ok t.0 t.1 p now)
  granted (AddPid pid) is =
      let t = holds demux h who (AddPid pid) refl is in
      let set = pes_set h (added_pes (facts demux h) who pid is) in
      silent (λ r s. add_moves h k t.0 who r t.1 sound has s set.0 set.1 pid) (λ f g. as_done 0 0 _)
  granted (RemovePid pid) is =
      let t = holds demux h who (RemovePid pid) refl is in
      let set = pes_set h (removed_pes (facts demux h) who pid is) in
      silent (λ r s. remove_moves h k t.0 who r t.1 sound has s set.0 set.1 pid) (λ f g. as_done 0 0 _)
  granted (Start now) is =
      let t = holds demux h who (Start now) refl is in
      whatever (λ r ok. start_moves h k who r ok t.0 t.1 now)
  granted Stop is =
      let t = holds demux h who Stop refl is in
      silent (λ r s. stop_moves h k t.0 who r t.1 sound has s) (λ f g. as_done 0 0 _)
  granted (SetSize n) is =
      let t = holds demux h who (SetSize n) refl is in
      silent (size_moves n t.0 t.1) (λ f g. dropping_unless (nat_eq n f.size) f.ledger _)
  granted (Read now count) is =
      let t = holds demux h who (Read now count) refl is in
      let moves = read_moves h k t.0 who now count t.1 sound has in
      record { told = moves Passed refl (λ s runs. gives_nothing); moves = λ ok. moves _ ok (answer_fits _ count) }
  granted (Poll now) is =
      let t = holds demux h who (Poll now) refl is in
      silent (λ r s. poll_moves h k t.0 who r t.1 sound has s now) (λ f g. as_ready _ _ _ _)
  granted (Pass input first packets now) is = let moves = pass_moves h k who input first packets now sound own has in record { told = moves; moves = λ ok. moves }
  granted End is = let moves = end_moves h k who sound has in record { told = moves; moves = λ ok. moves }
  -- taps are attached to the dvr node alone
  granted (Attach node names) is = absurd (always_refused (is_owned_by who (facts demux h).owner) is)
  granted (Detach node) is = absurd (always_refused (is_owned_by who (facts demux h).owner) is)
