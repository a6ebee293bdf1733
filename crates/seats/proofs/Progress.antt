-- How far a client is whose commands were done one after another.
use Rattle.seats.proofs.Imports.{◌≡◌, ◌≢◌, ◌⊎◌, ⊎_elim, ℕ, zero, suc, ◌+◌, ◌<◌, ◌≤◌, Bool, false, List, [], ◌∷◌, ◌++◌, length, map, take, Some, None, inl, inr, refl, ap, sym, ◌∙◌, subst, arith, slice_get, length-append, map-append, take-append-le, slice_get_within, take-append-add, Outcome, OutcomeKind, LogEntry, Response, Again, ClientCommand, Once, Event, stands, Slots, done, Standing, Ended, Progress, with_ended, slots_after, progress_from, waits_after, Counters, kind_by, outcome_by, ahead, waits_not, replies, IsGiven, DoneCommand, no_counters, calls_in, line_behind, commands_by, outcomes_by}
use Rattle.seats.proofs.DoneCommands.{IsFitted, IsEventOf}

-- each of these was done
abbrev pub AreFitted : (may : ℕ → Bool) → List DoneCommand → Type 0
AreFitted may [] = Unit {0}
AreFitted may (d ∷ ds) = IsFitted may d × AreFitted may ds

pub fitted_both : (may : ℕ → Bool) (ds es : List DoneCommand) → AreFitted may ds → AreFitted may es → AreFitted may (ds ++ es)
fitted_both may [] es a b = b
fitted_both may (d ∷ ds) es a b = (a.0, fitted_both may ds es a.1 b)

-- they are no more than their calls
pub fitted_few : (may : ℕ → Bool) (ds : List DoneCommand) → AreFitted may ds → length ds ≤ length (calls_in ds)
fitted_few may [] are = omega arith
fitted_few may (d ∷ ds) are = let some = are.0.some in let more = fitted_few may ds are.1 in let both = length-append d.calls (calls_in ds) in omega (arith, some, more, both)

-- a member of one list behind another
pub in_either : {A : Type 0} (xs ys : List A) (i : ℕ) (a : A) → slice_get (xs ++ ys) i ≡ Some a
    → (slice_get xs i ≡ Some a) ⊎ ((k : ℕ) × (i ≡ length xs + k) × (slice_get ys k ≡ Some a))
in_either [] ys i a at = inr (i, omega arith, at)
in_either (x ∷ xs) ys zero a at = inl at
in_either (x ∷ xs) ys (suc i) a at = ⊎_elim (λ here. inl here) (λ more. let n = more.1 in inr (more.0, omega (arith, n), more.2)) (in_either xs ys i a at)

pub in_front : {A : Type 0} (xs ys : List A) (i : ℕ) (a : A) → i < length xs → slice_get (xs ++ ys) i ≡ Some a → slice_get xs i ≡ Some a
in_front xs ys i a low at = ⊎_elim (λ here. here) (λ more. absurd (let n = more.1 in omega (arith, n, low))) (in_either xs ys i a at)

pub in_rest : {A : Type 0} (xs ys : List A) (k : ℕ) (a : A) → slice_get (xs ++ ys) (length xs + k) ≡ Some a → slice_get ys k ≡ Some a
in_rest xs ys k a at = ⊎_elim (λ here. absurd (let low = slice_get_within xs (length xs + k) a here in omega (arith, low)))
    (λ more. let n = more.1 in let same : more.0 ≡ k = omega (arith, n) in subst (λ i. slice_get ys i ≡ Some a) same more.2) (in_either xs ys (length xs + k) a at)

-- ------ behind one command

module _ (may : ℕ → Bool) (slots : Slots) (count step : ℕ) (d : DoneCommand) (is : IsFitted may d) (cs : List ClientCommand) where
  abbrev c : ClientCommand
  c = record { line = line_behind count; target = d.target; verb = Once d.want; has_batch = false }

  abbrev after : Slots
  after = slots_after d.ending slots

  abbrev next : ℕ
  next = step + length d.calls

  abbrev ended : Ended
  ended = record { line = line_behind count; from = step; to = next; ending = d.ending }

  -- it is through
  goes_on : (more : List LogEntry) → progress_from slots step (c ∷ cs) (replies (d.calls ++ more)) ≡ with_ended ended (progress_from after next cs (replies more))
  goes_on more =
      ap (λ rs. progress_from slots step (c ∷ cs) rs) (map-append (λ (e : LogEntry). e.response) d.calls more)
      ∙ ap (λ x. ahead c.line step slots cs x) ((is.fits slots).ends step (replies more))

  -- it stands before one of its calls
  stands_at : (event : Event) (rs : List Response) → done slots d.target (Once d.want) false step rs ≡ stands event
      → progress_from slots step (c ∷ cs) rs ≡ record { ended = []; standing = Some (record { line = line_behind count; from = step; event = event }) }
  stands_at event rs at = ap (λ x. ahead c.line step slots cs x) at

-- ------ all of them

-- what became of them, whatever the counters are, and none of them stands
pub outcomes_are : (may : ℕ → Bool) (slots : Slots) (count step : ℕ) (ds : List DoneCommand) → AreFitted may ds → (counters : Ended → Counters)
    → (map (λ e. outcome_by (counters e) e) (progress_from slots step (commands_by count ds) (replies (calls_in ds))).ended ≡ outcomes_by count step ds)
    × ((progress_from slots step (commands_by count ds) (replies (calls_in ds))).standing ≡ None)
outcomes_are may slots count step [] are counters = (refl, refl)
outcomes_are may slots count step (d ∷ ds) are counters =
    let on = goes_on may slots count step d are.0 (commands_by (count + 1) ds) (calls_in ds) in
    let more = outcomes_are may (slots_after d.ending slots) (count + 1) (step + length d.calls) ds are.1 counters in
    let e = ended may slots count step d are.0 (commands_by (count + 1) ds) in
    let first : outcome_by (counters e) e ≡ record { line = line_behind count; from = step; to = step + length d.calls; kind = kind_by no_counters d.ending } =
    ap (λ (k : OutcomeKind). record { line = line_behind count; from = step; to = step + length d.calls; kind = k }) (are.0.kind (counters e)) in (
      ap (λ (p : Progress). map (λ e. outcome_by (counters e) e) p.ended) on
          ∙ (ap (λ (o : Outcome). o ∷ map (λ e. outcome_by (counters e) e) (progress_from (slots_after d.ending slots) (step + length d.calls) (commands_by (count + 1) ds) (replies (calls_in ds))).ended) first
          ∙ ap (λ (os : List Outcome). record { line = line_behind count; from = step; to = step + length d.calls; kind = kind_by no_counters d.ending } ∷ os) more.0),
      ap (λ (p : Progress). p.standing) on ∙ more.1,
    )

-- where no read is repeated, nothing waits
calm_waits : (s : Standing) (r : Response) → r ≢ Again false → waits_after (Some s) (r ∷ []) ≡ None
calm_waits s (Again false) not = absurd (not refl)
calm_waits s _ not = refl

-- a call is the one before which a command stands
pub record Stands (may : ℕ → Bool) (p : Progress) (calls : List LogEntry) (i : ℕ) (e : LogEntry) : Type 0 where
  pub at : Standing
  pub is : p.standing ≡ Some at
  pub event : IsEventOf at.event e
  pub given : IsGiven may e.act
  pub first : i ≡ 0 → at.event.step ≤ at.from
  pub calm : (j : ℕ) (f : LogEntry) → suc j ≡ i → slice_get calls j ≡ Some f → waits_after (Some at) (f.response ∷ []) ≡ None

pub stands_before : (may : ℕ → Bool) (slots : Slots) (count step : ℕ) (ds : List DoneCommand) → AreFitted may ds → (i : ℕ) (e : LogEntry) → slice_get (calls_in ds) i ≡ Some e
    → Stands may (progress_from slots step (commands_by count ds) (replies (take i (calls_in ds)))) (calls_in ds) i e
stands_before may slots count step [] are i e at = absurd (cc at)
stands_before may slots count step (d ∷ ds) are i e at = ⊎_elim (λ here. mine here) (λ more. behind more.0 more.1 (stands_before may (slots_after d.ending slots) (count + 1) (step + length d.calls) ds are.1 more.0 e more.2)) (in_either d.calls (calls_in ds) i e at) where
  mine : slice_get d.calls i ≡ Some e → Stands may (progress_from slots step (commands_by count (d ∷ ds)) (replies (take i (calls_in (d ∷ ds))))) (calls_in (d ∷ ds)) i e
  mine here =
      let a = (are.0.fits slots).asks step i e here in
      let low = slice_get_within d.calls i e here in
      let s : Standing = record { line = line_behind count; from = step; event = a.0 } in
      let front : take i (d.calls ++ calls_in ds) ≡ take i d.calls = take-append-le i d.calls (calls_in ds) (omega (arith, low)) in
      record {
        at = s;
        is = ap (λ (p : Progress). p.standing) (ap (λ (l : List LogEntry). progress_from slots step (commands_by count (d ∷ ds)) (replies l)) front
            ∙ stands_at may slots count step d are.0 (commands_by (count + 1) ds) a.0 (replies (take i d.calls)) a.1);
        event = a.3;
        given = a.4;
        first = λ none. let here = a.2 in omega (arith, here, none);
        calm = λ j f is at_j.
            let before = in_front d.calls (calls_in ds) j f (omega (arith, is, low)) at_j in
            calm_waits s f.response ((are.0.fits slots).calm j f e before (subst (λ n. slice_get d.calls n ≡ Some e) (sym is) here));
      }

  behind : (k : ℕ) → i ≡ length d.calls + k
      → Stands may (progress_from (slots_after d.ending slots) (step + length d.calls) (commands_by (count + 1) ds) (replies (take k (calls_in ds)))) (calls_in ds) k e
      → Stands may (progress_from slots step (commands_by count (d ∷ ds)) (replies (take i (calls_in (d ∷ ds))))) (calls_in (d ∷ ds)) i e
  behind k long more =
      let front : take i (d.calls ++ calls_in ds) ≡ d.calls ++ take k (calls_in ds) = ap (λ n. take n (d.calls ++ calls_in ds)) long ∙ take-append-add d.calls (calls_in ds) k in
      record {
        at = more.at;
        is = ap (λ (p : Progress). p.standing) (ap (λ (l : List LogEntry). progress_from slots step (commands_by count (d ∷ ds)) (replies l)) front
            ∙ goes_on may slots count step d are.0 (commands_by (count + 1) ds) (take k (calls_in ds))) ∙ more.is;
        event = more.event;
        given = more.given;
        first = λ none. more.first (omega (arith, long, none));
        calm = λ j f is at_j. calm k long more j f is at_j;
      } where
        calm : (k : ℕ) → i ≡ length d.calls + k → (more : Stands may (progress_from (slots_after d.ending slots) (step + length d.calls) (commands_by (count + 1) ds) (replies (take k (calls_in ds)))) (calls_in ds) k e)
            → (j : ℕ) (f : LogEntry) → suc j ≡ i → slice_get (calls_in (d ∷ ds)) j ≡ Some f → waits_after (Some more.at) (f.response ∷ []) ≡ None
        calm zero long more j f is at_j = waits_not more.at f.response (more.first refl)
        calm (suc k) long more j f is at_j =
            let there : j ≡ length d.calls + k = omega (arith, is, long) in
            more.calm k f refl (in_rest d.calls (calls_in ds) k f (subst (λ n. slice_get (d.calls ++ calls_in ds) n ≡ Some f) there at_j))
