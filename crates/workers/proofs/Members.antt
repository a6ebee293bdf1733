-- Which entries stand in a woven history, and which steps are the feeder's.
use Rattle.workers.proofs.Imports.{◌≡◌, ◌≢◌, ◌⊎◌, inl, inr, ⊎_elim, ℕ, zero, suc, Bool, true, false, nat_eq, nat_lt, ne_eqb, ◌+◌, List, [], ◌∷◌, ◌++◌, map, filter, slice_get, Some, refl, ap, ◌∙◌, if◌then◌else◌, AllByRecursion, Has, Fed, Act, EndAct, LogEntry, pass_act, feeder_entry, feeder_entries, before_entry, woven_from, Step, feeding, steps_of, Tiles, batch_of, steps_from}

-- ------ each entry

each_fed : (P : LogEntry → Type 0) (Q : Act → Type 0) (node : ℕ) → ((place step : ℕ) (a : Act) → Q a → P (feeder_entry node place step a)) → (place step : ℕ) (acts : List Act) → AllByRecursion Q acts → AllByRecursion P (feeder_entries node place step acts)
each_fed P Q node fed place step [] q = tt
each_fed P Q node fed place step (a ∷ acts) q = (fed place step a q.0, each_fed P Q node fed (suc place) (suc step) acts q.1)

module _ (P : LogEntry → Type 0) (Q : Act → Type 0) (node : ℕ) (fed : (place step : ℕ) (a : Act) → Q a → P (feeder_entry node place step a))
    (e : LogEntry) (calls : List LogEntry) (one : P e) (later : (place step : ℕ) (acts : List Act) → AllByRecursion Q acts → AllByRecursion P (woven_from node calls place step acts)) where
  each_before : (place step : ℕ) (acts : List Act) → AllByRecursion Q acts → AllByRecursion P (before_entry node e (woven_from node calls) place step acts)
  each_before place step [] q = (one, later (suc place) step [] q)
  each_before place step (a ∷ acts) q = by_test (nat_lt place e.place) (each_before (suc place) (suc step) acts q.1) where
    by_test : (b : Bool) → AllByRecursion P (before_entry node e (woven_from node calls) (suc place) (suc step) acts)
        → AllByRecursion P (if b then feeder_entry node place step a ∷ before_entry node e (woven_from node calls) (suc place) (suc step) acts else e ∷ woven_from node calls (suc place) step (a ∷ acts))
    by_test true rest = (fed place step a q.0, rest)
    by_test false rest = (one, later (suc place) step (a ∷ acts) q)

-- what holds of each entry of the feeder and of each of a client holds of each entry
pub each_woven : (P : LogEntry → Type 0) (Q : Act → Type 0) (node : ℕ) → ((place step : ℕ) (a : Act) → Q a → P (feeder_entry node place step a)) → (calls : List LogEntry) → AllByRecursion P calls
    → (place step : ℕ) (acts : List Act) → AllByRecursion Q acts → AllByRecursion P (woven_from node calls place step acts)
each_woven P Q node fed [] all place step acts q = each_fed P Q node fed place step acts q
each_woven P Q node fed (e ∷ calls) all place step acts q = each_before P Q node fed e calls all.0 (λ p s bs r. each_woven P Q node fed calls all.1 p s bs r) place step acts q

pub all_at : {A : Type 0} (P : A → Type 0) (xs : List A) → AllByRecursion P xs → (i : ℕ) (x : A) → slice_get xs i ≡ Some x → P x
all_at P [] all i x at = absurd (cc at)
all_at {A = A} P (y ∷ xs) all zero x at = let same : y ≡ x = cc at in is y x same all.0 where
  is : (y x : A) → y ≡ x → P y → P x
  is y x e p = rw (← e) p
all_at P (y ∷ xs) all (suc i) x at = all_at P xs all.1 i x at

pub all_from : {A : Type 0} (P : A → Type 0) (xs : List A) → ((i : ℕ) (x : A) → slice_get xs i ≡ Some x → P x) → AllByRecursion P xs
all_from P [] each = tt
all_from P (x ∷ xs) each = (each 0 x refl, all_from P xs (λ i y at. each (suc i) y at))

-- ------ each client's entry is there

module _ (node : ℕ) (c x : LogEntry) (calls : List LogEntry) (one : (c ≡ x) ⊎ ((place step : ℕ) (acts : List Act) → Has (woven_from node calls place step acts) x)) where
  here : (place step : ℕ) (acts : List Act) → Has (c ∷ woven_from node calls place step acts) x
  here place step acts = ⊎_elim (λ e. inl e) (λ l. inr (l place step acts)) one

  has_before : (place step : ℕ) (acts : List Act) → Has (before_entry node c (woven_from node calls) place step acts) x
  has_before place step [] = here (suc place) step []
  has_before place step (a ∷ acts) = by_test (nat_lt place c.place) (has_before (suc place) (suc step) acts) where
    by_test : (b : Bool) → Has (before_entry node c (woven_from node calls) (suc place) (suc step) acts) x
        → Has (if b then feeder_entry node place step a ∷ before_entry node c (woven_from node calls) (suc place) (suc step) acts else c ∷ woven_from node calls (suc place) step (a ∷ acts)) x
    by_test true rest = inr rest
    by_test false rest = here (suc place) step (a ∷ acts)

pub has_woven : (node : ℕ) (calls : List LogEntry) (j : ℕ) (x : LogEntry) → slice_get calls j ≡ Some x → (place step : ℕ) (acts : List Act) → Has (woven_from node calls place step acts) x
has_woven node [] j x at place step acts = absurd (cc at)
has_woven node (c ∷ calls) zero x at place step acts = let same : c ≡ x = cc at in has_before node c x calls (inl same) place step acts
has_woven node (c ∷ calls) (suc j) x at place step acts = has_before node c x calls (inr (λ p s bs. has_woven node calls j x at p s bs)) place step acts

-- ------ the feeder's steps

abbrev step_of : LogEntry → Step
step_of e = record { step = e.step; act = e.act }

steps_fed : (node place step : ℕ) (acts : List Act) → steps_of 0 (feeder_entries node place step acts) ≡ steps_from step acts
steps_fed node place step [] = refl
steps_fed node place step (a ∷ acts) = ap (λ (l : List Step). record { step = step; act = a } ∷ l) (steps_fed node (suc place) (suc step) acts)

passed_over : (e : LogEntry) (l : List LogEntry) (s : List Step) → e.who ≢ 0 → steps_of 0 l ≡ s → steps_of 0 (e ∷ l) ≡ s
passed_over e l s not is = ap (λ b. map step_of (if b then e ∷ filter (λ e. nat_eq e.who 0) l else filter (λ e. nat_eq e.who 0) l)) (ne_eqb e.who 0 not) ∙ is

module _ (node : ℕ) (e : LogEntry) (calls : List LogEntry) (not : e.who ≢ 0) (later : (place step : ℕ) (acts : List Act) → steps_of 0 (woven_from node calls place step acts) ≡ steps_from step acts) where
  steps_before : (place step : ℕ) (acts : List Act) → steps_of 0 (before_entry node e (woven_from node calls) place step acts) ≡ steps_from step acts
  steps_before place step [] = passed_over e (woven_from node calls (suc place) step []) (steps_from step []) not (later (suc place) step [])
  steps_before place step (a ∷ acts) = by_test (nat_lt place e.place) (steps_before (suc place) (suc step) acts) where
    by_test : (b : Bool) → steps_of 0 (before_entry node e (woven_from node calls) (suc place) (suc step) acts) ≡ steps_from (suc step) acts
        → steps_of 0 (if b then feeder_entry node place step a ∷ before_entry node e (woven_from node calls) (suc place) (suc step) acts else e ∷ woven_from node calls (suc place) step (a ∷ acts)) ≡ steps_from step (a ∷ acts)
    by_test true rest = ap (λ (l : List Step). record { step = step; act = a } ∷ l) rest
    by_test false rest = passed_over e (woven_from node calls (suc place) step (a ∷ acts)) (steps_from step (a ∷ acts)) not (later (suc place) step (a ∷ acts))

-- the feeder's steps on a node are that its batches pass, and then End
pub steps_woven : (node : ℕ) (calls : List LogEntry) → AllByRecursion (λ (e : LogEntry). e.who ≢ 0) calls → (place step : ℕ) (acts : List Act) → steps_of 0 (woven_from node calls place step acts) ≡ steps_from step acts
steps_woven node [] others place step acts = steps_fed node place step acts
steps_woven node (e ∷ calls) others place step acts = steps_before node e calls others.0 (λ p s bs. steps_woven node calls others.1 p s bs) place step acts

-- the steps of batches that tile a stream are those of a run
pub steps_tile : (most first end step : ℕ) (fs : List Fed) → Tiles most first end fs → steps_from step (map pass_act fs ++ EndAct ∷ []) ≡ feeding first step (map batch_of fs)
steps_tile most first end step [] tiles = refl
steps_tile most first end step (f ∷ fs) tiles = rw (tiles.0) (ap (λ (l : List Step). record { step = step; act = pass_act (record { first = first; count = f.count; now = f.now }) } ∷ l) (steps_tile most (first + f.count) end (suc step) fs tiles.3))
