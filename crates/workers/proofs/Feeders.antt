-- The feeder's entries in a history are those that its pass has made, in their order.
use Rattle.workers.proofs.Imports.{◌≡◌, ◌≢◌, inl, inr, ⊎_elim, ℕ, zero, suc, Bool, true, false, eq-eqb, ne_eqb, ◌+◌, ◌<◌, ◌≤◌, List, [], ◌∷◌, ◌++◌, map, filter, slice_get, Some, refl, ap, sym, ◌∙◌, subst, arith, if◌then◌else◌, AllByRecursion, dite, some, some-injective, some-ne-none, IsPrefix, ℕ_discrete, get_elem?, Has, prefix_at, Fed, Frontend, Entry, Sources, Act, EndAct, pass_act, ended, fed_entry, fed_entries, StandAt}
use Rattle.workers.proofs.Weaves.{fed_of, by_feeder}

-- ------ two ways to read a place

pub got : {A : Type 0} (l : List A) (i : ℕ) (a : A) → get_elem? l i ≡ some a → slice_get l i ≡ Some a
got [] i a e = absurd (some-ne-none a (sym e))
got (x ∷ l) zero a e = ap (λ z. Some z) (some-injective x a e)
got (x ∷ l) (suc i) a e = got l i a e

pub got_back : {A : Type 0} (l : List A) (i : ℕ) (a : A) → slice_get l i ≡ Some a → get_elem? l i ≡ some a
got_back [] i a e = absurd (cc e)
got_back (x ∷ l) zero a e = let same : x ≡ a = cc e in ap some same
got_back (x ∷ l) (suc i) a e = got_back l i a e

-- ------ what stands at rising places

abbrev pub Ups : (k : ℕ) → List ℕ → Type 0
Ups k [] = Unit {0}
Ups k (p ∷ ps) = (k ≤ p) × Ups (suc p) ps

ups_less : (k n : ℕ) (ps : List ℕ) → k ≤ n → Ups n ps → Ups k ps
ups_less k n [] le up = tt
ups_less k n (p ∷ ps) le up = let low = up.0 in ((omega arith), up.1)

ups_at : (k : ℕ) (ps : List ℕ) → Ups k ps → (p : ℕ) → Has ps p → k ≤ p
ups_at k [] up p has = absurd has
ups_at k (q ∷ ps) up p has = ⊎_elim (λ (e : q ≡ p). let low = up.0 in omega arith) (λ more. let low = up.0 in let l = ups_at (suc q) ps up.1 p more in omega arith) has

pub ups_from : (k : ℕ) (ps : List ℕ) → ((i p : ℕ) → slice_get ps i ≡ Some p → k ≤ p) → ((i j p q : ℕ) → i < j → slice_get ps i ≡ Some p → slice_get ps j ≡ Some q → p < q) → Ups k ps
ups_from k [] low rise = tt
ups_from k (p ∷ ps) low rise = (low 0 p refl, ups_from (suc p) ps (λ i q at. rise 0 (suc i) p q (omega arith) refl at) (λ i j a b less at bt. rise (suc i) (suc j) a b (omega arith) at bt))

-- these entries stand at these places of a history, of which h is the rest from place k on
abbrev pub Picks : (k : ℕ) → (h entries : List Entry) → List ℕ → Type 0
Picks k h [] [] = Unit {0}
Picks k h (x ∷ xs) (p ∷ ps) = ((i : ℕ) × (p ≡ k + i) × (slice_get h i ≡ Some x)) × Picks k h xs ps
Picks k h _ _ = ⊥

past_first : (y x : Entry) (h : List Entry) (k p i : ℕ) → suc k ≤ p → p ≡ k + i → slice_get (y ∷ h) i ≡ Some x → (n : ℕ) × (p ≡ suc k + n) × (slice_get h n ≡ Some x)
past_first y x h k p zero late at is = absurd (omega arith)
past_first y x h k p (suc n) late at is = (n, omega arith, is)

picks_behind : (k : ℕ) (y : Entry) (h entries : List Entry) (ps : List ℕ) → Ups (suc k) ps → Picks k (y ∷ h) entries ps → Picks (suc k) h entries ps
picks_behind k y h [] [] up t = tt
picks_behind k y h [] (p ∷ ps) up t = absurd t
picks_behind k y h (x ∷ xs) [] up t = absurd t
picks_behind k y h (x ∷ xs) (p ∷ ps) up t =
    let low = up.0 in (past_first y x h k p t.0.0 low t.0.1 t.0.2, picks_behind k y h xs ps (ups_less (suc k) (suc p) ps (omega arith) up.1) t.1)

-- every entry of the feeder from there on is at one of the places
abbrev pub OnlyAt : (k : ℕ) → List Entry → List ℕ → Type 0
OnlyAt k h ps = (i : ℕ) (x : Entry) → slice_get h i ≡ Some x → x.who ≡ 0 → Has ps (k + i)

only_behind : (k : ℕ) (y : Entry) (h : List Entry) (ps : List ℕ) → OnlyAt k (y ∷ h) ps → OnlyAt (suc k) h ps
only_behind k y h ps only i x at is = let n : k + suc i ≡ suc k + i = omega arith in subst (Has ps) n (only (suc i) x at is)

module _ (y : Entry) (h : List Entry) (later : (k : ℕ) (entries : List Entry) (ps : List ℕ) → Ups k ps → Picks k h entries ps → AllByRecursion (λ (x : Entry). x.who ≡ 0) entries → OnlyAt k h ps → filter by_feeder h ≡ entries) where
  pick : (k : ℕ) (entries : List Entry) (ps : List ℕ) → y.who ≡ 0 → Ups k ps → Picks k (y ∷ h) entries ps → AllByRecursion (λ (x : Entry). x.who ≡ 0) entries → OnlyAt k (y ∷ h) ps → y ∷ filter by_feeder h ≡ entries
  pick k [] [] is up t zeros only = absurd (only 0 y refl is)
  pick k [] (p ∷ ps) is up t zeros only = absurd t
  pick k (x ∷ xs) [] is up t zeros only = absurd t
  pick k (x ∷ xs) (p ∷ ps) is up t zeros only =
      let here : p ≡ k = ⊎_elim (λ (e : p ≡ k + 0). omega arith) (λ more. let low = up.0 in let l = ups_at (suc p) ps up.1 (k + 0) more in absurd (omega arith)) (only 0 y refl is) in
      let late : Ups (suc k) ps = subst (λ n. Ups (suc n) ps) here up.1 in
      ap (λ z. z ∷ filter by_feeder h) (first t.0.0 here t.0.1 t.0.2)
      ∙ ap (λ l. x ∷ l) (later (suc k) xs ps late (picks_behind k y h xs ps late t.1) zeros.1 (λ i z at zero_is. rest here late i (only_behind k y h (p ∷ ps) only i z at zero_is))) where
        first : (i : ℕ) → p ≡ k → p ≡ k + i → slice_get (y ∷ h) i ≡ Some x → y ≡ x
        first zero here at there = cc there
        first (suc i) here at there = absurd (omega arith)

        rest : p ≡ k → Ups (suc k) ps → (i : ℕ) → Has (p ∷ ps) (suc k + i) → Has ps (suc k + i)
        rest here late i has = ⊎_elim (λ (e : p ≡ suc k + i). absurd (omega arith)) (λ more. more) has

  pass : (k : ℕ) (entries : List Entry) (ps : List ℕ) → y.who ≢ 0 → Ups k ps → Picks k (y ∷ h) entries ps → AllByRecursion (λ (x : Entry). x.who ≡ 0) entries → OnlyAt k (y ∷ h) ps → filter by_feeder h ≡ entries
  pass k entries ps not up t zeros only = let late = past entries ps up t zeros in later (suc k) entries ps late (picks_behind k y h entries ps late t) zeros (only_behind k y h ps only) where
    past : (entries : List Entry) (ps : List ℕ) → Ups k ps → Picks k (y ∷ h) entries ps → AllByRecursion (λ (x : Entry). x.who ≡ 0) entries → Ups (suc k) ps
    past [] [] up t zeros = tt
    past [] (p ∷ ps) up t zeros = absurd t
    past (x ∷ xs) [] up t zeros = absurd t
    past (x ∷ xs) (p ∷ ps) up t zeros = (beyond t.0.0 t.0.1 t.0.2, up.1) where
      beyond : (i : ℕ) → p ≡ k + i → slice_get (y ∷ h) i ≡ Some x → suc k ≤ p
      beyond zero at there = let same : y ≡ x = cc there in absurd (not (ap (λ (z : Entry). z.who) same ∙ zeros.0))
      beyond (suc i) at there = omega arith

pub picked : (h : List Entry) (k : ℕ) (entries : List Entry) (ps : List ℕ) → Ups k ps → Picks k h entries ps → AllByRecursion (λ (x : Entry). x.who ≡ 0) entries → OnlyAt k h ps → filter by_feeder h ≡ entries
picked [] k [] ps up t zeros only = refl
picked [] k (x ∷ xs) [] up t zeros only = absurd t
picked [] k (x ∷ xs) (p ∷ ps) up t zeros only = let m = t.0 in absurd (cc (m.2))
picked (y ∷ h) k entries ps up t zeros only = dite (ℕ_discrete y.who 0)
    (λ is. ap (λ b. if b then y ∷ filter by_feeder h else filter by_feeder h) (eq-eqb y.who 0 is) ∙ pick y h (λ n xs qs u s z o. picked h n xs qs u s z o) k entries ps is up t zeros only)
    (λ not. ap (λ b. if b then y ∷ filter by_feeder h else filter by_feeder h) (ne_eqb y.who 0 not) ∙ pass y h (λ n xs qs u s z o. picked h n xs qs u s z o) k entries ps not up t zeros only)

-- what a pass has seen stands in the whole history
pub stand_picks : (seen h : List Entry) → IsPrefix seen h → (entries : List Entry) (ps : List ℕ) → StandAt seen entries ps → Picks 0 h entries ps
stand_picks seen h begins [] [] s = tt
stand_picks seen h begins [] (p ∷ ps) s = absurd s
stand_picks seen h begins (x ∷ xs) [] s = absurd s
stand_picks seen h begins (x ∷ xs) (p ∷ ps) s = ((p, omega arith, got h p x (prefix_at seen h p x begins s.0)), stand_picks seen h begins xs ps s.1)

pub has_own : (ps : List ℕ) (w k : ℕ) → Has {A = ℕ × ℕ} (map (λ p. (0, p)) ps) (w, k) → (w ≡ 0) × Has ps k
has_own [] w k has = absurd has
has_own (p ∷ ps) w k has = ⊎_elim (λ e. (sym (ap (λ (z : ℕ × ℕ). z.0) e), inl (ap (λ (z : ℕ × ℕ). z.1) e))) (λ more. let r = has_own ps w k more in (r.0, inr r.1)) has

-- ------ the feeder's entries

-- the end of the stream has passed, or not yet
abbrev pub behind_of : (over : Bool) → List Entry
behind_of true = ended ∷ []
behind_of false = []

abbrev pub acts_behind : (over : Bool) → List Act
acts_behind true = EndAct ∷ []
acts_behind false = []

-- the feeder's calls so far
abbrev pub acts_of : (over : Bool) → List Fed → List Act
acts_of over fs = map pass_act fs ++ acts_behind over

pub fed_is : (over : Bool) (packets : Sources) (fs : List Fed) → fed_entries (packets 0 Frontend) fs ++ behind_of over ≡ fed_of packets (acts_of over fs)
fed_is true packets [] = refl
fed_is false packets [] = refl
fed_is over packets (f ∷ fs) = ap (λ l. fed_entry (packets 0 Frontend) f ∷ l) (fed_is over packets fs)

pub fed_zero : (packets : Sources) (acts : List Act) → AllByRecursion (λ (x : Entry). x.who ≡ 0) (fed_of packets acts)
fed_zero packets [] = tt
fed_zero packets (a ∷ acts) = (refl, fed_zero packets acts)
