-- A node's history is the one that is woven of the feeder's calls and the clients' entries, where they tell its entries.
use Rattle.workers.proofs.Imports.{◌≡◌, ◌≢◌, ℕ, zero, suc, Bool, true, false, nat_eq, nat_lt, eq-eqb, ne_eqb, ◌+◌, ◌≤◌, List, [], ◌∷◌, map, filter, slice_get, Some, refl, ap, sym, ◌∙◌, subst, arith, if◌then◌else◌, nat_tests, dite, ℕ_discrete, Entry, entry_of, Passed, Act, LogEntry, Sources, filled_act, filled_entry, feeder_entry, before_entry, woven_from, AreInPlace}

-- the entries of the feeder's calls, with its packets
abbrev pub fed_of : (packets : Sources) → List Act → List Entry
fed_of packets acts = map (λ a. entry_of 0 (filled_act (packets 0) a) Passed) acts

abbrev pub by_feeder : Entry → Bool
by_feeder x = nat_eq x.who 0

-- the places rise, from this one on
abbrev pub Rises : (place : ℕ) → List LogEntry → Type 0
Rises place [] = Unit {0}
Rises place (e ∷ calls) = (place ≤ e.place) × Rises (suc e.place) calls

pub rises_less : (place : ℕ) (calls : List LogEntry) → Rises (suc place) calls → Rises place calls
rises_less place [] up = tt
rises_less place (e ∷ calls) up = (omega (arith, up.0), up.1)

pub rises_at : (place : ℕ) (calls : List LogEntry) → Rises place calls → (j : ℕ) (e : LogEntry) → slice_get calls j ≡ Some e → place ≤ e.place
rises_at place [] up j e at = absurd (cc at)
rises_at place (c ∷ calls) up zero e at = let same : c ≡ e = cc at in subst (λ (z : LogEntry). place ≤ z.place) same up.0
rises_at place (c ∷ calls) up (suc j) e at = let low = up.0 in let more = rises_at (suc c.place) calls up.1 j e at in omega arith

-- These calls of the feeder and entries of the clients tell a history from a place on: its entries of caller 0 are the feeder's,
-- in their order; each of a client stands at its place; and every entry of another caller is one of them.
pub record AreTold (packets : Sources) (place : ℕ) (acts : List Act) (calls : List LogEntry) (h : List Entry) : Type 0 where
  pub feeder : filter by_feeder h ≡ fed_of packets acts
  pub callers : (j : ℕ) (e : LogEntry) → slice_get calls j ≡ Some e → e.who ≢ 0
  pub each : (j : ℕ) (e : LogEntry) → slice_get calls j ≡ Some e → (i : ℕ) × (e.place ≡ place + i) × (slice_get h i ≡ Some (filled_entry packets e))
  pub only : (i : ℕ) (x : Entry) → slice_get h i ≡ Some x → x.who ≢ 0 → (j : ℕ) × (e : LogEntry) × (slice_get calls j ≡ Some e) × (e.place ≡ place + i)

-- woven of them, each entry stands at its place, and tells that of the history
abbrev pub IsWoven : (packets : Sources) → (node place step : ℕ) → (acts : List Act) → (calls : List LogEntry) → List Entry → Type 0
IsWoven packets node place step acts calls h = AreInPlace place (woven_from node calls place step acts) × (map (filled_entry packets) (woven_from node calls place step acts) ≡ h)

-- where no entry of a client stands at this place, the feeder's does
feeder_first : (node place step : ℕ) (a : Act) (acts : List Act) (calls : List LogEntry) → Rises (suc place) calls
    → woven_from node calls place step (a ∷ acts) ≡ feeder_entry node place step a ∷ woven_from node calls (suc place) (suc step) acts
feeder_first node place step a acts [] up = refl
feeder_first node place step a acts (e ∷ calls) up =
    let low = up.0 in let y : nat_lt place e.place ≡ true = grind (arith, nat_tests) in
    ap (λ b. if b then feeder_entry node place step a ∷ before_entry node e (woven_from node calls) (suc place) (suc step) acts else e ∷ woven_from node calls (suc place) step (a ∷ acts)) y

call_first : (node place step : ℕ) (acts : List Act) (e : LogEntry) (calls : List LogEntry) → e.place ≡ place → woven_from node (e ∷ calls) place step acts ≡ e ∷ woven_from node calls (suc place) step acts
call_first node place step [] e calls at = refl
call_first node place step (a ∷ acts) e calls at =
    let y : nat_lt place e.place ≡ false = grind (arith, nat_tests) in
    ap (λ b. if b then feeder_entry node place step a ∷ before_entry node e (woven_from node calls) (suc place) (suc step) acts else e ∷ woven_from node calls (suc place) step (a ∷ acts)) y

-- what stands behind the first place
behind : (x y : Entry) (h : List Entry) (place at i : ℕ) → at ≡ place + i → suc place ≤ at → slice_get (x ∷ h) i ≡ Some y → (k : ℕ) × (at ≡ suc place + k) × (slice_get h k ≡ Some y)
behind x y h place at zero e late is = absurd (omega arith)
behind x y h place at (suc k) e late is = (k, omega arith, is)

-- what is told behind the first call
later_call : (c : LogEntry) (calls : List LogEntry) (place i : ℕ) → c.place ≡ place → (j : ℕ) × (e : LogEntry) × (slice_get (c ∷ calls) j ≡ Some e) × (e.place ≡ place + suc i)
    → (j : ℕ) × (e : LogEntry) × (slice_get calls j ≡ Some e) × (e.place ≡ suc place + i)
later_call c calls place i here (zero, e, at, is) = let same : c ≡ e = cc at in let p : e.place ≡ c.place = ap (λ (z : LogEntry). z.place) (sym same) in absurd (omega arith)
later_call c calls place i here (suc j, e, at, is) = (j, e, at, omega arith)

module _ (packets : Sources) (node : ℕ) (x : Entry) (h : List Entry)
    (later : (place step : ℕ) (acts : List Act) (calls : List LogEntry) → Rises place calls → AreTold packets place acts calls h → IsWoven packets node place step acts calls h) where
  put : (place step : ℕ) (acts bs : List Act) (calls more : List LogEntry) (e : LogEntry) (t : ℕ) → woven_from node calls place step acts ≡ e ∷ woven_from node more (suc place) t bs → e.place ≡ place → filled_entry packets e ≡ x
      → IsWoven packets node (suc place) t bs more h → IsWoven packets node place step acts calls (x ∷ h)
  put place step acts bs calls more e t is at fills w =
      subst (λ l. AreInPlace place l × (map (filled_entry packets) l ≡ x ∷ h)) (sym is) ((at, w.0), ap (λ y. y ∷ map (filled_entry packets) (woven_from node more (suc place) t bs)) fills ∙ ap (λ l. x ∷ l) w.1)

  -- no entry of a client stands where the feeder's does
  apart : (place : ℕ) (acts : List Act) (calls : List LogEntry) → x.who ≡ 0 → Rises place calls → AreTold packets place acts calls (x ∷ h) → Rises (suc place) calls
  apart place acts [] is up t = tt
  apart place acts (e ∷ calls) is up t = let m = t.each 0 e refl in (past m.0 m.1 m.2, up.1) where
    past : (i : ℕ) → e.place ≡ place + i → slice_get (x ∷ h) i ≡ Some (filled_entry packets e) → suc place ≤ e.place
    past zero at is_there = let same : x ≡ filled_entry packets e = cc is_there in absurd (t.callers 0 e refl (ap (λ (z : Entry). z.who) (sym same) ∙ is))
    past (suc i) at is_there = omega arith

  feeder_here : (place step : ℕ) (acts : List Act) (calls : List LogEntry) → x.who ≡ 0 → Rises place calls → AreTold packets place acts calls (x ∷ h) → IsWoven packets node place step acts calls (x ∷ h)
  feeder_here place step acts calls is up t = go acts (apart place acts calls is up t) t (sym (ap (λ b. if b then x ∷ filter by_feeder h else filter by_feeder h) (eq-eqb x.who 0 is)) ∙ t.feeder) where
    go : (acts : List Act) → Rises (suc place) calls → AreTold packets place acts calls (x ∷ h) → x ∷ filter by_feeder h ≡ fed_of packets acts → IsWoven packets node place step acts calls (x ∷ h)
    go [] late t first = absurd (cc first)
    go (a ∷ acts) late t first =
        let fills : entry_of 0 (filled_act (packets 0) a) Passed ≡ x = cc first in
        let rest : filter by_feeder h ≡ fed_of packets acts = cc first in
        put place step (a ∷ acts) acts calls calls (feeder_entry node place step a) (suc step) (feeder_first node place step a acts calls late) refl fills
        (later (suc place) (suc step) acts calls late (record {
          feeder = rest;
          callers = t.callers;
          each = λ j e at. let m = t.each j e at in behind x (filled_entry packets e) h place e.place m.0 m.1 (rises_at (suc place) calls late j e at) m.2;
          only = λ i y at not. let o = t.only (suc i) y at not in (o.0, o.1, o.2, (let p = o.3 in omega arith));
        }))

  call_here : (place step : ℕ) (acts : List Act) (calls : List LogEntry) → x.who ≢ 0 → Rises place calls → AreTold packets place acts calls (x ∷ h) → IsWoven packets node place step acts calls (x ∷ h)
  call_here place step acts [] not up t = let o = t.only 0 x refl not in absurd (cc (o.2))
  call_here place step acts (c ∷ calls) not up t =
      let o = t.only 0 x refl not in let here = first o.0 o.1 o.2 o.3 in let m = t.each 0 c refl in
      put place step acts acts (c ∷ calls) calls c step (call_first node place step acts c calls here) here (stands m.0 m.1 here m.2)
      (later (suc place) step acts calls (subst (λ p. Rises (suc p) calls) here up.1) (record {
        feeder = sym (ap (λ b. if b then x ∷ filter by_feeder h else filter by_feeder h) (ne_eqb x.who 0 not)) ∙ t.feeder;
        callers = λ j e at. t.callers (suc j) e at;
        each = λ j e at. let n = t.each (suc j) e at in behind x (filled_entry packets e) h place e.place n.0 n.1 (rises_at (suc place) calls (subst (λ p. Rises (suc p) calls) here up.1) j e at) n.2;
        only = λ i y at other. later_call c calls place i here (t.only (suc i) y at other);
      })) where
        first : (j : ℕ) (e : LogEntry) → slice_get (c ∷ calls) j ≡ Some e → e.place ≡ place + 0 → c.place ≡ place
        first zero e at is = let same : c ≡ e = cc at in let p : c.place ≡ e.place = ap (λ (z : LogEntry). z.place) same in omega arith
        first (suc j) e at is = let low = up.0 in let l = rises_at (suc c.place) calls up.1 j e at in absurd (omega arith)

        stands : (i : ℕ) → c.place ≡ place + i → c.place ≡ place → slice_get (x ∷ h) i ≡ Some (filled_entry packets c) → filled_entry packets c ≡ x
        stands zero at here is = cc is
        stands (suc i) at here is = absurd (omega arith)

pub weaves : (packets : Sources) (node : ℕ) (h : List Entry) (place step : ℕ) (acts : List Act) (calls : List LogEntry) → Rises place calls → AreTold packets place acts calls h → IsWoven packets node place step acts calls h
weaves packets node [] place step [] [] up t = (tt, refl)
weaves packets node [] place step (a ∷ acts) [] up t = let no = t.feeder in absurd (cc no)
weaves packets node [] place step acts (e ∷ calls) up t = let m = t.each 0 e refl in absurd (cc (m.2))
weaves packets node (x ∷ h) place step acts calls up t = dite (ℕ_discrete x.who 0)
    (λ is. feeder_here packets node x h (λ p s bs cs r u. weaves packets node h p s bs cs r u) place step acts calls is up t)
    (λ not. call_here packets node x h (λ p s bs cs r u. weaves packets node h p s bs cs r u) place step acts calls not up t)
