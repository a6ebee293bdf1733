-- Each command that a request spells is done by its calls, as a script's command is.
use Rattle.seats.proofs.Imports.{◌≡◌, ◌≢◌, ℕ, zero, suc, ◌+◌, ◌≤◌, Bool, false, nat_lt, eq-eqb, ne_eqb, List, [], ◌∷◌, ◌++◌, length, take, Some, IsTrue, refl, ap, sym, ◌∙◌, subst, arith, slice_get, if◌then◌else◌, dite, ℕ_discrete, DEMUX_NODES, KeepTap, AttachTap, DetachTap, LogEntry, Act, act_of, Response, TapChange, Done, Busy, Again, Node, Dvr, Want, Open, Close, Section, Pes, Add, Remove, Size, Once, Event, ClientRequest, Ending, WasMade, Bound, AllBusy, Next, Still, Through, Task, CallTask, OpenFrom, AttachTask, DetachTask, Batches, Doing, stands, through, Slots, no_slots, done, first, after, event_of, telling, doing, if_next, own_call, call_of, Counters, kind_by, IsEvent, replies, IsGiven, DoneCommand, GoesThrough, IsDone, no_counters, target_of, Start, Stop, Read, Poll}

-- ------ what a command does by the replies to these calls

-- what it is in a state, by the replies from there on
abbrev pub Steps : Type 0
Steps = (step : ℕ) → List Response → Doing

-- the entry is that event, whatever its client plays
abbrev pub IsEventOf : Event → LogEntry → Type 0
IsEventOf event e = (batches : Batches) → IsEvent batches (Some event) e

-- By the replies to these calls it is through, and leaves those behind them; each call is the one before which it stands, at a
-- moment of the clock; and none is a repeat of a read.
pub record Fits (may : ℕ → Bool) (does : Steps) (ending : Ending) (calls : List LogEntry) : Type 0 where
  pub ends : (step : ℕ) (rest : List Response) → does step (replies calls ++ rest) ≡ through ending (step + length calls) rest
  pub asks : (step i : ℕ) (e : LogEntry) → slice_get calls i ≡ Some e
      → (event : Event) × (does step (replies (take i calls)) ≡ stands event) × (event.step ≡ step + i) × IsEventOf event e × IsGiven may e.act
  pub calm : (i : ℕ) (e f : LogEntry) → slice_get calls i ≡ Some e → slice_get calls (suc i) ≡ Some f → e.response ≢ Again false

pub fits_none : (may : ℕ → Bool) (ending : Ending) → Fits may (λ step rs. through ending step rs) ending []
fits_none may ending = record {
  ends = λ step rest. let same : step ≡ step + 0 = omega arith in ap (λ n. through ending n rest) same;
  asks = λ step i e at. absurd (cc at);
  calm = λ i e f at. absurd (cc at);
}

-- one call, and then these
pub fits_more : (may : ℕ → Bool) (does next : Steps) (ending : Ending) (node : ℕ) (want : ClientRequest) (moment : ℕ) (b : LogEntry) (rest : List LogEntry)
    → ((step : ℕ) → does step [] ≡ stands (record { step = step; node = node; want = want }))
    → ((step : ℕ) (rs : List Response) → does step (b.response ∷ rs) ≡ next (step + 1) rs)
    → b.node ≡ node → ((batches : Batches) → b.act ≡ act_of (call_of batches want moment)) → IsGiven may b.act
    → ((f : LogEntry) → slice_get rest 0 ≡ Some f → b.response ≢ Again false)
    → Fits may next ending rest → Fits may does ending (b ∷ rest)
fits_more may does next ending node want moment b rest first after on act given calm f = record {
  ends = λ step rs.
      let long : (step + 1) + length rest ≡ step + length (b ∷ rest) = omega arith in
      after step (replies rest ++ rs) ∙ (f.ends (step + 1) rs ∙ ap (λ n. through ending n rs) long);
  asks = λ step i e at. asks step i e at;
  calm = λ i e g at later. calms i e g at later;
} where
  asks : (step i : ℕ) (e : LogEntry) → slice_get (b ∷ rest) i ≡ Some e
      → (event : Event) × (does step (replies (take i (b ∷ rest))) ≡ stands event) × (event.step ≡ step + i) × IsEventOf event e × IsGiven may e.act
  asks step zero e at =
      let same : b ≡ e = cc at in
      let here : step ≡ step + 0 = omega arith in (
        record { step = step; node = node; want = want },
        first step,
        here,
        λ batches. subst (λ (x : LogEntry). (x.node ≡ node) × ((m : ℕ) × (x.act ≡ act_of (call_of batches want m)))) same (on, (moment, act batches)),
        subst (λ (x : LogEntry). IsGiven may x.act) same given,
      )
  asks step (suc i) e at =
      let a = f.asks (step + 1) i e at in
      let here : (step + 1) + i ≡ step + suc i = omega arith in
      (a.0, after step (replies (take i rest)) ∙ a.1, a.2 ∙ here, a.3, a.4)

  calms : (i : ℕ) (e g : LogEntry) → slice_get (b ∷ rest) i ≡ Some e → slice_get (b ∷ rest) (suc i) ≡ Some g → e.response ≢ Again false
  calms zero e g at later = let same : b ≡ e = cc at in subst (λ (x : LogEntry). x.response ≢ Again false) same (calm g later)
  calms (suc i) e g at later = f.calm i e g at later

-- the same, told in another way
pub fits_as : (may : ℕ → Bool) (does same : Steps) (ending : Ending) (calls : List LogEntry) → ((step : ℕ) (rs : List Response) → does step rs ≡ same step rs) → Fits may same ending calls → Fits may does ending calls
fits_as may does same ending calls is f = record {
  ends = λ step rest. is step (replies calls ++ rest) ∙ f.ends step rest;
  asks = λ step i e at. let a = f.asks step i e at in (a.0, is step (replies (take i calls)) ∙ a.1, a.2, a.3, a.4);
  calm = f.calm;
}

-- ------ by small steps

-- the counters of its client change nothing of how it ended
abbrev pub IsPlainEnding : Ending → Type 0
IsPlainEnding ending = (counters : Counters) → kind_by counters ending ≡ kind_by no_counters ending

-- What is left of a command of one call, or of an open of a slot; the call is made at a moment of the clock.
abbrev pub IsPlain : (may : ℕ → Bool) → (now : ℕ) → Next → Type 0
IsPlain may now (Through ending) = IsPlainEnding ending
IsPlain may now (Still (CallTask node want)) = IsGiven may (act_of (own_call want now))
IsPlain may now (Still (OpenFrom slot node)) = Unit {0}
IsPlain may now (Still (AttachTask ending node pids)) = IsPlainEnding ending
IsPlain may now (Still (DetachTask ending node)) = IsPlainEnding ending
IsPlain may now (Still _) = ⊥

event_at : (t : Task) (step : ℕ) → event_of t step ≡ record { step = step; node = (event_of t 0).node; want = (event_of t 0).want }
event_at (CallTask node want) step = refl
event_at (OpenFrom slot node) step = refl
event_at _ step = refl

module _ (may : ℕ → Bool) (now : ℕ) where
  telling_plain : (ending : Ending) (node : ℕ) (tap : TapChange) → IsPlainEnding ending → IsPlain may now (telling ending node tap)
  telling_plain ending node KeepTap p = p
  telling_plain ending node (AttachTap pids) p = p
  telling_plain ending node DetachTap p = p

  plain_after : (t : Task) (r : Response) → IsPlain may now (Still t) → IsPlain may now (after t r)
  plain_after (CallTask node want) (Done from to tap) p =
      if_next (IsPlain may now) (nat_lt node DEMUX_NODES) (telling WasMade node tap) (Through WasMade) (λ yes. telling_plain WasMade node tap (λ counters. refl)) (λ counters. refl)
  plain_after (CallTask node want) _ p = λ counters. refl
  plain_after (OpenFrom slot node) (Busy owner) p =
      if_next (IsPlain may now) (nat_lt (node + 1) DEMUX_NODES) (Still (OpenFrom slot (node + 1))) (Through AllBusy) (λ yes. tt) (λ counters. refl)
  plain_after (OpenFrom slot node) (Done from to tap) p = telling_plain (Bound slot node) node tap (λ counters. refl)
  plain_after (OpenFrom slot node) _ p = λ counters. refl
  plain_after (AttachTask ending node pids) r p = p
  plain_after (DetachTask ending node) r p = p
  plain_after _ r p = absurd p

  given_of : (t : Task) (a : Act) → IsPlain may now (Still t) → ((batches : Batches) → a ≡ act_of (call_of batches (event_of t 0).want now)) → IsGiven may a
  given_of (CallTask node want) a p is = subst (IsGiven may) (sym (is [])) p
  given_of (OpenFrom slot node) a p is = subst (IsGiven may) (sym (is [])) tt
  given_of (AttachTask ending node pids) a p is = subst (IsGiven may) (sym (is [])) tt
  given_of (DetachTask ending node) a p is = subst (IsGiven may) (sym (is [])) tt
  given_of _ a p is = absurd p

  -- it reads no more where nothing is there
  again_ends : (t : Task) → IsPlain may now (Still t) → (ending : Ending) × (after t (Again false) ≡ Through ending)
  again_ends (CallTask node want) p = (WasMade, refl)
  again_ends (OpenFrom slot node) p = (WasMade, refl)
  again_ends (AttachTask ending node pids) p = (ending, refl)
  again_ends (DetachTask ending node) p = (ending, refl)
  again_ends _ p = absurd p

  again_last : (t : Task) (r : Response) (ending : Ending) (rest : List LogEntry) → IsPlain may now (Still t) → GoesThrough now (after t r) ending rest → r ≡ Again false → rest ≡ []
  again_last t r ending rest p g same =
      let e = again_ends t p in
      (subst (λ n. GoesThrough now n ending rest) (ap (after t) same ∙ e.1) g).0

  pub goes_kind : (n : Next) (ending : Ending) (es : List LogEntry) → IsPlain may now n → GoesThrough now n ending es → IsPlainEnding ending
  goes_kind (Through last) ending es p g = subst IsPlainEnding (sym g.1) p
  goes_kind (Still t) ending [] p g = absurd g
  goes_kind (Still t) ending (e ∷ es) p g = goes_kind (after t e.response) ending es (plain_after t e.response p) g.1

  pub goes_fits : (n : Next) (ending : Ending) (es : List LogEntry) → IsPlain may now n → GoesThrough now n ending es → Fits may (doing n) ending es
  goes_fits (Through last) ending es p g =
      subst (λ (l : List LogEntry). Fits may (doing (Through last)) ending l) (sym g.0)
      (fits_as may (doing (Through last)) (λ step rs. through ending step rs) ending [] (λ step rs. ap (λ (x : Ending). through x step rs) (sym g.1)) (fits_none may ending))
  goes_fits (Still t) ending [] p g = absurd g
  goes_fits (Still t) ending (e ∷ es) p g =
      fits_more may (doing (Still t)) (doing (after t e.response)) ending (event_of t 0).node (event_of t 0).want now e es
      (λ step. ap stands (event_at t step)) (λ step rs. refl) g.0.0 g.0.1 (given_of t e.act p g.0.1)
      (λ f at same. absurd (let none : slice_get [] 0 ≡ Some f = subst (λ (l : List LogEntry). slice_get l 0 ≡ Some f) (again_last t e.response ending es p g.1 same) at in cc none))
      (goes_fits (after t e.response) ending es (plain_after t e.response p) g.1)

-- a call at a moment of the clock
pub given_call : (may : ℕ → Bool) (want : Want) (now : ℕ) → IsTrue (may now) → IsGiven may (act_of (own_call want now))
given_call may Open now is = tt
given_call may Close now is = tt
given_call may (Section params) now is = is
given_call may (Pes params) now is = is
given_call may (Add pid) now is = tt
given_call may (Remove pid) now is = tt
given_call may Start now is = is
given_call may Stop now is = tt
given_call may (Size size) now is = tt
given_call may (Read count) now is = is
given_call may Poll now is = is

-- ------ the commands

-- A command was done by its calls, at least one, and ended so.
pub record IsFitted (may : ℕ → Bool) (d : DoneCommand) : Type 0 where
  pub some : 1 ≤ length d.calls
  pub kind : IsPlainEnding d.ending
  pub fits : (slots : Slots) → Fits may (done slots d.target (Once d.want) false) d.ending d.calls

goes_some : (now : ℕ) (t : Task) (ending : Ending) (es : List LogEntry) → GoesThrough now (Still t) ending es → 1 ≤ length es
goes_some now t ending [] g = absurd g
goes_some now t ending (e ∷ es) g = omega arith

pub done_fitted : (may : ℕ → Bool) (now : ℕ) (d : DoneCommand) (t : Task) → ((slots : Slots) → first slots d.target (Once d.want) false ≡ Still t) → IsPlain may now (Still t) → IsDone now d → IsFitted may d
done_fitted may now d t same plain is =
    let g : GoesThrough now (Still t) d.ending d.calls = subst (λ n. GoesThrough now n d.ending d.calls) (same no_slots) (is no_slots) in
    record {
      some = goes_some now t d.ending d.calls g;
      kind = goes_kind may now (Still t) d.ending d.calls plain g;
      fits = λ slots. fits_as may (done slots d.target (Once d.want) false) (doing (Still t)) d.ending d.calls
          (λ step rs. ap (λ n. doing n step rs) (same slots)) (goes_fits may now (Still t) d.ending d.calls plain g);
    }

-- a node as a script names it
pub first_on_target : (slots : Slots) (node : ℕ) (want : Want) → first slots (target_of node) (Once want) false ≡ Still (CallTask node want)
first_on_target slots node want = dite (ℕ_discrete node DEMUX_NODES)
    (λ here. ap (λ b. first slots (if b then Dvr else Node node) (Once want) false) (eq-eqb node DEMUX_NODES here) ∙ ap (λ n. Still (CallTask n want)) (sym here))
    (λ not. ap (λ b. first slots (if b then Dvr else Node node) (Once want) false) (ne_eqb node DEMUX_NODES not))
