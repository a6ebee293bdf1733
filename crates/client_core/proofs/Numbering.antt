-- A client's calls are numbered, and are made on one of the 33 nodes; a command that is through stays through.
use Rattle.client_core.proofs.Imports.{command_of, ahead, repeats_by, first, doing, ◌≡◌, refl, sym, ap, subst, ◌∙◌, ℕ, ◌+◌, ◌<◌, ◌≤◌, Bool, true, false, nat_eq, List, [], ◌∷◌, ◌++◌, Option, Some, None, length, replicate, arith, if◌then◌else◌, IfSome, All, All-nil, All-cons, All-head, All-tail, All-set, nat_tests, DEMUX_NODES, Response, IsInRange, Scripted, Line, CommandLine, ClientCommand, Event, Ending, Bound, Slots, Doing, stands, through, done, commands_in, commands_among, commands_of, plays_of, Batches, Standing, slots_after, progress_from, no_slots, next_event, standing_at, IsEndingInRange, AreSlots, none-some, same_some, PlaysOf, plays_batch, Write, IsNextInRange, IsNextOf, after, Next, Still, Through, Verb, IsCommandInRange, IsCommandOf, Packets, batch_at, All-append, All-replicate, IsSome, progress, is_some}
use Rattle.client_core.proofs.Following.{can_ask_all}
use Rattle.client_core.proofs.Steps.{IsAsked, event_asked, first_begun, next_kept, step_of}
use Rattle.client_core.proofs.More.{Onward, doing_more, some_of}

-- ------ what stands there has the next number, is on one of the nodes, and asks for what there is

module _ (batches : Batches) where
  -- so many calls in all up to there
  abbrev Fits : (total : ℕ) → Doing → Type 0
  Fits total (stands e) = (e.step ≡ total) × IsAsked batches e
  Fits total (through ending next left) = (next + length left ≡ total) × IsEndingInRange ending

  -- it keeps to its range and to the batches
  abbrev Keeps : Next → Type 0
  Keeps n = IsNextInRange n × IsNextOf batches n

  doing_fits : (n : Next) (step total : ℕ) (rs : List Response) → total ≡ step + length rs → Keeps n → Fits total (doing n step rs)
  doing_fits (Through ending) step total rs long is = (sym long, is.0)
  doing_fits (Still t) step total [] long is = (omega (arith, long, step_of t step), event_asked batches t step is.0 is.1)
  doing_fits (Still t) step total (r ∷ rs) long is = let kept = next_kept batches t r is.0 is.1 in doing_fits (after t r) (step + 1) total rs (omega (arith, long)) (kept.0, kept.2)

  -- a command in range, whose batch is there
  abbrev Fit : ClientCommand → Type 0
  Fit c = IsCommandInRange c × IsCommandOf batches c

  command_fits : (slots : Slots) (c : ClientCommand) (step : ℕ) (rs : List Response) → Fit c → AreSlots slots → Fits (step + length rs) (done slots c.target c.verb c.has_batch step rs)
  command_fits slots c step rs is bound =
      let begun = first_begun 33 slots c.target c.verb c.has_batch is.0.0 bound is.0.1 (can_ask_all c.verb) in
      doing_fits (first slots c.target c.verb c.has_batch) step (step + length rs) rs refl (begun.0, begun.2 batches is.1)

  bound_after : (ending : Ending) (slots : Slots) → IsEndingInRange ending → AreSlots slots → AreSlots (slots_after ending slots)
  bound_after (Bound slot node) slots is bound = All-set (λ slot. IfSome slot (λ node. node < DEMUX_NODES)) slots slot (Some node) is.1 bound
  bound_after _ slots is bound = bound

  all_fit : (slots : Slots) (step : ℕ) (cs : List ClientCommand) (rs : List Response) (s : Standing) → AreSlots slots → All Fit cs → (progress_from slots step cs rs).standing ≡ Some s
      → (s.event.step ≡ step + length rs) × IsAsked batches s.event
  all_fit slots step [] rs s bound fit is = absurd (none-some s is)
  all_fit slots step (c ∷ cs) rs s bound fit is =
      go (λ ending next left bound there. all_fit (slots_after ending slots) next cs left s bound (All-tail Fit c cs fit) there) (done slots c.target c.verb c.has_batch step rs) (command_fits slots c step rs (All-head Fit c cs fit) bound) is where
        go : ((ending : Ending) (next : ℕ) (left : List Response) → AreSlots (slots_after ending slots) → (progress_from (slots_after ending slots) next cs left).standing ≡ Some s
            → (s.event.step ≡ next + length left) × IsAsked batches s.event)
            → (d : Doing) → Fits (step + length rs) d → (ahead c.line step slots cs d).standing ≡ Some s → (s.event.step ≡ step + length rs) × IsAsked batches s.event
        go deeper (stands e) fits there =
            let same : e ≡ s.event = ap (λ t. t.event) (same_some {A = Standing} (record { line = c.line; from = step; event = e }) s there) in
            subst (λ x. (x.step ≡ step + length rs) × IsAsked batches x) same fits
        go deeper (through ending next left) fits there =
            let that = deeper ending next left (bound_after ending slots fits.1 bound) there in
            (that.0 ∙ fits.0, that.1)

  -- ------ the commands of a client

  some_there : (o : Option Packets) → is_some o ≡ true → IsSome o
  some_there None e = absurd (cc e)
  some_there (Some batch) e = refl

  pub verb_plays : (v : Verb) → PlaysOf batches v (plays_batch batches v)
  verb_plays (Write write) = some_there (batch_at batches write)
  verb_plays _ = tt

  line_fits : (client : ℕ) (line : Line) → IsInRange line → All Fit (commands_in client batches line)
  line_fits client (CommandLine line who target asked) is = go (nat_eq who client) where
    go : (b : Bool) → All Fit (if b then command_of batches line target asked ∷ [] else [])
    go true = All-cons Fit (command_of batches line target asked) [] ((is.3, is.4), verb_plays asked) (All-nil Fit)
    go false = All-nil Fit
  line_fits client _ is = All-nil Fit

  lines_fit : (client : ℕ) (lines : List Line) → All IsInRange lines → All Fit (commands_among client batches lines)
  lines_fit client [] ranges = All-nil Fit
  lines_fit client (line ∷ lines) ranges =
      All-append Fit (commands_in client batches line) (commands_among client batches lines) (line_fits client line (All-head IsInRange line lines ranges)) (lines_fit client lines (All-tail IsInRange line lines ranges))

  free_slots : (n : ℕ) → AreSlots (replicate n None)
  free_slots n = All-replicate (λ slot. IfSome slot (λ node. node < DEMUX_NODES)) n None tt

-- A client's next call has as its step the number of its replies, is on one of 33 nodes, and asks for what is in range.
pub next_is_asked : (client : ℕ) (script : Scripted) (replies : List Response) (e : Event) → All IsInRange script.lines → next_event client script replies ≡ Some e
    → (e.step ≡ length replies) × IsAsked (plays_of client script) e
unfolding progress
next_is_asked client script replies e ranges is =
    let plays = plays_of client script in
    let there = some_of (progress client script replies).standing e is in
    let fits = all_fit plays no_slots 0 (commands_of client script) replies there.0 (free_slots plays DEMUX_NODES) (lines_fit plays client script.lines ranges) there.1 in
    subst (λ x. (x.step ≡ length replies) × IsAsked plays x) there.2 (omega (arith, fits.0), fits.1)

pub next_is_numbered : (client : ℕ) (script : Scripted) (replies : List Response) (e : Event) → All IsInRange script.lines → next_event client script replies ≡ Some e
    → (e.step ≡ length replies) × (e.node ≤ DEMUX_NODES)
next_is_numbered client script replies e ranges is = let asked = next_is_asked client script replies e ranges is in (asked.0, asked.1.0)

-- ------ commands that are through

-- these commands are through with these replies
abbrev pub AreThrough : Slots → (step : ℕ) → List ClientCommand → List Response → Type 0
AreThrough slots step cs rs = (progress_from slots step cs rs).standing ≡ None

pub through_more : (slots : Slots) (step : ℕ) (cs : List ClientCommand) (rs : List Response) (r : Response) → AreThrough slots step cs rs → AreThrough slots step cs (rs ++ r ∷ [])
through_more slots step [] rs r is = refl
through_more slots step (c ∷ cs) rs r is =
    go (λ ending next left there. through_more (slots_after ending slots) next cs left r there) (done slots c.target c.verb c.has_batch step rs) (done slots c.target c.verb c.has_batch step (rs ++ r ∷ [])) (repeats_by (first slots c.target c.verb c.has_batch) rs) (repeats_by (first slots c.target c.verb c.has_batch) (rs ++ r ∷ []))
    (doing_more (first slots c.target c.verb c.has_batch) step rs r) is where
      go : ((ending : Ending) (next : ℕ) (left : List Response) → (progress_from (slots_after ending slots) next cs left).standing ≡ None → (progress_from (slots_after ending slots) next cs (left ++ r ∷ [])).standing ≡ None)
          → (d f : Doing) (m n : ℕ) → Onward step r m n d f → (ahead c.line step slots cs d).standing ≡ None → (ahead c.line step slots cs f).standing ≡ None
      go deeper (stands e) f m n on there = absurd (none-some {A = Standing} (record { line = c.line; from = step; event = e }) (sym there))
      go deeper (through ending next left) f m n on there = subst (λ x. (ahead c.line step slots cs x).standing ≡ None) (sym on.0) (deeper ending next left there)

-- where the commands before this one are through, and what stands there is of another line, this one is through too
pub through_next : (slots : Slots) (step : ℕ) (before : List ClientCommand) (c : ClientCommand) (behind : List ClientCommand) (rs : List Response) → AreThrough slots step before rs
    → standing_at c.line (progress_from slots step (before ++ c ∷ behind) rs).standing ≡ None → AreThrough slots step (before ++ c ∷ []) rs
through_next slots step [] c behind rs is at = go (done slots c.target c.verb c.has_batch step rs) at where
  itself : (line : ℕ) (e : Event) → (if nat_eq line line then Some e else None) ≡ None → ⊥
  itself line e none =
      let same : nat_eq line line ≡ true = grind (arith, nat_tests) in
      none-some e (sym (rw same at none))

  go : (d : Doing) → standing_at c.line (ahead c.line step slots behind d).standing ≡ None → (ahead c.line step slots [] d).standing ≡ None
  go (stands e) none = absurd (itself c.line e none)
  go (through ending next left) none = refl
through_next slots step (p ∷ before) c behind rs is at =
    go (λ ending next left there later. through_next (slots_after ending slots) next before c behind left there later) (done slots p.target p.verb p.has_batch step rs) is at where
      go : ((ending : Ending) (next : ℕ) (left : List Response) → AreThrough (slots_after ending slots) next before left
          → standing_at c.line (progress_from (slots_after ending slots) next (before ++ c ∷ behind) left).standing ≡ None → AreThrough (slots_after ending slots) next (before ++ c ∷ []) left)
          → (d : Doing) → (ahead p.line step slots before d).standing ≡ None → standing_at c.line (ahead p.line step slots (before ++ c ∷ behind) d).standing ≡ None
          → (ahead p.line step slots (before ++ c ∷ []) d).standing ≡ None
      go deeper (stands e) there none = absurd (none-some {A = Standing} (record { line = p.line; from = step; event = e }) (sym there))
      go deeper (through ending next left) there none = deeper ending next left there none
