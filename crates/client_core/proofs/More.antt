-- One reply more repeats at most one read more.
use Rattle.client_core.proofs.Imports.{ahead, repeats_by, again, first, doing, ◌⊎◌, inl, inr, Task, ◌≡◌, refl, sym, ap, subst, ◌∙◌, ℕ, ◌+◌, ◌<◌, ◌≤◌, Bool, true, false, List, [], ◌∷◌, ◌++◌, Option, Some, None, arith, if◌then◌else◌, option_map, Response, Again, ReadWait, Drain, ClientCommand, Event, ClientRequest, Ending, Made, Slots, Doing, stands, through, done, ends_drain, commands_of, Standing, slots_after, progress_from, no_slots, reading_on, waits_after, repeats_from, waits_with, added_by, OneReplyMore, none-some, same_some, event_of, after, Next, Still, Through, progress, repeats}
use Rattle.client_core.proofs.GoesOn.{last_counts, waits_still}
use Rattle.client_core.proofs.Steps.{step_of}
use Rattle.client_core.specs.declared.task.Task.TheVariants as task

-- A command with one reply more, and how many reads it repeats before and after. Where it was through, it leaves this reply
-- too. Where it stood, it is through, or stands at a later step; a read that stands there may be a repeat, on the same node.
abbrev pub Onward : (step : ℕ) → Response → (before after : ℕ) → Doing → Doing → Type 0
Onward step r m n (through ending next left) d = (d ≡ through ending next (left ++ r ∷ [])) × (n ≡ m)
Onward step r m n (stands e) (stands f) = (step < f.step) × (n ≤ m + added_by e.want r) × (reading_on f ≡ None → n ≤ m) × (m < n → f.node ≡ e.node)
Onward step r m n (stands e) (through ending next left) = (left ≡ []) × (n ≤ m)

-- one step before, after which so many more are repeated
earlier : (step k : ℕ) (r : Response) (m n : ℕ) (d f : Doing) → Onward (step + 1) r m n d f → Onward step r (k + m) (k + n) d f
earlier step k r m n (through ending next left) f on = (on.0, ap (λ x. k + x) on.1)
earlier step k r m n (stands e) (stands f) on = (omega (arith, on.0), omega (arith, on.1), λ none. omega (arith, on.2 none), λ more. on.3 (omega (arith, more)))
earlier step k r m n (stands e) (through ending next left) on = (on.0, omega (arith, on.1))

-- ------ one reply more

-- a task repeats nothing by this reply, or is a read that goes on, on its node
abbrev MayRepeat : Task → Response → Next → Type 0
MayRepeat t r n = (again t r ≡ 0) ⊎ ((n ≡ Still t) × ((node : ℕ) × ((step : ℕ) → (reading_on (event_of t step) ≡ Some node) × ((event_of t step).node ≡ node))))

may_repeat : (t : Task) (step : ℕ) (r : Response) → MayRepeat t r (after t r) × (again t r ≤ added_by (event_of t step).want r)
may_repeat (task.ReadWait node count) step (Again false) = (inr (refl, (node, λ k. (refl, refl))), omega arith)
may_repeat (task.ReadWait node count) step _ = (inl refl, omega arith)
may_repeat (task.Drain node count) step r = (go (ends_drain r), omega arith) where
  go : (b : Bool) → ◌≡◌ {A = ℕ} (if b then 0 else 1) 0 ⊎ (((if b then Through Made else Still (task.Drain node count)) ≡ Still (task.Drain node count)) × ((on : ℕ) × ((k : ℕ) → (reading_on (event_of (task.Drain node count) k) ≡ Some on) × ((event_of (task.Drain node count) k).node ≡ on))))
  go true = inl refl
  go false = inr (refl, (node, λ k. (refl, refl)))
may_repeat _ step r = (inl refl, omega arith)

one_more : (t : Task) (step : ℕ) (r : Response) → Onward step r 0 (again t r + repeats_by (after t r) []) (stands (event_of t step)) (doing (after t r) (step + 1) [])
one_more t step r = let may = may_repeat t step r in go (after t r) may.0 may.1 where
  go : (n : Next) → MayRepeat t r n → again t r ≤ added_by (event_of t step).want r → Onward step r 0 (again t r + repeats_by n []) (stands (event_of t step)) (doing n (step + 1) [])
  go (Through ending) (inl none) le = (refl, omega (arith, none))
  go (Through ending) (inr goes) le = absurd (cc goes.0)
  go (Still u) (inl none) le = (omega (arith, step_of u (step + 1)), omega (arith, le), λ quiet. omega (arith, none), λ more. absurd (omega (arith, none, more)))
  go (Still u) (inr goes) le =
      let same : u ≡ t = cc goes.0 in
      let there = goes.1.1 (step + 1) in (
        omega (arith, step_of u (step + 1)),
        omega (arith, le),
        λ none. absurd (none-some goes.1.0 (sym none ∙ (ap (λ (x : Task). reading_on (event_of x (step + 1))) same ∙ there.0))),
        λ more. ap (λ (x : Task). (event_of x (step + 1)).node) same ∙ (there.1 ∙ sym (goes.1.1 step).1),
      )

pub doing_more : (n : Next) (step : ℕ) (rs : List Response) (r : Response) → Onward step r (repeats_by n rs) (repeats_by n (rs ++ r ∷ [])) (doing n step rs) (doing n step (rs ++ r ∷ []))
doing_more (Through ending) step rs r = (refl, refl)
doing_more (Still t) step [] r = one_more t step r
doing_more (Still t) step (q ∷ rs) r =
    earlier step (again t q) r (repeats_by (after t q) rs) (repeats_by (after t q) (rs ++ r ∷ [])) (doing (after t q) (step + 1) rs) (doing (after t q) (step + 1) (rs ++ r ∷ [])) (doing_more (after t q) (step + 1) rs r)

-- ------ without replies nothing is repeated

-- its first call stands there, or it is through and had none
abbrev pub IsFirst : (step : ℕ) → Doing → Type 0
IsFirst step (stands e) = e.step ≡ step
IsFirst step (through ending next left) = left ≡ []

pub first_none : (n : Next) (step : ℕ) → IsFirst step (doing n step []) × (repeats_by n [] ≡ 0)
first_none (Through ending) step = (refl, refl)
first_none (Still t) step = (step_of t step, refl)

pub repeats_none : (slots : Slots) (step : ℕ) (cs : List ClientCommand) → repeats_from slots step cs [] ≡ 0
repeats_none slots step [] = refl
repeats_none slots step (c ∷ cs) = go (λ ending next. repeats_none (slots_after ending slots) next cs) (done slots c.target c.verb c.has_batch step []) (first_none (first slots c.target c.verb c.has_batch) step) where
  go : ((ending : Ending) (next : ℕ) → repeats_from (slots_after ending slots) next cs [] ≡ 0)
      → (d : Doing) → IsFirst step d × (repeats_by (first slots c.target c.verb c.has_batch) [] ≡ 0)
      → repeats_by (first slots c.target c.verb c.has_batch) [] + (elim d [ stands event ↦ 0 | through ending next left ↦ repeats_from (slots_after ending slots) next cs left ]) ≡ 0
  go later (stands e) none = omega (arith, none.1)
  go later (through ending next left) none =
      let nil : repeats_from (slots_after ending slots) next cs left ≡ 0 = ap (λ l. repeats_from (slots_after ending slots) next cs l) none.0 ∙ later ending next in
      omega (arith, none.1, nil)

-- ------ all commands

-- so many repeats before and after this reply to this call; after it the client stands there
record IsMore (w : ClientRequest) (r : Response) (m n : ℕ) (now : Option Standing) : Type 0 where
  le : n ≤ m + added_by w r
  waits : r ≡ Again false → waits_after now (r ∷ []) ≡ None → n ≤ m

more_more : (w : ClientRequest) (r : Response) (k m n : ℕ) (now : Option Standing) → IsMore w r m n now → IsMore w r (k + m) (k + n) now
more_more w r k m n now is = record { le = omega (arith, is.le); waits = λ again none. omega (arith, is.waits again none) }

-- how often those behind a command that does this repeat a read
abbrev pub rest_of : (slots : Slots) (cs : List ClientCommand) → Doing → ℕ
rest_of slots cs d = elim d [ stands event ↦ 0 | through ending next left ↦ repeats_from (slots_after ending slots) next cs left ]

-- a command that goes on after Again, and whose client doesn't wait, goes on by no read
waits_there : (s : Standing) (r : Response) → s.from < s.event.step → r ≡ Again false → waits_after (Some s) (r ∷ []) ≡ None → reading_on s.event ≡ None
waits_there s r lt again none = sym (waits_still s r lt ∙ ap (λ q. waits_with q (reading_on s.event)) again) ∙ none

all_more : (slots : Slots) (step : ℕ) (cs : List ClientCommand) (rs : List Response) (r : Response) (s : Standing) → (progress_from slots step cs rs).standing ≡ Some s
    → IsMore s.event.want r (repeats_from slots step cs rs) (repeats_from slots step cs (rs ++ r ∷ [])) (progress_from slots step cs (rs ++ r ∷ [])).standing
all_more slots step [] rs r s is = absurd (none-some s is)
all_more slots step (c ∷ cs) rs r s is =
    go (λ ending next left there. all_more (slots_after ending slots) next cs left r s there) (done slots c.target c.verb c.has_batch step rs) (done slots c.target c.verb c.has_batch step (rs ++ r ∷ [])) (repeats_by (first slots c.target c.verb c.has_batch) rs) (repeats_by (first slots c.target c.verb c.has_batch) (rs ++ r ∷ []))
    (doing_more (first slots c.target c.verb c.has_batch) step rs r) is where
      go : ((ending : Ending) (next : ℕ) (left : List Response) → (progress_from (slots_after ending slots) next cs left).standing ≡ Some s
          → IsMore s.event.want r (repeats_from (slots_after ending slots) next cs left) (repeats_from (slots_after ending slots) next cs (left ++ r ∷ [])) (progress_from (slots_after ending slots) next cs (left ++ r ∷ [])).standing)
          → (d f : Doing) (m n : ℕ) → Onward step r m n d f → (ahead c.line step slots cs d).standing ≡ Some s
          → IsMore s.event.want r (m + rest_of slots cs d) (n + rest_of slots cs f) (ahead c.line step slots cs f).standing
      go deeper (stands e) (stands f) m n on there =
          let same : e ≡ s.event = ap (λ t. t.event) (same_some {A = Standing} (record { line = c.line; from = step; event = e }) s there) in
          record {
            le = subst (λ x. n + 0 ≤ m + 0 + added_by x.want r) same (omega (arith, on.1));
            waits = λ again none. omega (arith, on.2 (waits_there (record { line = c.line; from = step; event = f }) r on.0 again none));
          }
      go deeper (stands e) (through ending next left) m n on there =
          let nil : repeats_from (slots_after ending slots) next cs left ≡ 0 = ap (λ l. repeats_from (slots_after ending slots) next cs l) on.0 ∙ repeats_none (slots_after ending slots) next cs in
          record { le = omega (arith, on.1, nil); waits = λ again none. omega (arith, on.1, nil) }
      go deeper (through ending next left) f m n on there =
          let behind : IsMore s.event.want r (m + rest_of slots cs (through ending next left)) (m + rest_of slots cs (through ending next (left ++ r ∷ []))) (ahead c.line step slots cs (through ending next (left ++ r ∷ []))).standing =
          more_more s.event.want r m (repeats_from (slots_after ending slots) next cs left) (repeats_from (slots_after ending slots) next cs (left ++ r ∷ [])) (progress_from (slots_after ending slots) next cs (left ++ r ∷ [])).standing (deeper ending next left there) in
          subst (λ k. IsMore s.event.want r (m + rest_of slots cs (through ending next left)) (k + rest_of slots cs f) (ahead c.line step slots cs f).standing) (sym on.1)
          (subst (λ x. IsMore s.event.want r (m + rest_of slots cs (through ending next left)) (m + rest_of slots cs x) (ahead c.line step slots cs x).standing) (sym on.0) behind)

pub some_of : (o : Option Standing) (e : Event) → option_map (λ s. s.event) o ≡ Some e → (s : Standing) × (o ≡ Some s) × (s.event ≡ e)
some_of None e is = absurd (none-some e is)
some_of (Some s) e is = (s, refl, cc)

pub one_reply_more : OneReplyMore
unfolding progress repeats
one_reply_more client script replies r e is =
    let there = some_of (progress client script replies).standing e is in
    let more : IsMore there.0.event.want r (repeats client script replies) (repeats client script (replies ++ r ∷ [])) (progress client script (replies ++ r ∷ [])).standing =
    all_more no_slots 0 (commands_of client script) replies r there.0 there.1 in (
      subst (λ x. repeats client script (replies ++ r ∷ []) ≤ repeats client script replies + added_by x.want r) there.2 more.le,
      λ again none. more.waits again (sym (last_counts (progress client script (replies ++ r ∷ [])).standing replies r) ∙ none),
    )
