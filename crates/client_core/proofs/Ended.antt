-- Where a command has ended, what stands behind it has not begun: its client waits for nothing.
use Rattle.client_core.proofs.Imports.{ahead, repeats_by, first, ◌≡◌, refl, sym, ap, ◌∙◌, ℕ, Bool, true, false, nat_eq, List, [], ◌∷◌, ◌++◌, Some, None, arith, if◌then◌else◌, none-some, Response, Scripted, ClientCommand, Event, Ending, Slots, Doing, stands, through, done, commands_of, slots_after, progress_from, no_slots, next_of_line, standing_at, waits_after, waits_on, progress}
use Rattle.client_core.proofs.GoesOn.{last_counts, waits_not}
use Rattle.client_core.proofs.More.{IsFirst, first_none, Onward, doing_more}

-- with no replies left, what stands there is a first call, before which no client waits
first_waits_not : (slots : Slots) (step : ℕ) (cs : List ClientCommand) (r : Response) → waits_after (progress_from slots step cs []).standing (r ∷ []) ≡ None
first_waits_not slots step [] r = refl
first_waits_not slots step (c ∷ cs) r = go (λ ending next. first_waits_not (slots_after ending slots) next cs r) (done slots c.target c.verb c.has_batch step []) (first_none (first slots c.target c.verb c.has_batch) step).0 where
  go : ((ending : Ending) (next : ℕ) → waits_after (progress_from (slots_after ending slots) next cs []).standing (r ∷ []) ≡ None)
      → (d : Doing) → IsFirst step d → waits_after (ahead c.line step slots cs d).standing (r ∷ []) ≡ None
  go deeper (stands e) at = waits_not (record { line = c.line; from = step; event = e }) r (omega (arith, at))
  go deeper (through ending next left) none = ap (λ l. waits_after (progress_from (slots_after ending slots) next cs l).standing (r ∷ [])) none ∙ deeper ending next

-- a line at which something stands, and then nothing
same_line : (b : Bool) (e f x : Event) → (if b then Some e else None) ≡ Some x → (if b then Some f else None) ≡ None → ⊥
same_line true e f x was none = none-some f (sym none)
same_line false e f x was none = none-some x was

ends_from : (slots : Slots) (step : ℕ) (cs : List ClientCommand) (rs : List Response) (r : Response) (line : ℕ) (x : Event) → standing_at line (progress_from slots step cs rs).standing ≡ Some x
    → standing_at line (progress_from slots step cs (rs ++ r ∷ [])).standing ≡ None → waits_after (progress_from slots step cs (rs ++ r ∷ [])).standing (r ∷ []) ≡ None
ends_from slots step [] rs r line x was none = absurd (none-some x was)
ends_from slots step (c ∷ cs) rs r line x was none =
    go (λ ending next left was none. ends_from (slots_after ending slots) next cs left r line x was none) (done slots c.target c.verb c.has_batch step rs) (done slots c.target c.verb c.has_batch step (rs ++ r ∷ []))
    (repeats_by (first slots c.target c.verb c.has_batch) rs) (repeats_by (first slots c.target c.verb c.has_batch) (rs ++ r ∷ [])) (doing_more (first slots c.target c.verb c.has_batch) step rs r) was none where
      go : ((ending : Ending) (next : ℕ) (left : List Response) → standing_at line (progress_from (slots_after ending slots) next cs left).standing ≡ Some x
          → standing_at line (progress_from (slots_after ending slots) next cs (left ++ r ∷ [])).standing ≡ None → waits_after (progress_from (slots_after ending slots) next cs (left ++ r ∷ [])).standing (r ∷ []) ≡ None)
          → (d f : Doing) (m n : ℕ) → Onward step r m n d f → standing_at line (ahead c.line step slots cs d).standing ≡ Some x
          → standing_at line (ahead c.line step slots cs f).standing ≡ None → waits_after (ahead c.line step slots cs f).standing (r ∷ []) ≡ None
      go deeper (stands e) (stands f) m n on was none = absurd (same_line (nat_eq c.line line) e f x was none)
      go deeper (stands e) (through ending next left) m n on was none =
          ap (λ l. waits_after (progress_from (slots_after ending slots) next cs l).standing (r ∷ [])) on.0 ∙ first_waits_not (slots_after ending slots) next cs r
      go deeper (through ending next left) f m n on was none =
          ap (λ d. waits_after (ahead c.line step slots cs d).standing (r ∷ [])) on.0
          ∙ deeper ending next left was (sym (ap (λ d. standing_at line (ahead c.line step slots cs d).standing) on.0) ∙ none)

-- Where the reply to a call of a line's command ends it, the client waits for nothing.
pub ended_waits_not : (client : ℕ) (script : Scripted) (line : ℕ) (rs : List Response) (r : Response) (x : Event) → next_of_line client script line rs ≡ Some x
    → next_of_line client script line (rs ++ r ∷ []) ≡ None → waits_on client script (rs ++ r ∷ []) ≡ None
unfolding progress
ended_waits_not client script line rs r x was none =
    last_counts (progress client script (rs ++ r ∷ [])).standing rs r ∙ ends_from no_slots 0 (commands_of client script) rs r line x was none
