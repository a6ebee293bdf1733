-- What beginning and ending a command leave as it was.
use Rattle.client_core.proofs.Imports.{◌≡◌, refl, sym, ap, subst, ◌∙◌, ℕ, ◌+◌, List, [], ◌∷◌, ◌++◌, map, length, Some, None, arith, ◌<◌, ◌≤◌, Bool, true, false, Option, nat_lt, option_map, if◌then◌else◌, All, append_assoc, append-nil, map-append, All-append, All-weaker, nat_tests, Response, Again, ClientCommand, Ending, Task, Slots, Standing, Ended, Progress, with_ended, slots_after, progress_from, progress, next_event, reading_on, waits_after, standing_at, with_reply, exchanges, outcome_by, outcome_of, counter_in, HaveFollowed, Scripted, IfSome, IfNone, Current, ahead, behind, coming_from, coming, Core, IsLate, IsAfter, HasTaken, next_of, waits_with, none-some, first, event_of, doing, Still, Through}
use Rattle.std.proofs.lemmas.List.{length-append}
use Rattle.client_core.proofs.Steps.{step_of}
use Rattle.client_core.proofs.Following.{exchanges_more, early_same, told_now}

pub behind_one : (es : List Ended) (e : Ended) (p : Progress) → behind (es ++ e ∷ []) p ≡ behind es (with_ended e p)
behind_one es e p = ap (λ xs. record { ended = xs; standing = p.standing }) (append_assoc es (e ∷ []) p.ended)

behind_two : (es fs : List Ended) (p : Progress) → behind (es ++ fs) p ≡ behind es (behind fs p)
behind_two es fs p = ap (λ xs. record { ended = xs; standing = p.standing }) (append_assoc es fs p.ended)

pub begun_goes_on : (slots : Slots) (step : ℕ) (left : List ClientCommand) (c : ClientCommand) (cs : List ClientCommand) (task : Task) → left ≡ c ∷ cs → Still task ≡ first slots c.target c.verb c.has_batch
    → (more : List Response) → progress_from slots step left more ≡ coming_from (Some (record { line = c.line; from = step; task = task })) step slots cs more
begun_goes_on slots step left c cs task is begins more =
    ap (λ l. progress_from slots step l more) is ∙ ap (λ n. ahead c.line step slots cs (doing n step more)) (sym begins)

pub passed_goes_on : (slots : Slots) (step : ℕ) (left : List ClientCommand) (c : ClientCommand) (cs : List ClientCommand) (ending : Ending) → left ≡ c ∷ cs → Through ending ≡ first slots c.target c.verb c.has_batch
    → (es : List Ended) (more : List Response)
    → behind es (progress_from slots step left more)
    ≡ behind (es ++ record { line = c.line; from = step; to = step; ending = ending } ∷ []) (progress_from (slots_after ending slots) step cs more)
passed_goes_on slots step left c cs ending is begins es more =
    ap (λ p. behind es p) (ap (λ l. progress_from slots step l more) is ∙ ap (λ n. ahead c.line step slots cs (doing n step more)) (sym begins))
    ∙ sym (behind_one es _ (progress_from (slots_after ending slots) step cs more))

-- ------ a reply is taken

pub now_is : (client : ℕ) (script : Scripted) (replies : List Response) (c : Core) → (after : IsAfter client script replies c) → progress client script replies ≡ behind after.ended (coming c [])
now_is client script replies c after = sym (ap (λ rs. progress client script rs) (append-nil replies)) ∙ after.goes_on []

last_alone : (s : Standing) (replies : List Response) (r : Response) → waits_after (Some s) (replies ++ r ∷ []) ≡ waits_after (Some s) (r ∷ [])
last_alone s [] r = refl
last_alone s (q ∷ []) r = refl
last_alone s (q ∷ p ∷ replies) r = last_alone s (p ∷ replies) r

pub last_counts : (s : Option Standing) (replies : List Response) (r : Response) → waits_after s (replies ++ r ∷ []) ≡ waits_after s (r ∷ [])
last_counts None replies r = refl
last_counts (Some s) replies r = last_alone s replies r

pub taken : (client : ℕ) (script : Scripted) (replies : List Response) (r : Response) (c d : Core) → IsAfter client script replies c → HasTaken r c d → d.step ≡ c.step + 1 → IsAfter client script (replies ++ r ∷ []) d
taken client script replies r c d after takes step = record {
  ended = after.ended ++ takes.passed;
  goes_on = on;
  outcomes = takes.told
      ∙ ap (λ os. os ++ map (outcome_by (counter_in d.clocks)) takes.passed) (after.outcomes ∙ early_same client script replies r after.ended after.early)
      ∙ ap (λ os. map (outcome_of client script (replies ++ r ∷ [])) after.ended ++ os) (told_now client script (replies ++ r ∷ []) d.clocks takes.passed followed_now late_now)
      ∙ sym (map-append (outcome_of client script (replies ++ r ∷ [])) after.ended takes.passed);
  plays = takes.plays ∙ after.plays;
  early = All-append (λ (e : Ended). e.from ≤ length (replies ++ r ∷ [])) after.ended takes.passed
      (All-weaker (λ (e : Ended). e.from ≤ length replies) (λ (e : Ended). e.from ≤ length (replies ++ r ∷ [])) (λ e le. omega (arith, le, longer)) after.ended after.early)
      (All-weaker (IsLate (length d.clocks) (length (replies ++ r ∷ []))) (λ (e : Ended). e.from ≤ length (replies ++ r ∷ [])) (λ e l. l.from) takes.passed late_now);
  followed = followed_now;
  steps = steps_now;
  waits = takes.waits
      ∙ ap (λ p. waits_after p.standing (r ∷ [])) (sym (on []) ∙ ap (λ rs. progress client script rs) (append-nil (replies ++ r ∷ [])))
      ∙ sym (last_counts (progress client script (replies ++ r ∷ [])).standing replies r);
} where
  longer : length (replies ++ r ∷ []) ≡ length replies + 1
  longer = length-append replies (r ∷ [])

  steps_now : d.step ≡ length (replies ++ r ∷ [])
  steps_now = step ∙ ap (λ n. n + 1) after.steps ∙ sym longer

  late_now : All (IsLate (length d.clocks) (length (replies ++ r ∷ []))) takes.passed
  late_now = subst (λ n. All (IsLate (length d.clocks) n) takes.passed) steps_now takes.late

  on : (more : List Response) → progress client script ((replies ++ r ∷ []) ++ more) ≡ behind (after.ended ++ takes.passed) (coming d more)
  on more = ap (λ rs. progress client script rs) (append_assoc replies (r ∷ []) more) ∙ after.goes_on (r ∷ more)
      ∙ ap (λ p. behind after.ended p) (takes.goes_on more) ∙ sym (behind_two after.ended takes.passed (coming d more))

  next_is : next_event client script replies ≡ next_of c
  next_is = ap (λ p. option_map (λ s. s.event) p.standing) (now_is client script replies c after)

  followed_now : HaveFollowed (exchanges client script (replies ++ r ∷ [])) d.clocks
  followed_now =
      let same : exchanges client script (replies ++ r ∷ []) ≡ with_reply (next_of c) r (exchanges client script replies) =
      exchanges_more client script [] [] replies r ∙ ap (λ e. with_reply e r (exchanges client script replies)) next_is in
      subst (λ xs. HaveFollowed xs d.clocks) (sym same) (takes.followed (exchanges client script replies) after.followed)

-- either way it waits for nothing
no_wait : (b : Bool) → ◌≡◌ {A = Option ℕ} None (if b then None else None)
no_wait true = refl
no_wait false = refl

-- a client waits where the reply was Again, and what stands there isn't its command's first call
waits_by : (s : Standing) (r : Response) → waits_after (Some s) (r ∷ []) ≡ (if nat_lt s.from s.event.step then waits_with r (reading_on s.event) else None)
waits_by s (Again false) = refl
waits_by s _ = no_wait (nat_lt s.from s.event.step)

-- a command that goes on waits where the reply was Again
pub waits_still : (s : Standing) (r : Response) → s.from < s.event.step → waits_after (Some s) (r ∷ []) ≡ waits_with r (reading_on s.event)
waits_still s r lt =
    let later : nat_lt s.from s.event.step ≡ true = grind (arith, nat_tests) in
    waits_by s r ∙ ap (λ b. if b then waits_with r (reading_on s.event) else None) later

-- a command that has just begun waits for nothing
pub waits_not : (s : Standing) (r : Response) → s.event.step ≤ s.from → waits_after (Some s) (r ∷ []) ≡ None
waits_not s r le =
    let first : nat_lt s.from s.event.step ≡ false = grind (arith, nat_tests) in
    waits_by s r ∙ ap (λ b. if b then waits_with r (reading_on s.event) else None) first

-- ------ what stands there

pub none_left : (cur : Option Current) (step : ℕ) (slots : Slots) (left : List ClientCommand) → cur ≡ None → IfNone cur (left ≡ [])
    → coming_from cur step slots left [] ≡ record { ended = []; standing = None }
none_left None step slots left is ended = ap (λ l. progress_from slots step l []) ended
none_left (Some k) step slots left is ended = absurd (none-some k (sym is))

pub some_stands : (cur : Option Current) (k : Current) (step : ℕ) (slots : Slots) (left : List ClientCommand) → cur ≡ Some k
    → coming_from cur step slots left [] ≡ record { ended = []; standing = Some (record { line = k.line; from = k.from; event = event_of k.task step }) }
some_stands cur k step slots left is = ap (λ c. coming_from c step slots left []) is

-- a command that is begun isn't through, and neither are those behind it
pub none_ended : (es : List Ended) (cur : Option Current) (step : ℕ) (slots : Slots) (left : List ClientCommand) → IfNone cur (left ≡ [])
    → es ≡ (behind es (coming_from cur step slots left [])).ended
none_ended es None step slots left ended = sym (ap (λ l. (behind es (progress_from slots step l [])).ended) ended ∙ append-nil es)
none_ended es (Some k) step slots left ended = sym (append-nil es)

pub begun_waits_not : (cur : Option Current) (step : ℕ) (slots : Slots) (left : List ClientCommand) (r : Response) → IfNone cur (left ≡ []) → IfSome cur (λ k. k.from ≡ step)
    → None ≡ waits_after (coming_from cur step slots left []).standing (r ∷ [])
begun_waits_not None step slots left r ended at = sym (ap (λ l. waits_after (progress_from slots step l []).standing (r ∷ [])) ended)
begun_waits_not (Some k) step slots left r ended at = sym (waits_not (record { line = k.line; from = k.from; event = event_of k.task step }) r (omega (arith, at, step_of k.task step)))

pub still_waits : (k : Current) (t : Task) (step : ℕ) (r : Response) → k.from < step
    → waits_with r (reading_on (event_of t step)) ≡ waits_after (Some (record { line = k.line; from = k.from; event = event_of t step })) (r ∷ [])
still_waits k t step r lt = sym (waits_still (record { line = k.line; from = k.from; event = event_of t step }) r (omega (arith, lt, step_of t step)))

pub none_waits : (s : Option Standing) → None ≡ waits_after s []
none_waits None = refl
none_waits (Some s) = refl

pub at_line : (s : Standing) (line : ℕ) → s.line ≡ line → standing_at line (Some s) ≡ Some s.event
at_line s line is = grind (arith, nat_tests)

pub not_at_line : (s : Standing) (line : ℕ) → (s.line ≡ line → ⊥) → standing_at line (Some s) ≡ None
not_at_line s line not = grind (arith, nat_tests)
