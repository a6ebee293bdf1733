-- By the replies to calls as its verb says, a command is through.
use Rattle.std.proofs.Common.{◌≡◌, refl, sym, ap, subst, ◌∙◌, ℕ, ◌+◌, ◌<◌, ◌⊎◌, Bool, true, false, List, [], ◌∷◌, ◌++◌, Option, Some, None, inl, inr, length, map, arith}
use Rattle.std.proofs.lemmas.Bool.Decides.{nat_tests}
use Rattle.std.proofs.lemmas.List.Elements.{All-head, All-tail}
use Rattle.std.specs.List.{All}
use Rattle.std.specs.Prelude.{◌&&◌, if◌then◌else◌, nat_lt, slice_index_or}
use Rattle.client_core.specs.Commands.{ends_drain, ends_wait, through}
use Rattle.client_core.specs.Steps.{after, doing, first_at, first_on, telling}
use Rattle.client_core.specs.declared.event.ClientRequest.TheVariants as ask
use Rattle.client_core.specs.declared.task.Ending.{Ending}
use Rattle.client_core.specs.declared.task.Ending.TheVariants.{AllBusy, Asked, Bound, Made, NoNode}
use Rattle.client_core.specs.declared.task.Next.{Next}
use Rattle.client_core.specs.declared.task.Next.TheVariants.{Still, Through}
use Rattle.client_core.specs.declared.task.Task.{Task}
use Rattle.client_core.specs.declared.task.Task.TheVariants as task
use Rattle.client_script.specs.declared.line.Target.TheVariants.{Dvr, Node, Slot}
use Rattle.client_script.specs.declared.line.Verb.{Verb}
use Rattle.client_script.specs.declared.line.Verb.TheVariants.{Drain, GetStc, Once, ReadWait, Write}
use Rattle.client_script.specs.declared.line.Want.{Want}
use Rattle.client_script.specs.declared.line.Want.TheVariants.{Open, Poll, Read}
use Rattle.dmx_calls.specs.Response.{Busy, Done, Ready, Response, TapChange}
use Rattle.dmx_calls.specs.declared.limits.TheConstants.{DEMUX_NODES}
use Rattle.dmx_calls.specs.declared.reply.Tap.TheVariants.{Attach as AttachTap, Detach as DetachTap, Keep as KeepTap}
use Rattle.client_laws.specs.Laws.{CallsEndCommands}
use Rattle.client_laws.specs.Verbs.{CommandCall, FindsNone, FindsOne, IsTold, MakesAt, MakesOn, OpensFrom, asks, bound_by, call, is_busy, is_ready, on_each, replies_to}

-- it is through at this step, which is the next
at_next : (ending : Ending) (step next : ℕ) (left : List Response) → next ≡ step → through ending step left ≡ through ending next left
at_next ending step next left is = ap (λ (k : ℕ). through ending k left) (sym is)

no_call : (calls : List CommandCall) → asks calls ≡ [] → calls ≡ []
no_call [] is = refl
no_call (c ∷ cs) is = absurd (cc is)

-- ------ what the dvr node is told

-- of a node with a test whether it is a demux node
told_ends : (e : Ending) (node from to : ℕ) (tap : TapChange) (behind : List CommandCall) (step next : ℕ) (left : List Response)
    → IsTold node (Done from to tap) behind → next ≡ step + length behind
    → doing (if nat_lt node DEMUX_NODES then telling e node tap else Through e) step (replies_to behind ++ left) ≡ through e next left
told_ends e node from to KeepTap behind step next left told many = go (nat_lt node DEMUX_NODES) behind told many where
  go : (b : Bool) (behind : List CommandCall) → asks behind ≡ [] → next ≡ step + length behind → doing (if b then Through e else Through e) step (replies_to behind ++ left) ≡ through e next left
  go true [] told many = at_next e step next left (omega (arith, many))
  go false [] told many = at_next e step next left (omega (arith, many))
  go b (c ∷ cs) told many = absurd (cc told)
told_ends e node from to (AttachTap pids) behind step next left told many = go (nat_lt node DEMUX_NODES) behind told many where
  go : (b : Bool) (behind : List CommandCall) → asks behind ≡ map (λ want. (DEMUX_NODES, want)) (if b then ask.Attach node pids ∷ [] else []) → next ≡ step + length behind
      → doing (if b then Still (task.Attach e node pids) else Through e) step (replies_to behind ++ left) ≡ through e next left
  go true [] told many = absurd (cc told)
  go true (c ∷ []) told many = at_next e (step + 1) next left (omega (arith, many))
  go true (c ∷ d ∷ cs) told many = absurd (cc told)
  go false [] told many = at_next e step next left (omega (arith, many))
  go false (c ∷ cs) told many = absurd (cc told)
told_ends e node from to DetachTap behind step next left told many = go (nat_lt node DEMUX_NODES) behind told many where
  go : (b : Bool) (behind : List CommandCall) → asks behind ≡ map (λ want. (DEMUX_NODES, want)) (if b then ask.Detach node ∷ [] else []) → next ≡ step + length behind
      → doing (if b then Still (task.Detach e node) else Through e) step (replies_to behind ++ left) ≡ through e next left
  go true [] told many = absurd (cc told)
  go true (c ∷ []) told many = at_next e (step + 1) next left (omega (arith, many))
  go true (c ∷ d ∷ cs) told many = absurd (cc told)
  go false [] told many = at_next e step next left (omega (arith, many))
  go false (c ∷ cs) told many = absurd (cc told)

-- of a demux node
told_ends_below : (e : Ending) (node from to : ℕ) (tap : TapChange) (behind : List CommandCall) (step next : ℕ) (left : List Response)
    → nat_lt node DEMUX_NODES ≡ true → IsTold node (Done from to tap) behind → next ≡ step + length behind
    → doing (telling e node tap) step (replies_to behind ++ left) ≡ through e next left
told_ends_below e node from to tap behind step next left low told many =
    subst (λ (b : Bool). doing (if b then telling e node tap else Through e) step (replies_to behind ++ left) ≡ through e next left) low
    (told_ends e node from to tap behind step next left told many)

-- ------ each verb

-- no call behind
none_ends : (e : Ending) (behind : List CommandCall) (step next : ℕ) (left : List Response) → asks behind ≡ [] → next ≡ step + length behind
    → through e step (replies_to behind ++ left) ≡ through e next left
none_ends e [] step next left told many = at_next e step next left (omega (arith, many))
none_ends e (c ∷ cs) step next left told many = absurd (cc told)

call_ends : (node : ℕ) (want : Want) (reply : Response) (behind : List CommandCall) (step next : ℕ) (left : List Response) → IsTold node reply behind → next ≡ step + 1 + length behind
    → doing (after (task.Call node want) reply) (step + 1) (replies_to behind ++ left) ≡ through Made next left
call_ends node want (Done from to tap) behind step next left told many = told_ends Made node from to tap behind (step + 1) next left told many
call_ends node want reply behind step next left told many = none_ends Made behind (step + 1) next left told many

-- a task that reads again unless a reply ends it
module _ (t : Task) (ends : Response → Bool) (node count : ℕ) (next_is : (r : Response) → after t r ≡ (if ends r then Through Made else Still t)) where
  reads_end : (before : List Response) (last : Response) (step next : ℕ) (left : List Response) → All (λ q. ends q ≡ false) before → ends last ≡ true
      → next ≡ step + length (map (call node (ask.Own (Read count))) (before ++ last ∷ []))
      → doing (Still t) step (replies_to (map (call node (ask.Own (Read count))) (before ++ last ∷ [])) ++ left) ≡ through Made next left
  reads_end [] last step next left goes stops many =
      let over : after t last ≡ Through Made = next_is last ∙ ap (λ (b : Bool). if b then Through Made else Still t) stops in
      ap (λ (n : Next). doing n (step + 1) left) over ∙ at_next Made (step + 1) next left (omega (arith, many))
  reads_end (b ∷ bs) last step next left goes stops many =
      let on : after t b ≡ Still t = next_is b ∙ ap (λ (x : Bool). if x then Through Made else Still t) (All-head (λ q. ends q ≡ false) b bs goes) in
      let more : next ≡ step + 1 + length (map (call node (ask.Own (Read count))) (bs ++ last ∷ [])) = omega (arith, many) in
      ap (λ (n : Next). doing n (step + 1) (replies_to (map (call node (ask.Own (Read count))) (bs ++ last ∷ [])) ++ left)) on
      ∙ reads_end bs last (step + 1) next left (All-tail (λ q. ends q ≡ false) b bs goes) stops more

-- what is found behind so many busy nodes
Finds : (slot node : ℕ) → List CommandCall → Ending → Type 0
Finds slot node rest ending = FindsOne slot node rest ending ⊎ FindsNone node rest ending

found_ends : (slot node : ℕ) (reply : Response) (behind : List CommandCall) (ending : Ending) (step next : ℕ) (left : List Response) → node < DEMUX_NODES → is_busy reply ≡ false
    → IsTold node reply behind → ending ≡ bound_by slot node reply → next ≡ step + 1 + length behind
    → doing (after (task.OpenFrom slot node) reply) (step + 1) (replies_to behind ++ left) ≡ through ending next left
found_ends slot node (Busy owner) behind ending step next left low free told ends many = absurd (cc free)
found_ends slot node (Done from to tap) behind ending step next left low free told ends many =
    let below : nat_lt node DEMUX_NODES ≡ true = grind (arith, nat_tests, low) in
    told_ends_below (Bound slot node) node from to tap behind (step + 1) next left below told many ∙ ap (λ (e : Ending). through e next left) (sym ends)
found_ends slot node reply behind ending step next left low free told ends many =
    none_ends Made behind (step + 1) next left told many ∙ ap (λ (e : Ending). through e next left) (sym ends)

-- the node is found here
here_ends : (slot node : ℕ) (rest : List CommandCall) (ending : Ending) (step next : ℕ) (left : List Response) → node < DEMUX_NODES → Finds slot node rest ending → next ≡ step + length rest
    → doing (Still (task.OpenFrom slot node)) step (replies_to rest ++ left) ≡ through ending next left
unfolding Finds
here_ends slot node rest ending step next left low (inl one) many =
    subst (λ (l : List CommandCall). next ≡ step + length l → doing (Still (task.OpenFrom slot node)) step (replies_to l ++ left) ≡ through ending next left) (sym one.are)
    (λ many. found_ends slot node one.reply one.behind ending step next left low one.free one.tells one.ends (omega (arith, many))) many
here_ends slot node rest ending step next left low (inr none) many = absurd (let at = none.0 in omega (arith, low, at))

-- no node is left
gone_ends : (slot node : ℕ) (rest : List CommandCall) (ending : Ending) (step next : ℕ) (left : List Response) → node ≡ DEMUX_NODES → Finds slot node rest ending → next ≡ step + length rest
    → through AllBusy step (replies_to rest ++ left) ≡ through ending next left
unfolding Finds
gone_ends slot node rest ending step next left last (inl one) many = absurd (let low = one.is_demux in omega (arith, low, last))
gone_ends slot node rest ending step next left last (inr none) many =
    subst (λ (l : List CommandCall). next ≡ step + length l → through AllBusy step (replies_to l ++ left) ≡ through ending next left) (sym none.1)
    (λ many. at_next AllBusy step next left (omega (arith, many)) ∙ ap (λ (e : Ending). through e next left) (sym none.2)) many

-- no node is found behind the last one
past : (slot node : ℕ) (rest : List CommandCall) (ending : Ending) → DEMUX_NODES < node → Finds slot node rest ending → ⊥
unfolding Finds
past slot node rest ending over (inl one) = let low = one.is_demux in omega (arith, low, over)
past slot node rest ending over (inr none) = let at = none.0 in omega (arith, at, over)

opens_end : (slot : ℕ) (busy : List Response) (node : ℕ) (rest : List CommandCall) (ending : Ending) (step next : ℕ) (left : List Response) → node < DEMUX_NODES
    → All (λ q. is_busy q ≡ true) busy → Finds slot (node + length busy) rest ending → next ≡ step + length (on_each node (ask.Own Open) busy ++ rest)
    → doing (Still (task.OpenFrom slot node)) step (replies_to (on_each node (ask.Own Open) busy ++ rest) ++ left) ≡ through ending next left
opens_end slot [] node rest ending step next left low busy finds many =
    let here : node + length {A = Response} [] ≡ node = omega arith in
    here_ends slot node rest ending step next left low (subst (λ (k : ℕ). Finds slot k rest ending) here finds) many
opens_end slot (b ∷ bs) node rest ending step next left low busy finds many =
    one b bs (All-head (λ q. is_busy q ≡ true) b bs busy) (All-tail (λ q. is_busy q ≡ true) b bs busy) finds (omega (arith, many)) (λ lower more finds many. opens_end slot bs (node + 1) rest ending (step + 1) next left lower more finds many) where
      one : (b : Response) (bs : List Response) → is_busy b ≡ true → All (λ q. is_busy q ≡ true) bs → Finds slot (node + length (b ∷ bs)) rest ending
          → next ≡ step + 1 + length (on_each (node + 1) (ask.Own Open) bs ++ rest)
          → (node + 1 < DEMUX_NODES → All (λ q. is_busy q ≡ true) bs → Finds slot (node + 1 + length bs) rest ending → next ≡ step + 1 + length (on_each (node + 1) (ask.Own Open) bs ++ rest)
          → doing (Still (task.OpenFrom slot (node + 1))) (step + 1) (replies_to (on_each (node + 1) (ask.Own Open) bs ++ rest) ++ left) ≡ through ending next left)
          → doing (after (task.OpenFrom slot node) b) (step + 1) (replies_to (on_each (node + 1) (ask.Own Open) bs ++ rest) ++ left) ≡ through ending next left
      one (Busy owner) bs is more finds many later = go (nat_lt (node + 1) DEMUX_NODES) refl where
        counted : Finds slot (node + 1 + length bs) rest ending
        counted = let same : node + length (Busy owner ∷ bs) ≡ node + 1 + length bs = omega arith in subst (λ (k : ℕ). Finds slot k rest ending) same finds

        over : (bs : List Response) → node + 1 ≡ DEMUX_NODES → Finds slot (node + 1 + length bs) rest ending → next ≡ step + 1 + length (on_each (node + 1) (ask.Own Open) bs ++ rest)
            → through AllBusy (step + 1) (replies_to (on_each (node + 1) (ask.Own Open) bs ++ rest) ++ left) ≡ through ending next left
        over [] last finds many =
            let here : node + 1 + length {A = Response} [] ≡ DEMUX_NODES = omega (arith, last) in
            gone_ends slot (node + 1 + length {A = Response} []) rest ending (step + 1) next left here finds many
        over (c ∷ cs) last finds many = absurd (past slot (node + 1 + length (c ∷ cs)) rest ending (omega (arith, last)) finds)

        go : (b : Bool) → nat_lt (node + 1) DEMUX_NODES ≡ b
            → doing (if b then Still (task.OpenFrom slot (node + 1)) else Through AllBusy) (step + 1) (replies_to (on_each (node + 1) (ask.Own Open) bs ++ rest) ++ left) ≡ through ending next left
        go true below = later (grind (arith, nat_tests, below)) more counted many
        go false none = over bs (grind (arith, nat_tests, none, low)) counted many
      one _ bs is more finds many later = absurd (cc is)

play_ends : (write : ℕ) (passed : List Response) (node step next : ℕ) (left : List Response) → node < DEMUX_NODES → node + length passed ≡ DEMUX_NODES
    → next ≡ step + length (on_each node (ask.Pass write) passed)
    → doing (Still (task.Play write node)) step (replies_to (on_each node (ask.Pass write) passed) ++ left) ≡ through Made next left
play_ends write [] node step next left low all many = absurd (omega (arith, low, all))
play_ends write (r ∷ rs) node step next left low all many = go (nat_lt (node + 1) DEMUX_NODES) refl (λ lower. play_ends write rs (node + 1) (step + 1) next left lower (omega (arith, all)) (omega (arith, many))) where
  over : (rs : List Response) → node + 1 ≡ DEMUX_NODES → node + length (r ∷ rs) ≡ DEMUX_NODES → next ≡ step + length (on_each node (ask.Pass write) (r ∷ rs))
      → through Made (step + 1) (replies_to (on_each (node + 1) (ask.Pass write) rs) ++ left) ≡ through Made next left
  over [] last all many = at_next Made (step + 1) next left (omega (arith, many))
  over (q ∷ qs) last all many = absurd (omega (arith, last, all))

  go : (b : Bool) → nat_lt (node + 1) DEMUX_NODES ≡ b
      → (node + 1 < DEMUX_NODES → doing (Still (task.Play write (node + 1))) (step + 1) (replies_to (on_each (node + 1) (ask.Pass write) rs) ++ left) ≡ through Made next left)
      → doing (if b then Still (task.Play write (node + 1)) else Through Made) (step + 1) (replies_to (on_each (node + 1) (ask.Pass write) rs) ++ left) ≡ through Made next left
  go true below later = later (grind (arith, nat_tests, below))
  go false none later = over rs (grind (arith, nat_tests, none, low)) all many

write_ends : (node write : ℕ) (has : Bool) (reply : Response) (passed : List Response) (step next : ℕ) (left : List Response) → length passed ≡ (if is_ready reply && has then DEMUX_NODES else 0)
    → next ≡ step + 1 + length (on_each 0 (ask.Pass write) passed)
    → doing (after (task.Write node write has) reply) (step + 1) (replies_to (on_each 0 (ask.Pass write) passed) ++ left) ≡ through Made next left
write_ends node write true (Ready readable error at ended) passed step next left all many = play_ends write passed 0 (step + 1) next left (omega arith) (omega (arith, all)) many
write_ends node write false (Ready readable error at ended) [] step next left all many = at_next Made (step + 1) next left (omega (arith, many))
write_ends node write false (Ready readable error at ended) (p ∷ ps) step next left all many = absurd (omega (arith, all))
write_ends node write has reply [] step next left all many = at_next Made (step + 1) next left (omega (arith, many))
write_ends node write has reply (p ∷ ps) step next left all many = absurd (omega (arith, all))

-- ------ a command

-- of no call
without : (e ending : Ending) (calls : List CommandCall) (step : ℕ) (left : List Response) → (calls ≡ []) × (ending ≡ e) → through e step (replies_to calls ++ left) ≡ through ending (step + length calls) left
without e ending [] step left is = at_next e step (step + length {A = CommandCall} []) left (omega arith) ∙ ap (λ (x : Ending). through x (step + length {A = CommandCall} []) left) (sym is.1)
without e ending (c ∷ cs) step left is = absurd (cc is.0)

ends_made : (n : Next) (ending : Ending) (calls : List CommandCall) (step : ℕ) (left : List Response) → ending ≡ Made
    → doing n step (replies_to calls ++ left) ≡ through Made (step + length calls) left → doing n step (replies_to calls ++ left) ≡ through ending (step + length calls) left
ends_made n ending calls step left made is = is ∙ ap (λ (e : Ending). through e (step + length calls) left) (sym made)

on_ends : (node : ℕ) (v : Verb) (has : Bool) (step : ℕ) (calls : List CommandCall) (ending : Ending) (left : List Response) → MakesOn node v has calls ending
    → doing (first_on node v has) step (replies_to calls ++ left) ≡ through ending (step + length calls) left
on_ends node (Once want) has step calls ending left m = ends_made (Still (task.Call node want)) ending calls step left m.1
    (subst (λ (l : List CommandCall). doing (Still (task.Call node want)) step (replies_to l ++ left) ≡ through Made (step + length l) left) (sym m.0.are)
    (call_ends node want m.0.reply m.0.behind step (step + length (call node (ask.Own want) m.0.reply ∷ m.0.behind)) left m.0.tells (omega arith)))
on_ends node (ReadWait count) has step calls ending left m = ends_made (Still (task.ReadWait node count)) ending calls step left m.1
    (subst (λ (l : List CommandCall). doing (Still (task.ReadWait node count)) step (replies_to l ++ left) ≡ through Made (step + length l) left) (sym m.0.are)
    (reads_end (task.ReadWait node count) ends_wait node count (λ r. refl) m.0.before m.0.last step (step + length (map (call node (ask.Own (Read count))) (m.0.before ++ m.0.last ∷ []))) left m.0.goes_on m.0.is_end refl))
on_ends node (Drain count) has step calls ending left m = ends_made (Still (task.Drain node count)) ending calls step left m.1
    (subst (λ (l : List CommandCall). doing (Still (task.Drain node count)) step (replies_to l ++ left) ≡ through Made (step + length l) left) (sym m.0.are)
    (reads_end (task.Drain node count) ends_drain node count (λ r. refl) m.0.before m.0.last step (step + length (map (call node (ask.Own (Read count))) (m.0.before ++ m.0.last ∷ []))) left m.0.goes_on m.0.is_end refl))
on_ends node (GetStc num) has step calls ending left m = without (Asked node num) ending calls step left m
on_ends node (Write write) has step calls ending left m = ends_made (Still (task.Write node write has)) ending calls step left m.1
    (subst (λ (l : List CommandCall). doing (Still (task.Write node write has)) step (replies_to l ++ left) ≡ through Made (step + length l) left) (sym m.0.are)
    (write_ends node write has m.0.reply m.0.passed step (step + length (call node (ask.Own Poll) m.0.reply ∷ on_each 0 (ask.Pass write) m.0.passed)) left m.0.many (omega arith)))

at_ends : (o : Option ℕ) (v : Verb) (has : Bool) (step : ℕ) (calls : List CommandCall) (ending : Ending) (left : List Response) → MakesAt o v has calls ending
    → doing (first_at o v has) step (replies_to calls ++ left) ≡ through ending (step + length calls) left
at_ends None v has step calls ending left m = without NoNode ending calls step left m
at_ends (Some node) v has step calls ending left m = on_ends node v has step calls ending left m

slot_ends : (slot : ℕ) (step : ℕ) (calls : List CommandCall) (ending : Ending) (left : List Response) → OpensFrom slot 0 calls ending
    → doing (Still (task.OpenFrom slot 0)) step (replies_to calls ++ left) ≡ through ending (step + length calls) left
unfolding Finds
slot_ends slot step calls ending left m =
    subst (λ (l : List CommandCall). doing (Still (task.OpenFrom slot 0)) step (replies_to l ++ left) ≡ through ending (step + length l) left) (sym m.are)
    (opens_end slot m.busy 0 m.rest ending step (step + length (on_each 0 (ask.Own Open) m.busy ++ m.rest)) left (omega arith) m.are_busy m.finds refl)

pub calls_end_commands : CallsEndCommands
calls_end_commands slots (Node node) v has step calls ending left m = on_ends node v has step calls ending left m
calls_end_commands slots Dvr v has step calls ending left m = on_ends DEMUX_NODES v has step calls ending left m
calls_end_commands slots (Slot slot) (Once Open) has step calls ending left m = slot_ends slot step calls ending left m
calls_end_commands slots (Slot slot) v has step calls ending left m = at_ends (slice_index_or slots slot None) v has step calls ending left m
