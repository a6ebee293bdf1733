-- A client makes at most 33 first calls a command, the next call counted too; and a read that is repeated stays on its node.
use Rattle.client_core.proofs.Imports.{ahead, repeats_by, again, first, doing, Task, Call, OpenFrom, Play, ◌≡◌, refl, sym, ap, ◌∙◌, ℕ, ◌+◌, ◌-◌, ◌*◌, ◌<◌, ◌≤◌, Bool, true, false, List, [], ◌∷◌, ◌++◌, Option, Some, length, arith, nat_lt, if◌then◌else◌, nat_tests, DEMUX_NODES, KeepTap, AttachTap, DetachTap, Response, Done, Busy, Again, Ready, TapChange, Scripted, Target, Verb, Once, ClientCommand, Ending, Made, Bound, AllBusy, Slots, Doing, stands, through, done, ends_wait, ends_drain, commands_of, Standing, slots_after, progress_from, no_slots, repeats_from, CallsAreFew, none-some, same_some, first_on, telling, after, Next, Still, Through, progress, repeats}
use Rattle.client_core.proofs.Steps.{any_first, if_next}
use Rattle.client_core.proofs.More.{Onward, doing_more, repeats_none, rest_of}
use Rattle.client_core.specs.declared.task.Task.TheVariants as task

-- the reply after which a read may be repeated
abbrev goes : Response
goes = Again false

-- at most so many calls are left, if no read is repeated
abbrev most : Next → ℕ
most (Through ending) = 0
most (Still (Call node want)) = 2
most (Still (OpenFrom slot node)) = 2 + (31 - node)
most (Still (task.Write node write has)) = 33
most (Still (Play write node)) = 1 + (31 - node)
most (Still _) = 1

some_left : (t : Task) → 1 ≤ most (Still t)
some_left (Call node want) = omega arith
some_left _ = omega arith

telling_most : (ending : Ending) (node : ℕ) (tap : TapChange) → most (telling ending node tap) ≤ 1
telling_most ending node KeepTap = omega arith
telling_most ending node (AttachTap pids) = omega arith
telling_most ending node DetachTap = omega arith

reads_pay : (b : Bool) (t : Task) → most (Still t) ≡ 1 → most (if b then Through Made else Still t) + 1 ≤ 1 + (if b then 0 else 1)
reads_pay true t one = omega arith
reads_pay false t one = omega (arith, one)

-- each reply is to one of them, or the read is repeated
pays : (t : Task) (r : Response) → most (after t r) + 1 ≤ most (Still t) + again t r
pays (Call node want) (Done from to tap) =
    if_next (λ n. most n + 1 ≤ 2 + 0) (nat_lt node DEMUX_NODES) (telling Made node tap) (Through Made) (λ yes. omega (arith, telling_most Made node tap)) (omega arith)
pays (Call node want) _ = omega arith
pays (task.ReadWait node count) r = reads_pay (ends_wait r) (task.ReadWait node count) refl
pays (task.Drain node count) r = reads_pay (ends_drain r) (task.Drain node count) refl
pays (OpenFrom slot node) (Busy owner) =
    if_next (λ n. most n + 1 ≤ 2 + (31 - node) + 0) (nat_lt (node + 1) DEMUX_NODES) (Still (OpenFrom slot (node + 1))) (Through AllBusy)
    (λ yes. (let more : node + 1 < 32 = grind (arith, nat_tests, yes) in omega (arith, more))) (omega arith)
pays (OpenFrom slot node) (Done from to tap) = omega (arith, telling_most (Bound slot node) node tap)
pays (OpenFrom slot node) _ = omega arith
pays (task.Attach ending node pids) r = omega arith
pays (task.Detach ending node) r = omega arith
pays (task.Write node write has) (Ready readable error at ended) = if_next (λ n. most n + 1 ≤ 33 + 0) has (Still (Play write 0)) (Through Made) (λ yes. omega arith) (omega arith)
pays (task.Write node write has) _ = omega arith
pays (Play write node) r =
    if_next (λ n. most n + 1 ≤ 1 + (31 - node) + 0) (nat_lt (node + 1) DEMUX_NODES) (Still (Play write (node + 1))) (Through Made)
    (λ yes. (let more : node + 1 < 32 = grind (arith, nat_tests, yes) in omega (arith, more))) (omega arith)

-- Of these replies a command uses at most so many, and fewer where it stands.
abbrev IsTight : (most : ℕ) → List Response → Doing → Type 0
IsTight most rs (stands e) = length rs < most
IsTight most rs (through ending next left) = length rs ≤ most + length left

-- of more replies, by at most as many more
looser : (m n k : ℕ) (qs rs : List Response) (d : Doing) → length rs ≡ length qs + k → m + k ≤ n → IsTight m qs d → IsTight n rs d
looser m n k qs rs (stands e) long le few = omega (arith, long, le, few)
looser m n k qs rs (through ending next left) long le few = omega (arith, long, le, few)

tight : (n : Next) (step : ℕ) (rs : List Response) → IsTight (most n + repeats_by n rs) rs (doing n step rs)
tight (Through ending) step rs = omega arith
tight (Still t) step [] = omega (arith, some_left t)
tight (Still t) step (r ∷ rs) =
    looser (most (after t r) + repeats_by (after t r) rs) (most (Still t) + (again t r + repeats_by (after t r) rs)) 1 rs (r ∷ rs) (doing (after t r) (step + 1) rs) (omega arith) (omega (arith, pays t r))
    (tight (after t r) (step + 1) rs)

on_most : (node : ℕ) (v : Verb) (has : Bool) → most (first_on node v has) ≤ 33
on_most node (Once w) has = omega arith
on_most node _ has = omega arith

first_most : (slots : Slots) (t : Target) (v : Verb) (has : Bool) → most (first slots t v has) ≤ 33
first_most slots t v has = any_first (λ n. most n ≤ 33) slots t v has (λ node le. on_most node v has) (λ slot lt. omega arith) (omega arith)

done_tight : (n : Next) (step : ℕ) (rs : List Response) → most n ≤ 33 → IsTight (33 + repeats_by n rs) rs (doing n step rs)
done_tight n step rs le = looser (most n + repeats_by n rs) (33 + repeats_by n rs) 0 rs rs (doing n step rs) (omega arith) (omega (arith, le)) (tight n step rs)

-- ------ all commands

-- After n replies, which allow m repeats; where Again allows one more, the client stays on its node, if it stands at all.
record Tight (commands n m more : ℕ) (s : Standing) (now : Option Standing) : Type 0 where
  few : n < 33 * commands + m
  stays : m < more → (t : Standing) → now ≡ Some t → t.event.node ≡ s.event.node

all_tight : (slots : Slots) (step : ℕ) (cs : List ClientCommand) (rs : List Response) (s : Standing) → (progress_from slots step cs rs).standing ≡ Some s
    → Tight (length cs) (length rs) (repeats_from slots step cs rs) (repeats_from slots step cs (rs ++ goes ∷ [])) s (progress_from slots step cs (rs ++ goes ∷ [])).standing
all_tight slots step [] rs s is = absurd (none-some s is)
all_tight slots step (c ∷ cs) rs s is =
    go (λ ending next left there. all_tight (slots_after ending slots) next cs left s there) (done slots c.target c.verb c.has_batch step rs) (done slots c.target c.verb c.has_batch step (rs ++ goes ∷ []))
    (repeats_by (first slots c.target c.verb c.has_batch) rs) (repeats_by (first slots c.target c.verb c.has_batch) (rs ++ goes ∷ []))
    (done_tight (first slots c.target c.verb c.has_batch) step rs (first_most slots c.target c.verb c.has_batch)) (doing_more (first slots c.target c.verb c.has_batch) step rs goes) is where
      go : ((ending : Ending) (next : ℕ) (left : List Response) → (progress_from (slots_after ending slots) next cs left).standing ≡ Some s
          → Tight (length cs) (length left) (repeats_from (slots_after ending slots) next cs left) (repeats_from (slots_after ending slots) next cs (left ++ goes ∷ [])) s (progress_from (slots_after ending slots) next cs (left ++ goes ∷ [])).standing)
          → (d f : Doing) (m n : ℕ) → IsTight (33 + m) rs d → Onward step goes m n d f → (ahead c.line step slots cs d).standing ≡ Some s
          → Tight (length (c ∷ cs)) (length rs) (m + rest_of slots cs d) (n + rest_of slots cs f) s (ahead c.line step slots cs f).standing
      go deeper (stands e) (stands f) m n tight on there =
          let same : e ≡ s.event = ap (λ t. t.event) (same_some {A = Standing} (record { line = c.line; from = step; event = e }) s there) in
          record {
            few = omega (arith, tight);
            stays = λ grows t is. sym (ap (λ x. x.event.node) (same_some {A = Standing} (record { line = c.line; from = step; event = f }) t is)) ∙ on.3 (omega (arith, grows)) ∙ ap (λ x. x.node) same;
          }
      go deeper (stands e) (through ending next left) m n tight on there =
          let nil : repeats_from (slots_after ending slots) next cs left ≡ 0 = ap (λ l. repeats_from (slots_after ending slots) next cs l) on.0 ∙ repeats_none (slots_after ending slots) next cs in
          record { few = omega (arith, tight); stays = λ grows t is. absurd (omega (arith, grows, on.1, nil)) }
      go deeper (through ending next left) f m n tight on there =
          let later = deeper ending next left there in
          let kept : rest_of slots cs f ≡ repeats_from (slots_after ending slots) next cs (left ++ goes ∷ []) = ap (λ x. rest_of slots cs x) on.0 in
          let stood : (ahead c.line step slots cs f).standing ≡ (progress_from (slots_after ending slots) next cs (left ++ goes ∷ [])).standing = ap (λ x. (ahead c.line step slots cs x).standing) on.0 in
          record {
            few = omega (arith, tight, later.few);
            stays = λ grows t is. later.stays (omega (arith, grows, on.1, kept)) t (sym stood ∙ is);
          }

pub first_calls : (client : ℕ) (script : Scripted) (replies : List Response) (s : Standing) → (progress client script replies).standing ≡ Some s
    → length replies < 33 * length (commands_of client script) + repeats client script replies
unfolding progress repeats
first_calls client script replies s is = (all_tight no_slots 0 (commands_of client script) replies s is).few

pub stays_on : (client : ℕ) (script : Scripted) (replies : List Response) (s : Standing) → (progress client script replies).standing ≡ Some s
    → repeats client script replies < repeats client script (replies ++ Again false ∷ []) → (t : Standing) → (progress client script (replies ++ Again false ∷ [])).standing ≡ Some t
    → t.event.node ≡ s.event.node
unfolding progress repeats
stays_on client script replies s is grows t now = (all_tight no_slots 0 (commands_of client script) replies s is).stays grows t now

-- the law of the budget: of the replies taken
pub few : CallsAreFew
few client script replies s is = let one = first_calls client script replies s is in omega (arith, one)
