-- What a line does to the run, and lines one after another.
use Rattle.serial_core.proofs.Imports.{◌^◌, ◌≡◌, ◌≢◌, refl, sym, ap, subst, ◌∙◌, ℕ, ◌+◌, ◌*◌, ◌<◌, ◌≤◌, Bool, true, false, List, [], ◌∷◌, length, drop, nat_eq, get_or, set, arith, slice_index_or, drop_all, get_or-set_same, get_or-set_other, length-set, sum_by-le, nat_tests, SourceEnd, Scripted, Line, Feed, Tick, Command, Target, Verb, Core, IsAfter, Pulling, IsDone, Runner, Run, replies_of, fed, finished, ticked, through, AreDone, IsAt, IsSound, Moves, IsDoneBy, ComesBy, ComesByCalls, Draws, AreAfter, calls_by, AreInBudget, ComesByLines, IsLineBy, IsFrontBy, IsWholeBy, OverrunsBy, AllOverrunBy, draws_none, IsOnTheWay}
use Rattle.serial_core.proofs.Keeping.{fed_replies, finished_replies, way_fed, way_ticked, way_worked, way_begun}

-- ------ a feed

after_same : (script : Scripted) (r s : Run) (cores : List Core) → s.replies ≡ r.replies → AreAfter script r cores → AreAfter script s cores
after_same script r s cores same after c d lt = subst (λ rs. IsAfter c script (slice_index_or rs c []) (slice_index_or cores c d)) (sym same) (after c d lt)

pub feed_done : (batch count : ℕ) (cores : List Core) (r s : Run) → s ≡ fed batch count r → IsLineBy batch (Feed count) cores cores r s
feed_done batch count cores r s is script rest clients after =
    subst (λ x. ComesByLines script batch rest (Feed count ∷ rest) r x cores) (sym is) record {
      clients = ap length (fed_replies batch count r) ∙ clients;
      after = after_same script r (fed batch count r) cores (fed_replies batch count r) after;
      way = way_fed script batch count rest r;
      done = λ t d. d;
    }

-- ------ a tick

pub tick_done : (batch time : ℕ) (cores : List Core) (r : Run) → IsLineBy batch (Tick time) cores cores r (ticked time r)
tick_done batch time cores r script rest clients after = record {
  clients = clients;
  after = after;
  way = way_ticked script batch time rest r;
  done = λ t d. d;
}

pub moves_ticked : (x : SourceEnd) (time : ℕ) (old new : Runner) (goes : Run → Run → Type 0) → IsSound new → new.puller ≡ old.puller
    → ((r : Run) → IsAt old r → IsAt new (ticked time r)) → ((r : Run) → goes r (ticked time r)) → Moves x x old new goes
moves_ticked x time old new goes sound same at says = record {
  packets = [];
  draws = subst (λ (p : Pulling). Draws x x old.puller p []) (sym same) (draws_none x old.puller);
  at = λ ahead taken given later r pulls stops here left. (ticked time r, says r, at r here, left);
  done = λ ahead taken given pulls done. (subst (λ (p : Pulling). IsDone p) (sym same) done, refl);
  sound = sound;
}

-- ------ a command

pub command_done : (batch line client : ℕ) (target : Target) (verb : Verb) (cores : List Core) (core next : Core) (r s : Run) → client < length cores → core ≡ get_or cores client core
    → IsDoneBy batch client line core next r s → IsLineBy batch (Command line client target verb) cores (set cores client next) r s
command_done batch line client target verb cores core next r s there is done script rest clients after =
    let own : IsAfter client script (replies_of client r) core = subst (λ c. IsAfter client script (replies_of client r) c) (sym is) (after client core there) in
    let k = done script clients own in
    record {
      clients = k.0.clients;
      after = λ c d lt. go script clients after own k.0 c d lt (nat_eq c client) refl;
      way = λ t w. way_worked script batch line client target verb rest r s t (k.0.worked s (through s k.1)) w;
      done = λ t d. (s, k.0.worked s (through s k.1), d);
    } where
      go : (script : Scripted) → length r.replies ≡ 8 → AreAfter script r cores → IsAfter client script (replies_of client r) core
          → ComesByCalls script batch client line r s next
          → (c : ℕ) (d : Core) → c < length (set cores client next) → (b : Bool) → nat_eq c client ≡ b → IsAfter c script (replies_of c s) (slice_index_or (set cores client next) c d)
      go script clients after own come c d lt true is_client =
          let same : c ≡ client = grind (arith, nat_tests) in
          subst (λ i. IsAfter i script (replies_of i s) (slice_index_or (set cores client next) i d)) (sym same)
          (subst (λ x. IsAfter client script (replies_of client s) x) (sym (get_or-set_same cores client next d there)) come.after)
      go script clients after own come c d lt false other =
          let ne : c ≢ client = λ same. absurd (let t : nat_eq c client ≡ true = grind (arith, nat_tests) in let e : true ≡ false = sym t ∙ other in cc) in
          let long : c < length cores = omega (arith, lt, length-set cores client next) in
          subst (λ rs. IsAfter c script rs (slice_index_or (set cores client next) c d)) (sym (come.others c ne))
          (subst (λ x. IsAfter c script (replies_of c r) x) (sym (get_or-set_other cores client c next d ne)) (after c d long))

pub overruns : (batch line client : ℕ) (target : Target) (verb : Verb) (cores : List Core) (core next : Core) (r s : Run) → client < length cores → core ≡ get_or cores client core
    → 2 ^ 39 ≤ next.step → ComesBy batch client line core next r s → OverrunsBy batch (Command line client target verb) cores r s
overruns batch line client target verb cores core next r s there is many come script rest clients after =
    let own : IsAfter client script (replies_of client r) core = subst (λ c. IsAfter client script (replies_of client r) c) (sym is) (after client core there) in
    let k = come script clients own in
    record { client = client; calls = omega (arith, many, k.after.steps); way = way_begun script batch line client target verb rest r s k.begun }

-- ------ numbers

pub calls_few : (cores : List Core) (client : ℕ) (core : Core) → client < length cores → length cores ≤ 8 → AreInBudget cores → core ≡ get_or cores client core
    → calls_by cores ≤ core.step + 2 ^ 42
calls_few cores client core there few calls is = let all : calls_by cores ≤ length cores * 2 ^ 39 = sum_by-le (λ c. c.step) (2 ^ 39) cores calls in omega (arith, all, few)

pub calls_most : (cores : List Core) → length cores ≤ 8 → AreInBudget cores → calls_by cores ≤ 2 ^ 42
calls_most cores few calls = let all : calls_by cores ≤ length cores * 2 ^ 39 = sum_by-le (λ c. c.step) (2 ^ 39) cores calls in omega (arith, all, few)

-- ------ lines one after another

pub front_more : (batch count : ℕ) (lines rest : List Line) (line : Line) (a b c : List Core) (r s t : Run) → drop count lines ≡ line ∷ rest → drop (count + 1) lines ≡ rest
    → IsFrontBy batch lines count a b r s → IsLineBy batch line b c s t → IsFrontBy batch lines (count + 1) a c r t
front_more batch count lines rest line a b c r s t here behind front by script clients after =
    let f = front script clients after in
    let n = by script rest f.clients f.after in
    record {
      clients = n.clients;
      after = n.after;
      way = λ u w. f.way u (subst (λ ls. IsOnTheWay script batch ls s u) (sym here) (n.way u (subst (λ ls. IsOnTheWay script batch ls t u) behind w)));
      done = λ u d. f.done u (subst (λ ls. AreDone script batch ls s u) (sym here) (n.done u (subst (λ ls. AreDone script batch ls t u) behind d)));
    }

pub front_none : (batch : ℕ) (lines : List Line) (cores : List Core) (r : Run) → IsFrontBy batch lines 0 cores cores r r
front_none batch lines cores r script clients after = record { clients = clients; after = after; way = λ t w. w; done = λ t d. d }

pub front_overruns : (batch count : ℕ) (lines rest : List Line) (line : Line) (a b : List Core) (r s t : Run) → drop count lines ≡ line ∷ rest → IsFrontBy batch lines count a b r s → OverrunsBy batch line b s t
    → AllOverrunBy batch lines a r t
front_overruns batch count lines rest line a b r s t here front over script clients after =
    let f = front script clients after in
    let n = over script rest f.clients f.after in
    record { client = n.client; calls = n.calls; way = f.way t (subst (λ ls. IsOnTheWay script batch ls s t) (sym here) n.way) }

-- ------ the whole run

pub whole_by : (batch : ℕ) (lines : List Line) (a b : List Core) (r s t : Run) → IsFrontBy batch lines (length lines) a b r s → t ≡ finished batch s → IsWholeBy batch lines a b r t
whole_by batch lines a b r s t front ends script clients after =
    let f = front script clients after in
    record {
      before = s;
      done = f.done s (subst (λ ls. AreDone script batch ls s s) (sym (drop_all (length lines) lines (omega arith))) refl);
      ends = ends;
      after = subst (λ x. AreAfter script x b) (sym ends) (after_same script s (finished batch s) b (finished_replies batch s) f.after);
    }
