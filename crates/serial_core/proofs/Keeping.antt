-- What each step of a serial run keeps, the whole run keeps.
use Rattle.serial_core.proofs.Imports.{◌≡◌, ◌≢◌, ◌⊎◌, inl, inr, refl, sym, ap, subst, ◌∙◌, ℕ, zero, suc, ◌+◌, ◌/◌, ◌%◌, ◌==◌, ◌<◌, ◌≤◌, Bool, true, false, nat_lt, nat_eq, List, [], ◌∷◌, ◌++◌, append-nil, Some, None, length, drop, fold, replicate, min, zero-add, arith, length-drop, if◌then◌else◌, sum, is_some, slice_index_or, nat_tests, sum_by-append, sum_by-cons, sum_by-replicate, div-add-mod', All, All-head, All-tail, clients_of, clients_in, Scripted, Line, Feed, Tick, Command, Target, Verb, get_or-set_other, Event, plays_of, progress, next_event, next_of_line, waits_on, ended_waits_not, before_first, none-some, clients_within, IsBegun, no_call, one_call, AreBegun, IsOnTheWay, IsMoment, Run, begun, fed_to_all, passed, batch_sizes, all_passed, ended, fed, turned, ticked, replies_of, reply_to, called, after_waiting, IsWorked, through, calls, AreDone, IsSerialRun}
use Rattle.dmx_calls.specs.Invocation as call
use Rattle.serial_core.proofs.Replies.{index_set, next_at_line, none_said}

-- ------ sizes

tail_sum : (over : ℕ) → sum (if over == 0 then [] else over ∷ []) ≡ over
tail_sum zero = refl
tail_sum (suc n) = let some : (suc n == 0) ≡ false = grind (arith, nat_tests) in rw some (zero-add (suc n))

-- together they are as many packets as pass
pub sizes_sum : (batch count : ℕ) → sum (batch_sizes batch count) ≡ count
sizes_sum batch count =
    sum_by-append (λ n. n) (replicate (count / batch) batch) (if count % batch == 0 then [] else count % batch ∷ [])
    ∙ rw (sum_by-replicate (λ n. n) (count / batch) batch, tail_sum (count % batch)) (div-add-mod' count batch)

-- where a batch has at least one packet, so has this one, and it is no larger
abbrev pub IsFit : (batch size : ℕ) → Type 0
IsFit batch size = 1 ≤ batch → (1 ≤ size) × (size ≤ batch)

abbrev AreFit : (batch : ℕ) → List ℕ → Type 0
AreFit batch [] = Unit {0}
AreFit batch (size ∷ sizes) = IsFit batch size × AreFit batch sizes

tail_fit : (batch over : ℕ) → (1 ≤ batch → over ≤ batch) → AreFit batch (if over == 0 then [] else over ∷ [])
tail_fit batch zero le = tt
tail_fit batch (suc n) le = let some : (suc n == 0) ≡ false = grind (arith, nat_tests) in rw some (λ one. (omega arith, le one), tt)

before_fit : (k batch : ℕ) (sizes : List ℕ) → AreFit batch sizes → AreFit batch (replicate k batch ++ sizes)
before_fit zero batch sizes fit = fit
before_fit (suc k) batch sizes fit = (λ one. (one, omega arith), before_fit k batch sizes fit)

sizes_fit : (batch count : ℕ) → AreFit batch (batch_sizes batch count)
sizes_fit batch count = before_fit (count / batch) batch (if count % batch == 0 then [] else count % batch ∷ []) (tail_fit batch (count % batch) (λ one. omega (arith, one)))

left_sizes : (sizes : List ℕ) (r : Run) → sum sizes ≤ length r.left → length (fold passed r sizes).left + sum sizes ≡ length r.left
left_sizes [] r le = omega arith
left_sizes (size ∷ sizes) r le =
    let split : sum (size ∷ sizes) ≡ size + sum sizes = sum_by-cons (λ n. n) size sizes in
    let fits : sum sizes ≤ length (drop size r.left) = omega (arith, le, split, length-drop size r.left) in
    omega (arith, left_sizes sizes (passed r size) fits, split, le, length-drop size r.left)

-- all packets that are left pass
pub none_left : (batch : ℕ) (r : Run) → length (all_passed batch (length r.left) r).left ≡ 0
none_left batch r = omega (arith, left_sizes (batch_sizes batch (length r.left)) r (omega (arith, sizes_sum batch (length r.left))), sizes_sum batch (length r.left))

-- ------ the feeder

-- what the feeder's calls keep
pub record IsFedOn (batch : ℕ) (P : Run → Type 0) : Type 0 where
  pub passes : (r : Run) (size : ℕ) → IsFit batch size → size ≤ length r.left → P r → P (passed r size)
  pub ends : (r : Run) → length r.left ≡ 0 → r.has_ended ≡ false → P r → P (record (fed_to_all call.End r) { has_ended = true })

module _ (batch : ℕ) (P : Run → Type 0) (keeps : IsFedOn batch P) where
  pub kept_ended : (r : Run) → length r.left ≡ 0 → P r → P (ended r)
  kept_ended r none p = go r.has_ended refl where
    go : (b : Bool) → r.has_ended ≡ b → P (ended r)
    go true is = subst (λ b. P (if b then r else record (fed_to_all call.End r) { has_ended = true })) (sym is) p
    go false is = subst (λ b. P (if b then r else record (fed_to_all call.End r) { has_ended = true })) (sym is) (keeps.ends r none is p)

  kept_sizes : (sizes : List ℕ) (r : Run) → AreFit batch sizes → sum sizes ≤ length r.left → P r → P (fold passed r sizes)
  kept_sizes [] r fit le p = p
  kept_sizes (size ∷ sizes) r fit le p =
      let split : sum (size ∷ sizes) ≡ size + sum sizes = sum_by-cons (λ n. n) size sizes in
      kept_sizes sizes (passed r size) fit.1 (omega (arith, le, split, length-drop size r.left)) (keeps.passes r size fit.0 (omega (arith, le, split)) p)

  kept_all : (count : ℕ) (r : Run) → count ≤ length r.left → P r → P (all_passed batch count r)
  kept_all count r le p = kept_sizes (batch_sizes batch count) r (sizes_fit batch count) (omega (arith, le, sizes_sum batch count)) p

  pub kept_fed : (count : ℕ) (r : Run) → P r → P (fed batch count r)
  kept_fed count r p = go (nat_lt (length r.left) count) refl where
    go : (b : Bool) → nat_lt (length r.left) count ≡ b → P (if b then ended (all_passed batch (length r.left) r) else all_passed batch count r)
    go true is = kept_ended (all_passed batch (length r.left) r) (none_left batch r) (kept_all (length r.left) r (omega arith) p)
    go false is = kept_all count r (grind (arith, nat_tests, is)) p

  pub kept_turned : (r : Run) → P r → P (turned batch r)
  kept_turned r p = go (nat_eq (length r.left) 0) refl where
    go : (b : Bool) → nat_eq (length r.left) 0 ≡ b → P (if b then ended r else passed r (min batch (length r.left)))
    go true is = kept_ended r (grind (arith, nat_tests, is)) p
    go false is =
        let some : 1 ≤ length r.left = grind (arith, nat_tests, is) in
        keeps.passes r (min batch (length r.left)) (λ one. (omega (arith, one, some), omega arith)) (omega arith) p

  pub kept_finished : (r : Run) → P r → P (ended (all_passed batch (length r.left) r))
  kept_finished r p = kept_ended (all_passed batch (length r.left) r) (none_left batch r) (kept_all (length r.left) r (omega arith) p)

-- the replies of the clients
same_replies : (batch : ℕ) (r : Run) → IsFedOn batch (λ s. s.replies ≡ r.replies)
same_replies batch r = record { passes = λ s size fit le p. p; ends = λ s none unended p. p }

pub fed_replies : (batch count : ℕ) (r : Run) → (fed batch count r).replies ≡ r.replies
fed_replies batch count r = kept_fed batch (λ s. s.replies ≡ r.replies) (same_replies batch r) count r refl

pub finished_replies : (batch : ℕ) (r : Run) → (ended (all_passed batch (length r.left) r)).replies ≡ r.replies
finished_replies batch r = kept_finished batch (λ s. s.replies ≡ r.replies) (same_replies batch r) r refl

pub waiting_replies : (script : Scripted) (batch client : ℕ) (r : Run) → (after_waiting script batch client r).replies ≡ r.replies
waiting_replies script batch client r = go (is_some (waits_on client script (replies_of client r))) where
  go : (w : Bool) → (if w then turned batch r else r).replies ≡ r.replies
  go true = kept_turned batch (λ s. s.replies ≡ r.replies) (same_replies batch r) r refl
  go false = refl

-- ------ the run

-- the clients that lines name are below this number
abbrev pub AreBelow : (clients : ℕ) → List Line → Type 0
AreBelow clients [] = Unit {0}
AreBelow clients (Command line client target verb ∷ lines) = (client < clients) × AreBelow clients lines
AreBelow clients (Feed n ∷ lines) = AreBelow clients lines
AreBelow clients (Tick n ∷ lines) = AreBelow clients lines

below_all : (clients : ℕ) (lines : List Line) → All (λ line. clients_of line ≤ clients) lines → AreBelow clients lines
below_all clients [] all = tt
below_all clients (Feed n ∷ lines) all = below_all clients lines (All-tail (λ l. clients_of l ≤ clients) (Feed n) lines all)
below_all clients (Tick n ∷ lines) all = below_all clients lines (All-tail (λ l. clients_of l ≤ clients) (Tick n) lines all)
below_all clients (Command line client target verb ∷ lines) all =
    (omega (arith, All-head (λ l. clients_of l ≤ clients) (Command line client target verb) lines all), below_all clients lines (All-tail (λ l. clients_of l ≤ clients) (Command line client target verb) lines all))

pub all_below : (script : Scripted) → AreBelow (clients_in script) script.lines
all_below script = below_all (clients_in script) script.lines (clients_within script)

-- ------ who waits

module _ (script : Scripted) (batch : ℕ) where
  -- no client waits
  abbrev pub NoneWaits : Run → Type 0
  NoneWaits r = (client : ℕ) → waits_on client script (replies_of client r) ≡ None

  -- no client waits but this one
  abbrev pub OnlyWaits : (client : ℕ) → Run → Type 0
  OnlyWaits client r = (other : ℕ) → other ≢ client → waits_on other script (replies_of other r) ≡ None

  same_waits : (r s : Run) → s.replies ≡ r.replies → NoneWaits r → NoneWaits s
  same_waits r s same none client = ap (λ rs. waits_on client script (slice_index_or rs client [])) same ∙ none client

  waited_only : (client : ℕ) (r : Run) → OnlyWaits client r → OnlyWaits client (after_waiting script batch client r)
  waited_only client r only other ne = ap (λ rs. waits_on other script (slice_index_or rs other [])) (waiting_replies script batch client r) ∙ only other ne

  -- a client's call leaves the others' replies
  called_only : (client : ℕ) (e : Event) (r : Run) → OnlyWaits client r → OnlyWaits client (called client (plays_of client script) e r)
  called_only client e r only other ne =
      ap (λ rs. waits_on other script rs) (get_or-set_other r.replies client other (replies_of client r ++ reply_to client (plays_of client script) e r ∷ []) [] ne) ∙ only other ne

  -- where the command of this line is through, the client doesn't wait
  abbrev WaitsIn : (client line : ℕ) → Run → Type 0
  WaitsIn client line r = next_of_line client script line (replies_of client r) ≡ None → waits_on client script (replies_of client r) ≡ None

  called_in : (client line : ℕ) (e : Event) (r : Run) → next_of_line client script line (replies_of client r) ≡ Some e → WaitsIn client line (called client (plays_of client script) e r)
  called_in client line e r is none = go (index_set r.replies client client (replies_of client r ++ reply_to client (plays_of client script) e r ∷ [])) where
    go : (replies_of client (called client (plays_of client script) e r) ≡ replies_of client r) ⊎ (client ≡ client) × (replies_of client (called client (plays_of client script) e r) ≡ replies_of client r ++ reply_to client (plays_of client script) e r ∷ [])
        → waits_on client script (replies_of client (called client (plays_of client script) e r)) ≡ None
    go (inl same) = absurd (none-some e (sym none ∙ ap (λ rs. next_of_line client script line rs) same ∙ is))
    go (inr mine) =
        ap (λ rs. waits_on client script rs) mine.1
        ∙ ended_waits_not client script line (replies_of client r) (reply_to client (plays_of client script) e r) e is (sym (ap (λ rs. next_of_line client script line rs) mine.1) ∙ none)

  none_waits : (client : ℕ) (r : Run) → OnlyWaits client r → waits_on client script (replies_of client r) ≡ None → NoneWaits r
  none_waits client r only none other = go (nat_eq other client) refl where
    go : (b : Bool) → nat_eq other client ≡ b → waits_on other script (replies_of other r) ≡ None
    go true yea = let same : other ≡ client = grind (arith, nat_tests, yea) in subst (λ c. waits_on c script (replies_of c r) ≡ None) (sym same) none
    go false nay = only other (λ same. grind (arith, nat_tests, nay, same))

  begun_waits : (packets : List (List ℕ)) → NoneWaits (begun packets)
  begun_waits packets client = ap (λ rs. waits_on client script rs) (none_said 8 client) ∙ sym (before_first (progress client script []).standing)

-- ------ steps

-- what each step of the run keeps; a client's call, as the turn before it where the client waits, keeps it
pub record IsKept (script : Scripted) (batch clients : ℕ) (P : Run → Type 0) : Type 0 where
  pub feeds : IsFedOn batch P
  pub ticks : (r : Run) (time : ℕ) → P r → P (ticked time r)
  pub calls : (r : Run) (client : ℕ) (e : Event) → client < clients → next_event client script (replies_of client (after_waiting script batch client r)) ≡ Some e
      → OnlyWaits script batch client (after_waiting script batch client r) → P r → P (after_waiting script batch client r) → P (called client (plays_of client script) e (after_waiting script batch client r))

module _ (script : Scripted) (batch clients : ℕ) (P : Run → Type 0) (keeps : IsKept script batch clients P) where
  kept_waited : (client : ℕ) (r : Run) → P r → P (after_waiting script batch client r)
  kept_waited client r p = go (is_some (waits_on client script (replies_of client r))) where
    go : (w : Bool) → P (if w then turned batch r else r)
    go true = kept_turned batch P keeps.feeds r p
    go false = p

  -- what holds while a client's command is done
  record IsAtWork (client : ℕ) (r : Run) : Type 0 where
    kept : P r
    only : OnlyWaits script batch client r

  work_called : (client line : ℕ) (r : Run) (e : Event) → client < clients → next_of_line client script line (replies_of client r) ≡ Some e → IsAtWork client r
      → IsAtWork client (called client (plays_of client script) e (after_waiting script batch client r)) × WaitsIn script batch client line (called client (plays_of client script) e (after_waiting script batch client r))
  work_called client line r e lt is w =
      let x : Run = after_waiting script batch client r in
      let same : replies_of client x ≡ replies_of client r = ap (λ rs. slice_index_or rs client []) (waiting_replies script batch client r) in
      let only : OnlyWaits script batch client x = waited_only script batch client r w.only in (
        record {
          kept = keeps.calls r client e lt (ap (λ rs. next_event client script rs) same ∙ next_at_line client script line (replies_of client r) e is) only w.kept (kept_waited client r w.kept);
          only = called_only script batch client e x only;
        },
        called_in script batch client line e x (ap (λ rs. next_of_line client script line rs) same ∙ is),
      )

  kept_worked : (client line : ℕ) (r s : Run) → client < clients → IsWorked script batch client line r s → IsAtWork client r → WaitsIn script batch client line r → P s × NoneWaits script batch s
  kept_worked client line r s lt (through _ none) w waits = (w.kept, none_waits script batch client r w.only (waits none))
  kept_worked client line r s lt (calls _ _ e is more) w waits = let k = work_called client line r e lt is w in kept_worked client line _ s lt more k.0 k.1

  kept_done : (more : List Line) (r t : Run) → AreBelow clients more → AreDone script batch more r t → P r → NoneWaits script batch r → P t × NoneWaits script batch t
  kept_done [] r t below same p none = subst (λ s. P s × NoneWaits script batch s) (sym same) (p, none)
  kept_done (Feed count ∷ more) r t below d p none =
      kept_done more (fed batch count r) t below d (kept_fed batch P keeps.feeds count r p) (same_waits script batch r (fed batch count r) (fed_replies batch count r) none)
  kept_done (Tick time ∷ more) r t below d p none = kept_done more (ticked time r) t below d (keeps.ticks r time p) none
  kept_done (Command line client target verb ∷ more) r t below d p none =
      let k = kept_worked client line r d.0 below.0 d.1 (record { kept = p; only = λ other ne. none other }) (λ through. none client) in
      kept_done more d.0 t below.1 d.2 k.0 k.1

  kept_begun : (client line : ℕ) (r s : Run) → client < clients → IsBegun script batch client line r s → IsAtWork client r → P s
  kept_begun client line r s lt (no_call _) w = w.kept
  kept_begun client line r s lt (one_call _ _ e is more) w = kept_begun client line _ s lt more (work_called client line r e lt is w).0

  kept_line : (more : List Line) (r s : Run) → AreBelow clients more → AreBegun script batch more r s → P r → NoneWaits script batch r → P s
  kept_line [] r s below same p none = subst P (sym same) p
  kept_line (Feed count ∷ more) r s below same p none = subst P (sym same) p
  kept_line (Tick time ∷ more) r s below same p none = subst P (sym same) p
  kept_line (Command line client target verb ∷ more) r s below w p none = kept_begun client line r s below.0 w (record { kept = p; only = λ other ne. none other })

  both_below : (before more : List Line) → AreBelow clients (before ++ more) → AreBelow clients before × AreBelow clients more
  both_below [] more below = (tt, below)
  both_below (Feed count ∷ before) more below = both_below before more below
  both_below (Tick time ∷ before) more below = both_below before more below
  both_below (Command line client target verb ∷ before) more below = let k = both_below before more below.1 in ((below.0, k.0), k.1)

  pub kept_moment : (packets : List (List ℕ)) (s : Run) → AreBelow clients script.lines → IsMoment script batch packets s → P (begun packets) → P s
  kept_moment packets s below (before, more, whole, r, d, w) p =
      let k = both_below before more (subst (AreBelow clients) (sym whole) below) in
      let done = kept_done before (begun packets) r k.0 d p (begun_waits script batch packets) in
      kept_line more r s k.1 w done.0 done.1

  pub kept : (packets : List (List ℕ)) (t : Run) → AreBelow clients script.lines → IsSerialRun script batch packets t → P (begun packets) → P t
  kept packets t below is p =
      subst P (sym is.2) (kept_finished batch P keeps.feeds is.0 (kept_moment packets is.0 below (script.lines, [], append-nil script.lines, is.0, is.1, refl) p))

-- ------ the way through lines

module _ (script : Scripted) (batch : ℕ) where
  abbrev Way : List Line → Run → Run → Type 0
  Way = IsOnTheWay script batch

  pub way_fed : (count : ℕ) (more : List Line) (r s : Run) → Way more (fed batch count r) s → Way (Feed count ∷ more) r s
  way_fed count more r s (before, behind, whole, x, done, begun) = (Feed count ∷ before, behind, ap (λ ls. Feed count ∷ ls) whole, x, done, begun)

  pub way_ticked : (time : ℕ) (more : List Line) (r s : Run) → Way more (ticked time r) s → Way (Tick time ∷ more) r s
  way_ticked time more r s (before, behind, whole, x, done, begun) = (Tick time ∷ before, behind, ap (λ ls. Tick time ∷ ls) whole, x, done, begun)

  pub way_worked : (line client : ℕ) (target : Target) (verb : Verb) (more : List Line) (r m s : Run) → IsWorked script batch client line r m → Way more m s → Way (Command line client target verb ∷ more) r s
  way_worked line client target verb more r m s w (before, behind, whole, x, done, begun) =
      (Command line client target verb ∷ before, behind, ap (λ ls. Command line client target verb ∷ ls) whole, x, (m, w, done), begun)

  pub way_begun : (line client : ℕ) (target : Target) (verb : Verb) (more : List Line) (r s : Run) → IsBegun script batch client line r s → Way (Command line client target verb ∷ more) r s
  way_begun line client target verb more r s begun = ([], Command line client target verb ∷ more, refl, r, refl, begun)

  -- one call more
  pub begun_on : (client line : ℕ) (r s : Run) (e : Event) → IsBegun script batch client line r s → next_of_line client script line (replies_of client s) ≡ Some e
      → IsBegun script batch client line r (called client (plays_of client script) e (after_waiting script batch client s))
  begun_on client line r s e (no_call _) is = one_call r _ e is (no_call _)
  begun_on client line r s e (one_call _ _ x at more) is = one_call r _ x at (begun_on client line _ s e more is)
