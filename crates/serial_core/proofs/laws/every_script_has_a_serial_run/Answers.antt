-- A script and a stream have a serial run: within the budget of its client each command ends.
use Rattle.serial_core.proofs.laws.every_script_has_a_serial_run.Goals as goal
use Rattle.serial_core.proofs.Imports.{◌≡◌, refl, ap, ◌∙◌, ℕ, zero, suc, ◌+◌, ◌-◌, ◌*◌, ◌<◌, ◌≤◌, List, [], ◌∷◌, ◌++◌, Option, Some, None, length, arith, length-append, slice_index_or, All, length-set, get_or-set_same, All-head, All-tail, IsPacket, IsInRange, clients_in, Scripted, Line, Feed, Tick, Command, Event, commands_of, plays_of, next_of_line, most_calls, total, plays_by, Run, begun, fed, ticked, replies_of, reply_to, called, after_waiting, IsWorked, through, calls, AreDone, finished, IsBegun, no_call, one_call, IsOnTheWay, IsMoment, HaveSerialRuns}
use Rattle.serial_core.proofs.Keeping.{fed_replies, waiting_replies, way_fed, way_ticked, way_worked, way_begun}
use Rattle.serial_core.proofs.Runs.{moments_bounded}

module _ (script : Scripted) (batch : ℕ) (packets : List (List ℕ)) (ranges : All IsInRange script.lines) (are : All IsPacket packets) (one : 1 ≤ batch) where
  -- the most calls of a client
  abbrev most : (client : ℕ) → ℕ
  most client = most_calls (length (commands_of client script)) (188 * (length packets + total (plays_by script script.lines) (clients_in script)))

  calls_most : (client : ℕ) (r : Run) → IsMoment script batch packets r → length (replies_of client r) ≤ most client
  calls_most client r moment = moments_bounded script batch packets r ranges one are moment client

  -- a call leaves eight clients, and gives the caller one reply
  call_clients : (client : ℕ) (e : Event) (r : Run) → length r.replies ≡ 8 → length (called client (plays_of client script) e (after_waiting script batch client r)).replies ≡ 8
  call_clients client e r eight =
      let w : Run = after_waiting script batch client r in
      length-set w.replies client (replies_of client w ++ reply_to client (plays_of client script) e w ∷ []) ∙ ap length (waiting_replies script batch client r) ∙ eight

  call_replies : (client : ℕ) (e : Event) (r : Run) → client < 8 → length r.replies ≡ 8 → length (replies_of client (called client (plays_of client script) e (after_waiting script batch client r))) ≡ length (replies_of client r) + 1
  call_replies client e r lt eight =
      let w : Run = after_waiting script batch client r in
      let same : w.replies ≡ r.replies = waiting_replies script batch client r in
      let there : client < length w.replies = omega (arith, lt, ap length same, eight) in
      ap length (get_or-set_same w.replies client (replies_of client w ++ reply_to client (plays_of client script) e w ∷ []) [] there) ∙ length-append (replies_of client w) (reply_to client (plays_of client script) e w ∷ [])
      ∙ ap (λ rs. length (slice_index_or rs client []) + 1) same

  command_ends : (fuel client line : ℕ) (r : Run) → client < 8 → length r.replies ≡ 8 → ((s : Run) → IsBegun script batch client line r s → IsMoment script batch packets s)
      → length (replies_of client r) + fuel ≡ most client + 1 → (s : Run) × IsWorked script batch client line r s
  command_ends zero client line r lt eight moment is = absurd (omega (arith, is, calls_most client r (moment r (no_call r))))
  command_ends (suc fuel) client line r lt eight moment is =
      go (λ e at. command_ends fuel client line (called client (plays_of client script) e (after_waiting script batch client r)) lt (call_clients client e r eight) (λ s begun. moment s (one_call r s e at begun))
      (omega (arith, is, call_replies client e r lt eight))) (next_of_line client script line (replies_of client r)) refl where
        go : ((e : Event) → next_of_line client script line (replies_of client r) ≡ Some e → (s : Run) × IsWorked script batch client line (called client (plays_of client script) e (after_waiting script batch client r)) s)
            → (o : Option Event) → next_of_line client script line (replies_of client r) ≡ o → (s : Run) × IsWorked script batch client line r s
        go deeper None none = (r, through r none)
        go deeper (Some e) some = let later = deeper e some in (later.0, calls r later.0 e some later.1)

  worked_clients : (client line : ℕ) (r s : Run) → IsWorked script batch client line r s → length r.replies ≡ 8 → length s.replies ≡ 8
  worked_clients client line r s (through _ none) eight = eight
  worked_clients client line r s (calls _ _ e at w) eight = worked_clients client line _ s w (call_clients client e r eight)

  lines_end : (more : List Line) (r : Run) → All IsInRange more → length r.replies ≡ 8 → ((s : Run) → IsOnTheWay script batch more r s → IsMoment script batch packets s) → (t : Run) × AreDone script batch more r t
  lines_end [] r fit eight moment = (r, refl)
  lines_end (Feed count ∷ more) r fit eight moment =
      lines_end more (fed batch count r) (All-tail IsInRange (Feed count) more fit) (ap length (fed_replies batch count r) ∙ eight) (λ s way. moment s (way_fed script batch count more r s way))
  lines_end (Tick time ∷ more) r fit eight moment = lines_end more (ticked time r) (All-tail IsInRange (Tick time) more fit) eight (λ s way. moment s (way_ticked script batch time more r s way))
  lines_end (Command line client target verb ∷ more) r fit eight moment =
      let lt : client < 8 = omega (arith, (All-head IsInRange (Command line client target verb) more fit).2) in
      let begun : (s : Run) → IsBegun script batch client line r s → IsMoment script batch packets s = λ s b. moment s (way_begun script batch line client target verb more r s b) in
      let within : length (replies_of client r) ≤ most client = calls_most client r (begun r (no_call r)) in
      let done = command_ends (most client + 1 - length (replies_of client r)) client line r lt eight begun (omega (arith, within)) in
      let later = lines_end more done.0 (All-tail IsInRange (Command line client target verb) more fit) (worked_clients client line r done.0 done.1 eight)
      (λ s way. moment s (way_worked script batch line client target verb more r done.0 s done.1 way)) in
      (later.0, (done.0, done.1, later.1))

pub have_runs : HaveSerialRuns
have_runs script batch packets ranges are one =
    let end = lines_end script batch packets ranges are one script.lines (begun packets) ranges refl (λ s way. way) in
    (finished batch end.0, (end.0, end.1, refl))

pub returns : goal.returns
returns c = have_runs
