-- A moment of the serial run of a script is a run of it so far, so its calls are paid; the whole serial run is a run.
use Rattle.serial_core.proofs.Imports.{command_of, ◌≡◌, sym, ap, subst, ◌∙◌, ◌⊎◌, ℕ, suc, ◌+◌, ◌*◌, ◌<◌, ◌≤◌, Bool, true, false, not, List, ◌++◌, append-nil, Some, None, length, inl, inr, arith, slice_get, All, cases_lt, length-map, slice_get_within, IsPacket, rules_at, IsLegalFor, LogEntry, filled, IsInRange, AreNumbered, clients_in, Scripted, commands_of, next_event, bytes_written, most_calls, Batch, Step, feeding, replies, sources, steps_of, feeder, IsPaidBehind, IsFedSoFar, HasDoneSoFar, IsSoFar, IsOver, runs_end, are_accounted, few_in_all, by_caller, calls_of, total, calls_are_bounded, calls_are_paid, plays_by, history_of, Run, all_passed, node_at, replies_of, IsMoment, IsWithinBudget, histories_in, IsAccountedRun, SerialRunsAreRuns, refl, nat_eq, [], ◌∷◌, append_assoc, if◌then◌else◌, slice_index_or, slice_set, option_map, nat_tests, flat_map-append, Response, Line, Feed, Tick, Command, ClientCommand, Event, commands_in, commands_among, plays_of, progress_from, no_slots, next_of_line, standing_at, AreThrough, through_more, through_next, begun, fed, ticked, reply_to, called, after_waiting, IsWorked, through, calls, AreDone, finished, progress}
use Rattle.serial_core.proofs.Logs.{entries_of, entries_at, histories_get, histories_is}
use Rattle.serial_core.proofs.Sound.{IsPlaced, sound_placed, sound_filled}
use Rattle.serial_core.proofs.Making.{AreMade, IsFedBehind, IsOpenBehind}
use Rattle.serial_core.proofs.Feeding.{all_fed, passes_of, end_of}
use Rattle.serial_core.proofs.Keeping.{all_below, fed_replies, finished_replies, waiting_replies}
use Rattle.serial_core.proofs.Coming.{HasCome, ended_over, moment_come, run_come}
use Rattle.serial_core.proofs.Replies.{index_set}

-- ------ After all lines, all commands are through
-- these lines of a client are through
abbrev pub IsThrough : Scripted → (client : ℕ) → List Line → List Response → Type 0
IsThrough script client before rs = AreThrough no_slots 0 (commands_among client (plays_of client script) before) rs

-- one call more of any client
through_called : (script : Scripted) (client : ℕ) (before : List Line) (who : ℕ) (e : Event) (r : Run) → IsThrough script client before (replies_of client r) → IsThrough script client before (replies_of client (called who (plays_of who script) e r))
through_called script client before who e r is = go (index_set r.replies who client (replies_of who r ++ reply_to who (plays_of who script) e r ∷ [])) where
  go : (slice_index_or (slice_set r.replies who (replies_of who r ++ reply_to who (plays_of who script) e r ∷ [])) client [] ≡ slice_index_or r.replies client [])
      ⊎ (client ≡ who) × (slice_index_or (slice_set r.replies who (replies_of who r ++ reply_to who (plays_of who script) e r ∷ [])) client [] ≡ replies_of who r ++ reply_to who (plays_of who script) e r ∷ [])
      → IsThrough script client before (replies_of client (called who (plays_of who script) e r))
  go (inl same) = subst (λ rs. IsThrough script client before rs) (sym same) is
  go (inr mine) =
      let his : IsThrough script client before (replies_of who r) = subst (λ c. IsThrough script client before (replies_of c r)) mine.0 is in
      subst (λ rs. IsThrough script client before rs) (sym mine.1) (through_more no_slots 0 (commands_among client (plays_of client script) before) (replies_of who r) (reply_to who (plays_of who script) e r) his)

none_next : (client : ℕ) (script : Scripted) (rs : List Response) → IsThrough script client script.lines rs → next_event client script rs ≡ None
unfolding progress
none_next client script rs is = ap (λ o. option_map (λ s. s.event) o) is

-- a line that has no command of this client
no_command : (script : Scripted) (client : ℕ) (before : List Line) (line : Line) → commands_in client (plays_of client script) line ≡ [] → commands_among client (plays_of client script) (before ++ line ∷ []) ≡ commands_among client (plays_of client script) before
no_command script client before line none =
    flat_map-append (commands_in client (plays_of client script)) before (line ∷ []) ∙ ap (λ cs. commands_among client (plays_of client script) before ++ (cs ++ [])) none ∙ append-nil (commands_among client (plays_of client script) before)

-- the command of a line, if it is this client's
abbrev in_line : ClientCommand → Bool → List ClientCommand
in_line command b = if b then command ∷ [] else []

module _ (script : Scripted) (batch : ℕ) where
  through_worked : (client : ℕ) (before : List Line) (who line : ℕ) (r s : Run) → IsWorked script batch who line r s → IsThrough script client before (replies_of client r) → IsThrough script client before (replies_of client s)
  through_worked client before who line r s (through _ none) is = is
  through_worked client before who line r s (calls _ _ e at w) is =
      through_worked client before who line _ s w
      (through_called script client before who e (after_waiting script batch who r) (subst (λ rs. IsThrough script client before (slice_index_or rs client [])) (sym (waiting_replies script batch who r)) is))

  worked_none : (who line : ℕ) (r s : Run) → IsWorked script batch who line r s → next_of_line who script line (replies_of who s) ≡ None
  worked_none who line r s (through _ none) = none
  worked_none who line r s (calls _ _ e at w) = worked_none who line _ s w

  -- the command of a line is through
  command_through : (client : ℕ) (before more : List Line) (line : ℕ) (c : ClientCommand) (rs : List Response) → c.line ≡ line → commands_of client script ≡ commands_among client (plays_of client script) before ++ c ∷ commands_among client (plays_of client script) more
      → next_of_line client script line rs ≡ None → IsThrough script client before rs → AreThrough no_slots 0 (commands_among client (plays_of client script) before ++ c ∷ []) rs
  unfolding progress
  command_through client before more line c rs is whole none at =
      through_next no_slots 0 (commands_among client (plays_of client script) before) c (commands_among client (plays_of client script) more) rs at
      (subst (λ cs. standing_at c.line (progress_from no_slots 0 cs rs).standing ≡ None) whole (subst (λ l. standing_at l (progress_from no_slots 0 (commands_of client script) rs).standing ≡ None) (sym is) none))

  all_through : (before more : List Line) (r t : Run) → before ++ more ≡ script.lines → AreDone script batch more r t → ((client : ℕ) → IsThrough script client before (replies_of client r)) → (client : ℕ) → IsThrough script client script.lines (replies_of client t)
  all_through before [] r t whole same is client =
      subst (λ ls. IsThrough script client ls (replies_of client t)) (sym (append-nil before) ∙ whole) (subst (λ s. IsThrough script client before (replies_of client s)) (sym same) (is client))
  all_through before (Feed count ∷ more) r t whole d is client =
      all_through (before ++ Feed count ∷ []) more (fed batch count r) t (append_assoc before (Feed count ∷ []) more ∙ whole) d
      (λ c. subst (λ cs. AreThrough no_slots 0 cs (replies_of c (fed batch count r))) (sym (no_command script c before (Feed count) refl))
      (subst (λ rs. IsThrough script c before (slice_index_or rs c [])) (sym (fed_replies batch count r)) (is c))) client
  all_through before (Tick time ∷ more) r t whole d is client =
      all_through (before ++ Tick time ∷ []) more (ticked time r) t (append_assoc before (Tick time ∷ []) more ∙ whole) d
      (λ c. subst (λ cs. AreThrough no_slots 0 cs (replies_of c (ticked time r))) (sym (no_command script c before (Tick time) refl)) (is c)) client
  all_through before (Command line who target verb ∷ more) r t whole d is client =
      all_through (before ++ Command line who target verb ∷ []) more d.0 t (append_assoc before (Command line who target verb ∷ []) more ∙ whole) d.2 (λ c. go c (nat_eq who c) refl) client where
        go : (c : ℕ) (b : Bool) → nat_eq who c ≡ b → IsThrough script c (before ++ Command line who target verb ∷ []) (replies_of c d.0)
        go c false nay =
            subst (λ cs. AreThrough no_slots 0 cs (replies_of c d.0)) (sym (no_command script c before (Command line who target verb) (ap (in_line (command_of (plays_of c script) line target verb)) nay))) (through_worked c before who line r d.0 d.1 (is c))
        go c true yea =
            let same : who ≡ c = grind (arith, nat_tests, yea) in
            let here : commands_in c (plays_of c script) (Command line who target verb) ≡ command_of (plays_of c script) line target verb ∷ [] = ap (in_line (command_of (plays_of c script) line target verb)) yea in
            let up : commands_among c (plays_of c script) (before ++ Command line who target verb ∷ []) ≡ commands_among c (plays_of c script) before ++ command_of (plays_of c script) line target verb ∷ [] =
            flat_map-append (commands_in c (plays_of c script)) before (Command line who target verb ∷ []) ∙ ap (λ cs. commands_among c (plays_of c script) before ++ (cs ++ [])) here in
            let all : commands_of c script ≡ commands_among c (plays_of c script) before ++ command_of (plays_of c script) line target verb ∷ commands_among c (plays_of c script) more =
            ap (commands_among c (plays_of c script)) (sym whole) ∙ flat_map-append (commands_in c (plays_of c script)) before (Command line who target verb ∷ more) ∙ ap (λ cs. commands_among c (plays_of c script) before ++ (cs ++ commands_among c (plays_of c script) more)) here in
            let none : next_of_line c script line (replies_of c d.0) ≡ None = subst (λ k. next_of_line k script line (replies_of k d.0) ≡ None) same (worked_none who line r d.0 d.1) in
            subst (λ cs. AreThrough no_slots 0 cs (replies_of c d.0)) (sym up)
            (command_through c before more line (command_of (plays_of c script) line target verb) (replies_of c d.0) refl all none (through_worked c before who line r d.0 d.1 (is c)))

  -- At the end no client has a next call.
  pub none_stands : (packets : List (List ℕ)) (r : Run) → AreDone script batch script.lines (begun packets) r → (client : ℕ) → next_event client script (replies_of client (finished batch r)) ≡ None
  none_stands packets r d client =
      let same : (finished batch r).replies ≡ r.replies = finished_replies batch r in
      subst (λ rs. next_event client script (slice_index_or rs client []) ≡ None) (sym same) (none_next client script (replies_of client r) (all_through [] script.lines (begun packets) r refl d (λ c. refl) client))

module _ (script : Scripted) (batch : ℕ) (packets : List (List ℕ)) (few : clients_in script ≤ 8) (ranges : All IsInRange script.lines) (r : Run) (p : HasCome script batch packets (clients_in script) few ranges r) where
  placed : (node place : ℕ) (h : List LogEntry) (e : LogEntry) → slice_get (histories_in r) node ≡ Some h → slice_get h place ≡ Some e → IsPlaced (sources script packets) (clients_in script) node place e
  placed node place h e log is =
      let w = histories_is r node h p.nodes log in
      sound_placed (sources script packets) (clients_in script) r.has_ended node (node_at node r) (p.sound node w.0) place e (subst (λ l. slice_get l place ≡ Some e) (sym w.1) is)

  legal : (node : ℕ) (h : List LogEntry) → slice_get (histories_in r) node ≡ Some h → IsLegalFor (rules_at node) (filled (sources script packets) h)
  legal node h log =
      let w = histories_is r node h p.nodes log in
      let s = p.sound node w.0 in
      subst (λ l. IsLegalFor (rules_at node) (filled (sources script packets) l)) w.1
      (subst (IsLegalFor (rules_at node)) (sym (sound_filled (sources script packets) (clients_in script) r.has_ended node (node_at node r) s)) (subst (λ n. IsLegalFor (rules_at n) (history_of (node_at node r))) s.number s.legal))

  -- ------ the feeder

  -- what the feeder has done, and End where it is still to come
  fed_to_end : (steps : List Step) (step : ℕ) (b : Bool) → (steps ++ end_of step b) ++ end_of step (not b) ≡ steps ++ end_of step true
  fed_to_end steps step true = append-nil (steps ++ end_of step true)
  fed_to_end steps step false = ap (λ l. l ++ end_of step true) (append-nil steps)

  all_steps : (bs : List Batch) → passes_of 0 0 bs ++ end_of (length bs) true ≡ feeding 0 0 bs
  all_steps bs = let n : length bs ≡ 0 + length bs = omega arith in ap (λ k. passes_of 0 0 bs ++ end_of k true) n ∙ sym (all_fed 0 0 bs)

  fed_on : (node : ℕ) (h : List LogEntry) → slice_get (histories_in r) node ≡ Some h → steps_of 0 h ≡ passes_of 0 0 p.fed.batches ++ end_of (length p.fed.batches) r.has_ended
  fed_on node h log = let w = histories_is r node h p.nodes log in ap (steps_of 0) (sym w.1) ∙ p.fed.on_each node w.0

  fed_so_far : IsFedSoFar batch (length packets) (histories_in r)
  fed_so_far = record {
    batches = p.fed.batches;
    each_size = p.fed.each_size;
    within = omega (arith, p.fed.whole, p.first);
    on_each = λ node h log. (
      end_of (length p.fed.batches) (not r.has_ended),
      ap (λ l. l ++ end_of (length p.fed.batches) (not r.has_ended)) (fed_on node h log) ∙ fed_to_end (passes_of 0 0 p.fed.batches) (length p.fed.batches) r.has_ended ∙ all_steps p.fed.batches,
    );
  }

  -- ------ a client

  module _ (client : ℕ) (lt : client < clients_in script) where
    abbrev m : AreMade script client (λ node. entries_at node r) r.has_ended (replies_of client r)
    m = p.made client lt

    paid : (i : ℕ) (e f : LogEntry) → slice_get m.made i ≡ Some e → slice_get m.made (suc i) ≡ Some f → IsFedBehind (λ node. entries_at node r) e ⊎ (suc i ≡ length m.made) × IsOpenBehind (λ node. entries_at node r) r.has_ended e
        → IsPaidBehind feeder client (histories_in r) e
    paid i e f is next (inr (last, unended)) = absurd (omega (arith, last, slice_get_within m.made (suc i) f next))
    paid i e f is next (inl (x, there, fed)) =
        let le = m.within i e is in
        let h : slice_get (histories_in r) e.node ≡ Some (entries_at e.node r) = histories_get r e.node p.nodes le in
        let k = placed e.node (e.place + 1) (entries_at e.node r) x h there in
        (x, (entries_at e.node r, ap (slice_get (histories_in r)) k.0 ∙ h, ap (slice_get (entries_at e.node r)) k.1 ∙ there), k.0, k.1, fed)

    done : HasDoneSoFar feeder script client (histories_in r)
    done = record {
      made = m.made;
      calls = calls_of script client (histories_in r) m.made (λ node place h e log is. let k = placed node place h e log is in (k.0, k.1)) m.steps m.events
          (λ i e is. omega (arith, m.within i e is, p.nodes, length-map r.nodes entries_of))
          (λ node h log. let w = histories_is r node h p.nodes log in m.each node w.0 ∙ ap (by_caller (client + 1)) w.1);
      paid = λ i e f is next same waits. paid i e f is next (m.paid i e is waits);
    }

  -- ------ the run so far

  so_far : IsSoFar feeder script batch packets (histories_in r)
  so_far = record { nodes = length-map r.nodes entries_of ∙ p.nodes; places = placed; legal = legal; fed = fed_so_far; clients = done }

  -- its calls are paid
  calls_within : (bytes : ℕ) → ((client : ℕ) (lt : client < clients_in script) → length (so_far.clients client lt).made ≤ most_calls (length (commands_of client script)) bytes)
      → (client : ℕ) → length (replies_of client r) ≤ most_calls (length (commands_of client script)) bytes
  unfolding so_far done
  calls_within bytes few client = elim (cases_lt client (clients_in script)) [
    | inl lt ↦
        let count : length (p.made client lt).made ≡ length (replies_of client r) = sym (length-map (p.made client lt).made (λ e. e.response)) ∙ ap length (p.made client lt).same in
        omega (arith, count, few client lt)
    | inr above ↦ omega (arith, ap length (p.silent client above))
  ]

  bound : AreNumbered script → All IsPacket packets → (client : ℕ) → length (replies_of client r) ≤ most_calls (length (commands_of client script)) (188 * length packets + bytes_written script)
  bound numbered are = calls_within (188 * length packets + bytes_written script) (λ client lt. calls_are_paid feeder script batch packets (histories_in r) so_far numbered are client lt)

  -- and they are bounded, whatever writes the lines name
  bounded : All IsPacket packets → (client : ℕ)
      → length (replies_of client r) ≤ most_calls (length (commands_of client script)) (188 * (length packets + total (plays_by script script.lines) (clients_in script)))
  bounded are =
      calls_within (188 * (length packets + total (plays_by script script.lines) (clients_in script)))
      (λ client lt. calls_are_bounded feeder script batch packets (histories_in r) so_far are client lt)

  -- where it is over it is a run
  over : ((client : ℕ) → next_event client script (replies_of client r) ≡ None) → r.has_ended ≡ true → IsOver so_far
  unfolding so_far fed_so_far done
  over passed ended = record {
    whole = omega (arith, p.fed.whole, p.first, p.ended ended);
    ended = λ node h log. fed_on node h log ∙ ap (λ b. passes_of 0 0 p.fed.batches ++ end_of (length p.fed.batches) b) ended ∙ all_steps p.fed.batches;
    through = λ client lt. ap (λ rs. next_event client script rs) (p.made client lt).same ∙ passed client;
  }

  whole : ((client : ℕ) → next_event client script (replies_of client r) ≡ None) → r.has_ended ≡ true → IsAccountedRun script batch packets r
  unfolding so_far done
  whole passed ended =
      let k = runs_end feeder script batch packets (histories_in r) so_far (over passed ended) in
      record { run = k.0; replies = λ client lt. ap replies (k.2 client lt) ∙ (p.made client lt).same; accounted = are_accounted script batch packets (histories_in r) k.0 }

pub within_budget : IsWithinBudget
within_budget = record {
  moments = λ script batch packets r ranges numbered one are moment client.
      let few = few_in_all script ranges in
      bound script batch packets few ranges r (moment_come script batch packets (clients_in script) few ranges one r (all_below script) moment) numbered are client;
  runs = λ script batch packets r ranges numbered one are run client.
      let few = few_in_all script ranges in
      bound script batch packets few ranges r (run_come script batch packets (clients_in script) few ranges one r (all_below script) run) numbered are client;
}

-- at each moment the calls of a client are bounded
pub moments_bounded : (script : Scripted) (batch : ℕ) (packets : List (List ℕ)) (r : Run) → All IsInRange script.lines → 1 ≤ batch → All IsPacket packets → IsMoment script batch packets r → (client : ℕ)
    → length (replies_of client r) ≤ most_calls (length (commands_of client script)) (188 * (length packets + total (plays_by script script.lines) (clients_in script)))
moments_bounded script batch packets r ranges one are moment client =
    let few = few_in_all script ranges in
    bounded script batch packets few ranges r (moment_come script batch packets (clients_in script) few ranges one r (all_below script) moment) are client

pub are_runs : SerialRunsAreRuns
are_runs script batch packets r ranges one run =
    let few = few_in_all script ranges in
    whole script batch packets few ranges r (run_come script batch packets (clients_in script) few ranges one r (all_below script) run)
    (λ client. ap (λ s. next_event client script (replies_of client s)) run.2 ∙ none_stands script batch packets run.0 run.1 client)
    (ap (λ s. s.has_ended) run.2 ∙ ended_over (all_passed batch (length run.0.left) run.0))
