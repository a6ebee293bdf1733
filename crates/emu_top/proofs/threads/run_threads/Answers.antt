-- The report of a run by threads.
use Rattle.std.proofs.Common.{◌∙◌, refl, ap, Err}
use Rattle.emu_top.proofs.Outputs.{given_up, made_of}
use Rattle.emu_top.proofs.threads.run_threads.Goals as goal
use Rattle.emu_top.proofs.Imports.{◌≡◌, ◌<◌, ◌≤◌, ℕ, Bool, false, List, ◌++◌, map, subst, IsTrue, arith, ◌↔◌, IsAtEnd, SourceEnd, cut, PacketSize, Outcome, told_head, told_entry, LogEntry, clients_in, Scripted, IsWholeRun, few_in_all, writes_pass, Pulling, OfStream, AreWorked, report_of, AreFitting, Holds, IsThreadOutput, Takes, Makes}
use Rattle.workers.specs.declared.left.LeftByThreads.{LeftByThreads}
use Rattle.workers.specs.Left.{IsLeftBy}
use Rattle.emu_top.proofs.Ranged.{ranged}

module _ (batch : ℕ) (size : PacketSize) (may : ℕ → Bool) (script : Scripted) (left : LeftByThreads) where
  -- what became of the commands of each client
  abbrev became : List (List Outcome)
  became = map (λ those. those.items) left.outcomes.items

  -- over the stream that the threads have passed these histories are those of a whole run
  abbrev AreWhole : List (List LogEntry) → Type 0
  AreWhole histories = (among : ℕ → Bool) (stream : List (List ℕ)) → AreWorked script among batch may stream left.feeder left.feeding.items left.clients.items (map (λ log. map told_entry log.items) left.logs.items) became
      → IsWholeRun script batch may stream became histories

  pub thread_output : (y z : SourceEnd) (puller : Pulling) (histories : List (List LogEntry)) (text : List ℕ)
      → puller.cutting.size ≡ size → OfStream y z puller (λ ahead taken. IsLeftBy script batch may puller.cutting.size (ahead ++ taken) left) → AreWhole histories
      → AreFitting (told_head left.head) became histories → clients_in script ≤ 8 → text ≡ report_of (told_head left.head) became histories
      → OfStream y z puller (λ ahead taken. IsThreadOutput batch size may script (ahead ++ taken) left.head.read_fault text)
  thread_output y z puller histories text takes_up of whole fit few e = (
    of.0,
    of.1,
    λ ahead pulls.
        let is : IsLeftBy script batch may size (ahead ++ of.0) left = subst (λ s. IsLeftBy script batch may s (ahead ++ of.0) left) takes_up (of.2 ahead pulls) in
        let packets = (cut size (ahead ++ of.0)).packets in
        let all : IsWholeRun script batch may packets became histories = whole _ packets is.worked in
        record {
          histories = histories;
          outcomes = became;
          whole = all;
          played = writes_pass script batch packets histories all.run;
          range = ranged script batch packets _ _ became became histories histories is.head refl refl all.run (omega (arith, all.clients, few)) fit;
          report = rw (← is.head) e;
        },
  )

  -- and so the output for the session
  pub threads_made : (x y z : SourceEnd) (first : List ℕ) (puller : Pulling) (histories : List (List LogEntry)) (failed : Bool) (told : List (List Outcome)) (text : List ℕ)
      → Takes x y first → Holds first size script puller
      → OfStream y z puller (λ ahead taken. IsLeftBy script batch may puller.cutting.size (ahead ++ taken) left) → AreWhole histories
      → (IsTrue left.head.read_fault ↔ (y.faults < z.faults)) → y.faults ≤ z.faults → (left.head.read_fault ≡ false → IsAtEnd z.left)
      → AreFitting (told_head left.head) became histories → failed ≡ left.head.read_fault → told ≡ became → text ≡ report_of (told_head left.head) told histories
      → Makes (IsThreadOutput batch size may) x z failed text
  threads_made x y z first puller histories failed told text takes h of whole rose later end fit fault same e =
      let report : text ≡ report_of (told_head left.head) became histories = rw (← same) e in
      rw fault (made_of (IsThreadOutput batch size may) size script puller x y z first left.head.read_fault text takes h (thread_output y z puller histories text h.takes_up of whole fit (few_in_all script h.known.ranges) report) rose later end)

pub returns-in-Err-clause-refuses : goal.returns-in-Err-clause-refuses
returns-in-Err-clause-refuses g c begun size first takes h =
    rw c.status_of_run.ensures (given_up size c.args.session.script c.args.session.puller begun _ _ first c.in-Err.stop
    (λ turns is. c.work.ensures.too_long turns (c.in-Err.is ∙ ap Err is)) takes h)

pub returns-in-Ok-histories_of_run-clause-makes : goal.returns-in-Ok-histories_of_run-clause-makes
returns-in-Ok-histories_of_run-clause-makes g c begun size first takes h =
    let left = c.in-Ok-work.left in
    let is = c.in-Ok-work.ensures in
    threads_made c.args.batch size _ c.args.session.script left begun _ _ first c.args.session.puller c.in-Ok-histories_of_run.histories left.head.read_fault _ _
    takes h is.left (λ among stream w. c.in-Ok-histories_of_run.ensures.run c.args.session.script among c.args.batch _ stream _ w) is.rose is.later is.end
    c.look_at.ensures refl refl refl
