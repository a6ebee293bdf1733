use Rattle.serial_core.proofs.Imports.{◌^◌, ◌≡◌, ◌≢◌, sym, ap, ◌∙◌, ℕ, ◌+◌, ◌≤◌, List, ◌++◌, length, map, Err, inl, inr, true, false, arith, range_with_len, Scripted, outcomes, Pulls, has_failed, told_head, head_of, TooMany, TooLong, all_commands, bytes_written, IsTooLong, most_calls, clients_within, Left, Run, replies_of, AreInOrder, AreAfter, IsNodes, histories_in, on_err, rose_by, end_by, many_reads, of_stream}
use Rattle.serial_core.proofs.Ending.{left_is, overrun_is, ok_by}
use Rattle.serial_core.proofs.run.run_over.Goals as goal

pub returns-in-Ok-clause-left : goal.returns-in-Ok-clause-left
returns-in-Ok-clause-left g c =
    let w = c.in-Ok.ensures in
    let done = w.moves.sound.ended w.ended in
    ok_by c.left_by.result _ _ _ _
    (λ (left : Left) (a : (r : Run) → IsNodes c.whole.new.self.nodes r → AreInOrder r → left.histories ≡ histories_in r)
    (b : (ls : Scripted) (r : Run) → AreAfter ls r c.whole.new.cores → map (λ those. those.items) left.outcomes.items ≡ map (λ client. outcomes client ls (replies_of client r)) (range_with_len 0 (length c.whole.new.cores)))
    (h : (ahead taken : List ℕ) (given : List (List ℕ)) → Pulls ahead taken given c.whole.new.self.puller → told_head left.head ≡ head_of c.whole.new.self.puller.cutting.size (ahead ++ taken) left.head.read_fault).
    left_is c.args.script.now c.args.batch _ _ c.args.runner c.whole.new.self c.args.cores.now c.requires.begun c.requires.fresh c.whole.new.cores left c.whole.auto.cores (rw c.lines.ensures.lines at w.moves) done w.ended a b h)
    c.left_by.ensures.histories c.left_by.ensures.outcomes c.left_by.ensures.head

pub returns-in-Ok-clause-rose : goal.returns-in-Ok-clause-rose
returns-in-Ok-clause-rose g c =
    let w = c.in-Ok.ensures in
    ok_by c.left_by.result _ _ _ _
    (λ (left : Left) (a : left.head.read_fault ≡ has_failed c.whole.new.self.puller.reading) (b : left.head.read_fault ≡ has_failed c.whole.new.self.puller.reading) (h : left.head.read_fault ≡ has_failed c.whole.new.self.puller.reading).
    rose_by left.head.read_fault c.args.runner.puller.reading c.whole.new.self.puller.reading _ _ w.moves.draws.follows c.requires.going a)
    c.left_by.ensures.fault c.left_by.ensures.fault c.left_by.ensures.fault

pub returns-in-Ok-clause-end : goal.returns-in-Ok-clause-end
returns-in-Ok-clause-end g c =
    let w = c.in-Ok.ensures in
    let done = w.moves.sound.ended w.ended in
    ok_by c.left_by.result _ _ _ _
    (λ (left : Left) (a : left.head.read_fault ≡ has_failed c.whole.new.self.puller.reading) (b : c.whole.new.self.puller.reading ≢ TooMany) (h : c.whole.new.self.puller.reading ≢ TooMany).
    end_by left.head.read_fault c.args.runner.puller.reading c.whole.new.self.puller.reading _ _ w.moves.draws.follows c.requires.going a done.stopped b)
    c.left_by.ensures.fault c.left_by.ensures.well c.left_by.ensures.well

pub returns-in-Ok-clause-too_long : goal.returns-in-Ok-clause-too_long
returns-in-Ok-clause-too_long g c turns is =
    let m = c.in-Ok.ensures.moves in
    let k = c.left_by.ensures.too_long turns is in
    of_stream (g.S.Source.end c.args.source.now) (g.S.Source.end c.whole.new.source) c.args.runner.puller _ (IsTooLong c.args.script.now c.args.runner.puller.start turns) (λ ahead taken (q : 2 ^ 32 ≤ c.args.runner.puller.start + length taken). inl (k.0, q))
    (many_reads _ _ c.args.runner.puller c.whole.new.self.puller m.packets m.draws k.1)

pub returns-in-Ok-clause-draws : goal.returns-in-Ok-clause-draws
returns-in-Ok-clause-draws g c = let m = c.in-Ok.ensures.moves in on_err c.left_by.result _ (m.packets, (c.whole.new.self.puller, m.draws))

pub returns-clause-too_long : goal.returns-clause-too_long
returns-clause-too_long g c turns is =
    let same : c.in-Err.stop ≡ TooLong turns = cc in
    let k = c.whole.ensures.too_long turns (c.in-Err.is ∙ ap Err same) in
    of_stream (g.S.Source.end c.args.source.now) (g.S.Source.end c.whole.new.source) c.args.runner.puller _ (IsTooLong c.args.script.now c.args.runner.puller.start turns) (λ ahead taken (q : 2 ^ 39 ≤ most_calls (all_commands c.args.script.now.lines) (length ahead + length taken + bytes_written c.args.script.now)). inr (k.0, q))
    (overrun_is c.args.script.now c.args.batch _ _ c.args.runner c.whole.new.self c.args.cores.now c.requires.begun c.requires.fresh c.lines.ensures.known.ranges c.lines.ensures.known.numbered c.requires.some (rw c.lines.ensures.lines at k.1))

pub returns-clause-draws : goal.returns-clause-draws
returns-clause-draws g c = let d = c.in-Err.ensures.draws in (d.0, (c.whole.new.self.puller, d.1))

pub whole-requires-clause-ready : goal.whole-requires-clause-ready
whole-requires-clause-ready g c = record {
  some = c.requires.some;
  few = c.requires.few;
  sound = record {
    ended = λ is. absurd (let e : true ≡ false = sym is ∙ c.requires.begun.unended in cc);
    counted = c.requires.begun.counted;
    given = omega (arith, c.requires.begun.given);
  };
}

pub whole-requires-clause-begins : goal.whole-requires-clause-begins
whole-requires-clause-begins g c = record {
  moment = c.requires.begun.moment;
  short = rw c.lines.ensures.lines c.lines.ensures.known.few;
  clients = c.requires.fresh.few;
  named = rw (c.lines.ensures.lines, c.requires.fresh.count) (clients_within c.args.script.now);
  calls = λ k d lt. let none = c.requires.fresh.fresh k d lt in omega (arith, none);
  made = omega (arith, c.requires.begun.made);
}

pub returns-in-Ok-clause-later : goal.returns-in-Ok-clause-later
returns-in-Ok-clause-later g c =
    let w = c.in-Ok.ensures in
    ok_by c.left_by.result _ _ _ _
    (λ (left : Left) (a : left.head.read_fault ≡ has_failed c.whole.new.self.puller.reading) (b : left.head.read_fault ≡ has_failed c.whole.new.self.puller.reading) (h : left.head.read_fault ≡ has_failed c.whole.new.self.puller.reading).
    w.moves.draws.follows.later)
    c.left_by.ensures.fault c.left_by.ensures.fault c.left_by.ensures.fault

pub returns-in-Ok-clause-once : goal.returns-in-Ok-clause-once
returns-in-Ok-clause-once g c = c.in-Ok.ensures.moves.draws.follows.once

pub returns-clause-once : goal.returns-clause-once
returns-clause-once g c = c.in-Err.ensures.draws.1.follows.once
