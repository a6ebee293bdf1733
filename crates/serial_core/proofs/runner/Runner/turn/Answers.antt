-- What a turn of the feeder does to the run.
use Rattle.serial_core.proofs.Imports.{◌≡◌, refl, sym, true, false, ap, ◌∙◌, [], length, arith, Packets, draws_none, none_given, subst, ℕ, ◌+◌, ◌<◌, ◌≤◌, min, List, ◌++◌, take, drop, length-append, inl, inr, cases_lt, take-append_seam, drop-append_seam, Frontend, Pass, IsDone, Runner, Run, fed_to_all, passed, ended, turned, IsNodes, IsAt}
use Rattle.serial_core.proofs.runner.Runner.turn.Goals as goal
use Rattle.serial_core.proofs.Batches.{turned_none, turned_some}

-- as many as a batch has
batch_size : (most : ℕ) (ps later : List (List ℕ)) (all : ℕ) → length ps ≤ most → (length ps < most → later ≡ []) → all ≡ length ps + length later → length ps ≡ min most all
batch_size most ps later all le short whole = elim (cases_lt (length ps) most) [
  | inl few ↦ let none : length later ≡ 0 = ap length (short few) in omega arith
  | inr enough ↦ omega arith
]

-- a batch passes
pub turn_passed : (old new : Runner) (most n : ℕ) (ps later : List (List ℕ)) (r : Run) → n ≡ length ps → 1 ≤ length ps → length ps ≤ most → (length ps < most → IsDone new.puller)
    → ((r : Run) → IsNodes old.nodes r → IsNodes new.nodes (fed_to_all (Pass Frontend old.puller.given ps old.moment) r))
    → new.puller.given ≡ old.puller.given + length ps → new.moment ≡ old.moment
    → (IsDone new.puller → later ≡ []) → IsAt old r → r.left ≡ ps ++ later
    → (s : Run) × ((s ≡ turned most r) × (n ≡ min most (length r.left))) × IsAt new s × (s.left ≡ later)
turn_passed old new most n ps later r count some few short goes given moment stops at left =
    let whole : length r.left ≡ length ps + length later = ap length left ∙ length-append ps later in
    let size : length ps ≡ min most (length r.left) = batch_size most ps later (length r.left) few (λ less. stops (short less)) whole in
    let front : take (length ps) r.left ≡ ps = ap (take (length ps)) left ∙ take-append_seam ps later in
    let back : drop (length ps) r.left ≡ later = ap (drop (length ps)) left ∙ drop-append_seam ps later in
    let k : IsNodes new.nodes (fed_to_all (Pass Frontend r.first (take (length ps) r.left) r.moment) r) =
    subst (λ f. IsNodes new.nodes (fed_to_all (Pass Frontend f (take (length ps) r.left) r.moment) r)) at.first
    (subst (λ m. IsNodes new.nodes (fed_to_all (Pass Frontend old.puller.given (take (length ps) r.left) m) r)) at.moment
    (subst (λ p. IsNodes new.nodes (fed_to_all (Pass Frontend old.puller.given p old.moment) r)) (sym front) (goes r at.nodes))) in (
      passed r (length ps),
      (ap (passed r) size ∙ sym (turned_some most r (omega arith)), count ∙ size),
      record {
        nodes = record { seats = k.seats; turns = k.turns; has_ended = k.has_ended };
        first = given ∙ ap (λ f. f + length ps) at.first;
        moment = moment ∙ at.moment;
      },
      back,
    )

-- nothing passes any more
pub turn_over : (v : Runner) (most : ℕ) (later : List (List ℕ)) (r : Run) → v.nodes.has_ended ≡ true → IsDone v.puller → (IsDone v.puller → later ≡ []) → IsAt v r → r.left ≡ [] ++ later
    → (s : Run) × ((s ≡ turned most r) × (0 ≡ min most (length r.left))) × IsAt v s × (s.left ≡ later)
turn_over v most later r over done stops at left =
    let none : length r.left ≡ 0 = ap length left ∙ ap length (stops done) in
    let is : r.has_ended ≡ true = sym at.nodes.has_ended ∙ over in
    let same : ended r ≡ r = rw is refl in
    (r, (sym same ∙ sym (turned_none most r none), omega arith), at, left)

pub returns-then-self-clause-moves : goal.returns-then-self-clause-moves
returns-then-self-clause-moves g c = record {
  packets = [];
  draws = draws_none _ c.args.self.now.puller;
  at = λ ahead taken given later r pulls stops at left. turn_over c.args.self.now c.args.most later r c.if-self.true (c.requires.ready.sound.ended c.if-self.true) stops at left;
  done = λ ahead taken given pulls done. (done, refl);
  sound = c.requires.ready.sound;
}

pub returns-in_ok-pass-in-Some-clause-moves : goal.returns-in_ok-pass-in-Some-clause-moves
returns-in_ok-pass-in-Some-clause-moves g c =
    let old = c.args.self.now in
    let ps = c.in-Some.batch.value.packets in
    let stream = rw c.in-Some.is at c.in_ok-batch.ensures.stream in
    let first = rw c.in-Some.is at c.in_ok-batch.ensures.first in
    let given = rw c.in-Some.is at c.in_ok-batch.ensures.given in
    let some = rw c.in-Some.is at c.in_ok-batch.ensures.some in
    let most = rw c.in-Some.is at c.in_ok-batch.ensures.most in
    let fewer = rw c.in-Some.is at c.in_ok-batch.ensures.fewer in
    let goes = rw first at c.in_ok-pass-in-Some.ensures.at in
    record {
      packets = ps;
      draws = record { carries = stream; follows = c.in_ok-batch.ensures.follows; start = c.in_ok-batch.ensures.start };
      at = λ ahead taken before later r pulls stops at left.
          turn_passed old _ c.args.most c.count-count.result ps later r (c.count-count.ensures.value ∙ ap (λ (b : Packets). length b.packets) c.deref.ensures) some most fewer goes given refl stops at left;
      done = λ ahead taken before pulls done.
          let none = none_given _ _ old.puller c.pull.new.self ps stream c.in_ok-batch.ensures.stopped done ahead taken before pulls in
          absurd (let long : length ps ≡ 0 = ap length none in omega (arith, some, long));
      sound = record {
        ended = λ is. absurd (let e : true ≡ false = sym is ∙ c.in_ok-pass-in-Some.ensures.open in cc);
        counted = c.in_ok-pass-in-Some.ensures.counted;
        given = omega (arith, c.in_ok-batch.ensures.numbers, c.in_ok-batch.ensures.bytes);
      };
    }
