use Rattle.tests_runs.proofs.Imports.{rules, ◌≡◌, [], ◌++◌, ap, ◌∙◌, length, option_to_list}
use Rattle.tests_runs.proofs.Parity.{two_begun, odd_more, even_more, both_whole, fresh_own, fresh_left}
use Rattle.tests_runs.proofs.tests.locks.many.join_by_parity.Goals as goal

pub loop-pass-init : goal.loop-pass-init
loop-pass-init g c =
    let long : length c.args.passes.items ≡ 64 = search rules in
    two_begun c.args.lock 64 c.args.passes.items c.pop.new.self.items c.pop-2.new.self.items c.unwrap-odd.result c.unwrap-even.result c.call-2.new.pass c.call.new.pass c.requires.fresh.1 long
    (c.pop.ensures.items ∙ ap (λ o. c.pop.new.self.items ++ option_to_list o) c.unwrap-odd.ensures) (c.pop-2.ensures.items ∙ ap (λ o. c.pop-2.new.self.items ++ option_to_list o) c.unwrap-even.ensures)
    c.call-2.ensures.same c.call.ensures.same

pub call_and_join-requires-clause-own : goal.call_and_join-requires-clause-own
call_and_join-requires-clause-own g c = let ys = c.pop-in-loop-pass.new.self.items in (
  c.loop-pass.invariant.odd_own,
  fresh_own c.args.lock 64 c.loop-pass.passes.items ys c.in-Some.pass c.loop-pass.invariant.rest_fresh (c.pop-in-loop-pass.ensures.items ∙ ap (λ o. ys ++ option_to_list o) c.in-Some.is),
)

pub call_and_join-requires-clause-left : goal.call_and_join-requires-clause-left
call_and_join-requires-clause-left g c = let ys = c.pop-in-loop-pass.new.self.items in
    fresh_left c.args.lock 64 c.loop-pass.passes.items ys c.in-Some.pass c.loop-pass.invariant.rest_fresh (c.pop-in-loop-pass.ensures.items ∙ ap (λ o. ys ++ option_to_list o) c.in-Some.is)

pub call_and_join-requires-else-who-eq1-clause-own : goal.call_and_join-requires-else-who-eq1-clause-own
call_and_join-requires-else-who-eq1-clause-own g c = let ys = c.pop-in-loop-pass.new.self.items in (
  c.loop-pass.invariant.even_own,
  fresh_own c.args.lock 64 c.loop-pass.passes.items ys c.in-Some.pass c.loop-pass.invariant.rest_fresh (c.pop-in-loop-pass.ensures.items ∙ ap (λ o. ys ++ option_to_list o) c.in-Some.is),
)

pub call_and_join-requires-else-who-eq1-clause-left : goal.call_and_join-requires-else-who-eq1-clause-left
call_and_join-requires-else-who-eq1-clause-left g c = let ys = c.pop-in-loop-pass.new.self.items in
    fresh_left c.args.lock 64 c.loop-pass.passes.items ys c.in-Some.pass c.loop-pass.invariant.rest_fresh (c.pop-in-loop-pass.ensures.items ∙ ap (λ o. ys ++ option_to_list o) c.in-Some.is)

pub loop-pass-preserved-then-who-eq1 : goal.loop-pass-preserved-then-who-eq1
loop-pass-preserved-then-who-eq1 g c = let ys = c.pop-in-loop-pass.new.self.items in let j = c.call_and_join.ensures in
    odd_more c.args.lock 64 c.loop-pass.passes.items ys c.in-Some.pass c.loop-pass.odd c.loop-pass.even c.call_and_join.new.into c.loop-pass.invariant
    (c.pop-in-loop-pass.ensures.items ∙ ap (λ o. ys ++ option_to_list o) c.in-Some.is) j.same.0 j.same.1 j.numbers

pub loop-pass-preserved : goal.loop-pass-preserved
loop-pass-preserved g c = let ys = c.pop-in-loop-pass.new.self.items in let j = c.call_and_join-else-who-eq1.ensures in
    even_more c.args.lock 64 c.loop-pass.passes.items ys c.in-Some.pass c.loop-pass.odd c.loop-pass.even c.call_and_join-else-who-eq1.new.into c.loop-pass.invariant
    (c.pop-in-loop-pass.ensures.items ∙ ap (λ o. ys ++ option_to_list o) c.in-Some.is) j.same.0 j.numbers

pub close-requires-clause-whole : goal.close-requires-clause-whole
close-requires-clause-whole g c κs =
    let empty : c.loop-pass.passes.items ≡ [] = search rules in let s = c.len-len.ensures.same.0 in let j = c.join.ensures in
    both_whole c.args.lock 64 c.loop-pass.passes.items c.loop-pass.odd c.loop-pass.even c.len-len.new.pass c.loop-pass.invariant empty (s.3 ∙ j.same.2) (s.2 ∙ j.numbers)
