use Rattle.serial_core.proofs.Imports.{◌≡◌, refl, sym, ap, ◌∙◌, suc, ◌+◌, ◌<◌, ◌∷◌, length, drop, get_or, add-one, Err, arith, drop-cons, Feed, TooLong, Run, IsFrontBy, IsLineBy, OverrunsBy}
use Rattle.serial_core.proofs.Moving.{drawn_then, moves_none, moves_then, err_and, ready_on}
use Rattle.serial_core.proofs.Lining.{front_more, front_none, front_overruns, calls_most}
use Rattle.serial_core.proofs.runner.Runner.lines.Goals as goal

pub lines-init : goal.lines-init
lines-init g c = record {
  moves = moves_none _ c.args.self.now _ c.requires.ready.sound (λ r. front_none c.args.batch c.args.lines.now c.args.cores.now r);
  made = c.requires.begins.made;
  calls = c.requires.begins.calls;
  moment = omega (arith, c.requires.begins.moment);
  clients = refl;
}

pub line-requires-clause-ready : goal.line-requires-clause-ready
line-requires-clause-ready g c = ready_on _ _ _ _ _ _ c.lines.invariant.moves c.requires.ready

pub returns-in_err-line-clause-draws : goal.returns-in_err-line-clause-draws
returns-in_err-line-clause-draws g c = drawn_then _ _ _ _ _ _ _ c.from_residual.result c.lines.invariant.moves c.in_err-line.ensures.draws

pub returns-in_err-line-clause-too_long : goal.returns-in_err-line-clause-too_long
returns-in_err-line-clause-too_long g c turns is =
    let same = err_and _ _ (TooLong turns) is c.from_residual.ensures.1 in
    let lines = c.args.lines.now in
    let i = c.lines.line-index in
    let there : i < length lines = omega (arith, c.lines-test.true, c.lines.auto.line-index-end) in
    let k = c.line.ensures.too_long turns (c.in_err-line.was ∙ ap Err (sym same)) in (
      k.0,
      moves_then _ _ _ _ _ _ _ _ _
          (λ (r s t : Run) (a : IsFrontBy c.args.batch lines i c.args.cores.now c.lines.cores r s) (b : OverrunsBy c.args.batch _ c.lines.cores s t).
          front_overruns c.args.batch i lines (drop (suc i) lines) _ c.args.cores.now c.lines.cores r s t (drop-cons lines i (Feed 0) there) a b)
          c.lines.invariant.moves k.1,
    )

pub lines-preserved : goal.lines-preserved
lines-preserved g c =
    let lines = c.args.lines.now in
    let i = c.lines.line-index in
    let k = c.in_ok-line.ensures in
    let there : i < length lines = omega (arith, c.lines-test.true, c.lines.auto.line-index-end) in
    let here : drop i lines ≡ get_or lines i (Feed 0) ∷ drop (i + 1) lines = drop-cons lines i (Feed 0) there ∙ ap (λ n. get_or lines i (Feed 0) ∷ drop n lines) (sym (add-one i)) in
    record {
      moves = moves_then _ _ _ _ _ _ _ _ _
          (λ (r s t : Run) (a : IsFrontBy c.args.batch lines i c.args.cores.now c.lines.cores r s) (b : IsLineBy c.args.batch _ c.lines.cores c.line.new.cores s t).
          front_more c.args.batch i lines (drop (i + 1) lines) _ c.args.cores.now c.lines.cores c.line.new.cores r s t here refl a b)
          c.lines.invariant.moves k.moves;
      made = k.made;
      calls = k.calls;
      moment = omega (arith, k.moment, c.lines.invariant.moment);
      clients = c.line.auto.cores ∙ c.lines.invariant.clients;
    }

pub returns-clause-made : goal.returns-clause-made
returns-clause-made g c = omega (arith, c.lines.invariant.made, calls_most c.lines.cores (omega (arith, c.lines.invariant.clients, c.requires.begins.clients)) c.lines.invariant.calls)
