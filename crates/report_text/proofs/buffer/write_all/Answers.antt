use Rattle.report_text.proofs.Imports.{◌≡◌, ◌≤◌, length, take, drop, ◌-◌, arith, take-take, length-take, Appends-trans}
use Rattle.std.proofs.lemmas.List.{length-drop}
use Rattle.std.proofs.Math.Seq.{take-add}
use Rattle.report_text.proofs.buffer.write_all.Goals as goal

pub writing-preserved : goal.writing-preserved
writing-preserved g c =
    let n = c.in_ok-count.count in
    let most = c.min-end.result - c.writing.done in
    let rest = drop c.writing.done c.args.bytes.now in
    let fits : n ≤ length (take most rest) = c.in_ok-count.ensures.bound.1 in
    let within : n ≤ most = omega (arith, length-take most rest) in
    let taken : take n (take most rest) ≡ take n rest = take-take n most rest within in
    record {
      within = omega (arith, length-take most rest, length-drop c.writing.done c.args.bytes.now);
      bytes = rw (take-add c.writing.done n c.args.bytes.now, ← taken) (Appends-trans _ _ _ _ _ c.writing.invariant.bytes c.in_ok-count.ensures.bytes);
      steady = let k = c.in_ok-count.ensures.cause in omega arith;
    }
