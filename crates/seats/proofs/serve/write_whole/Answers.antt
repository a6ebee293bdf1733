use Rattle.seats.proofs.Imports.{◌≡◌, ℕ, List, length, take, drop, ◌-◌, ◌∙◌, arith, ap, subst, length-drop, take_all, take-add, Appends, Appends-trans}
use Rattle.seats.proofs.serve.write_whole.Goals as goal

pub writing-preserved : goal.writing-preserved
writing-preserved g c =
    let n = c.in_ok-count.count in let d = c.writing.done in let bytes = c.args.bytes.now in
    let size = length-drop d bytes in
    let rest : take (length bytes - d) (drop d bytes) ≡ drop d bytes = take_all (length bytes - d) (drop d bytes) (omega (arith, size)) in
    let bound = c.in_ok-count.ensures.bound.1 in let same = ap length rest in
    record {
      within = omega (arith, size, bound, same);
      bytes = rw (take-add d n bytes) (Appends-trans _ _ _ _ _ c.writing.invariant.bytes (subst (λ (l : List ℕ). Appends (g.K.Sink.end c.writing.sink).written (g.K.Sink.end c.write.new.self).written (take n l)) rest c.in_ok-count.ensures.bytes));
      steady = c.in_ok-count.ensures.cause.ok ∙ c.writing.invariant.steady;
    }
