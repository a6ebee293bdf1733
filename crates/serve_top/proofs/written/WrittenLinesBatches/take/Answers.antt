use Rattle.serve_top.proofs.Imports.{rules, ◌≡◌, ◌∙◌, ◌++◌, [], List, ℕ, ap, sym, subst, Appends, on_ok, fed_line}
use Rattle.std.proofs.Common.{append-nil}
use Rattle.serve_top.proofs.written.WrittenLinesBatches.take.Goals as goal

-- the line was made, and then it was written
pub returns : goal.returns
returns g c whole =
    let w = c.write.ensures whole in
    let none : c.clear.new.self.items ≡ [] = search rules in
    let made = on_ok c.add_fed-made.result _ w.0 c.add_fed-made.ensures ∙ (ap (λ (l : List ℕ). l ++ fed_line c.args.fed) none ∙ sym (append-nil (fed_line c.args.fed))) in
    (w.1, subst (λ (l : List ℕ). Appends (g.K.Sink.end c.args.self.now.sink).written (g.K.Sink.end c.write.new.self.sink).written l) made w.2)
