use Rattle.serve_top.proofs.Imports.{rules, ◌≡◌, ◌∙◌, ◌++◌, [], List, ℕ, ap, subst, Appends, told_entry, on_ok, call_line}
use Rattle.serve_top.proofs.written.WrittenLines.put.Goals as goal

-- the line was made, and then it was written
pub returns : goal.returns
returns g c whole =
    let w = c.write.ensures whole in
    let none : c.clear.new.self.items ≡ [] = search rules in
    let made = on_ok c.add_call-made.result _ w.0 c.add_call-made.ensures ∙ ap (λ (l : List ℕ). l ++ call_line (told_entry c.args.entry.now)) none in
    (w.1, subst (λ (l : List ℕ). Appends (g.K.Sink.end c.args.self.now.sink).written (g.K.Sink.end c.write.new.self.sink).written l) made w.2)
