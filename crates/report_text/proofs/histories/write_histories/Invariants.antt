use Rattle.report_text.proofs.Imports.{◌≡◌, ◌<◌, ◌++◌, [], drop, length, AddsSome, histories_text}
use Rattle.report_text.proofs.histories.write_histories.Given as goal

-- `node` tells how many nodes there are
abbrev pub invariant-nodes : goal.invariant-nodes
invariant-nodes g l = record {
  many : 0 < l.node → length l.histories ≡ 33;
  adds : AddsSome (g.K.Sink.end l.initial.sink).written (g.K.Sink.end l.sink).written l.initial.waiting l.waiting
      (λ text. text ++ histories_text l.node (drop l.node l.histories) ≡ [] ++ histories_text 0 l.histories);
  steady : (g.K.Sink.end l.sink).faults ≡ (g.K.Sink.end l.initial.sink).faults;
}
