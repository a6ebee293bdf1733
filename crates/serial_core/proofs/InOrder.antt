-- The nodes of the serial run are those of the numbers 0 to 32, in their order.
use Rattle.serial_core.proofs.Imports.{AreInOrder, Invocation, IsSerialRun, List, Node, Run, Scripted, after_waiting, answered, ap, call_of, clients_in, map, map-set_same, node_at, plays_of, refl, uncalled, ◌+◌, ◌∙◌, ◌∷◌, ◌≡◌, [], ℕ}
use Rattle.dmx_calls.specs.Invocation as call
use Rattle.serial_core.proofs.Keeping.{IsKept, all_below, kept}

same_numbers : (who step : ℕ) (c : Invocation) (ns : List Node) → map (λ n. n.number) (map (answered who step c) ns) ≡ map (λ n. n.number) ns
same_numbers who step c [] = refl
same_numbers who step c (n ∷ ns) = ap (λ ms. n.number ∷ ms) (same_numbers who step c ns)

in_order : (script : Scripted) (batch : ℕ) → IsKept script batch (clients_in script) AreInOrder
in_order script batch = record {
  feeds = record {
    passes = λ r size fit le p. same_numbers 0 r.turns _ r.nodes ∙ p;
    ends = λ r none unended p. same_numbers 0 r.turns call.End r.nodes ∙ p;
  };
  ticks = λ r time p. p;
  calls = λ before client e lt stands only was p. let r = after_waiting script batch client before in
      map-set_same (λ n. n.number) r.nodes e.node (answered (client + 1) e.step (call_of (plays_of client script) e.want r.moment) (node_at e.node r)) (uncalled e.node) refl ∙ p;
}

pub serial_in_order : (script : Scripted) (batch : ℕ) (packets : List (List ℕ)) (r : Run) → IsSerialRun script batch packets r → AreInOrder r
serial_in_order script batch packets r is = kept script batch (clients_in script) AreInOrder (in_order script batch) packets r (all_below script) is refl
