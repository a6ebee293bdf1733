use Rattle.serial_core.proofs.Imports.{◌≡◌, ◌+◌, ◌∙◌, sym, ap, length, arith, length-map, DEMUX_NODES}
use Rattle.serial_core.proofs.Going.{seats_count}
use Rattle.serial_core.proofs.nodes.Nodes.into_histories.Goals as goal

pub new-requires : goal.new-requires
new-requires c =
    let count : length c.args.self.seats.items ≡ DEMUX_NODES + 1 = seats_count c.args.self.seats.items c.args.self.made c.requires.counted in
    let same = sym (length-map c.in_ok-nodes.nodes.items (λ calls. calls.items)) ∙ (ap length c.in_ok-nodes.ensures ∙ length-map c.args.self.seats.items (λ seat. seat.entries.items)) in
    omega (arith, count, same)
