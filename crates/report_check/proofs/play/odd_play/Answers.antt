use Rattle.report_check.proofs.Imports.{◌≡◌, ◌≤◌, ◌<◌, ◌^◌, ℕ, List, true, map, length, sym, subst, length-map, DEMUX_NODES, ToldEntry, told_entry, ToldNode, brought_from, told_node, are_sound, IsPlayed}
use Rattle.report_check.proofs.Lists.{at_front, at_behind, at_both, at_none}
use Rattle.report_check.proofs.play.odd_play.Goals as goal

abbrev IsFew : ToldNode → Type 0
IsFew n = (n.node ≤ DEMUX_NODES) × (length n.entries < 2 ^ 50)

abbrev IsSoundFor : (clients packets : ℕ) → (counts : List ℕ) → ToldNode → Type 0
IsSoundFor clients packets counts n = are_sound clients packets counts n.entries ≡ true

pub odd_reply-requires-clause-node : goal.odd_reply-requires-clause-node
odd_reply-requires-clause-node c = (at_front told_node IsFew c.nodes.rest.now c.node-item.result _ c.in-len1-up.len_at_least c.node-item.is c.nodes.invariant.nodes).0

pub odd_reply-requires-clause-few : goal.odd_reply-requires-clause-few
odd_reply-requires-clause-few c =
    let few : length (map told_entry c.node-item.result.1.items) < 2 ^ 50 = (at_front told_node IsFew c.nodes.rest.now c.node-item.result _ c.in-len1-up.len_at_least c.node-item.is c.nodes.invariant.nodes).1 in
    rw c.deref.ensures.value (rw length-map at few)

pub odd_reply-requires-clause-sound : goal.odd_reply-requires-clause-sound
odd_reply-requires-clause-sound c =
    let sound : are_sound c.nodes.invariant.sound.0 (length c.args.packets.now) (map (λ ps. length ps) (map (λ p. p.items) c.args.played.now)) (map told_entry c.node-item.result.1.items) ≡ true =
    at_front told_node (IsSoundFor c.nodes.invariant.sound.0 (length c.args.packets.now) (map (λ ps. length ps) (map (λ p. p.items) c.args.played.now))) c.nodes.rest.now c.node-item.result _ c.in-len1-up.len_at_least c.node-item.is c.nodes.invariant.sound.1 in
    (c.nodes.invariant.sound.0, rw c.deref.ensures.value sound)

pub returns-in-Some : goal.returns-in-Some
returns-in-Some c all =
    let never : IsPlayed (brought_from c.args.packets.now (map (λ p. p.items) c.args.played.now)) (record { node = c.node-item.result.0; entries = map told_entry c.deref.result.now }) → ⊥ = rw c.in-Some.is at c.in_ok-other.ensures in
    let here : IsPlayed (brought_from c.args.packets.now (map (λ p. p.items) c.args.played.now)) (told_node c.node-item.result) = at_front told_node (IsPlayed (brought_from c.args.packets.now (map (λ p. p.items) c.args.played.now))) c.nodes.rest.now c.node-item.result _ c.in-len1-up.len_at_least c.node-item.is (c.nodes.invariant.on all) in
    never (subst (λ (es : List ToldEntry). IsPlayed (brought_from c.args.packets.now (map (λ p. p.items) c.args.played.now)) (record { node = c.node-item.result.0; entries = map told_entry es })) (sym c.deref.ensures.value) here)

pub nodes-preserved : goal.nodes-preserved
nodes-preserved c =
    let is : IsPlayed (brought_from c.args.packets.now (map (λ p. p.items) c.args.played.now)) (record { node = c.node-item.result.0; entries = map told_entry c.deref.result.now }) = rw c.in_default-2.is at c.in_ok-other.ensures in
    let here : IsPlayed (brought_from c.args.packets.now (map (λ p. p.items) c.args.played.now)) (told_node c.node-item.result) = subst (λ (es : List ToldEntry). IsPlayed (brought_from c.args.packets.now (map (λ p. p.items) c.args.played.now)) (record { node = c.node-item.result.0; entries = map told_entry es })) c.deref.ensures.value is in
    record {
      nodes = at_behind told_node IsFew c.nodes.rest.now c.node-item.result _ c.in-len1-up.len_at_least c.node-item.is c.nodes.invariant.nodes;
      sound = (c.nodes.invariant.sound.0, at_behind told_node (IsSoundFor c.nodes.invariant.sound.0 (length c.args.packets.now) (map (λ ps. length ps) (map (λ p. p.items) c.args.played.now))) c.nodes.rest.now c.node-item.result _ c.in-len1-up.len_at_least c.node-item.is c.nodes.invariant.sound.1);
      on = λ all. at_behind told_node (IsPlayed (brought_from c.args.packets.now (map (λ p. p.items) c.args.played.now))) c.nodes.rest.now c.node-item.result _ c.in-len1-up.len_at_least c.node-item.is (c.nodes.invariant.on all);
      back = λ later. c.nodes.invariant.back (at_both told_node (IsPlayed (brought_from c.args.packets.now (map (λ p. p.items) c.args.played.now))) c.nodes.rest.now c.node-item.result _ c.in-len1-up.len_at_least c.node-item.is here later);
    }

pub returns : goal.returns
returns c = c.nodes.invariant.back (at_none told_node (IsPlayed (brought_from c.args.packets.now (map (λ p. p.items) c.args.played.now))) c.nodes.rest.now c.in_default.len_below)
