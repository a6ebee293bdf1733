use Rattle.dmx_calls.proofs.Imports.{◌≡◌, ◌∙◌, ◌+◌, Some, length, map, slice_get, arith, ap, sym, length-map, slice_get_read, slice_get-map, told_entry, feeder_acts, woven}
use Rattle.std.proofs.Common.{option_map}
use Rattle.dmx_calls.proofs.Weaving.{woven_nodes-at, woven_nodes-length}
use Rattle.dmx_calls.proofs.histories.Histories.node.Goals as goal

pub returns-clause-history : goal.returns-clause-history
returns-clause-history c =
    let raw = c.self.inside.nodes.items in
    let invariant = c.self.invariant in let low = c.requires in
    let read : slice_get raw c.args.node ≡ Some c.index.result.now = slice_get_read raw (length raw) c.args.node c.index.result.now (omega arith) (omega (arith, low, invariant)) c.index.ensures in
    let items = slice_get-map (λ v. v.items) raw c.args.node ∙ ap (option_map (λ v. v.items)) read in
    let told = slice_get-map (map told_entry) (map (λ v. v.items) raw) c.args.node ∙ ap (option_map (map told_entry)) items in
    let at = woven_nodes-at 0 (feeder_acts c.self.inside.feeding.items) (map (map told_entry) (map (λ v. v.items) raw)) c.args.node (map told_entry c.index.result.now.items) told in
    let same : 0 + c.args.node ≡ c.args.node = omega arith in
    ap (λ h. slice_get h c.args.node) (sym c.self.view_is) ∙ at
    ∙ ap (λ n. Some (woven n (feeder_acts c.self.inside.feeding.items) (map told_entry c.index.result.now.items))) same
    ∙ ap (λ f. Some (woven c.args.node (feeder_acts f) (map told_entry c.index.result.now.items))) (sym c.deref.ensures.value)
    ∙ ap (λ e. Some (woven c.args.node (feeder_acts c.deref.result.now) (map told_entry e))) (sym c.deref-2.ensures.value)

pub returns-clause-nodes : goal.returns-clause-nodes
returns-clause-nodes c =
    let raw = c.self.inside.nodes.items in
    ap length (sym c.self.view_is) ∙ woven_nodes-length 0 (feeder_acts c.self.inside.feeding.items) (map (map told_entry) (map (λ v. v.items) raw))
    ∙ length-map (map (λ v. v.items) raw) (map told_entry) ∙ length-map raw (λ v. v.items) ∙ c.self.invariant
