use Rattle.adapter.proofs.Imports.{rules, ◌≡◌, ℕ, ◌<◌, length, subst, sym, [], ◌∷◌, ◌++◌, nodes, told, caller_of, IsLegalAt, OneCalls, OneMore}
use Rattle.adapter.proofs.Pieces.{calls_left, calls_last}
use Rattle.adapter.proofs.ByNumber.{DemuxStood, DvrStood, demux_legal, dvr_legal}
use Rattle.adapter.proofs.passes.NodePasses.call.Goals as goal

pub returns-then-node-lt-DEMUX_NODES-clause-call : goal.returns-then-node-lt-DEMUX_NODES-clause-call
returns-then-node-lt-DEMUX_NODES-clause-call g c =
    let below : c.args.node < nodes = search rules in
    rw (← c.self.view_is) (calls_left caller_of DemuxStood (IsLegalAt c.args.node) (demux_legal c.args.node below) c.args.node (λ who. told who c.args.call c.call_in.result.1) c.call_in.result.0 c.self.inside.demux.items c.call_in.new.passes.items c.self.inside.dvr c.call_in.ensures.call)

pub returns-else-node-lt-DEMUX_NODES-clause-call : goal.returns-else-node-lt-DEMUX_NODES-clause-call
returns-else-node-lt-DEMUX_NODES-clause-call g c =
    let at : c.args.node ≡ nodes = search rules in
    let long : length c.self.inside.demux.items ≡ nodes = c.self.invariant in
    let e = c.call.ensures in let p = c.self.inside.dvr in let q = c.call.new.pass in
    let more : OneMore caller_of DvrStood (told p.1.number c.args.call c.call.result.1) c.call.result.0 p q =
    record { before = e.entry.0; seen = e.entry.1; now = e.entry.2; at = e.entry.3; few = e.place; told = e.told; calls = e.calls; same = e.same; left = e.left; miss = e.miss; meant = e.stood } in
    rw (← c.self.view_is) (subst (λ (n : ℕ). OneCalls caller_of (IsLegalAt n) n (λ who. told who c.args.call c.call.result.1) c.call.result.0 (c.self.inside.demux.items ++ p ∷ []) (c.self.inside.demux.items ++ q ∷ [])) (sym at)
    (subst (λ (n : ℕ). OneCalls caller_of (IsLegalAt nodes) n (λ who. told who c.args.call c.call.result.1) c.call.result.0 (c.self.inside.demux.items ++ p ∷ []) (c.self.inside.demux.items ++ q ∷ [])) long
    (calls_last caller_of DvrStood (IsLegalAt nodes) dvr_legal (λ who. told who c.args.call c.call.result.1) c.call.result.0 c.self.inside.demux.items p q more)))
