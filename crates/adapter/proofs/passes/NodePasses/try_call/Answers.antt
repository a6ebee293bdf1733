use Rattle.adapter.proofs.Imports.{rules, ◌≡◌, ℕ, ◌<◌, length, subst, sym, [], ◌∷◌, ◌++◌, nodes, IfOk-weaker, IfErr-weaker, told, caller_of, IsLegalAt, OneCalls, OneMisses}
use Rattle.adapter.proofs.Pieces.{calls_left, calls_last, misses_left, misses_last}
use Rattle.adapter.proofs.Tries.{tried_more, tried_miss}
use Rattle.adapter.proofs.ByNumber.{DemuxStood, DvrStood, demux_legal, dvr_legal}
use Rattle.adapter.proofs.passes.NodePasses.try_call.Goals as goal

pub returns-then-node-lt-DEMUX_NODES-clause-call : goal.returns-then-node-lt-DEMUX_NODES-clause-call
returns-then-node-lt-DEMUX_NODES-clause-call g c =
    let below : c.args.node < nodes = search rules in
    let ps = c.self.inside.demux.items in let qs = c.try_in.new.passes.items in let p = c.self.inside.dvr in
    rw (← c.self.view_is) (IfOk-weaker c.try_in.result _ _ (λ r o. calls_left caller_of DemuxStood (IsLegalAt c.args.node) (demux_legal c.args.node below) c.args.node (λ who. told who c.args.call r.1) r.0 ps qs p o) c.try_in.ensures.call)

pub returns-then-node-lt-DEMUX_NODES-clause-held : goal.returns-then-node-lt-DEMUX_NODES-clause-held
returns-then-node-lt-DEMUX_NODES-clause-held g c =
    let below : c.args.node < nodes = search rules in
    let ps = c.self.inside.demux.items in let qs = c.try_in.new.passes.items in let p = c.self.inside.dvr in
    rw (← c.self.view_is) (IfErr-weaker c.try_in.result _ _ (λ r o. misses_left caller_of DemuxStood (IsLegalAt c.args.node) (demux_legal c.args.node below) c.args.node r.1 ps qs p o) c.try_in.ensures.held)

pub returns-else-node-lt-DEMUX_NODES-clause-call : goal.returns-else-node-lt-DEMUX_NODES-clause-call
returns-else-node-lt-DEMUX_NODES-clause-call g c =
    let at : c.args.node ≡ nodes = search rules in
    let ps = c.self.inside.demux.items in let long : length ps ≡ nodes = c.self.invariant in
    let e = c.try_call.ensures in let p = c.self.inside.dvr in let q = c.try_call.new.pass in
    rw (← c.self.view_is) (IfOk-weaker c.try_call.result _ _ (λ r o.
    subst (λ (n : ℕ). OneCalls caller_of (IsLegalAt n) n (λ who. told who c.args.call r.1) r.0 (ps ++ p ∷ []) (ps ++ q ∷ [])) (sym at)
    (subst (λ (n : ℕ). OneCalls caller_of (IsLegalAt nodes) n (λ who. told who c.args.call r.1) r.0 (ps ++ p ∷ []) (ps ++ q ∷ [])) long
    (calls_last caller_of DvrStood (IsLegalAt nodes) dvr_legal (λ who. told who c.args.call r.1) r.0 ps p q o)))
    (tried_more caller_of DvrStood (λ r. told p.1.number c.args.call r.1) _ c.try_call.result p q e.entry e.place e.told e.calls e.same e.stood))

pub returns-else-node-lt-DEMUX_NODES-clause-held : goal.returns-else-node-lt-DEMUX_NODES-clause-held
returns-else-node-lt-DEMUX_NODES-clause-held g c =
    let at : c.args.node ≡ nodes = search rules in
    let ps = c.self.inside.demux.items in let long : length ps ≡ nodes = c.self.invariant in
    let e = c.try_call.ensures in let p = c.self.inside.dvr in let q = c.try_call.new.pass in
    rw (← c.self.view_is) (IfErr-weaker c.try_call.result _ _ (λ r o.
    subst (λ (n : ℕ). OneMisses caller_of (IsLegalAt n) n r.1 (ps ++ p ∷ []) (ps ++ q ∷ [])) (sym at)
    (subst (λ (n : ℕ). OneMisses caller_of (IsLegalAt nodes) n r.1 (ps ++ p ∷ []) (ps ++ q ∷ [])) long
    (misses_last caller_of DvrStood (IsLegalAt nodes) dvr_legal r.1 ps p q o)))
    (tried_miss caller_of DvrStood _ _ c.try_call.result p q e.looks e.held e.miss e.handed e.calls e.same e.stood))
