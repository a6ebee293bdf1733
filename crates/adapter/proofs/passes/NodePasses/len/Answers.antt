use Rattle.adapter.proofs.Imports.{rules, ◌≡◌, ℕ, ◌<◌, length, subst, sym, [], ◌∷◌, ◌++◌, nodes, caller_of, IsLegalAt, OneLooks, OneLook}
use Rattle.adapter.proofs.Pieces.{looks_left, looks_last}
use Rattle.adapter.proofs.ByNumber.{DemuxStood, DvrStood, demux_legal, dvr_legal}
use Rattle.adapter.proofs.passes.NodePasses.len.Goals as goal

pub returns-then-node-lt-DEMUX_NODES : goal.returns-then-node-lt-DEMUX_NODES
returns-then-node-lt-DEMUX_NODES c =
    let below : c.args.node < nodes = search rules in
    rw (← c.self.view_is) (looks_left caller_of DemuxStood (IsLegalAt c.args.node) (demux_legal c.args.node below) c.args.node c.len_in.result c.self.inside.demux.items c.len_in.new.passes.items c.self.inside.dvr c.len_in.ensures)

pub returns-else-node-lt-DEMUX_NODES : goal.returns-else-node-lt-DEMUX_NODES
returns-else-node-lt-DEMUX_NODES c =
    let at : c.args.node ≡ nodes = search rules in
    let ps = c.self.inside.demux.items in
    let long : length ps ≡ nodes = c.self.invariant in
    let e = c.len.ensures in let p = c.self.inside.dvr in let q = c.len.new.pass in
    let look : OneLook caller_of DvrStood c.len.result p q = record { seen = e.seen.0; long = e.seen.1; few = e.seen.2; looks = e.looks; own = e.calls.0; calls = e.calls.1; whole = e.whole; same = e.same.0; left = e.same.1; miss = e.same.2; meant = e.stood } in
    rw (← c.self.view_is) (subst (λ (n : ℕ). OneLooks caller_of (IsLegalAt n) n c.len.result (ps ++ p ∷ []) (ps ++ q ∷ [])) (sym at)
    (subst (λ (n : ℕ). OneLooks caller_of (IsLegalAt nodes) n c.len.result (ps ++ p ∷ []) (ps ++ q ∷ [])) long
    (looks_last caller_of DvrStood (IsLegalAt nodes) dvr_legal c.len.result ps p q look)))
