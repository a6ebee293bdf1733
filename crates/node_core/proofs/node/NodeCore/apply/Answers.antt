-- When each answer of a demux node comes, from what the node gives.
use Rattle.node_core.proofs.Imports.{◌+◌, refl, invocation_of, response_of, core_view, ℕ, ◌≡◌, sym, subst, Option, Some, None, Demux, Invocation, Response, History, Since, Params, params, capture, timeout_of, items, demux, answered, edge, Ledger, Facts, ledger_of, is_section, expiring, CoherentIn, Causes, around_edge, Readable, still_by, expired_either, causes_by, Knows, moved, next, IsSoundFor, IsSound, Gives, CoreValue, StandsFor, joined, total}
use Rattle.node_core.proofs.Looking.{has_its_pid}
use Rattle.node_core.proofs.Standing.{stands_on, knows}
use Rattle.node_core.proofs.node.NodeCore.apply.Goals as goal
use Rattle.dmx_calls.specs.Facts.{facts}
use Rattle.node_core.proofs.Moves.{coherent_by}

-- what a Read rests on
readable_of : (h : History) (o : Option Since) → CoherentIn (ledger_of demux h o) → Readable (params h) (ledger_of demux h o)
unfolding total joined
readable_of h None c = tt
readable_of h (Some s) c = (c, still_by (params h) (edge demux h) (items h) (answered demux h) (around_edge demux h c).1)

readable : (h : History) → CoherentIn (facts demux h).ledger → Readable (facts demux h).params (facts demux h).ledger
unfolding facts
readable h c = readable_of h (capture h) c

coherent_in : (o : Option ℕ) (set : Params) (l : Option Ledger) → IsSoundFor o set l → CoherentIn l
coherent_in o set None k = tt
coherent_in o set (Some l) k = coherent_by o set l k

-- of a node that stands for a history
pub causes_of : (c c' : CoreValue) (who : ℕ) (call : Invocation) (r : Response) → IsSound (knows c) → Gives (knows c) who call r → knows c' ≡ next (knows c) who call r
    → (h : History) → StandsFor c h → Causes Demux c.facts c'.facts who call r
causes_of c c' who call r sound gives after h s =
    let P : Facts → Type 0 = λ f. CoherentIn f.ledger → Readable f.params f.ledger in
    let known : Readable c.facts.params c.facts.ledger = subst P (sym s.known) (readable h) (coherent_in c.facts.owner c.facts.params c.facts.ledger sound.facts) in
    let Q : Knows → Type 0 = λ k. Causes Demux c.facts k.facts who call r in
    subst Q (sym after) (causes_by (λ k. k.facts) moved Demux (knows c) who r call gives known (λ now count. expired_either (is_section c.facts.params) r (expiring (timeout_of c.facts.params) now) c.facts.ledger))

pub returns-clause-stands : goal.returns-clause-stands
returns-clause-stands g c =
    let before = core_view c.self.inside in
    let after = core_view (record c.self.inside { entries = c.self.inside.entries + 1; kept = c.act-answer.new.kept }) in
    rw (← c.self.view_is) (stands_on before after c.args.who (invocation_of c.args.call) (response_of c.act-answer.result.reply)
    c.self.invariant.sound (has_its_pid c.self.inside.kept) c.act-answer.ensures.said c.act-answer.ensures.after refl)

pub returns-clause-causes : goal.returns-clause-causes
returns-clause-causes g c =
    let before = core_view c.self.inside in
    let after = core_view (record c.self.inside { entries = c.self.inside.entries + 1; kept = c.act-answer.new.kept }) in
    rw (← c.self.view_is) (causes_of before after c.args.who (invocation_of c.args.call) (response_of c.act-answer.result.reply)
    c.self.invariant.sound c.act-answer.ensures.said c.act-answer.ensures.after)

pub returns-clause-cost : goal.returns-clause-cost
returns-clause-cost g c = rw (← c.self.view_is) c.act-answer.ensures.cost
