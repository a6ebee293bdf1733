-- When each answer of the dvr node comes, from what the node gives.
use Rattle.dvr_core.proofs.Imports.{◌+◌, refl, invocation_of, response_of, core_view, ℕ, ◌≡◌, sym, ◌∙◌, ap, subst, false, Option, Some, None, Dvr, Invocation, Response, History, Params, Empty, dvr, Ledger, CoherentIn, Causes, Readable, expired_either, causes_by, Knows, moved, next, Gives, CoreValue, StandsFor}
use Rattle.dvr_core.proofs.Standing.{stands_on, knows}
use Rattle.dvr_core.proofs.dvr.DvrCore.apply.Goals as goal
use Rattle.dmx_calls.specs.Facts.{facts}

readable : (o : Option Ledger) → CoherentIn o → Readable Empty o
readable None c = tt
readable (Some l) c = (c, tt)

no_filter : (h : History) → (facts dvr h).params ≡ Empty
unfolding facts
no_filter h = refl

-- of a node that stands for a history
pub causes_of : (c c' : CoreValue) (who : ℕ) (call : Invocation) (r : Response) → CoherentIn c.facts.ledger → Gives (knows c) who call r → knows c' ≡ next (knows c) who call r
    → (h : History) → StandsFor c h → Causes Dvr c.facts c'.facts who call r
causes_of c c' who call r sound gives after h s =
    let empty : c.facts.params ≡ Empty = ap (λ f. f.params) s.known ∙ no_filter h in
    let R : Params → Type 0 = λ set. Readable set c.facts.ledger in
    let known : Readable c.facts.params c.facts.ledger = subst R (sym empty) (readable c.facts.ledger sound) in
    let C : Knows → Type 0 = λ k. Causes Dvr c.facts k.facts who call r in
    subst C (sym after) (causes_by (λ k. k.facts) moved Dvr (knows c) who r call gives known (λ now count. expired_either false r (λ l. l) c.facts.ledger))

pub returns-clause-stands : goal.returns-clause-stands
returns-clause-stands g c =
    let before = core_view c.self.inside in
    let after = core_view (record c.self.inside { entries = c.self.inside.entries + 1; kept = c.act-answer.new.kept }) in
    rw (← c.self.view_is) (stands_on before after c.args.who (invocation_of c.args.call) (response_of c.act-answer.result.reply)
    c.self.invariant.sound c.act-answer.ensures.said c.act-answer.ensures.after refl)

pub returns-clause-causes : goal.returns-clause-causes
returns-clause-causes g c =
    let before = core_view c.self.inside in
    let after = core_view (record c.self.inside { entries = c.self.inside.entries + 1; kept = c.act-answer.new.kept }) in
    rw (← c.self.view_is) (causes_of before after c.args.who (invocation_of c.args.call) (response_of c.act-answer.result.reply)
    c.self.invariant.sound c.act-answer.ensures.said c.act-answer.ensures.after)
