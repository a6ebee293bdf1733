use Rattle.dvr_core.proofs.Imports.{rules, ◌≡◌, refl, ◌∙◌, ap, true, Some, None, inl, Dvr, response_of, Close, Passed, is_accepted, dropping_accepted, gives_granted, Knows, moved, knows_in}
use Rattle.dvr_core.proofs.kept.KeptByDvr.close.Goals as goal

pub returns-in-Some-clause-said : goal.returns-in-Some-clause-said
returns-in-Some-clause-said c =
    let t = c.in-Some.tenure in
    let k : Knows = knows_in c.args.self.now.has_ended c.args.self.now.taps (Some t) in
    let had : c.args.self.now.tenure ≡ Some t = search rules in
    let held : t.owner ≡ c.args.who = search rules in
    rw (had, ← held) (gives_granted Dvr k.facts t.owner Close refl refl refl (moved k t.owner Close Passed).facts _
    (inl (c.close.ensures c.args.self.now.has_ended c.args.self.now.taps)))

pub returns-in-Some-clause-after : goal.returns-in-Some-clause-after
returns-in-Some-clause-after c =
    let had : c.args.self.now.tenure ≡ Some c.in-Some.tenure = search rules in
    let gone : c.take_if.new.self ≡ None = search rules in
    let ok : is_accepted (response_of c.close.result) ≡ true =
    ap is_accepted (c.close.ensures c.args.self.now.has_ended c.args.self.now.taps) ∙ dropping_accepted c.in-Some.tenure.buffer.ledger _ in
    rw (had, gone, ok) refl
