use Rattle.filter_match.proofs.Imports.{not, sym, refl, or-true, or-false}
use Rattle.filter_match.proofs.Bytes.{not-reached, matches-is}
use Rattle.filter_match.proofs.compiled.Compiled.selects.Goals as goal

pub returns-then-section-self : goal.returns-then-section-self
returns-then-section-self c = rw (← c.self.view_is) (sym (not-reached c.self.inside.filter c.args.section.now _ _ c.self.invariant c.if-section-self.true))

pub returns-then-compared-2 : goal.returns-then-compared-2
returns-then-compared-2 c =
    let n = c.self.inside.negates in
    let r = c.compare-compared.ensures in
    let m = matches-is c.self.inside.filter c.args.section.now c.self.inside.needed n _ _ c.self.invariant c.if-section-self.false r.equals r.differs in
    rw (← c.self.view_is, m, c.if-compared.true, c.if-compared-2.true) (sym (or-true (not n)))

pub returns-else-compared-2 : goal.returns-else-compared-2
returns-else-compared-2 c =
    let n = c.self.inside.negates in
    let r = c.compare-compared.ensures in
    let m = matches-is c.self.inside.filter c.args.section.now c.self.inside.needed n _ _ c.self.invariant c.if-section-self.false r.equals r.differs in
    rw (← c.self.view_is, m, c.if-compared.true, c.if-compared-2.false) (sym (or-false (not n)))

pub returns-else-compared : goal.returns-else-compared
returns-else-compared c =
    let n = c.self.inside.negates in
    let r = c.compare-compared.ensures in
    let m = matches-is c.self.inside.filter c.args.section.now c.self.inside.needed n _ _ c.self.invariant c.if-section-self.false r.equals r.differs in
    rw (← c.self.view_is, m, c.if-compared.false) refl
