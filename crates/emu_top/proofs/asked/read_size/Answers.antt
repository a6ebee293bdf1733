use Rattle.emu_top.proofs.Imports.{◌≡◌, ◌<◌, ◌≤◌, ◌∙◌, ap, subst, ◌∷◌, [], length, inl, inr, rules, arith, common_steps, Consumes-trans, Consumes, IsAtEnd, size_of}
use Rattle.emu_top.proofs.Asks.{in_line, no_line, one_byte, when_other, when_sized}
use Rattle.emu_top.proofs.asked.read_size.Goals as goal

pub returns-in-Err-clause-failed : goal.returns-in-Err-clause-failed
returns-in-Err-clause-failed g c e =
    let con : Consumes (g.S.Source.end c.args.source.now).left (g.S.Source.end c.read.new.self).left c.reading.line.items = search rules in
    let few : length c.reading.line.items < 40 = search rules in
    (c.reading.line.items, con, in_line c.reading.line.items c.reading.invariant.none few)

pub returns-in-Ok-eq0-clause-none : goal.returns-in-Ok-eq0-clause-none
returns-in-Ok-eq0-clause-none g c =
    let con : Consumes (g.S.Source.end c.args.source.now).left (g.S.Source.end c.read.new.self).left c.reading.line.items = search rules in
    let steady : (g.S.Source.end c.read.new.self).faults ≡ (g.S.Source.end c.args.source.now).faults = search rules in
    let end : IsAtEnd (g.S.Source.end c.read.new.self).left = search rules in
    no_line _ _ c.reading.line.items con steady c.reading.invariant.none c.reading.invariant.few (inr end)

pub returns-then-byte-eq10-clause-some : goal.returns-then-byte-eq10-clause-some
returns-then-byte-eq10-clause-some g c =
    let into = c.read.new.into in
    let one : length into ≡ 1 = search rules in
    let within : c.in-Ok.field-0 ≤ length into = search rules in
    let some : 1 ≤ c.in-Ok.field-0 = grind (arith, common_steps, c.in-Ok.field-0-test) in
    let is = one_byte into c.in-Ok.field-0 one within some c.if-byte-eq10.true in
    let read : Consumes (g.S.Source.end c.reading.source).left (g.S.Source.end c.read.new.self).left (10 ∷ []) =
    subst (λ bytes. Consumes (g.S.Source.end c.reading.source).left (g.S.Source.end c.read.new.self).left bytes) is c.in-Ok.ensures.bytes.0 in
    let steady : (g.S.Source.end c.read.new.self).faults ≡ (g.S.Source.end c.args.source.now).faults = search rules in
    let few : length c.reading.line.items < 40 = search rules in
    when_sized _ _ c.reading.line.items c.size_in.result (Consumes-trans _ _ _ _ _ c.reading.invariant.bytes read) steady c.reading.invariant.none few (c.size_in.ensures ∙ ap size_of c.deref.ensures.value)

pub returns-then-byte-eq10-clause-none : goal.returns-then-byte-eq10-clause-none
returns-then-byte-eq10-clause-none g c =
    let into = c.read.new.into in
    let one : length into ≡ 1 = search rules in
    let within : c.in-Ok.field-0 ≤ length into = search rules in
    let some : 1 ≤ c.in-Ok.field-0 = grind (arith, common_steps, c.in-Ok.field-0-test) in
    let is = one_byte into c.in-Ok.field-0 one within some c.if-byte-eq10.true in
    let read : Consumes (g.S.Source.end c.reading.source).left (g.S.Source.end c.read.new.self).left (10 ∷ []) =
    subst (λ bytes. Consumes (g.S.Source.end c.reading.source).left (g.S.Source.end c.read.new.self).left bytes) is c.in-Ok.ensures.bytes.0 in
    let steady : (g.S.Source.end c.read.new.self).faults ≡ (g.S.Source.end c.args.source.now).faults = search rules in
    let few : length c.reading.line.items < 40 = search rules in
    when_other _ _ c.reading.line.items c.size_in.result (Consumes-trans _ _ _ _ _ c.reading.invariant.bytes read) steady c.reading.invariant.none few (c.size_in.ensures ∙ ap size_of c.deref.ensures.value)

pub returns-clause-none : goal.returns-clause-none
returns-clause-none g c =
    let all : length c.reading.line.items ≡ 40 = search rules in
    no_line _ _ c.reading.line.items c.reading.invariant.bytes c.reading.invariant.steady c.reading.invariant.none c.reading.invariant.few (inl all)
