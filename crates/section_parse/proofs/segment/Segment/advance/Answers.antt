use Rattle.section_parse.proofs.Imports.{◌≡◌, ◌+◌, ◌≤◌, ◌++◌, length, take, false, arith, length-append, length-take, take_all, has_section, between}
use Rattle.section_parse.proofs.Pieces.{Filled, Announced, advance-packet, advance-header, advance-short, advance-whole, header-none, between-length}
use Rattle.section_parse.proofs.segment.Segment.advance.Goals as goal

pub returns-in-Some-clause-moves : goal.returns-in-Some-clause-moves
returns-in-Some-clause-moves c =
    let i = c.self.inside in
    let h = c.in-Some.ensures in
    rw (← c.self.view_is, c.if-not-self.false, c.truncate.ensures.items) (advance-packet i.begun.items i.kept i.from i.to c.in-Some.len c.args.packet.now c.if-self-eq0.true h.2 h.0 h.1)

pub invariant_of-self-in_default : goal.invariant_of-self-in_default
invariant_of-self-in_default c =
    let i = c.self.inside in
    let b = take i.kept i.begun.items in
    let p = between i.from i.to c.args.packet.now in
    let t = c.truncate.ensures.items in
    let f : Filled b p 3 c.fill.result = record { count = (rw t at c.fill.ensures.count) } in
    let e : c.fill.new.bytes.items ≡ b ++ take c.fill.result p = (rw t at c.fill.ensures.items) in
    let v = c.self.invariant in
    let n = f.count in
    let l : length c.fill.new.bytes.items ≤ 4096 = rw e (omega (arith, length-append b (take c.fill.result p), length-take c.fill.result p, length-take i.kept i.begun.items, v.3)) in
    let h = rw (c.deref.ensures.value, e) at c.in_default.ensures in
    let none : has_section c.fill.new.bytes.items ≡ false = rw e (header-none b p c.fill.result f h) in (
      omega (arith, between-length i.from i.to c.args.packet.now, v.0, n),
      v.1,
      omega (arith, c.len-self-inside.ensures),
      l,
      omega (arith, c.truncate.ensures.capacity, c.fill.ensures.capacity, v.4),
      rw (take_all c.len-self-inside.result c.fill.new.bytes.items (omega (arith, c.len-self-inside.ensures))) none,
    )

pub returns-in_default-clause-moves : goal.returns-in_default-clause-moves
returns-in_default-clause-moves c =
    let i = c.self.inside in
    let b = take i.kept i.begun.items in
    let p = between i.from i.to c.args.packet.now in
    let t = c.truncate.ensures.items in
    let f : Filled b p 3 c.fill.result = record { count = (rw t at c.fill.ensures.count) } in
    let e : c.fill.new.bytes.items ≡ b ++ take c.fill.result p = (rw t at c.fill.ensures.items) in
    let h = rw c.deref.ensures.value at c.in_default.ensures in
    rw (← c.self.view_is, c.if-not-self.false) (advance-header b c.fill.new.bytes.items c.len-self-inside.result i.from i.to c.fill.result c.args.packet.now f e (omega (arith, c.len-self-inside.ensures)) h)

pub returns-then-self-len-clause-moves : goal.returns-then-self-len-clause-moves
returns-then-self-len-clause-moves c =
    let i = c.self.inside in
    let b = take i.kept i.begun.items in
    let p = between i.from i.to c.args.packet.now in
    let t = c.truncate.ensures.items in
    let f : Filled b p 3 c.fill.result = record { count = (rw t at c.fill.ensures.count) } in
    let e : c.fill.new.bytes.items ≡ b ++ take c.fill.result p = (rw t at c.fill.ensures.items) in
    let h = rw c.deref.ensures.value at c.in-Some-announced_len.ensures in
    let a : Announced c.fill.new.bytes.items c.in-Some-announced_len.len = record { header = h.0; length_is = h.1; goes_on = h.3 } in
    let q = between (i.from + c.fill.result) i.to c.args.packet.now in
    let g : Filled c.fill.new.bytes.items q c.in-Some-announced_len.len c.fill-2.result = record { count = c.fill-2.ensures.count } in
    let d : c.fill-2.new.bytes.items ≡ c.fill.new.bytes.items ++ take c.fill-2.result q = c.fill-2.ensures.items in
    rw (← c.self.view_is, c.if-not-self.false) (advance-short b c.fill.new.bytes.items c.fill-2.new.bytes.items c.len-self-inside-2.result i.from i.to c.fill.result c.fill-2.result c.in-Some-announced_len.len c.args.packet.now f e a g d (omega (arith, c.len-self-inside-2.ensures)) c.if-self-len.true)

pub returns-clause-moves : goal.returns-clause-moves
returns-clause-moves c =
    let i = c.self.inside in
    let b = take i.kept i.begun.items in
    let p = between i.from i.to c.args.packet.now in
    let t = c.truncate.ensures.items in
    let f : Filled b p 3 c.fill.result = record { count = (rw t at c.fill.ensures.count) } in
    let e : c.fill.new.bytes.items ≡ b ++ take c.fill.result p = (rw t at c.fill.ensures.items) in
    let h = rw c.deref.ensures.value at c.in-Some-announced_len.ensures in
    let a : Announced c.fill.new.bytes.items c.in-Some-announced_len.len = record { header = h.0; length_is = h.1; goes_on = h.3 } in
    let q = between (i.from + c.fill.result) i.to c.args.packet.now in
    let g : Filled c.fill.new.bytes.items q c.in-Some-announced_len.len c.fill-2.result = record { count = c.fill-2.ensures.count } in
    let d : c.fill-2.new.bytes.items ≡ c.fill.new.bytes.items ++ take c.fill-2.result q = c.fill-2.ensures.items in
    let s : c.in-Some-announced_len.len ≤ length c.fill-2.new.bytes.items = omega (arith, c.len-self-inside-2.ensures, c.if-self-len.false) in
    rw (← c.self.view_is, c.if-not-self.false) (advance-whole b c.fill.new.bytes.items c.fill-2.new.bytes.items i.from i.to c.fill.result c.fill-2.result c.in-Some-announced_len.len c.args.packet.now c.self.invariant.5 f e a g d s)
