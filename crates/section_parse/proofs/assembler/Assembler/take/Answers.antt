use Rattle.section_parse.proofs.Imports.{◌≡◌, true, false, List, ℕ, sym, ◌∙◌, arith, unit_start, has_payload, is_usable, Assembly, left_of_open, repeats_last, joins_last, unread, bytes_of}
use Rattle.section_parse.proofs.Reading.{drained-open, left-settled}
use Rattle.section_parse.proofs.Steps.{kept-repeat, kept-break, kept-unit, kept-more}
use Rattle.section_parse.proofs.Giving.{ready-open}
use Rattle.section_parse.proofs.Pieces.{closed-unread, opened-unread, pointed-unread, carried-unread, pieces_of, view-taken}
use Rattle.section_parse.proofs.assembler.Assembler.take.Goals as goal

usable-payload : (pid : ℕ) (p : List ℕ) → is_usable pid p ≡ true → has_payload p ≡ true
usable-payload pid p h = grind (arith)

pub returns-then-repeats_last : goal.returns-then-repeats_last
returns-then-repeats_last c =
    let i = c.self.inside in
    let a : Assembly = pieces_of i.pid i.last (unread i.closing (bytes_of i.last)) (unread i.open_now (bytes_of i.last)) in
    let r : repeats_last i.last c.args.packet.now ≡ true = sym c.repeats_last.ensures ∙ c.if-repeats_last.true in
    rw (← c.self.view_is) (record { value = sym (kept-repeat a c.args.packet.now r) })

pub invariant_of-self : goal.invariant_of-self
invariant_of-self c = (usable-payload c.self.inside.pid c.args.packet.now (rw (← c.self.view_is) at c.requires.usable), c.requires.size)

pub returns-then-not-joins_last : goal.returns-then-not-joins_last
returns-then-not-joins_last c =
    let i = c.self.inside in
    let p = c.args.packet.now in
    let a : Assembly = pieces_of i.pid i.last (unread i.closing (bytes_of i.last)) (unread i.open_now (bytes_of i.last)) in
    let u : is_usable i.pid p ≡ true = rw (← c.self.view_is) at c.requires.usable in
    let r : repeats_last i.last p ≡ false = sym c.repeats_last.ensures ∙ c.if-repeats_last.false in
    let j : joins_last i.last p ≡ false = sym c.joins_last.ensures ∙ c.if-not-joins_last.true in
    let closing = closed-unread c.close.new.self p c.close.ensures in
    let open_now = opened-unread c.start_of_segment.result c.begin.new.self p c.begin.ensures.open c.begin.ensures.from c.begin.ensures.to c.requires.size c.start_of_segment.ensures.start in
    rw (← c.self.view_is) (record { value = view-taken i.pid p c.close.new.self c.begin.new.self _ _ closing open_now ∙ sym (kept-break a p u r j) })

pub keep-requires-clause-drained : goal.keep-requires-clause-drained
keep-requires-clause-drained c =
    let i = c.self.inside in
    let o = unread i.closing (bytes_of i.last) in
    let n = unread i.open_now (bytes_of i.last) in
    rw c.last_bytes.ensures (drained-open n (ready-open o n (rw (← c.self.view_is) at c.requires.drained)))

pub invariant_of-self-then-unit_start : goal.invariant_of-self-then-unit_start
invariant_of-self-then-unit_start c = (usable-payload c.self.inside.pid c.args.packet.now (rw (← c.self.view_is) at c.requires.usable), c.requires.size)

pub returns-then-unit_start : goal.returns-then-unit_start
returns-then-unit_start c =
    let i = c.self.inside in
    let p = c.args.packet.now in
    let a : Assembly = pieces_of i.pid i.last (unread i.closing (bytes_of i.last)) (unread i.open_now (bytes_of i.last)) in
    let u : is_usable i.pid p ≡ true = rw (← c.self.view_is) at c.requires.usable in
    let r : repeats_last i.last p ≡ false = sym c.repeats_last.ensures ∙ c.if-repeats_last.false in
    let j : joins_last i.last p ≡ true = sym c.joins_last.ensures ∙ c.if-not-joins_last.false in
    let t : unit_start p ≡ true = sym c.unit_start.ensures ∙ c.if-unit_start.true in
    let n = unread i.open_now (bytes_of i.last) in
    let s = left-settled n (drained-open n (ready-open (unread i.closing (bytes_of i.last)) n (rw (← c.self.view_is) at c.requires.drained))) in
    let k : c.add.new.self.begun ≡ left_of_open n = c.add.ensures.open ∙ (rw (c.last_bytes.ensures, ← s) at c.keep.ensures) in
    let closing = pointed-unread c.add.new.self (left_of_open n) c.args.first c.end_of_segment.result p k c.add.ensures.from c.add.ensures.to c.end_of_segment.ensures.end in
    let open_now = opened-unread c.start_of_segment-then-unit_start.result c.begin-then-unit_start.new.self p c.begin-then-unit_start.ensures.open c.begin-then-unit_start.ensures.from c.begin-then-unit_start.ensures.to c.requires.size c.start_of_segment-then-unit_start.ensures.start in
    rw (← c.self.view_is, c.swap.ensures.x_after) (record { value = view-taken i.pid p c.add.new.self c.begin-then-unit_start.new.self _ _ closing open_now ∙ sym (kept-unit a p u r j t) })

pub returns : goal.returns
returns c =
    let i = c.self.inside in
    let p = c.args.packet.now in
    let a : Assembly = pieces_of i.pid i.last (unread i.closing (bytes_of i.last)) (unread i.open_now (bytes_of i.last)) in
    let u : is_usable i.pid p ≡ true = rw (← c.self.view_is) at c.requires.usable in
    let r : repeats_last i.last p ≡ false = sym c.repeats_last.ensures ∙ c.if-repeats_last.false in
    let j : joins_last i.last p ≡ true = sym c.joins_last.ensures ∙ c.if-not-joins_last.false in
    let t : unit_start p ≡ false = sym c.unit_start.ensures ∙ c.if-unit_start.false in
    let n = unread i.open_now (bytes_of i.last) in
    let s = left-settled n (drained-open n (ready-open (unread i.closing (bytes_of i.last)) n (rw (← c.self.view_is) at c.requires.drained))) in
    let k : c.add-2.new.self.begun ≡ left_of_open n = c.add-2.ensures.open ∙ (rw (c.last_bytes.ensures, ← s) at c.keep.ensures) in
    let closing = closed-unread c.close-2.new.self p c.close-2.ensures in
    let open_now = carried-unread c.add-2.new.self (left_of_open n) c.args.first p k c.add-2.ensures.from c.add-2.ensures.to c.requires.first c.requires.size in
    rw (← c.self.view_is) (record { value = view-taken i.pid p c.close-2.new.self c.add-2.new.self _ _ closing open_now ∙ sym (kept-more a p u r j t) })
