use Rattle.section_parse.proofs.Imports.{◌∙◌, ap, Assembly, take_more, map-append}
use Rattle.section_parse.proofs.assembler.all_sections.Goals as goal

pub sections-init : goal.sections-init
sections-init c =
    let i = c.packets.invariant in
    let e = take_more c.args.packets.now c.packets.packet-index c.packet-item.result c.packets-test.true in
    record { same = c.push.ensures.pid ∙ i.same; stands = rw (e, ← c.packet-item.is) (c.push.ensures.stands _ _ i.stands) }

pub sections-preserved : goal.sections-preserved
sections-preserved c =
    let g = rw c.in-Some.is at c.next.follows.holds-at-none in
    let h = g.stands _ _ c.sections.invariant.stands in
    let t = c.in_ok-to_vec.ensures.items_if_clones_equal in
    let p = c.in_ok-push.ensures.items in
    record { same = ap (λ (a : Assembly). a.pid) g.value ∙ c.sections.invariant.same; stands = rw (p, map-append, t (λ x y e. e)) h }
