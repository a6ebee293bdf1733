use Rattle.ts_batch.proofs.Imports.{◌≡◌, ◌∙◌, sym, ap, get_or, names}
use Rattle.ts_batch.proofs.Places.{places-yes, places-no, places-end}
use Rattle.ts_batch.proofs.index.put_places.Goals.{then-is_named+in_ok-push, else-is_named}
use Rattle.ts_batch.proofs.index.put_places.Goals as goal

pub packets-preserved : goal.packets-preserved
packets-preserved c =
    let test = names c.args.pid in
    let packet = c.index-packets-place.result in
    let told : test (get_or c.args.packets.now c.packets.place packet) ≡ c.is_named.result = ap test (sym c.index-packets-place.is) ∙ sym c.is_named.ensures in
    elim c.if-is_named.branch [
      | then-is_named+in_ok-push w ↦ rw (w.places-is, w.in_ok-push.ensures.items)
          (places-yes test c.packets.places.items c.args.packets.now c.packets.place packet c.packets-test.true (told ∙ w.if-is_named.true) ∙ c.packets.invariant)
      | else-is_named w ↦ rw w.places-is
          (places-no test c.packets.places.items c.args.packets.now c.packets.place packet c.packets-test.true (told ∙ w.if-is_named.false) ∙ c.packets.invariant)
    ]

pub returns : goal.returns
returns c = sym (places-end (names c.args.pid) c.packets.places.items c.args.packets.now c.packets.place c.packets-test.false) ∙ c.packets.invariant
