use Rattle.ts_batch.proofs.Imports.{◌≡◌, ◌∙◌, ◌<◌, ◌||◌, nat_eq, length, get_or, sym, ap, arith, zero-add, unwrap_or, list_any, take_all, slice_get_within, unwrap_or-slice_get, names, places_of, is_in}
use Rattle.ts_batch.proofs.Members.{places-below, member}
use Rattle.ts_batch.proofs.place_set.PlaceSet.add.Goals as goal

pub bounds-self-inside-from : goal.bounds-self-inside-from
bounds-self-inside-from c =
    let packets = c.args.batch.now.packets in
    let same : c.places-places.result.now ≡ places_of c.args.pid packets = c.places-places.ensures.value in
    let within : c.places.place-index < length (places_of c.args.pid packets) = rw same at c.places-test.true in
    let is : c.from.result ≡ get_or (places_of c.args.pid packets) c.places.place-index 0 = c.from.ensures ∙ ap (λ l. get_or l c.places.place-index 0) same in
    omega (arith, is, places-below (names c.args.pid) 0 packets c.places.place-index 0 within, c.places-places.ensures.batch.few)

pub returns : goal.returns
returns c = λ i packet at.
    let packets = c.args.batch.now.packets in
    let pid = c.args.pid in
    let within : i < length packets = slice_get_within packets i packet at in
    let places = take_all c.places.place-index c.places-places.result.now c.places-test.false ∙ c.places-places.ensures.value in
    let is : get_or packets i packet ≡ packet = sym (unwrap_or-slice_get packets i packet) ∙ ap (λ o. unwrap_or o packet) at in
    let listed : list_any (nat_eq i) (places_of pid packets) ≡ names pid packet =
    ap (λ n. list_any (nat_eq n) (places_of pid packets)) (sym (zero-add i)) ∙ member (names pid) 0 packets i packet within ∙ ap (names pid) is in
    c.places.invariant.marks i (omega (arith, within, c.places-places.ensures.batch.few))
    ∙ ap (λ l. is_in i c.self.inside.marks || list_any (nat_eq i) l) places
    ∙ ap (λ b. is_in i c.self.inside.marks || b) listed
    ∙ ap (λ m. is_in i m || names pid packet) c.self.view_is
