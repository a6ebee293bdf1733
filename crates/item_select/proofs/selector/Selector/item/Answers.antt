use Rattle.item_select.proofs.Imports.{option_map, IfSome, IsNone, ◌≤◌, Option, Some, None, List, ℕ, length, refl, arith, Bor}
use Rattle.item_select.proofs.Viewed.{next-section, next-payload}
use Rattle.item_select.proofs.selector.Selector.item.Goals as goal

pub returns-else-not-find : goal.returns-else-not-find
returns-else-not-find c =
    let i = c.self.inside in
    let s = c.in-Sections in
    let f = rw c.if-not-find.false at c.find.ensures.found in
    let a = next-section i.wanted s.pid s.filter s.check s.once i.assembler c.find.new.assembler i.is_spent i.waits i.last c.find.new.found.items s.is c.if-self.false f c.find.ensures.kept in
    rw (← c.self.view_is, c.deref.ensures.value) ((refl, λ _. tt, a.gave), record { item = a.item; drained = a.drained; some = c.find.ensures.some c.if-not-find.false; most = c.find.ensures.fits c.if-not-find.false; none = a.none; after = tt })

fits : (r : Option (Bor (List ℕ))) → IfSome r (λ x. length x.now ≤ 184) → IfSome r (λ x. length x.now ≤ 4096)
fits None h = h
fits (Some x) h = omega (arith, h)

now-none : (r : Option (Bor (List ℕ))) → IsNone r → IsNone (option_map (λ x. x.now) r)
now-none None e = refl
now-none (Some x) e = absurd cc

was-none : (r : Option (Bor (List ℕ))) → IsNone (option_map (λ x. x.now) r) → IsNone r
was-none None e = refl
was-none (Some x) e = absurd cc

pub returns-in-Payload : goal.returns-in-Payload
returns-in-Payload c =
    let i = c.self.inside in
    let s = c.in-Packets in
    let r = c.payload.result in
    let a = next-payload i.wanted s.give i.assembler i.is_spent i.waits i.last (option_map (λ x. x.now) r) s.is c.in-Payload.is c.if-not-self.false c.payload.ensures.value in
    rw (← c.self.view_is) (
      (refl, λ _. tt, a.gave),
      record {
        item = a.item;
        drained = (λ e. a.drained.0 (now-none r e), λ d. was-none r (a.drained.1 d));
        some = c.payload.ensures.some;
        most = fits r c.payload.ensures.fits;
        none = λ offered given h. (λ e. (a.none offered given h).0 (now-none r e), λ d. was-none r ((a.none offered given h).1 d));
        after = tt;
      },
    )
