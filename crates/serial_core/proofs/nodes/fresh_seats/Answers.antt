use Rattle.serial_core.proofs.Imports.{◌≡◌, ◌+◌, ◌++◌, ◌∷◌, [], ◌≤◌, ℕ, List, map, arith, refl, subst, sym, range_with_len, map-range_with_len_more, DEMUX_NODES, AnyCore, uncalled, IsSeat, IsUnder, Pairs, StandsAt, entries_in}
use Rattle.serial_core.proofs.Pairs.{pair_push}
use Rattle.serial_core.proofs.Seats.{seat_fresh, entries_count}
use Rattle.serial_core.proofs.nodes.fresh_seats.Goals as goal

next_push : {X Y : Type 0} (R : X → Y → Type 0) (f : ℕ → Y) (n : ℕ) (xs xs' : List X) (x : X) → xs' ≡ xs ++ x ∷ [] → R x (f n) → Pairs R xs (map f (range_with_len 0 n))
    → Pairs R xs' (map f (range_with_len 0 (n + 1)))
next_push R f n xs xs' x grown one before =
    let next : map f (range_with_len 0 (n + 1)) ≡ map f (range_with_len 0 n) ++ f n ∷ [] = map-range_with_len_more f 0 n n (omega arith) in
    rw (grown, next) (pair_push R xs (map f (range_with_len 0 n)) x (f n) before one)

pub nodes-preserved : goal.nodes-preserved
nodes-preserved c =
    let seat = c.new-in-nodes.result in
    let stands : StandsAt seat.core c.nodes.node [] = subst (λ (core : AnyCore). StandsAt core c.nodes.node []) (sym c.new-in-nodes.ensures.core) (c.nodes-test.true, c.new.ensures.stands) in
    let none : entries_in seat.core ≤ 0 = omega (arith, entries_count seat.core c.nodes.node [] stands) in (
      next_push (IsSeat []) uncalled c.nodes.node c.nodes.seats.items c.push.new.self.items seat c.in_ok-push.ensures.items
          (seat_fresh seat c.nodes.node stands c.new-in-nodes.ensures.node c.new-in-nodes.ensures.entries) c.nodes.invariant.0,
      next_push IsUnder (λ n. 0) c.nodes.node c.nodes.seats.items c.push.new.self.items seat c.in_ok-push.ensures.items none c.nodes.invariant.1,
    )

pub returns-clause-at : goal.returns-clause-at
returns-clause-at c =
    let seat = c.new-3.result in
    let last : c.nodes.node ≡ DEMUX_NODES = omega (arith, c.nodes-test.false, c.nodes.auto.node-end) in
    let stands : StandsAt seat.core DEMUX_NODES [] = subst (λ (core : AnyCore). StandsAt core DEMUX_NODES []) (sym c.new-3.ensures.core) (refl, c.new-2.ensures) in
    next_push (IsSeat []) uncalled DEMUX_NODES c.nodes.seats.items c.push-2.new.self.items seat c.in_ok-push-2.ensures.items
    (seat_fresh seat DEMUX_NODES stands c.new-3.ensures.node c.new-3.ensures.entries) (subst (λ n. Pairs (IsSeat []) c.nodes.seats.items (map uncalled (range_with_len 0 n))) last c.nodes.invariant.0)

pub returns-clause-none : goal.returns-clause-none
returns-clause-none c =
    let seat = c.new-3.result in
    let last : c.nodes.node ≡ DEMUX_NODES = omega (arith, c.nodes-test.false, c.nodes.auto.node-end) in
    let stands : StandsAt seat.core DEMUX_NODES [] = subst (λ (core : AnyCore). StandsAt core DEMUX_NODES []) (sym c.new-3.ensures.core) (refl, c.new-2.ensures) in
    let none : entries_in seat.core ≤ 0 = omega (arith, entries_count seat.core DEMUX_NODES [] stands) in
    next_push IsUnder (λ n. 0) DEMUX_NODES c.nodes.seats.items c.push-2.new.self.items seat c.in_ok-push-2.ensures.items none (subst (λ n. Pairs IsUnder c.nodes.seats.items (map (λ k. 0) (range_with_len 0 n))) last c.nodes.invariant.1)
