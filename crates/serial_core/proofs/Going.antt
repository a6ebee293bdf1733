-- What a call does to the nodes.
use Rattle.serial_core.proofs.Imports.{◌≡◌, refl, sym, ap, subst, ◌∙◌, ℕ, ◌+◌, ◌<◌, ◌≤◌, false, List, [], ◌++◌, length, replicate, take, drop, get_or, set, arith, length-replicate, get_or-replicate, take-append-le, take_all, DEMUX_NODES, SerialNode, Nodes, Node, Run, begun, Pairs, IsSeat, IsNodes, IsUnder, AreUnder, acts_on, entries_in}
use Rattle.serial_core.proofs.Pairs.{pair_at, same_length, same_set, same_weaker}

-- ------ before the first call

pub nodes_begun : (v : Nodes) (packets : List (List ℕ)) → v.feeding.items ≡ [] → v.has_ended ≡ false → Pairs (IsSeat []) v.seats.items (begun packets).nodes → IsNodes v (begun packets)
nodes_begun v packets feeding end seats =
    let none : acts_on v ≡ [] = rw (feeding, end) refl in
    record { seats = subst (λ xs. Pairs (IsSeat xs) v.seats.items (begun packets).nodes) (sym none) seats; turns = ap length none; has_ended = end }

-- ------ the feeder's calls

-- all elements of a vector were lent, and came back as many
pub whole_back : {X : Type 0} (items lent now : List X) (len : ℕ) → len ≡ length items → lent ≡ items → length now ≡ length lent → take len (now ++ drop (length now) items) ≡ now
whole_back items lent now len fits is same =
    let count : length now ≡ len = same ∙ (ap length is ∙ sym fits) in
    take-append-le len now (drop (length now) items) (omega (arith, count)) ∙ take_all len now (omega (arith, count))

-- ------ a client's calls

pub nodes_called : (old new : Nodes) (r : Run) (ns : List Node) → Pairs (IsSeat (acts_on old)) new.seats.items ns
    → new.feeding ≡ old.feeding → new.has_ended ≡ old.has_ended → IsNodes old r → IsNodes new (record r { nodes = ns })
nodes_called old new r ns seats feeding end at =
    let same : acts_on new ≡ acts_on old = rw (feeding, end) refl in
    record { seats = subst (λ xs. Pairs (IsSeat xs) new.seats.items ns) (sym same) seats; turns = ap length same ∙ at.turns; has_ended = end ∙ at.has_ended }

-- ------ how many entries there are

pub under_more : (seats : List SerialNode) (m n : ℕ) → m ≤ n → AreUnder seats m → AreUnder seats n
under_more seats m n le under = same_weaker IsUnder (DEMUX_NODES + 1) seats m n (λ seat u. omega (arith, u, le)) under

pub seats_count : (seats : List SerialNode) (m : ℕ) → AreUnder seats m → length seats ≡ DEMUX_NODES + 1
seats_count seats m under = same_length IsUnder seats (replicate (DEMUX_NODES + 1) m) under ∙ length-replicate (DEMUX_NODES + 1) m

pub seat_under : (seats : List SerialNode) (i m : ℕ) (d : SerialNode) → i ≤ DEMUX_NODES → AreUnder seats m → entries_in (get_or seats i d).core ≤ m
seat_under seats i m d there under =
    let there' : i < length seats = omega (arith, seats_count seats m under, there) in
    subst (λ n. entries_in (get_or seats i d).core ≤ n) (get_or-replicate (DEMUX_NODES + 1) i m m (omega (arith, there))) (pair_at IsUnder i seats (replicate (DEMUX_NODES + 1) m) d m there' under)

pub under_set : (seats : List SerialNode) (i m : ℕ) (seat : SerialNode) → IsUnder seat m → AreUnder seats m → AreUnder (set seats i seat) m
under_set seats i m seat u under = same_set IsUnder (DEMUX_NODES + 1) i seats m seat u under
