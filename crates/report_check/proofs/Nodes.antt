-- Which histories a report stands for, node by node.
use Rattle.report_check.proofs.Imports.{◌≡◌, ◌<◌, ◌≤◌, ◌+◌, refl, sym, ap, subst, ◌∙◌, ◌⊎◌, inl, inr, ℕ, zero, suc, List, [], ◌∷◌, Bool, true, false, nat_eq, length, arith, nat_tests, All-head, All-tail, Some, slice_get, All, nat_le, ◌&&◌, LogEntry, ToldNode, is_whole_node, renumbered, complete, of_client, queues_in, and_parts}
use Rattle.report_read.specs.Report.{are_placed, are_nodes}
use Rattle.report_check.proofs.Idle.{AllZero}

-- ------ nodes in their order

-- the nodes have numbers below this one
abbrev pub AreBelow : (limit : ℕ) → List ToldNode → Type 0
AreBelow limit ns = All (λ n. n.node < limit) ns

pub record IsFirst (node : ℕ) (n : ToldNode) (ns : List ToldNode) : Type 0 where
  pub low : node ≤ n.node
  pub whole : is_whole_node n ≡ true
  pub later : are_nodes (suc n.node) ns ≡ true

pub first_of : (node : ℕ) (n : ToldNode) (ns : List ToldNode) → are_nodes node (n ∷ ns) ≡ true → IsFirst node n ns
unfolding are_nodes
first_of node n ns order =
    let parts = and_parts (nat_le node n.node && is_whole_node n) (are_nodes (suc n.node) ns) order in
    let front = and_parts (nat_le node n.node) (is_whole_node n) parts.0 in
    let low : node ≤ n.node = grind (arith, nat_tests, front.0) in
    record { low = low; whole = front.1; later = parts.1 }

pub from_there : (node : ℕ) (n : ToldNode) (ns : List ToldNode) → IsFirst node n ns → node ≤ n.node → nat_eq n.node node ≡ false → are_nodes (suc node) (n ∷ ns) ≡ true
unfolding are_nodes
from_there node n ns first low apart =
    let high : nat_le (suc node) n.node ≡ true = grind (arith, nat_tests) in
    rw (high, first.whole, first.later) refl

pub none_lower : (node : ℕ) (ns : List ToldNode) → are_nodes node ns ≡ true → (i : ℕ) (n : ToldNode) → slice_get ns i ≡ Some n → node ≤ n.node
none_lower node [] order i n at = absurd (cc)
none_lower node (m ∷ ns) order zero n at =
    let same : m ≡ n = cc in
    subst (λ (x : ToldNode). node ≤ x.node) same (first_of node m ns order).low
none_lower node (m ∷ ns) order (suc i) n at =
    let first = first_of node m ns order in
    let later = none_lower (suc m.node) ns first.later i n at in
    omega (arith, first.low, later)

pub each_whole : (node : ℕ) (ns : List ToldNode) → are_nodes node ns ≡ true → (i : ℕ) (n : ToldNode) → slice_get ns i ≡ Some n → is_whole_node n ≡ true
each_whole node [] order i n at = absurd (cc)
each_whole node (m ∷ ns) order zero n at =
    let same : m ≡ n = cc in
    subst (λ (x : ToldNode). is_whole_node x ≡ true) same (first_of node m ns order).whole
each_whole node (m ∷ ns) order (suc i) n at = each_whole (suc m.node) ns (first_of node m ns order).later i n at

placed_at : (place : ℕ) (es : List LogEntry) → are_placed place es ≡ true → (i : ℕ) (e : LogEntry) → slice_get es i ≡ Some e → e.place ≡ place + i
unfolding are_placed
placed_at place [] all i e at = absurd (cc)
placed_at place (f ∷ es) all zero e at =
    let same : f ≡ e = cc in
    let parts = and_parts (nat_eq f.place place) (are_placed (suc place) es) all in
    let here : f.place ≡ place + 0 = grind (arith, nat_tests, parts.0) in
    subst (λ (x : LogEntry). x.place ≡ place + 0) same here
placed_at place (f ∷ es) all (suc i) e at =
    let parts = and_parts (nat_eq f.place place) (are_placed (suc place) es) all in
    let later = placed_at (suc place) es parts.1 i e at in
    omega (arith, later)

pub in_place : (n : ToldNode) → is_whole_node n ≡ true → (i : ℕ) (e : LogEntry) → slice_get n.entries i ≡ Some e → e.place ≡ i
in_place n whole i e at =
    let parts = and_parts _ (are_placed 0 n.entries) whole in
    let there = placed_at 0 n.entries parts.1 i e at in
    omega (arith, there)

-- ------ all nodes

pub complete_long : (left node : ℕ) (feeder : List LogEntry) (ns : List ToldNode) → length (complete left node feeder ns) ≡ left
complete_long zero node feeder ns = refl
complete_long (suc left) node feeder [] = ap suc (complete_long left (suc node) feeder [])
complete_long (suc left) node feeder (n ∷ ns) = by (nat_eq n.node node) refl (complete_long left (suc node) feeder ns) (complete_long left (suc node) feeder (n ∷ ns))
  where
    by : (b : Bool) → nat_eq n.node node ≡ b → length (complete left (suc node) feeder ns) ≡ left → length (complete left (suc node) feeder (n ∷ ns)) ≡ left → length (complete (suc left) node feeder (n ∷ ns)) ≡ suc left
    by true e on skip = rw e (ap suc on)
    by false e on skip = rw e (ap suc skip)

-- a node is told, and these are its entries
pub record IsTold (ns : List ToldNode) (here : ℕ) (h : List LogEntry) : Type 0 where
  pub index : ℕ
  pub node : ToldNode
  pub at : slice_get ns index ≡ Some node
  pub number : node.node ≡ here
  pub entries : h ≡ node.entries

abbrev pub TellsOrNot : (ns : List ToldNode) (feeder : List LogEntry) (number : ℕ) (h : List LogEntry) → Type 0
TellsOrNot ns feeder number h = IsTold ns number h ⊎ (h ≡ renumbered number 0 feeder)

told_later : (n : ToldNode) (ns : List ToldNode) (number : ℕ) (h : List LogEntry) → IsTold ns number h → IsTold (n ∷ ns) number h
told_later n ns number h is = record { index = suc is.index; node = is.node; at = is.at; number = is.number; entries = is.entries }

more_told : (n : ToldNode) (ns : List ToldNode) (feeder : List LogEntry) (number : ℕ) (h : List LogEntry) → TellsOrNot ns feeder number h → TellsOrNot (n ∷ ns) feeder number h
more_told n ns feeder number h (inl is) = inl (told_later n ns number h is)
more_told n ns feeder number h (inr is) = inr is

next_number : (ns : List ToldNode) (feeder : List LogEntry) (node i : ℕ) (h : List LogEntry) → TellsOrNot ns feeder (suc node + i) h → TellsOrNot ns feeder (node + suc i) h
next_number ns feeder node i h is =
    let sum : suc node + i ≡ node + suc i = omega arith in
    subst (λ (k : ℕ). TellsOrNot ns feeder k h) sum is

pub complete_at : (left node : ℕ) (feeder : List LogEntry) (ns : List ToldNode) (i : ℕ) (h : List LogEntry) → slice_get (complete left node feeder ns) i ≡ Some h → TellsOrNot ns feeder (node + i) h
complete_at zero node feeder ns i h at = absurd (cc)
complete_at (suc left) node feeder [] zero h at =
    let same : renumbered node 0 feeder ≡ h = cc in
    let start : node ≡ node + 0 = omega arith in
    inr (sym same ∙ ap (λ (k : ℕ). renumbered k 0 feeder) start)
complete_at (suc left) node feeder [] (suc i) h at = next_number [] feeder node i h (complete_at left (suc node) feeder [] i h at)
complete_at (suc left) node feeder (n ∷ ns) i h at =
    by (nat_eq n.node node) refl i (λ j there. complete_at left (suc node) feeder ns j h there) (λ j there. complete_at left (suc node) feeder (n ∷ ns) j h there) at
  where
    by : (b : Bool) → nat_eq n.node node ≡ b → (i : ℕ)
        → ((j : ℕ) → slice_get (complete left (suc node) feeder ns) j ≡ Some h → TellsOrNot ns feeder (suc node + j) h)
        → ((j : ℕ) → slice_get (complete left (suc node) feeder (n ∷ ns)) j ≡ Some h → TellsOrNot (n ∷ ns) feeder (suc node + j) h)
        → slice_get (complete (suc left) node feeder (n ∷ ns)) i ≡ Some h → TellsOrNot (n ∷ ns) feeder (node + i) h
    by true e zero on skip at =
        let here : slice_get (n.entries ∷ complete left (suc node) feeder ns) 0 ≡ Some h = rw e at at in
        let same : n.entries ≡ h = cc in
        let number : n.node ≡ node + 0 = grind (arith, nat_tests) in
        inl (record { index = 0; node = n; at = refl; number = number; entries = sym same })
    by true e (suc j) on skip at =
        let there : slice_get (n.entries ∷ complete left (suc node) feeder ns) (suc j) ≡ Some h = rw e at at in
        next_number (n ∷ ns) feeder node j h (more_told n ns feeder (suc node + j) h (on j there))
    by false e zero on skip at =
        let here : slice_get (renumbered node 0 feeder ∷ complete left (suc node) feeder (n ∷ ns)) 0 ≡ Some h = rw e at at in
        let same : renumbered node 0 feeder ≡ h = cc in
        let start : node ≡ node + 0 = omega arith in
        inr (sym same ∙ ap (λ (k : ℕ). renumbered k 0 feeder) start)
    by false e (suc j) on skip at =
        let there : slice_get (renumbered node 0 feeder ∷ complete left (suc node) feeder (n ∷ ns)) (suc j) ≡ Some h = rw e at at in
        next_number (n ∷ ns) feeder node j h (skip j there)

pub told_at : (left node : ℕ) (feeder : List LogEntry) (ns : List ToldNode) → are_nodes node ns ≡ true → AreBelow (node + left) ns
    → (i : ℕ) (n : ToldNode) → slice_get ns i ≡ Some n → (k : ℕ) → node + k ≡ n.node → slice_get (complete left node feeder ns) k ≡ Some n.entries
told_at left node feeder [] order below i n at k is = absurd (cc)
told_at zero node feeder (m ∷ ns) order below i n at k is =
    let low = (first_of node m ns order).low in
    let high : m.node < node + 0 = All-head (λ (x : ToldNode). x.node < node + 0) m ns below in
    absurd (omega (arith, low, high))
told_at (suc left) node feeder (m ∷ ns) order below i n at k is =
    let sum : node + suc left ≡ suc node + left = omega arith in
    let lower : AreBelow (suc node + left) (m ∷ ns) = subst (λ (limit : ℕ). AreBelow limit (m ∷ ns)) sum below in
    let first = first_of node m ns order in
    by (nat_eq m.node node) refl i k at is
    (λ e j l there sum'. let same : m.node ≡ node = grind (arith, nat_tests) in
    told_at left (suc node) feeder ns (subst (λ (x : ℕ). are_nodes (suc x) ns ≡ true) same first.later) (All-tail (λ (x : ToldNode). x.node < suc node + left) m ns lower) j n there l sum')
    (λ e l sum'. told_at left (suc node) feeder (m ∷ ns) (from_there node m ns first first.low e) lower i n at l sum')
    (λ e. none_lower (suc node) (m ∷ ns) (from_there node m ns first first.low e) i n at)
    (λ j there. none_lower (suc m.node) ns first.later j n there)
  where
    by : (b : Bool) → nat_eq m.node node ≡ b → (i k : ℕ) → slice_get (m ∷ ns) i ≡ Some n → node + k ≡ n.node
        → (nat_eq m.node node ≡ true → (j l : ℕ) → slice_get ns j ≡ Some n → suc node + l ≡ n.node → slice_get (complete left (suc node) feeder ns) l ≡ Some n.entries)
        → (nat_eq m.node node ≡ false → (l : ℕ) → suc node + l ≡ n.node → slice_get (complete left (suc node) feeder (m ∷ ns)) l ≡ Some n.entries)
        → (nat_eq m.node node ≡ false → suc node ≤ n.node)
        → ((j : ℕ) → slice_get ns j ≡ Some n → suc m.node ≤ n.node)
        → slice_get (complete (suc left) node feeder (m ∷ ns)) k ≡ Some n.entries
    by true e zero zero at is on skip high later =
        let same : m ≡ n = cc in
        rw e (ap (λ (x : ToldNode). Some x.entries) same)
    by true e zero (suc l) at is on skip high later =
        let same : m ≡ n = cc in
        let number : m.node ≡ n.node = ap (λ (x : ToldNode). x.node) same in
        absurd (grind (arith, nat_tests))
    by true e (suc j) zero at is on skip high later =
        let more = later j at in
        absurd (grind (arith, nat_tests))
    by true e (suc j) (suc l) at is on skip high later = rw e (on e j l at (omega (arith, is)))
    by false e i zero at is on skip high later =
        let more = high e in
        absurd (omega (arith, more, is))
    by false e i (suc l) at is on skip high later = rw e (skip e l (omega (arith, is)))

-- ------ the clients' queues are those of the told nodes

quiet : (client node place : ℕ) (es : List LogEntry) → AllZero es → of_client client (renumbered node place es) ≡ []
quiet client node place [] all = refl
quiet client node place (e ∷ es) all =
    let no : nat_eq e.who (client + 1) ≡ false = grind (arith, nat_tests, all.0) in
    rw no (quiet client node (suc place) es all.1)

pub same_queues : (client left node : ℕ) (feeder : List LogEntry) (ns : List ToldNode) → AllZero feeder → queues_in client (complete left node feeder ns) ≡ queues_in client (complete left node [] ns)
same_queues client zero node feeder ns all = refl
same_queues client (suc left) node feeder [] all = rw (quiet client node 0 feeder all, same_queues client left (suc node) feeder [] all) refl
same_queues client (suc left) node feeder (n ∷ ns) all =
    by (nat_eq n.node node) refl (same_queues client left (suc node) feeder ns all) (same_queues client left (suc node) feeder (n ∷ ns) all)
  where
    by : (b : Bool) → nat_eq n.node node ≡ b
        → queues_in client (complete left (suc node) feeder ns) ≡ queues_in client (complete left (suc node) [] ns)
        → queues_in client (complete left (suc node) feeder (n ∷ ns)) ≡ queues_in client (complete left (suc node) [] (n ∷ ns))
        → queues_in client (complete (suc left) node feeder (n ∷ ns)) ≡ queues_in client (complete (suc left) node [] (n ∷ ns))
    by true e on skip = rw (e, on) refl
    by false e on skip = rw (e, quiet client node 0 feeder all, skip) refl
