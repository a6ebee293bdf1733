-- There are no more entries than bytes.
use Rattle.report_check.proofs.Imports.{◌≡◌, ◌<◌, ◌≤◌, ◌+◌, ◌^◌, refl, ℕ, zero, suc, List, [], ◌∷◌, ◌++◌, Bool, true, false, nat_eq, length, codes, arith, All-cons, All-nil, All, flat_map, LogEntry, DEMUX_NODES, node_text, act_text, response_text, entry_text, caller_text, tally_text, row_text, clients_text, end_text, ToldNode, Told, told_node_text, text_of, complete, dealt, left_on}
use Rattle.std.proofs.lemmas.List.{length-append}

entry_long : (e : LogEntry) → 1 ≤ length (entry_text e)
entry_long e =
    let behind : List ℕ = act_text e.act ++ (codes " = " ++ (response_text e.response ++ codes "\n")) in
    let a : length (entry_text e) ≡ length (caller_text e.place e.who e.step) + length behind = length-append (caller_text e.place e.who e.step) behind in
    let b : length behind ≡ length (act_text e.act) + length (codes " = " ++ (response_text e.response ++ codes "\n")) = length-append (act_text e.act) (codes " = " ++ (response_text e.response ++ codes "\n")) in
    let c : length (codes " = " ++ (response_text e.response ++ codes "\n")) ≡ 3 + length (response_text e.response ++ codes "\n") = length-append (codes " = ") (response_text e.response ++ codes "\n") in
    omega (arith, a, b, c)

entries_long : (es : List LogEntry) → length es ≤ length (flat_map entry_text es)
entries_long [] = omega arith
entries_long (e ∷ es) =
    let a : length (flat_map entry_text (e ∷ es)) ≡ length (entry_text e) + length (flat_map entry_text es) = length-append (entry_text e) (flat_map entry_text es) in
    omega (arith, a, entry_long e, entries_long es)

node_long : (n : ToldNode) → length n.entries ≤ length (told_node_text n)
node_long n =
    let a : length (told_node_text n) ≡ length (codes "node ") + length (node_text n.node ++ (codes "\n" ++ flat_map entry_text n.entries)) = length-append (codes "node ") (node_text n.node ++ (codes "\n" ++ flat_map entry_text n.entries)) in
    let b : length (node_text n.node ++ (codes "\n" ++ flat_map entry_text n.entries)) ≡ length (node_text n.node) + length (codes "\n" ++ flat_map entry_text n.entries) = length-append (node_text n.node) (codes "\n" ++ flat_map entry_text n.entries) in
    let c : length (codes "\n" ++ flat_map entry_text n.entries) ≡ length (codes "\n") + length (flat_map entry_text n.entries) = length-append (codes "\n") (flat_map entry_text n.entries) in
    omega (arith, a, b, c, entries_long n.entries)

-- all entries of these nodes
total : List ToldNode → ℕ
total [] = 0
total (n ∷ ns) = length n.entries + total ns

total_long : (ns : List ToldNode) → total ns ≤ length (flat_map told_node_text ns)
unfolding total
total_long [] = omega arith
total_long (n ∷ ns) =
    let a : length (flat_map told_node_text (n ∷ ns)) ≡ length (told_node_text n) + length (flat_map told_node_text ns) = length-append (told_node_text n) (flat_map told_node_text ns) in
    omega (arith, a, node_long n, total_long ns)

left_one : (left node : ℕ) (n : ToldNode) (ns : List ToldNode) → left_on (complete left (suc node) [] ns) ≤ total ns → left_on (complete left (suc node) [] (n ∷ ns)) ≤ total (n ∷ ns)
    → (b : Bool) → nat_eq n.node node ≡ b → left_on (complete (suc left) node [] (n ∷ ns)) ≤ total (n ∷ ns)
unfolding total left_on
left_one left node n ns on skip true e = rw e (omega (arith, on))
left_one left node n ns on skip false e = rw e (omega (arith, skip))

left_long : (left node : ℕ) (ns : List ToldNode) → left_on (complete left node [] ns) ≤ total ns
unfolding total left_on
left_long zero node ns = omega arith
left_long (suc left) node [] = let later = left_long left (suc node) [] in omega (arith, later)
left_long (suc left) node (n ∷ ns) = left_one left node n ns (left_long left (suc node) ns) (left_long left (suc node) (n ∷ ns)) (nat_eq n.node node) refl

text_long : (t : Told) → length (flat_map told_node_text t.nodes) ≤ length (text_of t)
text_long t =
    let nodes : List ℕ = flat_map told_node_text t.nodes in
    let end : List ℕ = end_text t.head.read_fault in
    let clients : List ℕ = clients_text 0 t.outcomes in
    let rows : List ℕ = flat_map row_text t.head.rows in
    let tally : List ℕ = tally_text t.head.tally in
    let a = length-append nodes end in
    let b = length-append clients (nodes ++ end) in
    let c = length-append rows (clients ++ (nodes ++ end)) in
    let d = length-append tally (rows ++ (clients ++ (nodes ++ end))) in
    let e = length-append (codes "dvbemu 1\n") (tally ++ (rows ++ (clients ++ (nodes ++ end)))) in
    omega (arith, a, b, c, d, e)

pub few_left : (t : Told) → length (text_of t) < 2 ^ 46 → left_on (dealt t.nodes) < 2 ^ 46
few_left t few = omega (arith, few, text_long t, total_long t.nodes, left_long (DEMUX_NODES + 1) 0 t.nodes)

each_few : (ns : List ToldNode) (most : ℕ) → total ns < most → All (λ n. length n.entries < most) ns
unfolding total
each_few [] most few = All-nil (λ (n : ToldNode). length n.entries < most)
each_few (n ∷ ns) most few = All-cons (λ (m : ToldNode). length m.entries < most) n ns (omega (arith, few)) (each_few ns most (omega (arith, few)))

pub few_entries : (t : Told) → length (text_of t) < 2 ^ 46 → All (λ n. length n.entries < 2 ^ 50) t.nodes
few_entries t few = each_few t.nodes (2 ^ 50) (omega (arith, few, text_long t, total_long t.nodes))
