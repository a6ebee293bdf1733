-- Nodes and whole reports are read again.
use Rattle.report_read.proofs.Imports.{◌≡◌, ◌<◌, ◌≤◌, refl, ◌∙◌, ℕ, List, [], ◌∷◌, ◌++◌, Bool, true, false, length, Some, None, codes, arith, append_assoc, nat_tests, decimal_nonempty, ◌≢◌, ◌==◌, All, flat_map, all_ascii_digits, is_ascii_digit, decimal, Outcome, decimal-digits, entry_text, row_text, clients_text, ToldNode, Told, told_node_text, text_of, Reading, behind, choose, number_in, begins_number, begins_with, nodes_in, IsNodeInRange, IsInRange, are_rows, are_nodes, IsNoReport, ◌+◌, zero, suc, length-append, All-head, All-tail, outcome_text, client_text, clients_in, IsOutcomeInRange, Tally, PidRow, OutcomeKind, tally_text, rows_in, outcomes_in, IsTallyInRange, IsRowInRange, IsKindInRange, many, node_text, end_text, kind_text, node_name_in, node_in, end_in, told_in, client_in, tally_in, counts_in, row_in, stc_in, kind_in, outcome_in}
use Rattle.report_read.proofs.Many.{IsSpelled, all_again, Whatever}
use Rattle.report_read.proofs.WordsAgain.{first_digit, number_again, number16_again, number32_again, number64_again}
use Rattle.report_read.proofs.Again.{node_again, one_value}
use Rattle.dmx_calls.specs.declared.outcome.OutcomeKind.TheVariants as outcome

-- ------ What a report says of the stream, and the commands of a client, are read again

pub tally_again : (t : Tally) (rest : List ℕ) → IsTallyInRange t → tally_in (tally_text t ++ rest) ≡ Some (t, rest)
unfolding tally_in
tally_again t rest is =
    let a = number64_again t.packets (codes " skipped=" ++ (decimal t.skipped ++ (codes " rest=" ++ (decimal t.rest ++ (codes "\n" ++ rest))))) is.packets refl in
    let b = number64_again t.skipped (codes " rest=" ++ (decimal t.rest ++ (codes "\n" ++ rest))) is.skipped refl in
    let c = number32_again t.rest (codes "\n" ++ rest) is.rest refl in
    simp append_assoc (rw (a, b, c) refl)

-- ------ rows

row_again : (row : ℕ × PidRow) (rest : List ℕ) → IsRowInRange row → row_in (row_text row ++ rest) ≡ Some (row, rest)
unfolding row_in counts_in
row_again row rest is =
    let a = number16_again row.0 (codes " packets=" ++ (decimal row.1.packets ++ (codes " breaks=" ++ (decimal row.1.breaks ++ (codes " duplicates=" ++ (decimal row.1.duplicates ++ (codes " errors=" ++ (decimal row.1.errors ++ (codes "\n" ++ rest))))))))) is.0 refl in
    let b = number64_again row.1.packets (codes " breaks=" ++ (decimal row.1.breaks ++ (codes " duplicates=" ++ (decimal row.1.duplicates ++ (codes " errors=" ++ (decimal row.1.errors ++ (codes "\n" ++ rest))))))) is.1.packets refl in
    let c = number64_again row.1.breaks (codes " duplicates=" ++ (decimal row.1.duplicates ++ (codes " errors=" ++ (decimal row.1.errors ++ (codes "\n" ++ rest))))) is.1.breaks refl in
    let d = number64_again row.1.duplicates (codes " errors=" ++ (decimal row.1.errors ++ (codes "\n" ++ rest))) is.1.duplicates refl in
    let e = number64_again row.1.errors (codes "\n" ++ rest) is.1.errors refl in
    simp append_assoc (rw (a, b, c, d, e) refl)

spelled_rows : IsSpelled (begins_with (codes "pid ")) row_in row_text IsRowInRange Whatever
spelled_rows = record {
  again = λ row rest is _. row_again row rest is;
  begun = λ row rest is. refl;
  ended = λ row rest is. tt;
  some = λ row is. omega arith;
}

pub rows_again : (rows : List (ℕ × PidRow)) (rest : List ℕ) → All IsRowInRange rows → begins_with (codes "pid ") rest ≡ false → rows_in (flat_map row_text rows ++ rest) ≡ Some (rows, rest)
rows_again rows rest all stops = all_again (begins_with (codes "pid ")) row_in row_text IsRowInRange Whatever rows rest spelled_rows all stops tt

-- ------ commands

kind_again : (k : OutcomeKind) (rest : List ℕ) → IsKindInRange k → kind_in (kind_text k ++ (codes "\n" ++ rest)) ≡ Some (k, codes "\n" ++ rest)
unfolding kind_in kind_text stc_in
kind_again outcome.Done rest is = refl
kind_again outcome.Emfile rest is = refl
kind_again outcome.Unbound rest is = refl
kind_again outcome.NoStc rest is = refl
kind_again (outcome.Stc base value) rest is =
    let a = number32_again base (codes " value=" ++ (decimal value ++ (codes "\n" ++ rest))) is.0 refl in
    let b = number64_again value (codes "\n" ++ rest) is.1 refl in
    simp append_assoc (rw (a, b) refl)

outcome_again : (o : Outcome) (rest : List ℕ) → IsOutcomeInRange o → outcome_in (outcome_text o ++ rest) ≡ Some (o, rest)
unfolding outcome_in
outcome_again o rest is =
    let a = number32_again o.line (codes " steps " ++ (decimal o.from ++ (codes ".." ++ (decimal o.to ++ (codes " " ++ (kind_text o.kind ++ (codes "\n" ++ rest))))))) is.line refl in
    let b = number64_again o.from (codes ".." ++ (decimal o.to ++ (codes " " ++ (kind_text o.kind ++ (codes "\n" ++ rest))))) is.from refl in
    let c = number64_again o.to (codes " " ++ (kind_text o.kind ++ (codes "\n" ++ rest))) is.to refl in
    let d = kind_again o.kind rest is.kind in
    simp append_assoc (rw (a, b, c, d) refl)

spelled_outcomes : IsSpelled (begins_with (codes "line ")) outcome_in outcome_text IsOutcomeInRange Whatever
spelled_outcomes = record {
  again = λ o rest is _. outcome_again o rest is;
  begun = λ o rest is. refl;
  ended = λ o rest is. tt;
  some = λ o is. omega arith;
}

pub outcomes_again : (os : List Outcome) (rest : List ℕ) → All IsOutcomeInRange os → begins_with (codes "line ") rest ≡ false → outcomes_in (flat_map outcome_text os ++ rest) ≡ Some (os, rest)
outcomes_again os rest all stops = all_again (begins_with (codes "line ")) outcome_in outcome_text IsOutcomeInRange Whatever os rest spelled_outcomes all stops tt

-- ------ Clients are read again

client_again : (n : ℕ) (os : List Outcome) (rest : List ℕ) → n ≤ 4294967294 → All IsOutcomeInRange os → begins_with (codes "line ") rest ≡ false → client_in (client_text n os ++ rest) ≡ Some (os, rest)
unfolding client_in
client_again n os rest low all stops =
    let a : number_in 0 4294967294 (decimal n ++ (codes "\n" ++ (flat_map outcome_text os ++ rest))) ≡ Some (n, codes "\n" ++ (flat_map outcome_text os ++ rest)) = number_again 0 4294967294 n (codes "\n" ++ (flat_map outcome_text os ++ rest)) (omega arith) (omega arith) low refl in
    let b = outcomes_again os rest all stops in
    simp append_assoc (rw (a, b) refl)

-- what may stand behind the clients
abbrev pub EndsClients : List ℕ → Type 0
EndsClients rest = (begins_with (codes "client ") rest ≡ false) × (begins_with (codes "line ") rest ≡ false)

no_line : (n : ℕ) (os : List (List Outcome)) (rest : List ℕ) → EndsClients rest → begins_with (codes "line ") (clients_text n os ++ rest) ≡ false
no_line n [] rest ends = ends.1
no_line n (o ∷ os) rest ends = refl

from_again : (left n : ℕ) (os : List (List Outcome)) (rest : List ℕ) → length os ≤ left → n + length os ≤ 4294967295 → All (All IsOutcomeInRange) os → EndsClients rest
    → many (begins_with (codes "client ")) client_in left (clients_text n os ++ rest) ≡ Some (os, rest)
unfolding many
from_again zero n [] rest few room all ends = refl
from_again zero n (o ∷ os) rest few room all ends = absurd (omega arith)
from_again (suc left) n [] rest few room all ends = rw ends.0 refl
from_again (suc left) n (o ∷ os) rest few room all ends =
    let one : client_in (client_text n o ++ (clients_text (suc n) os ++ rest)) ≡ Some (o, clients_text (suc n) os ++ rest) =
    client_again n o (clients_text (suc n) os ++ rest) (omega arith) (All-head (All IsOutcomeInRange) o os all) (no_line (suc n) os rest ends) in
    let later : many (begins_with (codes "client ")) client_in left (clients_text (suc n) os ++ rest) ≡ Some (os, rest) =
    from_again left (suc n) os rest (omega arith) (omega arith) (All-tail (All IsOutcomeInRange) o os all) ends in
    rw (append_assoc (client_text n o) (clients_text (suc n) os) rest, one, later) refl

no_more_clients : (n : ℕ) (os : List (List Outcome)) → length os ≤ length (clients_text n os)
no_more_clients n [] = omega arith
no_more_clients n (o ∷ os) = omega (arith, no_more_clients (suc n) os, length-append (client_text n o) (clients_text (suc n) os))

pub clients_again : (os : List (List Outcome)) (rest : List ℕ) → length os ≤ 4294967295 → All (All IsOutcomeInRange) os → EndsClients rest → clients_in (clients_text 0 os ++ rest) ≡ Some (os, rest)
clients_again os rest room all ends =
    from_again (length (clients_text 0 os ++ rest)) 0 os rest (omega (arith, no_more_clients 0 os, length-append (clients_text 0 os) rest)) (omega arith) all ends

-- ------ nodes

-- a number isn't `dvr`
letter_apart : (d : ℕ) (text : List ℕ) → is_ascii_digit d ≡ true → behind (codes "dvr") (d ∷ text) ≡ None
letter_apart d text is = grind (arith, nat_tests)

number_apart : (ds rest : List ℕ) → all_ascii_digits ds ≡ true → 0 < length ds → behind (codes "dvr") (ds ++ rest) ≡ None
number_apart [] rest a some = absurd (omega arith)
number_apart (d ∷ ds) rest a some =
    let parts = first_digit d (all_ascii_digits ds) a in
    letter_apart d (ds ++ rest) parts.0

choose_other : {B : Type 0} (text bytes : List ℕ) (next : List ℕ → Reading B) (other : Reading B) → behind text bytes ≡ None → choose text bytes next other ≡ other
choose_other text bytes next other e = rw (e, choose) refl

name_by : (node : ℕ) (rest : List ℕ) → node ≤ 32 → begins_number rest ≡ false → (b : Bool) → (node == 32) ≡ b → node_name_in (node_text node ++ rest) ≡ Some (node, rest)
unfolding node_name_in node_text
name_by node rest low stops true e =
    let dvr : node ≡ 32 = grind (arith, nat_tests) in
    rw dvr refl
name_by node rest low stops false e =
    let less : node ≤ 31 = grind (arith, nat_tests) in
    let apart : behind (codes "dvr") (decimal node ++ rest) ≡ None = number_apart (decimal node) rest (decimal-digits node (omega arith)) (decimal_nonempty node (omega arith)) in
    let n : number_in 0 31 (decimal node ++ rest) ≡ Some (node, rest) = number_again 0 31 node rest (omega arith) (omega arith) less stops in
    let text : node_text node ≡ decimal node = rw e refl in
    let whole : node_name_in (decimal node ++ rest) ≡ Some (node, rest) = choose_other (codes "dvr") (decimal node ++ rest) (λ bytes. Some (32, bytes)) (number_in 0 31 (decimal node ++ rest)) apart ∙ n in
    rw text whole

name_again : (node : ℕ) (rest : List ℕ) → node ≤ 32 → begins_number rest ≡ false → node_name_in (node_text node ++ rest) ≡ Some (node, rest)
name_again node rest low stops = name_by node rest low stops (node == 32) refl

-- what may stand behind a node
abbrev pub EndsNode : List ℕ → Type 0
EndsNode rest = begins_number rest ≡ false

one_again : (n : ToldNode) (rest : List ℕ) → IsNodeInRange n → EndsNode rest → node_in (told_node_text n ++ rest) ≡ Some (n, rest)
unfolding node_in
one_again n rest is ends =
    let a = name_again n.node (codes "\n" ++ (flat_map entry_text n.entries ++ rest)) is.node refl in
    let b = node_again n.node n.entries rest is.entries ends in
    simp append_assoc (rw (a, b) refl)

spelled : IsSpelled (begins_with (codes "node ")) node_in told_node_text IsNodeInRange EndsNode
spelled = record {
  again = λ n rest is ends. one_again n rest is ends;
  begun = λ n rest is. refl;
  ended = λ n rest is. refl;
  some = λ n is. omega arith;
}

nodes_again : (ns : List ToldNode) (rest : List ℕ) → All IsNodeInRange ns → begins_with (codes "node ") rest ≡ false → EndsNode rest → nodes_in (flat_map told_node_text ns ++ rest) ≡ Some (ns, rest)
nodes_again ns rest all stops ends = all_again (begins_with (codes "node ")) node_in told_node_text IsNodeInRange EndsNode ns rest spelled all stops ends

-- ------ the whole

end_again : (failed : Bool) → end_in (end_text failed) ≡ Some (failed, [])
unfolding end_in end_text
end_again true = refl
end_again false = refl

end_ends : (failed : Bool) → (begins_with (codes "node ") (end_text failed) ≡ false) × EndsNode (end_text failed)
unfolding end_text
end_ends true = (refl, refl)
end_ends false = (refl, refl)

-- the nodes and the end are no rows and no clients
behind_clients : (ns : List ToldNode) (failed : Bool) → EndsClients (flat_map told_node_text ns ++ end_text failed)
unfolding end_text
behind_clients [] true = (refl, refl)
behind_clients [] false = (refl, refl)
behind_clients (n ∷ ns) failed = (refl, refl)

behind_rows : (os : List (List Outcome)) (ns : List ToldNode) (failed : Bool) → begins_with (codes "pid ") (clients_text 0 os ++ (flat_map told_node_text ns ++ end_text failed)) ≡ false
unfolding end_text
behind_rows [] [] true = refl
behind_rows [] [] false = refl
behind_rows [] (n ∷ ns) failed = refl
behind_rows (o ∷ os) ns failed = refl

pub told_again : (t : Told) → IsInRange t → told_in (text_of t) ≡ Some (t, [])
unfolding told_in
told_again t is =
    let failed = t.head.read_fault in
    let end = end_again t.head.read_fault in
    let nodes = nodes_again t.nodes (end_text t.head.read_fault) is.parts.nodes (end_ends t.head.read_fault).0 (end_ends t.head.read_fault).1 in
    let clients = clients_again t.outcomes (flat_map told_node_text t.nodes ++ end_text t.head.read_fault) is.clients is.parts.outcomes (behind_clients t.nodes t.head.read_fault) in
    let rows = rows_again t.head.rows (clients_text 0 t.outcomes ++ (flat_map told_node_text t.nodes ++ end_text t.head.read_fault)) is.parts.rows (behind_rows t.outcomes t.nodes t.head.read_fault) in
    let tally = tally_again t.head.tally (flat_map row_text t.head.rows ++ (clients_text 0 t.outcomes ++ (flat_map told_node_text t.nodes ++ end_text t.head.read_fault))) is.parts.tally in
    rw (tally, rows, clients, nodes, end) refl

pub one_thing : (t u : Told) → IsInRange t → IsInRange u → text_of t ≡ text_of u → t ≡ u
one_thing t u is is' text =
    let a : told_in (text_of t) ≡ Some (t, []) = told_again t is in
    let b : told_in (text_of t) ≡ Some (u, []) = rw text (told_again u is') in
    one_value t u (told_in (text_of t)) [] [] a b

-- ------ what is no report

pub not_read : (bytes : List ℕ) → told_in bytes ≡ None → IsNoReport bytes
not_read bytes e t is order text =
    let a : told_in (text_of t) ≡ Some (t, []) = told_again t is in
    let b : told_in (text_of t) ≡ None = rw (← text) e in
    cc

-- what was read is the only thing that the bytes can tell
only : (bytes rest : List ℕ) (u t : Told) → told_in bytes ≡ Some (u, rest) → IsInRange t → bytes ≡ text_of t → t ≡ u
only bytes rest u t e is text =
    let a : told_in (text_of t) ≡ Some (t, []) = told_again t is in
    let b : told_in (text_of t) ≡ Some (u, rest) = rw (← text) e in
    one_value t u (told_in (text_of t)) [] rest a b

pub not_same : (bytes rest : List ℕ) (u : Told) → told_in bytes ≡ Some (u, rest) → text_of u ≢ bytes → IsNoReport bytes
not_same bytes rest u e other t is order text =
    let c : t ≡ u = only bytes rest u t e is text in
    other (rw (← c) (rw text refl))

pub no_clients : (bytes rest : List ℕ) (u : Told) → told_in bytes ≡ Some (u, rest) → 4294967295 < length u.outcomes → IsNoReport bytes
no_clients bytes rest u e out t is order text =
    let c : t ≡ u = only bytes rest u t e is text in
    let a : 4294967295 < length t.outcomes = rw c out in
    absurd (omega (arith, is.clients))

pub no_rows : (bytes rest : List ℕ) (u : Told) → told_in bytes ≡ Some (u, rest) → are_rows 0 u.head.rows ≡ false → IsNoReport bytes
no_rows bytes rest u e out t is order text =
    let c : t ≡ u = only bytes rest u t e is text in
    let a : are_rows 0 t.head.rows ≡ false = rw c out in
    let b : are_rows 0 t.head.rows ≡ true = order.rows in
    cc

pub no_nodes : (bytes rest : List ℕ) (u : Told) → told_in bytes ≡ Some (u, rest) → are_nodes 0 u.nodes ≡ false → IsNoReport bytes
no_nodes bytes rest u e out t is order text =
    let c : t ≡ u = only bytes rest u t e is text in
    let a : are_nodes 0 t.nodes ≡ false = rw c out in
    let b : are_nodes 0 t.nodes ≡ true = order.nodes in
    cc
