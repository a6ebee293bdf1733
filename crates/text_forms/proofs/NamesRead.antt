-- Names that are written are read again.
use Rattle.text_forms.proofs.Imports.{◌≡◌, ◌<◌, ◌≤◌, ◌+◌, ◌-◌, refl, ap, ℕ, List, [], ◌∷◌, Bool, true, false, Some, codes, arith, nat_tests, ◌==◌, ◌&&◌, all_ascii_digits, is_ascii_digit, decimal, number_between, is_word, client_text, client_named, demux_text, demux_named, slot_text, slot_named, numbered, who_text, who_named, node_text, node_named}
use Rattle.text_forms.proofs.Decimals.{decimal-digits, number_between-decimal}

pub client_named-client_text : (client : ℕ) → client ≤ 7 → client_named (client_text client) ≡ Some client
unfolding numbered
client_named-client_text client few = number_between-decimal 0 7 client (omega arith) (omega arith) few

pub demux_named-demux_text : (node : ℕ) → node ≤ 31 → demux_named (demux_text node) ≡ Some node
unfolding numbered
demux_named-demux_text node few = number_between-decimal 0 31 node (omega arith) (omega arith) few

pub slot_named-slot_text : (slot : ℕ) → slot ≤ 31 → slot_named (slot_text slot) ≡ Some slot
unfolding numbered
slot_named-slot_text slot few = number_between-decimal 0 31 slot (omega arith) (omega arith) few

who_apart : (who : ℕ) → who ≤ 8 → (b : Bool) → (who == 0) ≡ b → who_named (who_text who) ≡ Some who
unfolding who_named who_text numbered
who_apart who few true e =
    let feeder : 0 ≡ who = grind (arith, nat_tests) in
    rw e (ap Some feeder)
who_apart who few false e =
    let some : 0 < who = grind (arith, nat_tests) in
    let read : number_between 0 7 (decimal (who - 1)) ≡ Some (who - 1) = number_between-decimal 0 7 (who - 1) (omega arith) (omega arith) (omega arith) in
    let after : who - 1 + 1 ≡ who = omega arith in
    rw (e, read) (ap Some after)

pub who_named-who_text : (who : ℕ) → who ≤ 8 → who_named (who_text who) ≡ Some who
who_named-who_text who few = who_apart who few (who == 0) refl

first_is_d : (c : ℕ) (rest other : Bool) → (is_ascii_digit c && rest) ≡ true → ((c == 100) && other) ≡ false
first_is_d c rest other e = grind (arith, nat_tests)

digits_not_dvr : (ds : List ℕ) → all_ascii_digits ds ≡ true → is_word ds (codes "dvr") ≡ false
digits_not_dvr [] e = refl
digits_not_dvr (c ∷ cs) e = first_is_d c (all_ascii_digits cs) _ e

node_apart : (node : ℕ) → node ≤ 32 → (b : Bool) → (node == 32) ≡ b → node_named (node_text node) ≡ Some node
unfolding node_named node_text
node_apart node few true e =
    let last : 32 ≡ node = grind (arith, nat_tests) in
    rw e (ap Some last)
node_apart node few false e =
    let below : node ≤ 31 = grind (arith, nat_tests) in
    let other : is_word (decimal node) (codes "dvr") ≡ false = digits_not_dvr (decimal node) (decimal-digits node (omega arith)) in
    rw (e, other) (number_between-decimal 0 31 node (omega arith) (omega arith) below)

pub node_named-node_text : (node : ℕ) → node ≤ 32 → node_named (node_text node) ≡ Some node
node_named-node_text node few = node_apart node few (node == 32) refl
