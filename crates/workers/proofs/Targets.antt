-- The nodes that a script can name, line by line.
use Rattle.workers.proofs.Imports.{◌≡◌, ℕ, ◌+◌, ◌≤◌, Bool, true, false, ◌||◌, nat_eq, eq-eqb, ne_eqb, List, [], length, set, replicate, refl, ap, sym, ◌∙◌, arith, slice_index_or, get_or-set_same, get_or-set_other, get_or-replicate, dite, ℕ_discrete, DEMUX_NODES, Target, Slot, Verb, is_for, is_named, passes_all, or-true, or-false}
use Rattle.client_script.specs.declared.line.Verb.TheVariants.{Write}

-- whether a node is among these
abbrev is_in : List Bool → (node : ℕ) → Bool
is_in nodes node = slice_index_or nodes node false

-- what is set in a list of so many is set there alone
set_in : (nodes : List Bool) (n node : ℕ) → length nodes ≡ DEMUX_NODES + 1 → n ≤ DEMUX_NODES → is_in (set nodes n true) node ≡ (is_in nodes node || nat_eq n node)
set_in nodes n node long low = dite (ℕ_discrete node n)
    (λ here. ap (is_in (set nodes n true)) here ∙ get_or-set_same nodes n true false (omega (arith, long, low)) ∙ sym (ap (λ b. is_in nodes node || b) (eq-eqb n node (sym here)) ∙ or-true (is_in nodes node)))
    (λ other. get_or-set_other nodes n node true false other ∙ sym (ap (λ b. is_in nodes node || b) (ne_eqb n node (λ e. other (sym e))) ∙ or-false (is_in nodes node)))

all_in : (node : ℕ) → node ≤ DEMUX_NODES → is_in (replicate (DEMUX_NODES + 1) true) node ≡ true
all_in node low = get_or-replicate (DEMUX_NODES + 1) node true false (omega (arith, low))

none_in : (node : ℕ) → node ≤ DEMUX_NODES → is_in (replicate (DEMUX_NODES + 1) false) node ≡ false
none_in node low = get_or-replicate (DEMUX_NODES + 1) node false false (omega (arith, low))

-- before the first line
no_line : (nodes : List Bool) (node : ℕ) → is_in nodes node ≡ (false || nat_eq DEMUX_NODES node) → is_in nodes node ≡ is_named [] node
no_line nodes node is = is ∙ (turned ∙ sym (or-false (nat_eq node DEMUX_NODES))) where
  turned : nat_eq DEMUX_NODES node ≡ nat_eq node DEMUX_NODES
  turned = dite (ℕ_discrete node DEMUX_NODES) (λ e. eq-eqb DEMUX_NODES node (sym e) ∙ sym (eq-eqb node DEMUX_NODES e)) (λ n. ne_eqb DEMUX_NODES node (λ e. n (sym e)) ∙ sym (ne_eqb node DEMUX_NODES n))

pub first_line : (node : ℕ) → node ≤ DEMUX_NODES → is_in (set (replicate (DEMUX_NODES + 1) false) DEMUX_NODES true) node ≡ is_named [] node
first_line node low =
    no_line (set (replicate (DEMUX_NODES + 1) false) DEMUX_NODES true) node
    (set_in (replicate (DEMUX_NODES + 1) false) DEMUX_NODES node refl (omega arith) ∙ ap (λ b. b || nat_eq DEMUX_NODES node) (none_in node low))

-- a slot may be any node
pub any_node : (nodes : List Bool) (target : Target) (slot node : ℕ) → target ≡ Slot slot → node ≤ DEMUX_NODES → is_in (replicate (DEMUX_NODES + 1) true) node ≡ (is_in nodes node || is_for target node)
any_node nodes target slot node is low = all_in node low ∙ sym (ap (λ t. is_in nodes node || is_for t node) is ∙ or-true (is_in nodes node))

-- what is written may pass any node
pub any_write : (nodes : List Bool) (target : Target) (verb : Verb) (write node : ℕ) → verb ≡ Write write → node ≤ DEMUX_NODES
    → is_in (replicate (DEMUX_NODES + 1) true) node ≡ (is_in nodes node || (is_for target node || passes_all verb))
any_write nodes target verb write node is low =
    all_in node low ∙ sym (ap (λ v. is_in nodes node || (is_for target node || passes_all v)) is ∙ (ap (λ b. is_in nodes node || b) (or-true (is_for target node)) ∙ or-true (is_in nodes node)))
