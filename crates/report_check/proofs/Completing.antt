-- The histories of a run are those that its report stands for.
use Rattle.report_check.proofs.Imports.{◌≡◌, ◌≤◌, refl, sym, ap, ◌∙◌, ℕ, suc, List, [], ◌∷◌, Bool, true, false, nat_eq, length, map, arith, nat_tests, list_any, LogEntry, Act, Response, Passed, Step, is_of_client, ToldNode, shown, renumbered, complete, step_of, NoMemory}

-- ------ one node

pub apart : Passed ≡ NoMemory → ⊥
apart same = absurd (cc)

-- entries of the feeder alone, on this node, each at its place
abbrev pub AreFeeders : (node place : ℕ) → List LogEntry → Type 0
AreFeeders node place [] = Unit {0}
AreFeeders node place (e ∷ es) =
    (e.node ≡ node) × (e.place ≡ place) × (e.who ≡ 0) × (e.response ≡ Passed) × AreFeeders node (suc place) es

-- entries of the feeder that are answered Passed
abbrev pub ArePassed : List LogEntry → Type 0
ArePassed [] = Unit {0}
ArePassed (e ∷ es) = (e.who ≡ 0) × (e.response ≡ Passed) × ArePassed es

abbrev told : (node place step who : ℕ) → Act → Response → LogEntry
told node place step who act response = record { node = node; place = place; step = step; who = who; act = act; response = response }

all_same : (n n' p p' s s' w w' : ℕ) (a a' : Act) (r r' : Response) → n ≡ n' → p ≡ p' → s ≡ s' → w ≡ w' → a ≡ a' → r ≡ r' → told n p s w a r ≡ told n' p' s' w' a' r'
all_same n n' p p' s s' w w' a a' r r' en ep es ew ea er = rw (en, ep, es, ew, ea, er) refl

same_entry : (node place : ℕ) (e f : LogEntry) → e.node ≡ node → e.place ≡ place → e.who ≡ 0 → e.response ≡ Passed → f.who ≡ 0 → f.response ≡ Passed → step_of e ≡ step_of f → e ≡ record f { node = node; place = place }
same_entry node place e f n p w r w' r' s =
    all_same e.node node e.place place e.step f.step e.who f.who e.act f.act e.response f.response n p
    (ap (λ (t : Step). t.step) s) (w ∙ sym w') (ap (λ (t : Step). t.act) s) (r ∙ sym r')

-- a node that has just the feeder's calls has its entries on it
pub same_feeders : (node place : ℕ) (h g : List LogEntry) → AreFeeders node place h → ArePassed g → map step_of h ≡ map step_of g → h ≡ renumbered node place g
same_feeders node place [] [] a b s = refl
same_feeders node place [] (f ∷ g) a b s = absurd (cc)
same_feeders node place (e ∷ h) [] a b s = absurd (cc)
same_feeders node place (e ∷ h) (f ∷ g) a b s =
    let first : step_of e ≡ step_of f = cc in
    let later : map step_of h ≡ map step_of g = cc in
    let one : e ≡ record f { node = node; place = place } = same_entry node place e f a.0 a.1 a.2 a.3 b.0 b.1 first in
    rw (← one, ← same_feeders node (suc place) h g a.4 b.2 later) refl

-- ------ all nodes

-- each node that no client called has the feeder's entries
abbrev pub AreIdle : (node : ℕ) → (feeder : List LogEntry) → List (List LogEntry) → Type 0
AreIdle node feeder [] = Unit {0}
AreIdle node feeder (h ∷ hs) = (list_any is_of_client h ≡ false → h ≡ renumbered node 0 feeder) × AreIdle (suc node) feeder hs

-- the nodes shown from a number on have that number or a higher one
abbrev pub AreFrom : (node : ℕ) → List ToldNode → Type 0
AreFrom node [] = Unit {0}
AreFrom node (n ∷ nodes) = node ≤ n.node

from_less : (node : ℕ) (nodes : List ToldNode) → AreFrom (suc node) nodes → AreFrom node nodes
from_less node [] a = tt
from_less node (n ∷ nodes) a = omega arith

shown_one : (node : ℕ) (h : List LogEntry) (hs : List (List LogEntry)) → AreFrom (suc node) (shown (suc node) hs) → (b : Bool) → list_any is_of_client h ≡ b → AreFrom node (shown node (h ∷ hs))
shown_one node h hs later true e = rw e (omega arith)
shown_one node h hs later false e = rw e (from_less node (shown (suc node) hs) later)

shown_from : (node : ℕ) (hs : List (List LogEntry)) → AreFrom node (shown node hs)
shown_from node [] = tt
shown_from node (h ∷ hs) = shown_one node h hs (shown_from (suc node) hs) (list_any is_of_client h) refl

skips : (left node : ℕ) (feeder : List LogEntry) (nodes : List ToldNode) → AreFrom (suc node) nodes → complete (suc left) node feeder nodes ≡ renumbered node 0 feeder ∷ complete left (suc node) feeder nodes
skips left node feeder [] a = refl
skips left node feeder (n ∷ nodes) a =
    let apart : nat_eq n.node node ≡ false = grind (arith, nat_tests) in
    rw apart refl

complete_one : (node : ℕ) (feeder h : List LogEntry) (hs : List (List LogEntry)) → (list_any is_of_client h ≡ false → h ≡ renumbered node 0 feeder)
    → complete (length hs) (suc node) feeder (shown (suc node) hs) ≡ hs
    → (b : Bool) → list_any is_of_client h ≡ b → complete (suc (length hs)) node feeder (shown node (h ∷ hs)) ≡ h ∷ hs
complete_one node feeder h hs idle later true e =
    let here : nat_eq node node ≡ true = grind (arith, nat_tests) in
    rw (e, here, later) refl
complete_one node feeder h hs idle later false e =
    let mine : h ≡ renumbered node 0 feeder = idle e in
    let skip = skips (length hs) node feeder (shown (suc node) hs) (shown_from (suc node) hs) in
    rw e (skip ∙ rw (← mine, later) refl)

pub complete_shown : (node : ℕ) (feeder : List LogEntry) (hs : List (List LogEntry)) → AreIdle node feeder hs → complete (length hs) node feeder (shown node hs) ≡ hs
complete_shown node feeder [] idle = refl
complete_shown node feeder (h ∷ hs) idle = complete_one node feeder h hs idle.0 (complete_shown (suc node) feeder hs idle.1) (list_any is_of_client h) refl
