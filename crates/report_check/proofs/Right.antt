-- The reports of runs are those that are right.
use Rattle.report_check.proofs.Imports.{◌≡◌, ◌<◌, ◌+◌, refl, sym, ap, subst, ◌∙◌, ℕ, zero, suc, List, [], ◌∷◌, Bool, true, false, nat_eq, length, arith, nat_tests, All-head, All-tail, All-nil, All-cons, Some, slice_get, nat_le, nat_lt, All, list_any, DEMUX_NODES, Outcome, LogEntry, StreamHead, Scripted, outcomes, replies, is_of_client, ToldNode, Told, text_of, IsInRange, IsNodeInRange, are_rows, is_whole_node, shown, told_by, renumbered, of_feeder, tiled, feeder_of, complete, IsRunOf, IsReportOfRun, IsRightReport, and_parts, completed}
use Rattle.report_read.specs.Report.{are_placed, are_nodes}
use Rattle.report_check.proofs.Shown.{reports_tell}
use Rattle.report_check.proofs.Idle.{AllZero, runs_are_completed}
use Rattle.report_check.proofs.Empty.{ArePlain, plain, idle_at, idle_runs, idle_made, uncalled_at}
use Rattle.report_check.proofs.Nodes.{AreBelow, first_of, from_there}

-- ------ the nodes of a run stand in their order

pub nodes_lower : (node : ℕ) (ns : List ToldNode) → are_nodes (suc node) ns ≡ true → are_nodes node ns ≡ true
unfolding are_nodes
nodes_lower node [] e = refl
nodes_lower node (n ∷ ns) e =
    let first = first_of (suc node) n ns e in
    let low : nat_le node n.node ≡ true = grind (arith, nat_tests, first.low) in
    rw (low, first.whole, first.later) refl

-- entries each at its place
abbrev pub ArePlaced : (node place : ℕ) → List LogEntry → Type 0
ArePlaced node place h = (i : ℕ) (e : LogEntry) → slice_get h i ≡ Some e → (e.node ≡ node) × (e.place ≡ place + i)

placed : (node place : ℕ) (h : List LogEntry) → ArePlaced node place h → are_placed place h ≡ true
unfolding are_placed
placed node place [] each = refl
placed node place (e ∷ es) each =
    let first = each 0 e refl in
    let here : nat_eq e.place place ≡ true = grind (arith, nat_tests, first.1) in
    let later = placed node (suc place) es (λ i f at. let x = each (suc i) f at in (x.0, omega (arith, x.1))) in
    rw (here, later) refl

shown_one : (node : ℕ) (h : List LogEntry) (hs : List (List LogEntry)) → are_placed 0 h ≡ true → are_nodes (suc node) (shown (suc node) hs) ≡ true
    → (b : Bool) → list_any is_of_client h ≡ b → are_nodes node (shown node (h ∷ hs)) ≡ true
unfolding are_nodes
shown_one node h hs here later true e =
    let low : nat_le node node ≡ true = grind (arith, nat_tests) in
    rw (e, low, e, here, later) refl
shown_one node h hs here later false e = rw e (nodes_lower node (shown (suc node) hs) later)

shown_in_order : (node : ℕ) (hs : List (List LogEntry)) → ((i : ℕ) (h : List LogEntry) → slice_get hs i ≡ Some h → ArePlaced (node + i) 0 h) → are_nodes node (shown node hs) ≡ true
unfolding are_nodes
shown_in_order node [] each = refl
shown_in_order node (h ∷ hs) each =
    let here = placed (node + 0) 0 h (each 0 h refl) in
    let later = shown_in_order (suc node) hs (λ i g at j e there. let x = each (suc i) g at j e there in (omega (arith, x.0), x.1)) in
    shown_one node h hs here later (list_any is_of_client h) refl

-- ------ what is shown of all nodes is what was told

quiet : (node place : ℕ) (es : List LogEntry) → AllZero es → list_any is_of_client (renumbered node place es) ≡ false
quiet node place [] all = refl
quiet node place (e ∷ es) all =
    let no : nat_lt 0 e.who ≡ false = grind (arith, nat_tests, all.0) in
    rw (no, quiet node (suc place) es all.1) refl

skips_shown : (node : ℕ) (feeder : List LogEntry) (rest : List (List LogEntry)) → AllZero feeder → shown node (renumbered node 0 feeder ∷ rest) ≡ shown (suc node) rest
skips_shown node feeder rest all = rw (quiet node 0 feeder all) refl

one_told : (left node : ℕ) (feeder : List LogEntry) (n : ToldNode) (ns : List ToldNode) → AllZero feeder → is_whole_node n ≡ true
    → (nat_eq n.node node ≡ true → shown (suc node) (complete left (suc node) feeder ns) ≡ ns)
    → (nat_eq n.node node ≡ false → shown (suc node) (complete left (suc node) feeder (n ∷ ns)) ≡ n ∷ ns)
    → (b : Bool) → nat_eq n.node node ≡ b → shown node (complete (suc left) node feeder (n ∷ ns)) ≡ n ∷ ns
one_told left node feeder n ns all whole on skip true e =
    let client = (and_parts (list_any is_of_client n.entries) (are_placed 0 n.entries) whole).0 in
    let same : node ≡ n.node = grind (arith, nat_tests) in
    let first : record { node = node; entries = n.entries } ≡ n = rw same refl in
    rw (e, client, on e) (rw same refl)
one_told left node feeder n ns all whole on skip false e =
    rw e (skips_shown node feeder (complete left (suc node) feeder (n ∷ ns)) all ∙ skip e)

pub shown_again : (left node : ℕ) (feeder : List LogEntry) (ns : List ToldNode) → AllZero feeder → are_nodes node ns ≡ true → AreBelow (node + left) ns
    → shown node (complete left node feeder ns) ≡ ns
unfolding are_nodes
shown_again zero node feeder [] all order below = refl
shown_again zero node feeder (n ∷ ns) all order below =
    let high : n.node < node + 0 = All-head (λ (m : ToldNode). m.node < node + 0) n ns below in
    absurd (omega (arith, (first_of node n ns order).low, high))
shown_again (suc left) node feeder [] all order below =
    skips_shown node feeder (complete left (suc node) feeder []) all ∙ shown_again left (suc node) feeder [] all refl (All-nil (λ (m : ToldNode). m.node < suc node + left))
shown_again (suc left) node feeder (n ∷ ns) all order below =
    let first = first_of node n ns order in
    let sum : node + suc left ≡ suc node + left = omega arith in
    let lower : AreBelow (suc node + left) (n ∷ ns) = subst (λ (limit : ℕ). AreBelow limit (n ∷ ns)) sum below in
    let tail : AreBelow (suc node + left) ns = All-tail (λ (m : ToldNode). m.node < suc node + left) n ns lower in
    one_told left node feeder n ns all first.whole
    (λ e. let same : n.node ≡ node = grind (arith, nat_tests) in shown_again left (suc node) feeder ns all (subst (λ (k : ℕ). are_nodes (suc k) ns ≡ true) same first.later) tail)
    (λ e. shown_again left (suc node) feeder (n ∷ ns) all (from_there node n ns first first.low e) lower)
    (nat_eq n.node node) refl

-- ------ the feeder

zero_kept : (e : LogEntry) (es : List LogEntry) → AllZero (of_feeder es) → (b : Bool) → nat_eq e.who 0 ≡ b → AllZero (of_feeder (e ∷ es))
zero_kept e es later true t =
    let is : e.who ≡ 0 = grind (arith, nat_tests) in
    rw t (is, later)
zero_kept e es later false t = rw t later

pub zero_of : (h : List LogEntry) → AllZero (of_feeder h)
zero_of [] = tt
zero_of (e ∷ es) = zero_kept e es (zero_of es) (nat_eq e.who 0) refl

pub plain_zero : (es : List LogEntry) → ArePlain es → AllZero es
plain_zero [] all = tt
plain_zero (e ∷ es) all = (all.0, plain_zero es all.3)

pub zero_fed : (packets : ℕ) (ns : List ToldNode) → AllZero (feeder_of packets ns)
zero_fed packets [] = plain_zero (tiled packets 0 0 packets) (plain packets 0 0 packets)
zero_fed packets (n ∷ ns) = zero_of n.entries

pub all_below : (ns : List ToldNode) → All IsNodeInRange ns → AreBelow (0 + (DEMUX_NODES + 1)) ns
all_below [] all = All-nil (λ (n : ToldNode). n.node < 0 + (DEMUX_NODES + 1))
all_below (n ∷ ns) all =
    let is = All-head IsNodeInRange n ns all in
    All-cons (λ (m : ToldNode). m.node < 0 + (DEMUX_NODES + 1)) n ns (omega (arith, is.node)) (all_below ns (All-tail IsNodeInRange n ns all))

-- ------ both ways

idle_quiet : (head : StreamHead) (told : List (List Outcome)) (hs : List (List LogEntry)) → shown 0 hs ≡ [] → (i : ℕ) (h : List LogEntry) → slice_get (completed (told_by head told hs)) i ≡ Some h → list_any is_of_client h ≡ false
unfolding completed
idle_quiet head told hs none i h at =
    let n : ℕ = head.tally.packets in
    let is : complete (DEMUX_NODES + 1) 0 (feeder_of n (shown 0 hs)) (shown 0 hs) ≡ complete (DEMUX_NODES + 1) 0 (tiled n 0 0 n) [] = ap (λ (nodes : List ToldNode). complete (DEMUX_NODES + 1) 0 (feeder_of n nodes) nodes) none in
    let there : slice_get (complete (DEMUX_NODES + 1) 0 (tiled n 0 0 n) []) i ≡ Some h = subst (λ (gs : List (List LogEntry)). slice_get gs i ≡ Some h) is at in
    let same : h ≡ renumbered (0 + i) 0 (tiled n 0 0 n) = idle_at (DEMUX_NODES + 1) 0 (tiled n 0 0 n) i h there in
    subst (λ (es : List LogEntry). list_any is_of_client es ≡ false) (sym same) (quiet (0 + i) 0 (tiled n 0 0 n) (plain_zero (tiled n 0 0 n) (plain n 0 0 n)))

of_run : (script : Scripted) (packets : List (List ℕ)) (head : StreamHead) (bytes : List ℕ) → are_rows 0 head.rows ≡ true → head.tally.packets ≡ length packets
    → IsReportOfRun script packets head bytes → IsRightReport script packets head bytes
of_run script packets head bytes rows count r =
    let t : Told = told_by head r.outcomes r.histories in
    record {
      told = t;
      report = record {
        range = r.range;
        order = record {
          rows = rows;
          nodes = shown_in_order 0 r.histories (λ i h at j e here. let p = r.run.run.places i j h e at here in (omega (arith, p.0), omega (arith, p.1)));
        };
        text = r.text ∙ reports_tell head r.outcomes r.histories;
      };
      same = refl;
      run = by (shown 0 r.histories) refl;
    }
  where
    by : (ns : List ToldNode) → shown 0 r.histories ≡ ns → IsRunOf script packets r.outcomes (completed (told_by head r.outcomes r.histories))
    by (n ∷ ns) s = subst (λ (hs : List (List LogEntry)). IsRunOf script packets r.outcomes hs) (sym (runs_are_completed script 64 packets head r.outcomes r.histories n ns r.run.run s)) r.run
    by [] s =
        let run = idle_runs script 64 packets head r.outcomes r.histories count r.run.run s in
        record {
          run = run;
          clients = r.run.clients;
          outcomes = λ c is.
              let mine = idle_made script c r.histories (uncalled_at 0 r.histories s) (r.run.run.clients_done c is) in
              let made = idle_made script c (completed (told_by head r.outcomes r.histories)) (idle_quiet head r.outcomes r.histories s) (run.clients_done c is) in
              r.run.outcomes c is ∙ ap (λ (es : List LogEntry). Some (outcomes c script (replies es))) (mine ∙ sym made);
        }

to_run : (script : Scripted) (packets : List (List ℕ)) (head : StreamHead) (bytes : List ℕ)
    → IsRightReport script packets head bytes → IsReportOfRun script packets head bytes
unfolding completed
to_run script packets head bytes r =
    let t : Told = r.told in
    let again : shown 0 (completed t) ≡ t.nodes = shown_again (DEMUX_NODES + 1) 0 (feeder_of t.head.tally.packets t.nodes) t.nodes (zero_fed t.head.tally.packets t.nodes) r.report.order.nodes (all_below t.nodes r.report.range.parts.nodes) in
    let same : t ≡ told_by head t.outcomes (completed t) = rw (again, ← r.same) refl in
    record {
      histories = completed t;
      outcomes = t.outcomes;
      run = r.run;
      range = subst IsInRange same r.report.range;
      text = r.report.text ∙ (ap text_of same ∙ sym (reports_tell head t.outcomes (completed t)));
    }

pub right_are_of_runs : (script : Scripted) (packets : List (List ℕ)) (head : StreamHead) (bytes : List ℕ) → are_rows 0 head.rows ≡ true → head.tally.packets ≡ length packets
    → (IsReportOfRun script packets head bytes → IsRightReport script packets head bytes) × (IsRightReport script packets head bytes → IsReportOfRun script packets head bytes)
right_are_of_runs script packets head bytes rows count = (of_run script packets head bytes rows count, to_run script packets head bytes)
