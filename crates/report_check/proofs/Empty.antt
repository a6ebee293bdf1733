-- Where no client called a node, a run in batches of 64 at moment 0 has the same report.
use Rattle.report_check.proofs.Imports.{◌≡◌, ◌<◌, ◌≤◌, ◌+◌, ◌-◌, refl, sym, ap, subst, ◌∙◌, ℕ, zero, suc, List, [], ◌∷◌, ◌++◌, Bool, true, false, nat_eq, length, map, sum, min, arith, inl, inr, append_assoc, append-nil, nat_tests, All-nil, All-cons, sum_by-cons, Some, None, slice_get, if◌then◌else◌, All, list_any, DEMUX_NODES, Outcome, Act, PassAct, EndAct, StreamHead, History, Response, Passed, Rules, rules_at, May, IsLegalFor, LogEntry, Sources, filled, filled_act, filled_entry, Scripted, next_event, Batch, feeding, steps_of, HasDone, IsRun, replies, sources, StandsIn, is_of_client, ToldNode, shown, renumbered, feeder_of, complete, told_by, filled_append, tiled, completed, step_of}
use Rattle.std.proofs.Common.{nat_lt}
use Rattle.dmx_calls.specs.Answer.{answer}
use Rattle.report_check.proofs.Completing.{apart}
use Rattle.report_check.proofs.Feeding.{Fits}
use Rattle.report_check.proofs.Nodes.{TellsOrNot, complete_at, complete_long}
use Rattle.report_check.proofs.Idle.{IsFeed, AllZero, uncalled}

-- ------ the tiles

pub tiles : (left first packets : ℕ) → List Batch
tiles zero first packets = []
tiles (suc left) first packets =
    if nat_lt first packets then record { size = min 64 (packets - first); moment = 0 } ∷ tiles left (first + 64) packets else []

tiles_done : (left first packets : ℕ) → packets ≤ first → tiles left first packets ≡ []
unfolding tiles
tiles_done zero first packets past = refl
tiles_done (suc left) first packets past =
    let no : nat_lt first packets ≡ false = grind (arith, nat_tests) in
    rw no refl

tiled_done : (left first step packets : ℕ) → packets ≤ first → map step_of (tiled left first step packets) ≡ record { step = step; act = EndAct } ∷ []
unfolding tiled
tiled_done zero first step packets past = refl
tiled_done (suc left) first step packets past =
    let no : nat_lt first packets ≡ false = grind (arith, nat_tests) in
    rw no refl

tiled_one : (left first step packets : ℕ) → (b : Bool) → nat_lt first packets ≡ b
    → ((first' step' : ℕ) → map step_of (tiled left first' step' packets) ≡ feeding first' step' (tiles left first' packets))
    → map step_of (tiled (suc left) first step packets) ≡ feeding first step (tiles (suc left) first packets)
unfolding tiled tiles
tiled_one left first step packets false t later = rw t refl
tiled_one left first step packets true t later = by (nat_lt (first + 64) packets) refl
  where
    by : (b : Bool) → nat_lt (first + 64) packets ≡ b → map step_of (tiled (suc left) first step packets) ≡ feeding first step (tiles (suc left) first packets)
    by true more =
        let whole : min 64 (packets - first) ≡ 64 = grind (arith, nat_tests) in
        rw (t, whole, later (first + 64) (suc step)) refl
    by false last =
        let past : packets ≤ first + 64 = grind (arith, nat_tests) in
        rw (t, tiled_done left (first + 64) (suc step) packets past, tiles_done left (first + 64) packets past) refl

pub tiled_feeds : (left first step packets : ℕ) → map step_of (tiled left first step packets) ≡ feeding first step (tiles left first packets)
unfolding tiled tiles
tiled_feeds zero first step packets = refl
tiled_feeds (suc left) first step packets = tiled_one left first step packets (nat_lt first packets) refl (λ f s. tiled_feeds left f s packets)

sizes_one : (left first packets : ℕ) → All Fits (tiles left (first + 64) packets) → (b : Bool) → nat_lt first packets ≡ b → All Fits (tiles (suc left) first packets)
unfolding tiles
sizes_one left first packets later false t = rw t (All-nil Fits)
sizes_one left first packets later true t =
    let some : first < packets = grind (arith, nat_tests) in
    rw t (All-cons Fits (record { size = min 64 (packets - first); moment = 0 }) (tiles left (first + 64) packets) (omega arith, omega arith) later)

pub sizes : (left first packets : ℕ) → All Fits (tiles left first packets)
unfolding tiles
sizes zero first packets = All-nil Fits
sizes (suc left) first packets = sizes_one left first packets (sizes left (first + 64) packets) (nat_lt first packets) refl

sum_one : (left first packets : ℕ) → (packets ≤ first + 64 + left → first + 64 ≤ packets → sum (map (λ (b : Batch). b.size) (tiles left (first + 64) packets)) + (first + 64) ≡ packets)
    → packets ≤ first + suc left → first ≤ packets → (b : Bool) → nat_lt first packets ≡ b → sum (map (λ (b : Batch). b.size) (tiles (suc left) first packets)) + first ≡ packets
unfolding tiles
sum_one left first packets later enough low false t =
    let same : first ≡ packets = grind (arith, nat_tests) in
    rw t (omega arith)
sum_one left first packets later enough low true t = by (nat_lt (first + 64) packets) refl
  where
    by : (b : Bool) → nat_lt (first + 64) packets ≡ b → sum (map (λ (b : Batch). b.size) (tiles (suc left) first packets)) + first ≡ packets
    by true more =
        let whole : min 64 (packets - first) ≡ 64 = grind (arith, nat_tests) in
        let below : first + 64 < packets = grind (arith, nat_tests) in
        let rest = later (omega arith) (omega arith) in
        let cons : sum (64 ∷ map (λ (b : Batch). b.size) (tiles left (first + 64) packets)) ≡ 64 + sum (map (λ (b : Batch). b.size) (tiles left (first + 64) packets)) = sum_by-cons (λ (x : ℕ). x) 64 (map (λ (b : Batch). b.size) (tiles left (first + 64) packets)) in
        let all : sum (64 ∷ map (λ (b : Batch). b.size) (tiles left (first + 64) packets)) + first ≡ packets = omega (arith, rest, cons) in
        rw (t, whole) all
    by false last =
        let past : packets ≤ first + 64 = grind (arith, nat_tests) in
        let some : first < packets = grind (arith, nat_tests) in
        rw (t, tiles_done left (first + 64) packets past) (omega arith)

pub sums : (left first packets : ℕ) → packets ≤ first + left → first ≤ packets → sum (map (λ (b : Batch). b.size) (tiles left first packets)) + first ≡ packets
unfolding tiles
sums zero first packets enough low = omega arith
sums (suc left) first packets enough low = sum_one left first packets (λ e l. sums left (first + 64) packets e l) enough low (nat_lt first packets) refl

-- ------ the entries

-- calls of the feeder that are answered Passed
abbrev pub ArePlain : List LogEntry → Type 0
ArePlain [] = Unit {0}
ArePlain (e ∷ es) = (e.who ≡ 0) × (e.response ≡ Passed) × IsFeed e.act × ArePlain es

plain_one : (left first step packets : ℕ) → ((f s : ℕ) → ArePlain (tiled left f s packets)) → (b : Bool) → nat_lt first packets ≡ b → ArePlain (tiled (suc left) first step packets)
unfolding tiled
plain_one left first step packets later true t = rw t (refl, refl, tt, later (first + 64) (suc step))
plain_one left first step packets later false t = rw t (refl, refl, tt, tt)

pub plain : (left first step packets : ℕ) → ArePlain (tiled left first step packets)
unfolding tiled
plain zero first step packets = (refl, refl, tt, tt)
plain (suc left) first step packets = plain_one left first step packets (λ f s. plain left f s packets) (nat_lt first packets) refl

goes : (node : Rules) (packets : Sources) (h : History) (who : ℕ) (a : Act) → IsFeed a → May node h who (filled_act (packets who) a) Passed
unfolding answer
goes node packets h who (PassAct input batch now) f = inl refl
goes node packets h who EndAct f = inl refl
goes node packets h who _ f = absurd f

-- a history of such calls is legal, on whatever node
pub legal_on : (node : Rules) (packets : Sources) (n place : ℕ) (es : List LogEntry) (h : History) → IsLegalFor node h → ArePlain es → IsLegalFor node (filled packets (renumbered n place es) ++ h)
legal_on node packets n place [] h legal all = legal
legal_on node packets n place (e ∷ es) h legal all =
    let x : LogEntry = record e { node = n; place = place } in
    let may : May node h e.who (filled_act (packets e.who) e.act) e.response = subst (λ (r : Response). May node h e.who (filled_act (packets e.who) e.act) r) (sym all.1) (goes node packets h e.who e.act all.2) in
    let later : IsLegalFor node (filled packets (renumbered n (suc place) es) ++ filled_entry packets x ∷ h) = legal_on node packets n (suc place) es (filled_entry packets x ∷ h) (legal, may) all.3 in
    let same : filled packets (x ∷ renumbered n (suc place) es) ++ h ≡ filled packets (renumbered n (suc place) es) ++ filled_entry packets x ∷ h =
    ap (λ (g : History). g ++ h) (filled_append packets (x ∷ []) (renumbered n (suc place) es)) ∙ append_assoc (filled packets (renumbered n (suc place) es)) (filled_entry packets x ∷ []) h in
    subst (λ (g : History). IsLegalFor node g) (sym same) later

-- what an entry on another node is
pub told_there : (n place : ℕ) (es : List LogEntry) → ArePlain es → (i : ℕ) (e : LogEntry) → slice_get (renumbered n place es) i ≡ Some e
    → (e.node ≡ n) × (e.place ≡ place + i) × (e.who ≡ 0) × (e.response ≡ Passed)
told_there n place [] all i e at = absurd (cc)
told_there n place (f ∷ es) all zero e at =
    let same : record f { node = n; place = place } ≡ e = cc in
    let start : place ≡ place + 0 = omega arith in
    (ap (λ (g : LogEntry). g.node) (sym same), ap (λ (g : LogEntry). g.place) (sym same) ∙ start, ap (λ (g : LogEntry). g.who) (sym same) ∙ all.0, ap (λ (g : LogEntry). g.response) (sym same) ∙ all.1)
told_there n place (f ∷ es) all (suc i) e at =
    let t = told_there n (suc place) es all.3 i e at in
    (t.0, omega (arith, t.1), t.2, t.3)

pub steps_there : (n place : ℕ) (es : List LogEntry) → ArePlain es → steps_of 0 (renumbered n place es) ≡ map step_of es
steps_there n place [] all = refl
steps_there n place (e ∷ es) all =
    let is : nat_eq e.who 0 ≡ true = grind (arith, nat_tests, all.0) in
    rw (is, steps_there n (suc place) es all.3) refl

-- ------ the nodes

-- a node of which no entries are told has the feeder's
pub idle_at : (left node : ℕ) (feeder : List LogEntry) (i : ℕ) (h : List LogEntry) → slice_get (complete left node feeder []) i ≡ Some h → h ≡ renumbered (node + i) 0 feeder
idle_at left node feeder i h at = by (complete_at left node feeder [] i h at)
  where
    by : TellsOrNot [] feeder (node + i) h → h ≡ renumbered (node + i) 0 feeder
    by (inl is) = absurd (cc is.at)
    by (inr same) = same

uncalled_one : (node : ℕ) (h : List LogEntry) (hs : List (List LogEntry)) → (b : Bool) → list_any is_of_client h ≡ b → shown node (h ∷ hs) ≡ [] → (list_any is_of_client h ≡ false) × (shown (suc node) hs ≡ [])
uncalled_one node h hs true t none = let some : record { node = node; entries = h } ∷ shown (suc node) hs ≡ [] = rw t at none in absurd (cc)
uncalled_one node h hs false t none = (t, rw t at none)

pub uncalled_at : (node : ℕ) (hs : List (List LogEntry)) → shown node hs ≡ [] → (i : ℕ) (h : List LogEntry) → slice_get hs i ≡ Some h → list_any is_of_client h ≡ false
uncalled_at node [] none i h at = absurd (cc)
uncalled_at node (g ∷ hs) none zero h at =
    let same : g ≡ h = cc in
    let parts = uncalled_one node g hs (list_any is_of_client g) refl none in
    subst (λ (es : List LogEntry). list_any is_of_client es ≡ false) same parts.0
uncalled_at node (g ∷ hs) none (suc i) h at =
    let parts = uncalled_one node g hs (list_any is_of_client g) refl none in
    uncalled_at (suc node) hs parts.1 i h at

zero_at : (h : List LogEntry) → AllZero h → (i : ℕ) (e : LogEntry) → slice_get h i ≡ Some e → e.who ≡ 0
zero_at [] all i e at = absurd (cc)
zero_at (f ∷ h) all zero e at = let same : f ≡ e = cc in ap (λ (g : LogEntry). g.who) (sym same) ∙ all.0
zero_at (f ∷ h) all (suc i) e at = zero_at h all.1 i e at

-- a client that called no node made no call
pub idle_made : (script : Scripted) (c : ℕ) (hs : List (List LogEntry)) → ((i : ℕ) (h : List LogEntry) → slice_get hs i ≡ Some h → list_any is_of_client h ≡ false)
    → (d : HasDone script c hs) → d.made ≡ []
idle_made script c hs quiet d = by d.made refl
  where
    by : (made : List LogEntry) → d.made ≡ made → d.made ≡ []
    by [] is = is
    by (e ∷ made) is =
        let first : slice_get d.made 0 ≡ Some e = rw is refl in
        let who = (d.calls.steps 0 e first).1 in
        let stands : StandsIn hs e = d.calls.stands 0 e first in
        let zero' = zero_at stands.0 (uncalled stands.0 (quiet e.node stands.0 stands.1)) e.place e stands.2 in
        absurd (omega (arith, zero', who))

pub idle_runs : (script : Scripted) (most : ℕ) (packets : List (List ℕ)) (head : StreamHead) (outcomes : List (List Outcome)) (hs : List (List LogEntry)) → head.tally.packets ≡ length packets
    → IsRun script most packets hs → shown 0 hs ≡ [] → IsRun script 64 packets (completed (told_by head outcomes hs))
unfolding completed
idle_runs script most packets head outcomes hs count run none =
    let n : ℕ = head.tally.packets in
    let feeder : List LogEntry = tiled n 0 0 n in
    let all : ArePlain feeder = plain n 0 0 n in
    let is : complete (DEMUX_NODES + 1) 0 (feeder_of n (shown 0 hs)) (shown 0 hs) ≡ complete (DEMUX_NODES + 1) 0 feeder [] = ap (λ (nodes : List ToldNode). complete (DEMUX_NODES + 1) 0 (feeder_of n nodes) nodes) none in
    subst (λ (gs : List (List LogEntry)). IsRun script 64 packets gs) (sym is) (record {
      nodes = complete_long (DEMUX_NODES + 1) 0 feeder [];
      places = λ node place h e at here.
          let same : h ≡ renumbered (0 + node) 0 feeder = idle_at (DEMUX_NODES + 1) 0 feeder node h at in
          let t = told_there (0 + node) 0 feeder all place e (subst (λ (es : List LogEntry). slice_get es place ≡ Some e) same here) in
          let passed : e.response ≡ Passed = t.3 in
          (omega (arith, t.0), omega (arith, t.1), omega (arith, t.2), λ no. absurd (apart (sym passed ∙ no)));
      legal = λ node h at.
          let same : h ≡ renumbered (0 + node) 0 feeder = idle_at (DEMUX_NODES + 1) 0 feeder node h at in
          let legal = legal_on (rules_at node) (sources script packets) (0 + node) 0 feeder [] tt all in
          let plain' : IsLegalFor (rules_at node) (filled (sources script packets) (renumbered (0 + node) 0 feeder)) = subst (λ (g : History). IsLegalFor (rules_at node) g) (append-nil (filled (sources script packets) (renumbered (0 + node) 0 feeder))) legal in
          subst (λ (es : List LogEntry). IsLegalFor (rules_at node) (filled (sources script packets) es)) (sym same) plain';
      fed = record {
        batches = tiles n 0 n;
        each_size = sizes n 0 n;
        whole = omega (arith, sums n 0 n (omega arith) (omega arith), count);
        on_each = λ node h at.
            let same : h ≡ renumbered (0 + node) 0 feeder = idle_at (DEMUX_NODES + 1) 0 feeder node h at in
            ap (steps_of 0) same ∙ (steps_there (0 + node) 0 feeder all ∙ tiled_feeds n 0 0 n);
      };
      clients_done = λ c is'.
          let d = run.clients_done c is' in
          record {
            made = [];
            calls = record {
              steps = λ i e at. absurd (cc at);
              events = λ i e at. absurd (cc at);
              stands = λ i e at. absurd (cc at);
              only = λ node place h e at here who.
                  let same : h ≡ renumbered (0 + node) 0 feeder = idle_at (DEMUX_NODES + 1) 0 feeder node h at in
                  let t = told_there (0 + node) 0 feeder all place e (subst (λ (es : List LogEntry). slice_get es place ≡ Some e) same here) in
                  absurd (omega (arith, t.2, who));
              in_order = λ i j e f less at at' same. absurd (cc at);
            };
            ends = subst (λ (made : List LogEntry). next_event c script (replies made) ≡ None) (idle_made script c hs (uncalled_at 0 hs none) d) d.ends;
          };
    })
