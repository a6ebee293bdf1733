-- What is told of a run is in range where what the run left fits.
use Rattle.emu_top.proofs.Imports.{◌≡◌, ◌<◌, ◌≤◌, ◌+◌, ◌^◌, refl, ap, subst, ◌∙◌, ℕ, suc, Bool, true, false, List, [], ◌∷◌, length, map, take, get_or, inl, inr, arith, cases_lt, length-map, All-nil, All-cons, All-head, All-tail, All-append, All-map, All-more, slice_get_within, Some, slice_get, nat_lt, if◌then◌else◌, All, list_any, range_with_len, Fed, DEMUX_NODES, Act, EndAct, ToldEntry, Outcome, told_entry, pass_act, feeder_acts, feeder_entry, feeder_entries, before_entry, woven_from, woven, LogEntry, StreamHead, IsLineInRange, clients_in, Scripted, outcomes_of, IsRun, few_in_all, replies_of, outcomes_in, is_of_client, IsActInRange, IsEntryInRange, IsEntryOf, IsNodeInRange, IsInRange, shown, told_by, all_at, at_all, AreFitting}
use Rattle.std.proofs.Common.{take_all}
use Rattle.std.proofs.lemmas.List.{length-append}
use Rattle.serial_core.specs.SerialRun.{Run}
use Rattle.emu_top.proofs.Written.{length_range}

-- ------ lists

-- one more from the front, and all
pub next_in : {X : Type 0} (P : X → Type 0) (xs : List X) (i : ℕ) (x : X) → i < length xs → x ≡ get_or xs i x → All P (take i xs) → P x → All P (take (i + 1) xs)
next_in P xs i x below is all here = All-more P xs i x below all (subst P is here)

pub all_in : {X : Type 0} (P : X → Type 0) (xs : List X) (i : ℕ) → length xs ≤ i → All P (take i xs) → All P xs
all_in P xs i end all = subst (All P) (take_all i xs end) all

either : {X : Type 0} (P : X → Type 0) (b : Bool) (xs ys : List X) → All P xs → All P ys → All P (if b then xs else ys)
either P true xs ys here there = here
either P false xs ys here there = there

-- ------ the entries of a node

feeder_in : (node place step : ℕ) (act : Act) → IsActInRange act → place < 2 ^ 64 → step < 2 ^ 64 → IsEntryInRange (feeder_entry node place step act)
feeder_in node place step act is near few = record { place = near; step = few; who = omega arith; act = is; response = tt }

feeders_in : (node place step : ℕ) (acts : List Act) → All IsActInRange acts → place + length acts ≤ 2 ^ 64 → step + length acts ≤ 2 ^ 64
    → All IsEntryInRange (feeder_entries node place step acts)
feeders_in node place step [] all near few = All-nil IsEntryInRange
feeders_in node place step (act ∷ acts) all near few =
    All-cons IsEntryInRange (feeder_entry node place step act) (feeder_entries node (suc place) (suc step) acts)
    (feeder_in node place step act (All-head IsActInRange act acts all) (omega (arith, near)) (omega (arith, few)))
    (feeders_in node (suc place) (suc step) acts (All-tail IsActInRange act acts all) (omega (arith, near)) (omega (arith, few)))

-- what stands behind so many entries and calls of the feeder is in range, where that many more come
abbrev Later : (rest : ℕ) → ((place step : ℕ) → List Act → List LogEntry) → Type 0
Later rest later =
    (place step : ℕ) (acts : List Act) → All IsActInRange acts → place + length acts + rest ≤ 2 ^ 64 → step + length acts ≤ 2 ^ 64
    → All IsEntryInRange (later place step acts)

before_in : (node : ℕ) (e : LogEntry) (later : (place step : ℕ) → List Act → List LogEntry) (rest : ℕ) → IsEntryInRange e → Later rest later
    → Later (suc rest) (before_entry node e later)
before_in node e later rest is on place step [] all near few =
    All-cons IsEntryInRange e (later (suc place) step []) is (on (suc place) step [] all (omega (arith, near)) few)
before_in node e later rest is on place step (act ∷ acts) all near few =
    either IsEntryInRange (nat_lt place e.place) (feeder_entry node place step act ∷ before_entry node e later (suc place) (suc step) acts)
    (e ∷ later (suc place) step (act ∷ acts))
    (All-cons IsEntryInRange (feeder_entry node place step act) (before_entry node e later (suc place) (suc step) acts)
    (feeder_in node place step act (All-head IsActInRange act acts all) (omega (arith, near)) (omega (arith, few)))
    (before_in node e later rest is on (suc place) (suc step) acts (All-tail IsActInRange act acts all) (omega (arith, near)) (omega (arith, few))))
    (All-cons IsEntryInRange e (later (suc place) step (act ∷ acts)) is (on (suc place) step (act ∷ acts) all (omega (arith, near)) few))

woven_in : (node : ℕ) (calls : List LogEntry) → All IsEntryInRange calls → Later (length calls) (woven_from node calls)
woven_in node [] all place step acts fits near few = feeders_in node place step acts fits (omega (arith, near)) few
woven_in node (e ∷ calls) all place step acts fits near few =
    before_in node e (woven_from node calls) (length calls) (All-head IsEntryInRange e calls all) (woven_in node calls (All-tail IsEntryInRange e calls all))
    place step acts fits near few

pub node_in : (node : ℕ) (feeding : List Fed) (calls : List ToldEntry) → length feeding < 2 ^ 63 → length calls < 2 ^ 63
    → All (λ fed. IsActInRange (pass_act fed)) feeding → All (λ entry. IsEntryInRange (told_entry entry)) calls
    → All IsEntryInRange (woven node (feeder_acts feeding) (map told_entry calls))
node_in node feeding calls short few fed told =
    let acts : All IsActInRange (feeder_acts feeding) =
    All-append IsActInRange (map pass_act feeding) (EndAct ∷ []) (All-map IsActInRange pass_act feeding fed) (All-cons IsActInRange EndAct [] tt (All-nil IsActInRange)) in
    let turns : length (feeder_acts feeding) ≡ length feeding + 1 = length-append (map pass_act feeding) (EndAct ∷ []) ∙ ap (λ n. n + 1) (length-map feeding pass_act) in
    let made : length (map told_entry calls) ≡ length calls = length-map calls told_entry in
    woven_in node (map told_entry calls) (All-map IsEntryInRange told_entry calls told) 0 0 (feeder_acts feeding) acts
    (omega (arith, turns, made, short, few)) (omega (arith, turns, short))

-- ------ all nodes

-- what is so of the nodes before one, and of this one, is so of all before the next
pub one_more : (P : List LogEntry → Type 0) (hs : List (List LogEntry)) (n : ℕ) → ((k : ℕ) (h : List LogEntry) → k < n → slice_get hs k ≡ Some h → P h)
    → ((h : List LogEntry) → slice_get hs n ≡ Some h → P h) → (k : ℕ) (h : List LogEntry) → k < n + 1 → slice_get hs k ≡ Some h → P h
one_more P hs n before here k h lt at = elim (cases_lt k n) [
  | inl less ↦ before k h less at
  | inr more ↦ here h (subst (λ i. slice_get hs i ≡ Some h) (let e : k ≡ n = omega (arith, lt, more) in e) at)
]

-- what is so of as many nodes as there are is so of all
pub all_nodes : (P : List LogEntry → Type 0) (hs : List (List LogEntry)) (n : ℕ) → length hs ≤ n
    → ((k : ℕ) (h : List LogEntry) → k < n → slice_get hs k ≡ Some h → P h) → All P hs
all_nodes P hs n all each = at_all P hs (λ k h at. each k h (omega (arith, all, slice_get_within hs k h at)) at)

-- ------ the nodes that a report shows

shown_in : (node : ℕ) (hs : List (List LogEntry)) → node + length hs ≤ DEMUX_NODES + 1
    → ((i : ℕ) (h : List LogEntry) → slice_get hs i ≡ Some h → All (IsEntryOf (i + node)) h) → All IsNodeInRange (shown node hs)
shown_in node [] few each = All-nil IsNodeInRange
shown_in node (h ∷ hs) few each =
    let later : All IsNodeInRange (shown (suc node) hs) =
    shown_in (suc node) hs (omega (arith, few))
    (λ i x at. subst (λ n. All (IsEntryOf n) x) (let e : suc i + node ≡ i + suc node = omega arith in e) (each (suc i) x at)) in
    let here : All (IsEntryOf node) h = subst (λ n. All (IsEntryOf n) h) (let e : 0 + node ≡ node = omega arith in e) (each 0 h refl) in
    either IsNodeInRange (list_any is_of_client h) (record { node = node; entries = h } ∷ shown (suc node) hs) (shown (suc node) hs)
    (All-cons IsNodeInRange (record { node = node; entries = h }) (shown (suc node) hs) (record { node = omega (arith, few); entries = here }) later) later

-- an entry of a run names the node on which it stands
entries_of : (node : ℕ) (h : List LogEntry) → ((place : ℕ) (e : LogEntry) → slice_get h place ≡ Some e → e.node ≡ node) → All IsEntryInRange h
    → All (IsEntryOf node) h
entries_of node h names fit = at_all (IsEntryOf node) h (λ place e at. (all_at IsEntryInRange h fit place e at, names place e at))

in_range : (script : Scripted) (most : ℕ) (packets : List (List ℕ)) (head : StreamHead) (outcomes : List (List Outcome)) (hs : List (List LogEntry))
    → IsRun script most packets hs → length outcomes ≤ 8 → AreFitting head outcomes hs → IsInRange (told_by head outcomes hs)
in_range script most packets head outcomes hs run few fit = record {
  parts = record {
    tally = fit.tally;
    rows = fit.rows;
    outcomes = fit.commands;
    nodes = shown_in 0 hs (omega (arith, run.nodes))
        (λ i h at. subst (λ n. All (IsEntryOf n) h) (let e : i ≡ i + 0 = omega arith in e)
        (entries_of i h (λ place e on. (run.places i place h e at on).0) (all_at (All IsEntryInRange) hs fit.entries i h at)));
  };
  clients = omega (arith, few);
}

-- the same of what is equal to what fits
pub ranged : (script : Scripted) (most : ℕ) (packets : List (List ℕ)) (head head' : StreamHead) (outcomes outcomes' : List (List Outcome)) (hs hs' : List (List LogEntry))
    → head ≡ head' → outcomes ≡ outcomes' → hs ≡ hs' → IsRun script most packets hs' → length outcomes' ≤ 8 → AreFitting head outcomes hs
    → IsInRange (told_by head' outcomes' hs')
ranged script most packets head head' outcomes outcomes' hs hs' same_head same_outcomes same run few fit =
    in_range script most packets head' outcomes' hs' run few
    (subst (λ (h : StreamHead). AreFitting h outcomes' hs') same_head
    (subst (λ (os : List (List Outcome)). AreFitting head os hs') same_outcomes (subst (λ (x : List (List LogEntry)). AreFitting head outcomes x) same fit)))

-- there are eight clients at most
pub few_told : (script : Scripted) (run : Run) → All IsLineInRange script.lines → length (outcomes_in script run) ≤ 8
few_told script run ranges =
    let many : length (outcomes_in script run) ≡ clients_in script =
    length-map (range_with_len 0 (clients_in script)) (λ client. outcomes_of client script (replies_of client run)) ∙ length_range 0 (clients_in script) in
    omega (arith, many, few_in_all script ranges)
