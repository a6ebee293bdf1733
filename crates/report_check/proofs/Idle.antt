-- In a run, a node that no client called has the feeder's calls alone.
use Rattle.report_check.proofs.Imports.{◌≡◌, ◌+◌, refl, sym, ap, subst, ◌∙◌, ℕ, zero, suc, List, [], ◌∷◌, ◌++◌, Bool, true, false, nat_eq, length, map, arith, nat_tests, Some, slice_get, nat_lt, ◌||◌, list_any, Outcome, Act, PassAct, EndAct, StreamHead, History, Response, Passed, Rules, rules_at, May, IsLegalFor, LogEntry, Sources, filled, filled_act, go_by, Scripted, Batch, Step, feeding, IsRun, sources, is_of_client, ToldNode, shown, renumbered, of_feeder, feeder_of, complete, told_by, may_at, completed, step_of}
use Rattle.report_check.proofs.Completing.{AreFeeders, ArePassed, same_feeders, AreIdle, complete_shown}

-- a list with an entry in it
record Parted (h : List LogEntry) (e : LogEntry) : Type 0 where
  before : List LogEntry
  behind : List LogEntry
  joined : h ≡ before ++ e ∷ behind

parted : (h : List LogEntry) (i : ℕ) (e : LogEntry) → slice_get h i ≡ Some e → Parted h e
parted [] i e at = absurd (cc)
parted (x ∷ h) zero e at =
    let same : x ≡ e = cc in
    record { before = []; behind = h; joined = ap (λ (y : LogEntry). y ∷ h) same }
parted (x ∷ h) (suc i) e at =
    let p = parted h i e at in
    record { before = x ∷ p.before; behind = p.behind; joined = ap (λ (ys : List LogEntry). x ∷ ys) p.joined }

-- what the feeder calls
abbrev pub IsFeed : Act → Type 0
IsFeed (PassAct input batch now) = Unit {0}
IsFeed EndAct = Unit {0}
IsFeed _ = ⊥

passes_by : (node : Rules) (packets : Sources) (h : History) (who : ℕ) (a : Act) (r : Response) → IsFeed a → May node h who (filled_act (packets who) a) r → r ≡ Passed
passes_by node packets h who (PassAct input batch now) r f m = (go_by node).passes h who input batch.first _ now r m
passes_by node packets h who EndAct r f m = (go_by node).ends h who r m
passes_by node packets h who _ r f m = absurd f

pub passed_at : (node : Rules) (packets : Sources) (h : List LogEntry) (i : ℕ) (e : LogEntry) → slice_get h i ≡ Some e → IsLegalFor node (filled packets h) → IsFeed e.act → e.response ≡ Passed
passed_at node packets h i e at legal feed =
    let p = parted h i e at in
    passes_by node packets (filled packets p.before) e.who e.act e.response feed
    (may_at node packets p.before e p.behind (subst (λ (xs : List LogEntry). IsLegalFor node (filled packets xs)) p.joined legal))

-- ------ the feeder's calls

abbrev pub AllFeed : List Step → Type 0
AllFeed [] = Unit {0}
AllFeed (s ∷ ss) = IsFeed s.act × AllFeed ss

pub feeding_feeds : (first step : ℕ) (bs : List Batch) → AllFeed (feeding first step bs)
feeding_feeds first step [] = (tt, tt)
feeding_feeds first step (b ∷ bs) = (tt, feeding_feeds (first + b.size) (suc step) bs)

abbrev pub AllZero : List LogEntry → Type 0
AllZero [] = Unit {0}
AllZero (e ∷ es) = (e.who ≡ 0) × AllZero es

neither : (a b : Bool) → (a || b) ≡ false → (a ≡ false) × (b ≡ false)
neither true b e = absurd (cc)
neither false b e = (refl, e)

zero_who : (who : ℕ) → nat_lt 0 who ≡ false → who ≡ 0
zero_who who e = grind (arith, nat_tests)

pub uncalled : (h : List LogEntry) → list_any is_of_client h ≡ false → AllZero h
uncalled [] none = tt
uncalled (e ∷ es) none =
    let parts = neither (is_of_client e) (list_any is_of_client es) none in
    (zero_who e.who parts.0, uncalled es parts.1)

all_kept : (h : List LogEntry) → AllZero h → of_feeder h ≡ h
all_kept [] all = refl
all_kept (e ∷ es) all =
    let is : nat_eq e.who 0 ≡ true = grind (arith, nat_tests, all.0) in
    rw (is, all_kept es all.1) refl

feeders_from : (node place : ℕ) (h : List LogEntry) → AllZero h → AllFeed (map step_of h)
    → ((i : ℕ) (e : LogEntry) → slice_get h i ≡ Some e → (e.node ≡ node) × (e.place ≡ place + i) × (IsFeed e.act → e.response ≡ Passed)) → AreFeeders node place h
feeders_from node place [] zeros feeds each = tt
feeders_from node place (e ∷ es) zeros feeds each =
    let first = each 0 e refl in
    let here : e.place ≡ place = omega (arith, first.1) in
    (first.0, here, zeros.0, first.2 feeds.0, feeders_from node (suc place) es zeros.1 feeds.1 (λ i f at. let later = each (suc i) f at in (later.0, omega (arith, later.1), later.2)))

passed_one : (e : LogEntry) (es : List LogEntry) → (IsFeed e.act → e.response ≡ Passed) → (AllFeed (map step_of (of_feeder es)) → ArePassed (of_feeder es))
    → (b : Bool) → nat_eq e.who 0 ≡ b → AllFeed (map step_of (of_feeder (e ∷ es))) → ArePassed (of_feeder (e ∷ es))
passed_one e es this later true t feeds =
    let is : e.who ≡ 0 = grind (arith, nat_tests) in
    let both : IsFeed e.act × AllFeed (map step_of (of_feeder es)) = rw t at feeds in
    rw t (is, this both.0, later both.1)
passed_one e es this later false t feeds = rw t (later (rw t at feeds))

pub passed_from : (h : List LogEntry) → ((i : ℕ) (e : LogEntry) → slice_get h i ≡ Some e → IsFeed e.act → e.response ≡ Passed) → AllFeed (map step_of (of_feeder h)) → ArePassed (of_feeder h)
passed_from [] each feeds = tt
passed_from (e ∷ es) each feeds = passed_one e es (each 0 e refl) (passed_from es (λ i f at. each (suc i) f at)) (nat_eq e.who 0) refl feeds

-- ------ the nodes

idle_from : (node : ℕ) (feeder : List LogEntry) (hs : List (List LogEntry)) → ((i : ℕ) (h : List LogEntry) → slice_get hs i ≡ Some h → list_any is_of_client h ≡ false → h ≡ renumbered (node + i) 0 feeder) → AreIdle node feeder hs
idle_from node feeder [] each = tt
idle_from node feeder (h ∷ hs) each =
    let start : node + 0 ≡ node = omega arith in (
      (λ none. each 0 h refl none ∙ ap (λ (n : ℕ). renumbered n 0 feeder) start),
      idle_from (suc node) feeder hs (λ i g at none. let sum : node + suc i ≡ suc node + i = omega arith in each (suc i) g at none ∙ ap (λ (n : ℕ). renumbered n 0 feeder) sum),
    )

-- a shown node is one of the histories
record IsShown (hs : List (List LogEntry)) (n : ToldNode) : Type 0 where
  index : ℕ
  at : slice_get hs index ≡ Some n.entries

shown_one : (node : ℕ) (h : List LogEntry) (hs : List (List LogEntry)) (n : ToldNode) (nodes : List ToldNode) → (shown (suc node) hs ≡ n ∷ nodes → IsShown hs n)
    → (b : Bool) → list_any is_of_client h ≡ b → shown node (h ∷ hs) ≡ n ∷ nodes → IsShown (h ∷ hs) n
shown_one node h hs n nodes later true e s =
    let front : record { node = node; entries = h } ∷ shown (suc node) hs ≡ n ∷ nodes = rw e at s in
    let first : record { node = node; entries = h } ≡ n = cc in
    record { index = 0; at = ap (λ (m : ToldNode). Some m.entries) first }
shown_one node h hs n nodes later false e s =
    let found = later (rw e at s) in
    record { index = suc found.index; at = found.at }

is_shown : (node : ℕ) (hs : List (List LogEntry)) (n : ToldNode) (nodes : List ToldNode) → shown node hs ≡ n ∷ nodes → IsShown hs n
is_shown node [] n nodes s = absurd (cc)
is_shown node (h ∷ hs) n nodes s = shown_one node h hs n nodes (is_shown (suc node) hs n nodes) (list_any is_of_client h) refl s

-- ------ runs

module _ (script : Scripted) (most : ℕ) (packets : List (List ℕ)) (hs : List (List LogEntry)) (run : IsRun script most packets hs) where
  idle : (n : ToldNode) → IsShown hs n → (i : ℕ) (h : List LogEntry) → slice_get hs i ≡ Some h → list_any is_of_client h ≡ false → h ≡ renumbered (0 + i) 0 (of_feeder n.entries)
  idle n s i h at none =
      let zeros = uncalled h none in
      let mine : map step_of (of_feeder h) ≡ feeding 0 0 run.fed.batches = run.fed.on_each i h at in
      let alone : map step_of h ≡ feeding 0 0 run.fed.batches = ap (map step_of) (sym (all_kept h zeros)) ∙ mine in
      let theirs : map step_of (of_feeder n.entries) ≡ feeding 0 0 run.fed.batches = run.fed.on_each s.index n.entries s.at in
      let feeds : AllFeed (map step_of h) = subst AllFeed (sym alone) (feeding_feeds 0 0 run.fed.batches) in
      let feeds' : AllFeed (map step_of (of_feeder n.entries)) = subst AllFeed (sym theirs) (feeding_feeds 0 0 run.fed.batches) in
      let feeders : AreFeeders i 0 h = feeders_from i 0 h zeros feeds (λ j e here.
      let places = run.places i j h e at here in
      (places.0, omega (arith, places.1), passed_at (rules_at i) (sources script packets) h j e here (run.legal i h at))) in
      let passed : ArePassed (of_feeder n.entries) = passed_from n.entries (λ j e here. passed_at (rules_at s.index) (sources script packets) n.entries j e here (run.legal s.index n.entries s.at)) feeds' in
      let sum : 0 + i ≡ i = omega arith in
      same_feeders i 0 h (of_feeder n.entries) feeders passed (alone ∙ sym theirs) ∙ ap (λ (k : ℕ). renumbered k 0 (of_feeder n.entries)) (sym sum)

pub runs_are_completed : (script : Scripted) (most : ℕ) (packets : List (List ℕ)) (head : StreamHead) (outcomes : List (List Outcome)) (hs : List (List LogEntry)) (n : ToldNode) (nodes : List ToldNode)
    → IsRun script most packets hs → shown 0 hs ≡ n ∷ nodes → completed (told_by head outcomes hs) ≡ hs
unfolding completed
runs_are_completed script most packets head outcomes hs n nodes run s =
    let all : AreIdle 0 (of_feeder n.entries) hs = idle_from 0 (of_feeder n.entries) hs (idle script most packets hs run n (is_shown 0 hs n nodes s)) in
    let whole : complete (length hs) 0 (of_feeder n.entries) (shown 0 hs) ≡ hs = complete_shown 0 (of_feeder n.entries) hs all in
    let feeder : feeder_of head.tally.packets (shown 0 hs) ≡ of_feeder n.entries = ap (feeder_of head.tally.packets) s in
    let same : complete (length hs) 0 (feeder_of head.tally.packets (shown 0 hs)) (shown 0 hs) ≡ hs = ap (λ (f : List LogEntry). complete (length hs) 0 f (shown 0 hs)) feeder ∙ whole in
    subst (λ (k : ℕ). complete k 0 (feeder_of head.tally.packets (shown 0 hs)) (shown 0 hs) ≡ hs) run.nodes same
