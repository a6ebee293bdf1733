-- The histories that are woven of the feeder's calls and the clients' entries: how long they are, how they grow by one call,
-- and what stands where.
use Rattle.dmx_calls.proofs.Imports.{ℕ, zero, suc, ◌+◌, ◌<◌, ◌≤◌, ◌≡◌, refl, sym, ◌∙◌, ap, Bool, true, false, List, [], ◌∷◌, ◌++◌, length, Some, slice_get, arith, nat_tests, Act, LogEntry, feeder_entry, feeder_entries, before_entry, woven_from, woven, woven_nodes, AreInPlace}
use Rattle.std.proofs.Common.{nat_lt, if◌then◌else◌}

-- ------ lists whose entries are in place

pub in_place-append : (place : ℕ) (xs ys : List LogEntry) → AreInPlace place xs → AreInPlace (place + length xs) ys → AreInPlace place (xs ++ ys)
in_place-append place [] ys _ h = let e : place + 0 ≡ place = omega arith in rw e at h
in_place-append place (x ∷ xs) ys g h =
    (g.0, in_place-append (suc place) xs ys g.1 (let e : place + length (x ∷ xs) ≡ suc place + length xs = omega arith in rw e at h))

-- the entry at a place
pub in_place-at : (place : ℕ) (xs : List LogEntry) → AreInPlace place xs → (i : ℕ) (e : LogEntry) → slice_get xs i ≡ Some e → e.place ≡ place + i
in_place-at place [] h i e at = absurd (cc at)
in_place-at place (x ∷ xs) h zero e at = let same : x ≡ e = cc at in ap (λ (y : LogEntry). y.place) (sym same) ∙ (h.0 ∙ omega arith)
in_place-at place (x ∷ xs) h (suc i) e at = in_place-at (suc place) xs h.1 i e at ∙ omega arith

-- ------ the feeder's calls alone

pub feeder_entries-length : (node place step : ℕ) (acts : List Act) → length (feeder_entries node place step acts) ≡ length acts
feeder_entries-length node place step [] = refl
feeder_entries-length node place step (a ∷ acts) = ap suc (feeder_entries-length node (suc place) (suc step) acts)

pub feeder_entries-append : (node place step : ℕ) (acts : List Act) (a : Act)
    → feeder_entries node place step (acts ++ a ∷ []) ≡ feeder_entries node place step acts ++ feeder_entry node (place + length acts) (step + length acts) a ∷ []
feeder_entries-append node place step [] a =
    let p : place ≡ place + 0 = omega arith in let s : step ≡ step + 0 = omega arith in ap (λ p. feeder_entry node p step a ∷ []) p ∙ ap (λ s. feeder_entry node (place + 0) s a ∷ []) s
feeder_entries-append node place step (b ∷ acts) a =
    let p : suc place + length acts ≡ place + suc (length acts) = omega arith in
    let s : suc step + length acts ≡ step + suc (length acts) = omega arith in
    ap (λ l. feeder_entry node place step b ∷ l) (feeder_entries-append node (suc place) (suc step) acts a
    ∙ ap (λ p. feeder_entries node (suc place) (suc step) acts ++ feeder_entry node p (suc step + length acts) a ∷ []) p
    ∙ ap (λ s. feeder_entries node (suc place) (suc step) acts ++ feeder_entry node (place + suc (length acts)) s a ∷ []) s)

-- ------ how long a history is

module _ (node : ℕ) (e : LogEntry) (later : ℕ → ℕ → List Act → List LogEntry) (n : ℕ) (long : (p s : ℕ) (acts : List Act) → length (later p s acts) ≡ length acts + n) where
  before_entry-length : (p s : ℕ) (acts : List Act) → length (before_entry node e later p s acts) ≡ length acts + suc n
  before_entry-length p s [] = let l = long (suc p) s [] in omega arith
  before_entry-length p s (a ∷ acts) = by_test (nat_lt p e.place) (before_entry-length (suc p) (suc s) acts) where
    by_test : (b : Bool) → length (before_entry node e later (suc p) (suc s) acts) ≡ length acts + suc n
        → length (if b then feeder_entry node p s a ∷ before_entry node e later (suc p) (suc s) acts else e ∷ later (suc p) s (a ∷ acts)) ≡ suc (length acts) + suc n
    by_test true ih = omega arith
    by_test false ih = let l = long (suc p) s (a ∷ acts) in omega arith

woven_from-length : (node : ℕ) (calls : List LogEntry) (p s : ℕ) (acts : List Act) → length (woven_from node calls p s acts) ≡ length acts + length calls
woven_from-length node [] p s acts = feeder_entries-length node p s acts ∙ omega arith
woven_from-length node (e ∷ calls) p s acts = before_entry-length node e (woven_from node calls) (length calls) (woven_from-length node calls) p s acts

-- as many entries as the feeder and the clients have made calls
pub woven-length : (node : ℕ) (acts : List Act) (calls : List LogEntry) → length (woven node acts calls) ≡ length acts + length calls
woven-length node acts calls = woven_from-length node calls 0 0 acts

-- ------ one more call of a client

module _ (node : ℕ) (e : LogEntry) (calls : List LogEntry) (new : LogEntry)
    (later : (p s : ℕ) (acts : List Act) → new.place ≡ p + length acts + length calls → woven_from node (calls ++ new ∷ []) p s acts ≡ woven_from node calls p s acts ++ new ∷ []) where
  before_more : (p s : ℕ) (acts : List Act) → new.place ≡ p + length acts + suc (length calls)
      → before_entry node e (woven_from node (calls ++ new ∷ [])) p s acts ≡ before_entry node e (woven_from node calls) p s acts ++ new ∷ []
  before_more p s [] at = ap (λ l. e ∷ l) (later (suc p) s [] (omega (arith, at)))
  before_more p s (a ∷ acts) at = by_test (nat_lt p e.place) (before_more (suc p) (suc s) acts (omega (arith, at))) (later (suc p) s (a ∷ acts) (omega (arith, at))) where
    by_test : (b : Bool)
        → before_entry node e (woven_from node (calls ++ new ∷ [])) (suc p) (suc s) acts ≡ before_entry node e (woven_from node calls) (suc p) (suc s) acts ++ new ∷ []
        → woven_from node (calls ++ new ∷ []) (suc p) s (a ∷ acts) ≡ woven_from node calls (suc p) s (a ∷ acts) ++ new ∷ []
        → (if b then feeder_entry node p s a ∷ before_entry node e (woven_from node (calls ++ new ∷ [])) (suc p) (suc s) acts else e ∷ woven_from node (calls ++ new ∷ []) (suc p) s (a ∷ acts))
        ≡ (if b then feeder_entry node p s a ∷ before_entry node e (woven_from node calls) (suc p) (suc s) acts else e ∷ woven_from node calls (suc p) s (a ∷ acts)) ++ new ∷ []
    by_test true ih l = ap (λ l. feeder_entry node p s a ∷ l) ih
    by_test false ih l = ap (λ l. e ∷ l) l

alone_behind : (node : ℕ) (new : LogEntry) (p s : ℕ) (acts : List Act) → new.place ≡ p + length acts + 0
    → before_entry node new (woven_from node []) p s acts ≡ feeder_entries node p s acts ++ new ∷ []
alone_behind node new p s [] at = refl
alone_behind node new p s (a ∷ acts) at =
    by_test (nat_lt p new.place) refl (alone_behind node new (suc p) (suc s) acts (omega (arith, at))) where
      by_test : (b : Bool) → nat_lt p new.place ≡ b → before_entry node new (woven_from node []) (suc p) (suc s) acts ≡ feeder_entries node (suc p) (suc s) acts ++ new ∷ []
          → (if b then feeder_entry node p s a ∷ before_entry node new (woven_from node []) (suc p) (suc s) acts else new ∷ feeder_entries node (suc p) s (a ∷ acts))
          ≡ feeder_entry node p s a ∷ feeder_entries node (suc p) (suc s) acts ++ new ∷ []
      by_test true y ih = ap (λ l. feeder_entry node p s a ∷ l) ih
      by_test false y ih = absurd (let low : new.place ≤ p = grind (arith, nat_tests) in omega (arith, low, at))

woven_from-call : (node : ℕ) (calls : List LogEntry) (new : LogEntry) (p s : ℕ) (acts : List Act) → new.place ≡ p + length acts + length calls
    → woven_from node (calls ++ new ∷ []) p s acts ≡ woven_from node calls p s acts ++ new ∷ []
woven_from-call node [] new p s acts at = alone_behind node new p s acts at
woven_from-call node (e ∷ calls) new p s acts at = before_more node e calls new (woven_from-call node calls new) p s acts at

-- an entry of a client that stands behind all others
pub woven-call : (node : ℕ) (acts : List Act) (calls : List LogEntry) (new : LogEntry) → new.place ≡ length (woven node acts calls)
    → woven node acts (calls ++ new ∷ []) ≡ woven node acts calls ++ new ∷ []
woven-call node acts calls new at = woven_from-call node calls new 0 0 acts (let l = woven-length node acts calls in omega (arith, at))

-- ------ one more call of the feeder

module _ (node : ℕ) (e : LogEntry) (calls : List LogEntry) (a : Act)
    (later : (p s : ℕ) (acts : List Act) → AreInPlace p (woven_from node calls p s acts)
    → woven_from node calls p s (acts ++ a ∷ []) ≡ woven_from node calls p s acts ++ feeder_entry node (p + length (woven_from node calls p s acts)) (s + length acts) a ∷ []) where
  behind : (p s : ℕ) (acts : List Act) (x : LogEntry) (l m : List LogEntry) (q t : ℕ) → l ≡ m ++ feeder_entry node q t a ∷ [] → q ≡ suc p + length m → t ≡ s
      → x ∷ l ≡ x ∷ m ++ feeder_entry node (p + suc (length m)) s a ∷ []
  behind p s acts x l m q t is at num =
      ap (λ l. x ∷ l) (is ∙ ap (λ q. m ++ feeder_entry node q t a ∷ []) (at ∙ omega arith) ∙ ap (λ t. m ++ feeder_entry node (p + suc (length m)) t a ∷ []) num)

  before_fed : (p s : ℕ) (acts : List Act) → AreInPlace p (before_entry node e (woven_from node calls) p s acts)
      → before_entry node e (woven_from node calls) p s (acts ++ a ∷ [])
      ≡ before_entry node e (woven_from node calls) p s acts ++ feeder_entry node (p + length (before_entry node e (woven_from node calls) p s acts)) (s + length acts) a ∷ []
  before_fed p s [] h = by_test (nat_lt p e.place) refl where
    by_test : (b : Bool) → nat_lt p e.place ≡ b
        → (if b then feeder_entry node p s a ∷ e ∷ woven_from node calls (suc (suc p)) (suc s) [] else e ∷ woven_from node calls (suc p) s (a ∷ []))
        ≡ e ∷ woven_from node calls (suc p) s [] ++ feeder_entry node (p + suc (length (woven_from node calls (suc p) s []))) (s + 0) a ∷ []
    by_test true y = absurd (let up : p < e.place = grind (arith, nat_tests) in let at = h.0 in omega (arith, up, at))
    by_test false y = behind p (s + 0) [] e (woven_from node calls (suc p) s (a ∷ [])) (woven_from node calls (suc p) s []) (suc p + length (woven_from node calls (suc p) s [])) (s + 0) (later (suc p) s [] h.1) refl refl
  before_fed p s (b ∷ acts) h = by_test (nat_lt p e.place) h (before_fed (suc p) (suc s) acts) where
    by_test : (c : Bool)
        → AreInPlace p (if c then feeder_entry node p s b ∷ before_entry node e (woven_from node calls) (suc p) (suc s) acts else e ∷ woven_from node calls (suc p) s (b ∷ acts))
        → (AreInPlace (suc p) (before_entry node e (woven_from node calls) (suc p) (suc s) acts)
        → before_entry node e (woven_from node calls) (suc p) (suc s) (acts ++ a ∷ [])
        ≡ before_entry node e (woven_from node calls) (suc p) (suc s) acts ++ feeder_entry node (suc p + length (before_entry node e (woven_from node calls) (suc p) (suc s) acts)) (suc s + length acts) a ∷ [])
        → (if c then feeder_entry node p s b ∷ before_entry node e (woven_from node calls) (suc p) (suc s) (acts ++ a ∷ []) else e ∷ woven_from node calls (suc p) s (b ∷ acts ++ a ∷ []))
        ≡ (if c then feeder_entry node p s b ∷ before_entry node e (woven_from node calls) (suc p) (suc s) acts else e ∷ woven_from node calls (suc p) s (b ∷ acts))
        ++ feeder_entry node (p + length (if c then feeder_entry node p s b ∷ before_entry node e (woven_from node calls) (suc p) (suc s) acts else e ∷ woven_from node calls (suc p) s (b ∷ acts))) (s + suc (length acts)) a ∷ []
    by_test true h ih =
        behind p (s + suc (length acts)) acts (feeder_entry node p s b) (before_entry node e (woven_from node calls) (suc p) (suc s) (acts ++ a ∷ [])) (before_entry node e (woven_from node calls) (suc p) (suc s) acts)
        (suc p + length (before_entry node e (woven_from node calls) (suc p) (suc s) acts)) (suc s + length acts) (ih h.1) refl (omega arith)
    by_test false h ih =
        behind p (s + suc (length acts)) acts e (woven_from node calls (suc p) s (b ∷ acts ++ a ∷ [])) (woven_from node calls (suc p) s (b ∷ acts))
        (suc p + length (woven_from node calls (suc p) s (b ∷ acts))) (s + suc (length acts)) (later (suc p) s (b ∷ acts) h.1) refl refl

woven_from-fed : (node : ℕ) (calls : List LogEntry) (a : Act) (p s : ℕ) (acts : List Act) → AreInPlace p (woven_from node calls p s acts)
    → woven_from node calls p s (acts ++ a ∷ []) ≡ woven_from node calls p s acts ++ feeder_entry node (p + length (woven_from node calls p s acts)) (s + length acts) a ∷ []
woven_from-fed node [] a p s acts h =
    feeder_entries-append node p s acts a ∙ ap (λ n. feeder_entries node p s acts ++ feeder_entry node (p + n) (s + length acts) a ∷ []) (sym (feeder_entries-length node p s acts))
woven_from-fed node (e ∷ calls) a p s acts h = before_fed node e calls a (woven_from-fed node calls a) p s acts h

-- where all entries are in place, one more call of the feeder stands behind them
pub woven-fed : (node : ℕ) (acts : List Act) (calls : List LogEntry) (a : Act) → AreInPlace 0 (woven node acts calls)
    → woven node (acts ++ a ∷ []) calls ≡ woven node acts calls ++ feeder_entry node (length (woven node acts calls)) (length acts) a ∷ []
woven-fed node acts calls a h =
    woven_from-fed node calls a 0 0 acts h
    ∙ ap (λ n. woven node acts calls ++ feeder_entry node n (0 + length acts) a ∷ []) (let e : 0 + length (woven node acts calls) ≡ length (woven node acts calls) = omega arith in e)
    ∙ ap (λ s. woven node acts calls ++ feeder_entry node (length (woven node acts calls)) s a ∷ []) (let e : 0 + length acts ≡ length acts = omega arith in e)

-- ------ all nodes

pub woven_nodes-length : (node : ℕ) (acts : List Act) (calls : List (List LogEntry)) → length (woven_nodes node acts calls) ≡ length calls
woven_nodes-length node acts [] = refl
woven_nodes-length node acts (c ∷ calls) = ap suc (woven_nodes-length (suc node) acts calls)

-- the history of a node
pub woven_nodes-at : (node : ℕ) (acts : List Act) (calls : List (List LogEntry)) (i : ℕ) (c : List LogEntry) → slice_get calls i ≡ Some c
    → slice_get (woven_nodes node acts calls) i ≡ Some (woven (node + i) acts c)
woven_nodes-at node acts [] i c at = absurd (cc at)
woven_nodes-at node acts (d ∷ calls) zero c at =
    let same : d ≡ c = cc at in let e : node ≡ node + 0 = omega arith in ap (λ d. Some (woven node acts d)) same ∙ ap (λ n. Some (woven n acts c)) e
woven_nodes-at node acts (d ∷ calls) (suc i) c at =
    woven_nodes-at (suc node) acts calls i c at ∙ (let e : suc node + i ≡ node + suc i = omega arith in ap (λ n. Some (woven n acts c)) e)
