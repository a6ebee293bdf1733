-- Rows of passes: a caller has one pass of each lock. A pass is a pair: its lock, and what it knows.
use Rattle.std.specs.Prelude.{◌≡◌, ℕ, ◌+◌, ◌<◌, ◌≤◌, ◌^◌, Bool, true, false, List, [], ◌∷◌, ◌++◌, length, slice_get, slice_index, set, Some}
use Rattle.adapter.specs.Imports.{Has, HasJust, Held, IsFresh, IsPrefix, IsSamePass, IsWhole, KnowsItsCalls, TableId, View, option_to_list}

module _ {N : Type 0} where
  -- there is a pass for each lock, and the pass in each place is one of the lock there
  abbrev pub Fits : List TableId → List (TableId × View N) → Type 0
  Fits locks passes =
      (length passes ≡ length locks)
      × ((i : ℕ) (l : TableId) (p : TableId × View N) → slice_get locks i ≡ Some l → slice_get passes i ≡ Some p
      → p.0 ≡ l)

  -- the pass in one place of a row has a call left
  abbrev pub MayCallAt : ℕ → List (TableId × View N) → Type 0
  MayCallAt node passes = (p : TableId × View N) → slice_get passes node ≡ Some p → 0 < p.1.left

  -- every pass of a row has a call left
  abbrev pub MayCall : List (TableId × View N) → Type 0
  MayCall passes = (i : ℕ) → MayCallAt i passes

  -- each is the pass of the same lock, for the same caller, with the same passes joined into it
  abbrev pub AreSamePasses : List (TableId × View N) → List (TableId × View N) → Type 0
  AreSamePasses old new =
      (length new ≡ length old)
      × ((i : ℕ) (p q : TableId × View N) → slice_get old i ≡ Some p → slice_get new i ≡ Some q → IsSamePass p q)

  -- a pass, p, has made one call more, at this place, and is q then
  pub record OneMore (who_of : N → ℕ) (stood : List N → Type 0) (e : N) (place : ℕ)
      (p q : TableId × View N) : Type 0 where
    -- what p had seen begins some history, and what q has seen is that with the entry behind it
    pub before : List N
    pub seen : IsPrefix p.1.seen before
    pub now : q.1.seen ≡ before ++ e ∷ []
    pub at : place ≡ length before
    pub few : place < 2 ^ 50
    -- of its calls, those of p and this one, q knows all
    pub told : q.1.own ≡ p.1.own ++ (p.1.number, place) ∷ []
    pub calls : KnowsItsCalls who_of q.1
    pub same : IsSamePass p q
    -- one call less is left
    pub left : q.1.left + 1 ≡ p.1.left
    pub miss : q.1.miss ≡ p.1.miss
    -- a machine has stood for what q has seen
    pub meant : stood q.1.seen

  -- the pass in one place of a row has made a call, and no other is changed; `entry`
  -- says which entry it makes for a caller
  pub record OneCalls (who_of : N → ℕ) (stood : List N → Type 0) (node : ℕ) (entry : ℕ → N) (place : ℕ)
      (old new : List (TableId × View N)) : Type 0 where
    pub first : TableId × View N
    pub then : TableId × View N
    pub was : slice_get old node ≡ Some first
    pub is : new ≡ set old node then
    pub more : OneMore who_of stood (entry first.1.number) place first then

  -- a pass, p, has tried a call and made none, and is q then
  pub record OneMiss (who_of : N → ℕ) (stood : List N → Type 0) (held : Held) (p q : TableId × View N) : Type 0 where
    -- it has seen as many entries as Held says were served; the one exchange found more tickets drawn
    pub seen : IsPrefix p.1.seen q.1.seen
    pub served : held.served ≡ length q.1.seen
    pub behind : held.served < held.tickets
    pub few : held.tickets ≤ 2 ^ 50
    -- it has looked once, and keeps both numbers as its last miss
    pub looks : q.1.looks ≡ p.1.looks + 1
    pub miss : q.1.miss ≡ Some record { looks = q.1.looks; served = held.served; found = held.tickets }
    -- its calls and what is left are as before
    pub own : q.1.own ≡ p.1.own
    pub calls : KnowsItsCalls who_of q.1
    pub same : IsSamePass p q
    pub left : q.1.left ≡ p.1.left
    -- a machine has stood for what q has seen
    pub meant : stood q.1.seen

  -- the pass in one place of a row has tried in vain, and no other is changed
  pub record OneMisses (who_of : N → ℕ) (stood : List N → Type 0) (node : ℕ) (held : Held)
      (old new : List (TableId × View N)) : Type 0 where
    pub first : TableId × View N
    pub then : TableId × View N
    pub was : slice_get old node ≡ Some first
    pub is : new ≡ set old node then
    pub missed : OneMiss who_of stood held first then

  -- A pass has looked once, and seen so many entries. Its calls and what is left are as before. Where all other passes
  -- were joined into it, that is the whole history.
  pub record OneLook (who_of : N → ℕ) (stood : List N → Type 0) (len : ℕ) (p q : TableId × View N) : Type 0 where
    pub seen : IsPrefix p.1.seen q.1.seen
    pub long : length q.1.seen ≡ len
    pub few : len ≤ 2 ^ 50
    pub looks : q.1.looks ≡ p.1.looks + 1
    pub own : q.1.own ≡ p.1.own
    pub calls : KnowsItsCalls who_of q.1
    pub whole : IsWhole q.1 → HasJust who_of q.1.own q.1.seen
    pub same : IsSamePass p q
    pub left : q.1.left ≡ p.1.left
    pub miss : q.1.miss ≡ p.1.miss
    pub meant : stood q.1.seen

  -- the pass in one place of a row has looked, and no other is changed
  pub record OneLooks (who_of : N → ℕ) (stood : List N → Type 0) (node len : ℕ)
      (old new : List (TableId × View N)) : Type 0 where
    pub first : TableId × View N
    pub then : TableId × View N
    pub was : slice_get old node ≡ Some first
    pub is : new ≡ set old node then
    pub looked : OneLook who_of stood len first then

  -- each pass of a row whose place is among these has made a call, at the place with its number; every other is as it was
  pub record AllCall (who_of : N → ℕ) (stood : ℕ → List N → Type 0) (among : ℕ → Bool) (entry : ℕ → N)
      (places : List ℕ)
      (old new : List (TableId × View N)) : Type 0 where
    pub long : length new ≡ length old
    pub each : (i : ℕ) (p q : TableId × View N) → slice_get old i ≡ Some p → slice_get new i ≡ Some q
        → among i ≡ true
        → OneMore who_of (stood i) (entry p.1.number) (slice_index places i) p q
    pub others : (i : ℕ) (p q : TableId × View N) → slice_get old i ≡ Some p → slice_get new i ≡ Some q
        → among i ≡ false → q ≡ p

  -- p has taken in what q has seen, its numbers and its calls, and is now r
  pub record OneJoins (p q r : TableId × View N) : Type 0 where
    pub own : r.0 ≡ p.0
    pub callers : r.1.callers ≡ p.1.callers
    pub numbers : r.1.numbers ≡ p.1.numbers ++ q.1.numbers
    pub calls : r.1.own ≡ p.1.own ++ q.1.own
    pub mine : IsPrefix p.1.seen r.1.seen
    pub theirs : IsPrefix q.1.seen r.1.seen

  -- in each place of the rows
  pub record AllJoin (old other new : List (TableId × View N)) : Type 0 where
    pub long : length new ≡ length old
    pub each : (i : ℕ) (p q r : TableId × View N) → slice_get old i ≡ Some p → slice_get other i ≡ Some q
        → slice_get new i ≡ Some r → OneJoins p q r

  -- the passes in one place of these rows, in the order of the rows
  abbrev pub column : ℕ → List (List (TableId × View N)) → List (TableId × View N)
  column i [] = []
  column i (row ∷ rows) = option_to_list (slice_get row i) ++ column i rows

  -- the calls of these passes, those of the last pass first
  abbrev pub all_calls : List (TableId × View N) → List (ℕ × ℕ)
  all_calls [] = []
  all_calls (p ∷ ps) = all_calls ps ++ p.1.own

  -- what each of these passes had seen begins the history
  abbrev pub EachBegins : List (TableId × View N) → List N → Type 0
  EachBegins passes h = (i : ℕ) (p : TableId × View N) → slice_get passes i ≡ Some p → IsPrefix p.1.seen h

  -- these passes are of these locks, one of each, fresh, and for the caller of this number
  abbrev pub IsFreshRow : ℕ → ℕ → List TableId → List (TableId × View N) → Type 0
  IsFreshRow callers who locks passes = (length passes ≡ length locks)
      × ((i : ℕ) (l : TableId) (p : TableId × View N) → slice_get locks i ≡ Some l → slice_get passes i ≡ Some p
      → IsFresh l callers who p)

  -- ------ for the proofs alone: how passes are dealt and gathered

  -- some pass has this number
  abbrev pub SomeHas : List (TableId × View N) → ℕ → Type 0
  SomeHas passes w = (i : ℕ) × (p : TableId × View N) × (slice_get passes i ≡ Some p) × Has p.1.numbers w

  -- all passes of this lock, in any order: each is of the lock, and some pass has the number of each caller
  abbrev pub AreAll : TableId → List (TableId × View N) → Type 0
  AreAll lock passes = (i : ℕ) (p : TableId × View N) → slice_get passes i ≡ Some p
      → (p.0 ≡ lock) × ((w : ℕ) → w < p.1.callers → SomeHas passes w)

  -- all callers' passes, in any order: each caller has a pass of each lock, and for each lock they are all its passes
  pub record AreAllRows (locks : List TableId) (rows : List (List (TableId × View N))) : Type 0 where
    pub fit : (k : ℕ) (row : List (TableId × View N)) → slice_get rows k ≡ Some row → Fits locks row
    pub all : (i : ℕ) (l : TableId) → slice_get locks i ≡ Some l → AreAll l (column i rows)

  -- a pass that has taken in all these
  pub record IsGathered (all : List (TableId × View N)) (p : TableId × View N) : Type 0 where
    pub whole : IsWhole p.1
    pub calls : p.1.own ≡ all_calls all
    pub begins : EachBegins all p.1.seen

  abbrev pub AreGathered : List TableId → List (List (TableId × View N)) → List (TableId × View N) → Type 0
  AreGathered locks rows into =
      Fits locks into × ((i : ℕ) (p : TableId × View N) → slice_get into i ≡ Some p → IsGathered (column i rows) p)

  -- each row has got one pass more: that in its place
  abbrev pub AllDealt : {V : Type 0} → (V → List (TableId × View N)) → List V → List (TableId × View N) → List V
      → Type 0
  AllDealt items old passes new = (length new ≡ length old)
      × ((i : ℕ) (r s : _) (p : TableId × View N) → slice_get old i ≡ Some r → slice_get passes i ≡ Some p
      → slice_get new i ≡ Some s → items s ≡ items r ++ p ∷ [])

  -- each row has a fresh pass of each lock, for the caller with its number
  abbrev pub AreFreshRows : {V : Type 0} → (V → List (TableId × View N)) → ℕ → List TableId → List V → Type 0
  AreFreshRows items callers locks rows =
      (length rows ≡ callers)
      × ((who : ℕ) (r : _) → slice_get rows who ≡ Some r → IsFreshRow callers who locks (items r))
