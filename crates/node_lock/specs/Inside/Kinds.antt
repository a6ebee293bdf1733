-- The kinds of step: how each changes the view of the seat that steps, and what it tells its caller.
-- The `Me` of a seat is its view and the slots that it holds, each with its value.
use Rattle.std.specs.Prelude.{◌≡◌, ◌≢◌, ℕ, ◌+◌, ◌-◌, ◌^◌, ◌<◌, ◌≤◌, List, [], ◌∷◌, ◌++◌, length, Option, Some, None}
use Rattle.node_lock.specs.Imports.{IsPrefix, Me, Step, rest}
use Rattle.node_lock.specs.declared.view.Stage.{Stage}
use Rattle.node_lock.specs.declared.view.Stage.TheVariants.{Free, Drawn, Turn, Spent}
use Rattle.node_lock.specs.declared.view.View.{View}
use Rattle.node_lock.specs.Inside.Lists.{tail, longer}
use Rattle.node_lock.specs.Passes.{KnowsItsCalls, KeptBegins}

module _ {N : Type 0} where
  -- split, the seat that is split: it keeps all its numbers but the first
  abbrev pub split_left : View N → View N
  split_left v = record v { number = v.number + 1; numbers = tail v.numbers; spare = v.spare - 1 }

  -- split, the new seat: it has that number, has seen what the other had, and has made no call
  abbrev pub split_right : View N → View N
  split_right v =
      record v { numbers = v.number ∷ []; left = 2 ^ 44; spare = 0; kept = []; own = []; looks = 0; miss = None }

  -- join: the seat has seen the longer list, keeps both, and has both seats' numbers and calls
  abbrev pub joined : View N → View N → View N
  joined v w =
      record v {
        numbers = v.numbers ++ w.numbers;
        seen = longer v.seen w.seen;
        kept = (v.kept ++ w.kept) ++ v.seen ∷ w.seen ∷ [];
        own = v.own ++ w.own;
      }

  -- take: the seat has drawn the ticket t
  abbrev pub drew : View N → ℕ → View N
  drew v t = record v { stage = Drawn t; left = v.left - 1 }

  -- look: the seat is at a stage, has seen a list, and has made so many looks in all
  abbrev pub sees : View N → Stage → List N → ℕ → View N
  sees v st log k = record v { stage = st; seen = log; looks = k }

  -- done: the entry joins what was seen, and its place the seat's calls
  abbrev pub made : View N → List N → View N
  made v es = record v { stage = Free; seen = v.seen ++ es; own = v.own ++ (v.number, length v.seen) ∷ [] }

  -- try, where it took place: the seat has the turn at once
  abbrev pub took_turn : View N → ℕ → View N
  took_turn v t = record v { stage = Turn t; left = v.left - 1 }

  -- try, where it missed: the number served that the seat had seen, and the number of tickets found
  abbrev pub missed : View N → ℕ → ℕ → View N
  missed v served found = record v { miss = Some record { looks = v.looks; served = served; found = found } }

module _ {S N : Type 0} where
  -- take tells the ticket
  abbrev pub TellsTicket : Me S (View N) → ℕ → Me S (View N) → Type 0
  TellsTicket m r n = (n ≡ (drew m.0 r, m.1)) × (r < 2 ^ 50)

  -- done tells that the entry, the one member of es, has joined the history, and that the machine is home
  abbrev pub TellsDone : (N → ℕ) → List N → Me S (View N) → Me S (View N) → Type 0
  TellsDone who_of es m n = (n ≡ (made m.0 es, rest m.1)) × KnowsItsCalls who_of n.0

  -- recall changes nothing, and tells what a seat knows of its calls and of what it had seen at joins
  abbrev pub TellsCalls : (N → ℕ) → Me S (View N) → Me S (View N) → Type 0
  TellsCalls who_of m n = (n ≡ m) × KnowsItsCalls who_of n.0 × KeptBegins n.0

module _ {M N : Type 0} (stands : M → List N → Type 0) (who_of : N → ℕ) where
  -- the ticket t is served: the seat has seen the whole history, and holds a machine that stands for it
  abbrev pub GetsTurn : ℕ → Me (Option M) (View N) → Me (Option M) (View N) → Type 0
  GetsTurn t m n =
      (log : List N) × (x : M) × (n ≡ (sees m.0 (Turn t) log (m.0.looks + 1), (0, Some x) ∷ m.1))
      × IsPrefix m.0.seen log × (length log ≡ t) × stands x log

  -- another ticket is served: the seat has looked once more, and waits
  abbrev pub Waits : Me (Option M) (View N) → Me (Option M) (View N) → Type 0
  Waits m n = n ≡ (sees m.0 m.0.stage m.0.seen (m.0.looks + 1), m.1)

  -- a seat with no ticket has looked: it has seen the history so far, r entries, and a machine stood for it
  abbrev pub Sees : ℕ → Me (Option M) (View N) → Me (Option M) (View N) → Type 0
  Sees r m n =
      (log : List N) × (n ≡ (sees m.0 Free log (m.0.looks + 1), m.1)) × IsPrefix m.0.seen log × (length log ≡ r)
      × (r ≤ 2 ^ 50) × ((x : M) × stands x log) × KnowsItsCalls who_of n.0

  -- look tells by the stage: a seat with a ticket gets the turn or waits, and a free one sees
  abbrev pub TellsLookAt : Stage → Me (Option M) (View N) → ℕ → Me (Option M) (View N) → Type 0
  TellsLookAt Free m r n = Sees r m n
  TellsLookAt (Drawn t) m r n = (r ≡ t → GetsTurn t m n) × (r ≢ t → Waits m n)
  TellsLookAt (Turn t) m r n = Unit {0}
  TellsLookAt Spent m r n = Unit {0}

  abbrev pub TellsLook : Me (Option M) (View N) → ℕ → Me (Option M) (View N) → Type 0
  TellsLook m r n = TellsLookAt m.0.stage m r n

  -- try tells: where the number found is the one compared with, `first`, the seat has the turn and a machine that
  -- stands for what it has seen; else the miss is kept, and the number found is greater, and at most 2^50
  abbrev pub TellsTry : Step (Option M) → Me (Option M) (View N) → ℕ → Me (Option M) (View N) → Type 0
  TellsTry st m r n =
      (r ≡ st.first → (x : M) × (n ≡ (took_turn m.0 st.first, (0, Some x) ∷ m.1)) × stands x m.0.seen
      × (st.first < 2 ^ 50))
      × (r ≢ st.first → (n ≡ (missed m.0 st.first r, m.1)) × (st.first < r) × (r ≤ 2 ^ 50))

  -- the turn came, after some looks
  abbrev pub GotTurn : ℕ → Me (Option M) (View N) → Me (Option M) (View N) → Type 0
  GotTurn t m n =
      (log : List N) × (x : M) × (k : ℕ) × (n ≡ (sees m.0 (Turn t) log k, (0, Some x) ∷ m.1)) × IsPrefix m.0.seen log
      × (length log ≡ t) × stands x log
