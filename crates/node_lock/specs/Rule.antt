-- The rule of the lock: what holds between any two steps, whatever the seats do. Word 0 counts the tickets drawn, word
-- 1 the entries made. The one slot has the machine, or nothing. The list H, here `log`, is the history. A seat that was
-- joined into another has the stage Spent, no ticket, no number and no call.
use Rattle.std.specs.Prelude.{◌≡◌, ℕ, ◌+◌, ◌^◌, ◌<◌, ◌≤◌, List, [], ◌∷◌, length, Option, Some, None}
use Rattle.node_lock.specs.Imports.{Has, IsPrefix, State, get_elem?, none, some}
use mathlib.Core.Option as maybe
use Rattle.node_lock.specs.declared.view.Stage.TheVariants.{Turn}
use Rattle.node_lock.specs.declared.view.Miss.{Miss}
use Rattle.node_lock.specs.declared.view.View.{View}
use Rattle.node_lock.specs.Inside.Lists.{Once}
use Rattle.node_lock.specs.Inside.Seats.{IsLive, HasTicket, out_of, calls_of, lefts}
use Rattle.node_lock.specs.Passes.{Stands, KeptBegins}

-- where the machine is: at home in the slot, or out with a seat
pub data Where (M : Type 0) : Type 0 where
  home : M → Where M
  out : Where M

-- what the table has of the slot: a slot that is out with a seat has no value there
abbrev pub lies : {M : Type 0} → Where M → maybe.Option (Option M)
lies (home m) = some (Some m)
lies out = none

abbrev pub IsOut : {M : Type 0} → Where M → Type 0
IsOut (home m) = ⊥
IsOut out = Unit {0}

-- First part: each ticket that is out is one seat's. The tickets that are out go from the number served up to the last
-- drawn, `holder` tells whose each is, and so there are as many seats with a ticket as tickets that are out.
pub record EachTicketHasASeat {N : Type 0} (drawn served : ℕ) (holder : ℕ → ℕ) (views : List (View N)) : Type 0 where
  pub behind : served ≤ drawn
  pub each_seat : (j : ℕ) (v : View N) → get_elem? views j ≡ some v → (t : ℕ) → HasTicket t v.stage
      → (served ≤ t) × (t < drawn) × (holder t ≡ j)
  pub each_ticket : (t : ℕ) → served ≤ t → t < drawn
      → (v : View N) × (get_elem? views (holder t) ≡ some v) × HasTicket t v.stage

-- Second part: only `seat`, which has the ticket that is served, can have the turn. The machine is then out with
-- it, and it has seen the whole history.
abbrev pub OneSeatHasTheTurn : {M N : Type 0} → ℕ → ℕ → Where M → List N → List (View N) → Type 0
OneSeatHasTheTurn {M} {N} served seat place log views = (j : ℕ) (v : View N) → get_elem? views j ≡ some v → (t : ℕ)
    → v.stage ≡ Turn t → (t ≡ served) × (j ≡ seat) × IsOut place × (v.seen ≡ log)

module _ {M N : Type 0} (stands : M → List N → Type 0) where
  -- the machine at home stands for the history; where it is out, `seat` has the turn
  abbrev pub MachineStands : ℕ → ℕ → List N → List (View N) → Where M → Type 0
  MachineStands served seat log views (home m) = stands m log
  MachineStands served seat log views out = (v : View N) × (get_elem? views seat ≡ some v) × (v.stage ≡ Turn served)

  -- Third part: there is one history, with as many entries as were served. What each seat has seen begins it, and what
  -- was seen before a join begins what the seat has seen since. A machine stood for it, and the machine at home does.
  pub record ThereIsOneHistory (served seat : ℕ) (place : Where M) (log : List N) (views : List (View N)) : Type 0 where
    pub long : length log ≡ served
    pub each_seen : (j : ℕ) (v : View N) → get_elem? views j ≡ some v → IsPrefix v.seen log
    pub each_kept : (j : ℕ) (v : View N) → get_elem? views j ≡ some v → KeptBegins v
    pub machine : MachineStands served seat log views place
    pub stood : (m : M) × stands m log

-- Each caller's number is one seat's, `owner`, and below the number of callers. The places of a caller's entries
-- are just those that the owner of its number keeps. A seat that has numbers to give away has made no call, so a
-- number that is no pass's yet has no entry.
pub record EachEntryHasASeat {N : Type 0} (who_of : N → ℕ) (callers : ℕ) (log : List N)
    (views : List (View N)) : Type 0 where
  pub owner : ℕ → ℕ
  pub each_number : (j : ℕ) (v : View N) → get_elem? views j ≡ some v → (w : ℕ) → Has v.numbers w
      → (w < callers) × (owner w ≡ j)
  pub each_live : (j : ℕ) (v : View N) → get_elem? views j ≡ some v → IsLive v.stage
      → (v.callers ≡ callers) × Has v.numbers v.number
  pub each_dealer : (j : ℕ) (v : View N) → get_elem? views j ≡ some v → 0 < v.spare → v.own ≡ []
  pub each_own : (j : ℕ) (v : View N) → get_elem? views j ≡ some v → (w p : ℕ) → Has v.own (w, p)
      → Has v.numbers w × Stands who_of v.seen w p
  pub each_once : (j : ℕ) (v : View N) → get_elem? views j ≡ some v → Once v.own
  pub each_place : (p : ℕ) (e : N) → get_elem? log p ≡ some e
      → (v : View N) × (get_elem? views (owner (who_of e)) ≡ some v) × Has v.own (who_of e, p)

-- Each number is below 64 and has at most 2^44 entries. With a ticket that its seat has drawn, and the calls that it
-- has left, a number has at most 2^44 too.
pub record NumbersAreBounded {N : Type 0} (views : List (View N)) : Type 0 where
  pub each_small : (j : ℕ) (v : View N) → get_elem? views j ≡ some v → (w : ℕ) → Has v.numbers w → w < 64
  pub each_few : (j : ℕ) (v : View N) → get_elem? views j ≡ some v → (w : ℕ) → calls_of w v.own ≤ 2 ^ 44
  pub each_left : (j : ℕ) (v : View N) → get_elem? views j ≡ some v
      → calls_of v.number v.own + out_of v.stage + v.left ≤ 2 ^ 44

-- Fourth part: each entry is kept by the seat that made its call, and the numbers are bounded.
pub record CallsAreKept {N : Type 0} (who_of : N → ℕ) (callers : ℕ) (log : List N)
    (views : List (View N)) : Type 0 where
  pub entries : EachEntryHasASeat who_of callers log views
  pub bounds : NumbersAreBounded views

-- a miss found more tickets drawn than the number served that was seen before it, and no more than were drawn
abbrev pub IsTrueMiss : ℕ → Option Miss → Type 0
IsTrueMiss drawn None = Unit {0}
IsTrueMiss drawn (Some m) = (m.served < m.found) × (m.found ≤ drawn)

-- Fifth part: the last miss of each seat is true.
abbrev pub MissesAreTrue : {N : Type 0} → ℕ → List (View N) → Type 0
MissesAreTrue {N} drawn views = (j : ℕ) (v : View N) → get_elem? views j ≡ some v → IsTrueMiss drawn v.miss

-- The rule of the lock: the five parts, of the words and the slot as they are. `budget` keeps the words from wrapping:
-- what was drawn and what may still be drawn is at most 2^50.
pub record LockRule {M N : Type 0} (stands : M → List N → Type 0) (who_of : N → ℕ) (callers : ℕ)
    (s : State (Option M) (View N)) : Type 0 where
  pub drawn : ℕ
  pub served : ℕ
  pub log : List N
  pub holder : ℕ → ℕ
  pub place : Where M
  pub words_are : s.words ≡ drawn ∷ served ∷ []
  pub slot_is : s.homes ≡ lies place ∷ []
  pub budget : drawn + lefts s.views ≤ 2 ^ 50
  pub tickets : EachTicketHasASeat drawn served holder s.views
  pub turn : OneSeatHasTheTurn served (holder served) place log s.views
  pub history : ThereIsOneHistory stands served (holder served) place log s.views
  pub calls : CallsAreKept who_of callers log s.views
  pub misses : MissesAreTrue drawn s.views
