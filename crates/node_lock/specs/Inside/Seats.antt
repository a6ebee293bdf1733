-- What the view of a seat says of its ticket and of its calls, and the views with which seats begin and end.
use Rattle.std.specs.Prelude.{◌≡◌, ℕ, ◌+◌, ◌-◌, ◌*◌, ◌^◌, List, [], ◌∷◌, None, cond, eqb}
use Rattle.node_lock.specs.declared.view.Stage.{Stage}
use Rattle.node_lock.specs.declared.view.Stage.TheVariants.{Free, Drawn, Turn, Spent}
use Rattle.node_lock.specs.declared.view.View.{View}
use Rattle.node_lock.specs.Inside.Lists.{up_from}

-- the seat was not joined into another
abbrev pub IsLive : Stage → Type 0
IsLive Free = Unit {0}
IsLive (Drawn t) = Unit {0}
IsLive (Turn t) = Unit {0}
IsLive Spent = ⊥

-- the seat has the ticket t: it waits for its turn, or it has the turn
abbrev pub HasTicket : ℕ → Stage → Type 0
HasTicket t Free = ⊥
HasTicket t (Drawn u) = u ≡ t
HasTicket t (Turn u) = u ≡ t
HasTicket t Spent = ⊥

-- how many tickets the seat has
abbrev pub out_of : Stage → ℕ
out_of Free = 0
out_of (Drawn t) = 1
out_of (Turn t) = 1
out_of Spent = 0

-- how many calls of a number are among these
abbrev pub calls_of : ℕ → List (ℕ × ℕ) → ℕ
calls_of w [] = 0
calls_of w (x ∷ xs) = cond (eqb x.0 w) 1 0 + calls_of w xs

-- how many tickets all seats may still draw; a number that is no pass's yet has 2^44
abbrev pub lefts : {N : Type 0} → List (View N) → ℕ
lefts [] = 0
lefts (v ∷ vs) = v.left + v.spare * 2 ^ 44 + lefts vs

module _ {N : Type 0} where
  -- a seat that has seen nothing and made no call, with the numbers from i on
  abbrev pub dealt : ℕ → ℕ → View N
  dealt callers i = record {
    stage = Free;
    number = i;
    numbers = up_from i (callers - i);
    callers = callers;
    left = 2 ^ 44;
    spare = callers - i - 1;
    seen = [];
    kept = [];
    own = [];
    looks = 0;
    miss = None;
  }

  -- the first seat, with every number
  abbrev pub starting : ℕ → View N
  starting callers = record {
    stage = Free;
    number = 0;
    numbers = up_from 0 callers;
    callers = callers;
    left = 2 ^ 44;
    spare = callers - 1;
    seen = [];
    kept = [];
    own = [];
    looks = 0;
    miss = None;
  }

  -- a seat that has seen nothing and made no call, with the number i alone
  abbrev pub fresh : ℕ → ℕ → View N
  fresh callers i = record {
    stage = Free;
    number = i;
    numbers = i ∷ [];
    callers = callers;
    left = 2 ^ 44;
    spare = 0;
    seen = [];
    kept = [];
    own = [];
    looks = 0;
    miss = None;
  }

  -- a seat that was joined into another
  abbrev pub spent : View N
  spent = record {
    stage = Spent;
    number = 0;
    numbers = [];
    callers = 0;
    left = 0;
    spare = 0;
    seen = [];
    kept = [];
    own = [];
    looks = 0;
    miss = None;
  }
