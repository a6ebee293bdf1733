-- The turns of a line.
use Rattle.seats.proofs.Imports.{calls_made, commands_done, ◌≡◌, ◌+◌, ℕ, Bool, true, false, List, [], ◌∷◌, ◌++◌, length, IsTrue, refl, ap, sym, ◌∙◌, subst, append-nil, append_assoc, flat_map-append, SourceEnd, SinkEnd, LogEntry, ask_of, Ask, REQUEST_LEN, Tell, Seat, IsAnswered, Caller, HasAnswered, Takes, RunsOut, Writes, BreaksOff, log_of, reply_bytes, DoneCommand, calls_in, AreKept, Turn, calls_of, spelled_by, MakesTurns, MakesTurn, IsAsked, HasTurned}
use Rattle.seats.proofs.Doing.{calls_both}
use Rattle.seats.proofs.Keeping.{kept_none}

pub spelled_more : (ts us : List Turn) → spelled_by (ts ++ us) ≡ spelled_by ts ++ spelled_by us
spelled_more ts us = flat_map-append (λ (t : Turn). t.commands) ts us

pub calls_more : (ts us : List Turn) → calls_of (ts ++ us) ≡ calls_of ts ++ calls_of us
calls_more ts us = ap calls_in (spelled_more ts us) ∙ calls_both (spelled_by ts) (spelled_by us)

-- one turn
pub calls_one : (t : Turn) → calls_of (t ∷ []) ≡ calls_in t.commands
calls_one t = ap calls_in (append-nil t.commands)

-- the calls of turns, and of those behind them
pub makes_both : (before : List LogEntry) (c m d : Caller) (ts us : List Turn) → MakesTurns before c ts m → MakesTurns (before ++ calls_of ts) m us d → MakesTurns before c (ts ++ us) d
makes_both before c m d [] us a b = subst (λ (k : Caller). MakesTurns before k us d) a (subst (λ (l : List LogEntry). MakesTurns l m us d) (append-nil before) b)
makes_both before c m d (t ∷ ts) us a b =
    let calls = ap (λ (l : List LogEntry). before ++ l) (calls_both t.commands (spelled_by ts)) ∙ sym (append_assoc before (calls_in t.commands) (calls_of ts)) in
    (a.0, a.1, a.2, makes_both (before ++ calls_in t.commands) a.0 m d ts us a.3 (subst (λ (l : List LogEntry). MakesTurns l m us d) calls b))

module _ {T : Type 0} (source : T → SourceEnd) (sink : T → SinkEnd) (may : ℕ → Bool) (behind : SourceEnd → ℕ → Bool) where
  -- no whole request was read
  pub turned_none : (before after : T) (s : Seat) → RunsOut REQUEST_LEN (source before) (source after) → HasTurned source sink may behind false before after s s
  turned_none before after s out = ([], out, sym (append-nil (log_of s)), kept_none (commands_done s) (calls_made s) s.outcomes.items s.outcomes.items refl, refl)

  module _ (ask : Ask) (now : ℕ) (old new : Seat) (request : List ℕ) (t : Tell) (bytes : List ℕ) (before asked after : T) (is : ask ≡ ask_of request) (long : length request ≡ REQUEST_LEN)
      (given : IsTrue (may now)) (late : IsTrue (behind (source asked) now)) (taken : Takes (source before) (source asked) request) (a : HasAnswered ask now old new t bytes) where
    turn : Turn
    turn = record { request = request; now = now; commands = a.done.commands; told = t; bytes = bytes }

    its_ask : IsAsked source sink may behind turn before asked
    unfolding turn
    its_ask = record { turn = record { long = long; moment = given; is = subst (λ (k : Ask). IsAnswered k now a.done.commands t bytes) is a.done.is }; taken = taken; clock = late }

    its_made : MakesTurn old turn new.client
    unfolding turn
    its_made = record { made = a.made; gone = λ leaving. a.gone (is ∙ leaving) }

    -- its reply was written whole, or not
    pub turned_one : (on : Bool) → (on ≡ true → Writes (sink asked) (sink after) (reply_bytes t bytes)) → (on ≡ false → BreaksOff (sink asked) (sink after) (reply_bytes t bytes))
        → HasTurned source sink may behind on before after old new
    unfolding turn
    turned_one true whole cut = (turn, record { asked = asked; is = its_ask; told = whole refl }, a.done.log, a.done.kept, its_made)
    turned_one false whole cut = (
      turn ∷ [],
      record { asked = asked; is = its_ask; told = cut refl },
      a.done.log ∙ ap (λ (l : List LogEntry). log_of old ++ l) (sym (calls_one turn)),
      subst (λ (ds : List DoneCommand). AreKept (commands_done old) (calls_made old) ds old.outcomes.items new.outcomes.items) (sym (append-nil a.done.commands)) a.done.kept,
      its_made,
    )
