-- A line whose requests were answered is what a client's commands do, where these are the ones that the requests spell.
use Rattle.seats.proofs.Imports.{◌≡◌, ℕ, Bool, List, [], ◌∷◌, ◌++◌, All, refl, ap, sym, ◌∙◌, subst, All-nil, All-cons, All-append, SourceEnd, SinkEnd, Outcome, LogEntry, Scripted, commands_of, Caller, IsPlayed, DoneCommand, calls_in, commands_by, outcomes_by, Turn, IsTurn, spelled, AreTold, IsLast, HasAnsweredAll}
use Rattle.seats.proofs.Spelling.{lines_are_played}

commands_none : (n : ℕ) (ds : List DoneCommand) → commands_by n ds ≡ [] → ds ≡ []
commands_none n [] is = refl
commands_none n (d ∷ ds) is = absurd (cc is)

module _ {T : Type 0} (source : T → SourceEnd) (sink : T → SinkEnd) (may : ℕ → Bool) (behind : SourceEnd → ℕ → Bool) where
  pub told_turns : (line : T) (ts : List Turn) (after : T) → AreTold source sink may behind line ts after → All (IsTurn may) ts
  told_turns line [] after are = All-nil (IsTurn may)
  told_turns line (t ∷ ts) after are = All-cons (IsTurn may) t ts are.1.is.turn (told_turns are.0 ts after are.2)

  pub last_turns : (line end : T) (ts : List Turn) → IsLast source sink may behind line ts end → All (IsTurn may) ts
  last_turns line end [] is = All-nil (IsTurn may)
  last_turns line end (t ∷ []) is = All-cons (IsTurn may) t [] is.is.turn (All-nil (IsTurn may))
  last_turns line end (t ∷ u ∷ ts) is = absurd is

  module _ (line end : T) (c d : Caller) (book : List LogEntry) (told : List Outcome) (a : HasAnsweredAll source sink may behind line end c d [] book [] told) where
    pub answers_played : (client : ℕ) (script : Scripted) → commands_of client script ≡ commands_by 0 (spelled (a.turns ++ a.last) a.leaving) → IsPlayed may client script book told
    answers_played client script is =
        let turns = All-append (IsTurn may) a.turns a.last (told_turns line a.turns a.after a.told) (last_turns a.after end a.last a.is) in
        subst (λ (l : List LogEntry). IsPlayed may client script l told) (sym a.log)
        (subst (IsPlayed may client script (calls_in (spelled (a.turns ++ a.last) a.leaving))) (sym a.kept) (lines_are_played may (a.turns ++ a.last) a.leaving turns a.closed client script is))

    -- a line that spells no command has asked for no call
    pub answers_idle : commands_by 0 (spelled (a.turns ++ a.last) a.leaving) ≡ [] → (book ≡ []) × (told ≡ [])
    answers_idle none = let no = commands_none 0 (spelled (a.turns ++ a.last) a.leaving) none in (a.log ∙ ap calls_in no, a.kept ∙ ap (outcomes_by 0 0) no)
