-- Whether the feeder's calls on a node are those that pass the packets of a stream.
use Rattle.std.specs.Prelude.{◌≡◌, ℕ, suc, ◌+◌, ◌&&◌, Bool, true, false, List, [], ◌∷◌, Option, Some, None, nat_eq, nat_le, nat_lt, if◌then◌else◌}
use Rattle.report_check.specs.Imports.{Act, End as EndAct, Frontend, LogEntry, Pass as PassAct, Step, steps_of}

-- a call with its number, of this entry
abbrev pub step_of : LogEntry → Step
step_of e = record { step = e.step; act = e.act }

-- Before this call of the feeder so many packets have passed: how many have behind it, where it passes the next 1 to 64.
abbrev pub passed_behind : (packets first : ℕ) → Act → Option ℕ
passed_behind packets first (PassAct Frontend batch now) =
    if nat_eq batch.first first && (nat_lt 0 batch.count && (nat_le batch.count 64 && nat_le (first + batch.count) packets))
    then Some (first + batch.count) else None
passed_behind packets first _ = None

abbrev pub is_end : Act → Bool
is_end EndAct = true
is_end _ = false

abbrev pub are_none : List Step → Bool
are_none [] = true
are_none _ = false

-- what `later` says of so many packets, or this where there is no such number
abbrev pub or_else : Option ℕ → (last : Bool) → (later : ℕ → Bool) → Bool
or_else None last later = last
or_else (Some first) last later = later first

-- Whether these calls, before which so many packets have passed, pass all others, and then End is called, and nothing after it;
-- the first has this number.
abbrev pub feeds : (packets first step : ℕ) → List Step → Bool
feeds packets first step [] = false
feeds packets first step (s ∷ ss) =
    nat_eq s.step step && or_else (passed_behind packets first s.act)
    (is_end s.act && (nat_eq first packets && are_none ss)) (λ next. feeds packets next (suc step) ss)

-- the feeder's calls on this node are the same as in these entries
abbrev pub IsFedAlike : (others entries : List LogEntry) → Type 0
IsFedAlike others entries = steps_of 0 entries ≡ steps_of 0 others
