-- How far the lines of a node are told.
use Rattle.std.specs.Prelude.{◌≡◌, ◌+◌, ℕ, suc, List, ◌∷◌, ◌++◌, drop, Option, Some, None, codes}
use Rattle.report_text.specs.Imports.{Act, End as EndAct, Fed, LogEntry, Passed, before_entry, decimal, feeder_acts, flat_map, pass_act, slice_get}
use Rattle.report_text.specs.Acts.{act_text}
use Rattle.report_text.specs.Entries.{entry_text}
use Rattle.report_text.specs.Replies.{response_text}

abbrev pub turn_of : Option Fed → Act
turn_of (Some fed) = pass_act fed
turn_of None = EndAct

-- the feeder's call of this step: a batch that passes, or behind the last one the end of the stream
abbrev pub turn : List Fed → (step : ℕ) → Act
turn feeding step = turn_of (slice_get feeding step)

-- what stands behind the place in the line of a call of the feeder: its caller, its step, the call, and that it passed
abbrev pub tail_text : (step : ℕ) → Act → List ℕ
tail_text step act =
    codes " feed " ++ (decimal step ++ (codes " "
    ++ (act_text act ++ (codes " = " ++ (response_text Passed ++ codes "\n")))))

-- From `step` up to and without `next` the feeder's calls are told that stand before a client's entry at this place,
-- where `told` entries of clients stand before it: with that entry and all that follows, the text is what it was to be.
abbrev pub Told : List Fed → (told place step next : ℕ) → (before after : List ℕ) → Type 0
Told feeding told place step next before after =
    (node : ℕ) (e : LogEntry) (later : (place step : ℕ) → List Act → List LogEntry) → e.place ≡ place
    → after ++ flat_map entry_text (e ∷ later (suc (told + next)) next (drop next (feeder_acts feeding)))
    ≡ before ++ flat_map entry_text (before_entry node e later (told + step) step (drop step (feeder_acts feeding)))

-- This is said of the text of the feeder's calls from `step` on with any client's entry at this place, and of all that
-- follows.
abbrev pub BreaksBefore : List Fed → (told place step : ℕ) → (List ℕ → Type 0) → Type 0
BreaksBefore feeding told place step IsSo =
    (node : ℕ) (e : LogEntry) (later : (place step : ℕ) → List Act → List LogEntry) → e.place ≡ place
    → IsSo (flat_map entry_text (before_entry node e later (told + step) step (drop step (feeder_acts feeding))))
