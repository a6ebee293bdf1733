use Rattle.client_core.proofs.Imports.{◌≡◌, ℕ, ◌+◌, ◌≤◌, List, ◌++◌, map, length, vec_capacity, All, Response, Outcome, ClientCommand, Slots, Ended, progress_from, outcome_by, AreSlots, NodeClock, counter_in, Batches, behind, IsLate, IsCommandInRange, IsCommandOf, CanBegin}
use Rattle.client_core.proofs.current.begin.Given as goal

-- the commands that were begun are through, and the client goes on as at first
pub record Beginning (clocks : List NodeClock) (step : ℕ) (slots_before slots : Slots) (left_before left : List ClientCommand) (outcomes_before outcomes : List Outcome) (room : ℕ) : Type 0 where
  pub passed : List Ended
  pub same : (more : List Response) → progress_from slots_before step left_before more ≡ behind passed (progress_from slots step left more)
  pub told : outcomes ≡ outcomes_before ++ map (outcome_by (counter_in clocks)) passed
  pub late : All (IsLate (length clocks) step) passed
  pub ranges : All IsCommandInRange left
  pub asked : All (CanBegin (length clocks)) left
  pub bound : AreSlots slots
  pub played : (batches : Batches) → All (IsCommandOf batches) left_before → All (IsCommandOf batches) left
  pub enough : length outcomes + length left ≤ room

abbrev pub invariant-commands : goal.invariant-commands
invariant-commands l = Beginning l.clocks l.step l.initial.slots l.slots l.initial.left l.left l.initial.outcomes.items l.outcomes.items (vec_capacity l.outcomes)

abbrev pub decreases-commands : goal.decreases-commands
decreases-commands l = length l.left
