use Rattle.client_core.proofs.Imports.{length, ◌-◌, ◌≡◌, ℕ, ◌+◌, ◌≤◌, List, [], ◌++◌, take, bytes_counted, Clock, HasFollowed}
use Rattle.client_core.proofs.stc_clock.clock.StcClock.push.Given as goal

-- the clock has followed the bytes that were taken
pub record Following (piece : List ℕ) (taken : ℕ) (found : List (List ℕ)) (old new : Clock) : Type 0 where
  pub within : taken ≤ length piece
  pub empty : found ≡ []
  pub bytes : bytes_counted new.cutting ≤ bytes_counted old.cutting + taken
  pub follows : (before : List ℕ) → HasFollowed before old → HasFollowed (before ++ take taken piece) new

abbrev pub invariant-stretches : goal.invariant-stretches
invariant-stretches l =
    Following l.piece l.taken l.found
    (record { cutting = l.initial.self-inside.cutter; last = l.initial.self-inside.last })
    (record { cutting = l.self-inside.cutter; last = l.self-inside.last })

abbrev pub decreases-stretches : goal.decreases-stretches
decreases-stretches l = length l.piece - l.taken
