use Rattle.ts_batch.proofs.Imports.{◌≡◌, ◌||◌, ℕ, List, take, slice_get, Some, list_any, names, is_in}
use Rattle.ts_batch.proofs.place_set.PlaceSet.add_all.Given as goal

-- the places of the PIDs so far are there
abbrev pub invariant-pids : goal.invariant-pids
invariant-pids l = (n : ℕ) (packet : List ℕ) → slice_get l.batch.packets n ≡ Some packet
    → is_in n l.self ≡ (is_in n l.initial.self || list_any (λ pid. names pid packet) (take l.i l.pids))
