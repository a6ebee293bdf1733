use Rattle.ts_batch.proofs.Imports.{◌≡◌, ◌++◌, drop, places_of, places_from, names}
use Rattle.ts_batch.proofs.index.put_places.Given as goal

-- the places so far and those still to come are together all
abbrev pub invariant-packets : goal.invariant-packets
invariant-packets l = l.places.items ++ places_from l.place (names l.pid) (drop l.place l.packets) ≡ l.fn.places.items ++ places_of l.pid l.packets
