-- What an index says of a batch's packets.
use Rattle.std.specs.Prelude.{◌≡◌, ℕ, ◌≤◌, Bool, true, nat_eq, List, length, slice_range, All}
use Rattle.std.specs.List.{list_any}
use Rattle.ts_packet.specs.Fields.{pid_of}
use Rattle.pid_set.specs.declared.set.TheConstants.{ALL_PACKETS}
use Rattle.ts_batch.specs.declared.index.Run.{Run}
use Rattle.ts_batch.specs.declared.index.Index.{Index}
use Rattle.ts_batch.specs.Places.{places_of}

-- a run with this PID is there
abbrev pub has_run : ℕ → List Run → Bool
has_run pid runs = list_any (λ r. nat_eq r.pid pid) runs

-- the places in the run are those of the packets that its PID names
pub record IsRun (packets : List (List ℕ)) (places : List ℕ) (r : Run) : Type 0 where
  pub ordered : r.from ≤ r.to
  pub within : r.to ≤ length places
  pub value : slice_range places r.from r.to ≡ places_of r.pid packets

-- each run is right, and there is one for PID 0x2000 and for the PID of each packet
pub record IsIndex (packets : List (List ℕ)) (index : Index) : Type 0 where
  pub runs : All (IsRun packets index.places.items) index.runs.items
  pub all : has_run ALL_PACKETS index.runs.items ≡ true
  pub each : All (λ packet. has_run (pid_of packet) index.runs.items ≡ true) packets
