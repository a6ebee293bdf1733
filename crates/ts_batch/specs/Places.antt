-- Which packets a PID names, and where they stand.
use Rattle.std.specs.Prelude.{ℕ, ◌+◌, Bool, false, ◌||◌, nat_eq, List, [], ◌∷◌, slice_index_or, if◌then◌else◌}
use Rattle.ts_packet.specs.Fields.{pid_of}
use Rattle.pid_set.specs.declared.set.TheConstants.{ALL_PACKETS}

-- A PID names the packets that have it; PID 0x2000 names every packet (Linux media API, Digital TV
-- demux, struct dmx_pes_filter_params).
abbrev pub names : ℕ → List ℕ → Bool
names pid packet = nat_eq pid ALL_PACKETS || nat_eq (pid_of packet) pid

-- the places of the packets that pass a test, ascending, where the first packet stands in place k
unfoldable pub places_from : (k : ℕ) → (List ℕ → Bool) → List (List ℕ) → List ℕ
places_from k test [] = []
places_from k test (packet ∷ packets) =
    if test packet then k ∷ places_from (k + 1) test packets else places_from (k + 1) test packets

-- the places of the packets that a PID names
abbrev pub places_of : (pid : ℕ) → List (List ℕ) → List ℕ
places_of pid packets = places_from 0 (names pid) packets

-- the place is in the set of these marks, one for each place
abbrev pub is_in : ℕ → List Bool → Bool
is_in i marks = slice_index_or marks i false
