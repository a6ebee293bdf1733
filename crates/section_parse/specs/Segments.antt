-- Runs of clean packets, and the segments in them: the stretches of payload in which sections lie end to end.
-- A packet is the list of its 188 bytes.
use Rattle.std.specs.Prelude.{ℕ, ◌+◌, Bool, ◌&&◌, List, [], ◌∷◌, ◌++◌, length, take, drop, slice_index, nat_le, if◌then◌else◌}
use Rattle.ts_packet.specs.Fields.{unit_start}
use Rattle.ts_packet.specs.Clean.{carried, joins}

-- p before these runs: in front of the first of them where that one's first packet joins p, else as a run of its own
abbrev pub in_front : List ℕ → List (List (List ℕ)) → List (List (List ℕ))
in_front p [] = (p ∷ []) ∷ []
in_front p ([] ∷ runs) = (p ∷ []) ∷ runs
in_front p ((next ∷ run) ∷ runs) = if joins p next then (p ∷ next ∷ run) ∷ runs
    else (p ∷ []) ∷ (next ∷ run) ∷ runs

-- the packets, cut before each that doesn't join its neighbour
unfoldable pub runs : List (List ℕ) → List (List (List ℕ))
runs [] = []
runs (p ∷ ps) = in_front p (runs ps)

-- the pointer_field, the first payload byte of a packet with unit start: how many bytes stand between it and the first
-- section that begins in this packet (2.4.4.1)
abbrev pub pointer_field : List ℕ → ℕ
pointer_field p = slice_index (carried p) 0

-- the pointer_field and the bytes that it counts lie in the payload; one that points
-- farther points nowhere (this project's rule)
abbrev pub is_pointed : List ℕ → Bool
is_pointed p = nat_le (1 + pointer_field p) (length (carried p))

-- the bytes between the pointer_field and the place that it points to: they end the segment before
abbrev pub pointed : List ℕ → List ℕ
pointed p = if is_pointed p then take (pointer_field p) (drop 1 (carried p)) else []

-- the bytes from the place that the pointer_field points to: a segment begins with them
abbrev pub begun : List ℕ → List ℕ
begun p = drop (1 + pointer_field p) (carried p)

-- what these packets of a run give to the segment that is open before them: their payloads up to the next unit start,
-- and what its pointer_field leaves to it
unfoldable pub rest_of_segment : List (List ℕ) → List ℕ
rest_of_segment [] = []
rest_of_segment (p ∷ ps) = if unit_start p then pointed p else carried p ++ rest_of_segment ps

-- the segments of a run: one for each packet with unit start whose pointer_field points into its payload
unfoldable pub segments : List (List ℕ) → List (List ℕ)
segments [] = []
segments (p ∷ ps) = if unit_start p && is_pointed p then (begun p ++ rest_of_segment ps) ∷ segments ps else segments ps
