-- The taps of the dvr node, as a list with one place for each demux node.
use Rattle.std.specs.Prelude.{ℕ, zero, suc, Bool, List, [], ◌∷◌, map, filter, Option, Some, if◌then◌else◌}
use Rattle.dvr_core.specs.Imports.{DEMUX_NODES, Frontend, History, Input, Tap, detached_by, is_same_input, list_any, range_with_len, tap_names, tap_of}

-- the taps that a history says
unfoldable pub taps_of : History → List (Option Tap)
taps_of h = map (λ node. tap_of node h) (range_with_len 0 DEMUX_NODES)

-- the list with a change of the element in this place; a place behind its end changes nothing
abbrev pub changed_at : {X : Type 0} → (place : ℕ) → (X → X) → List X → List X
changed_at place change [] = []
changed_at zero change (x ∷ xs) = change x ∷ xs
changed_at (suc place) change (x ∷ xs) = x ∷ changed_at place change xs

-- a client attaches a tap of this demux node
abbrev pub attached : (who node : ℕ) → (pids : List ℕ) → List (Option Tap) → List (Option Tap)
attached who node pids taps = changed_at node (λ tap. Some (record { by = who; pids = pids })) taps

-- a client detaches the tap of this demux node
abbrev pub detached : (who node : ℕ) → List (Option Tap) → List (Option Tap)
detached who node taps = changed_at node (detached_by who) taps

-- some tap names the packet
abbrev pub some_names : List (Option Tap) → List ℕ → Bool
some_names taps packet = list_any (tap_names packet) taps

-- what a pass brings: the packets that some tap names, each once
abbrev pub recorded : List (Option Tap) → Input → List (List ℕ) → List (List ℕ)
recorded taps input packets = filter (some_names taps) (if is_same_input input Frontend then packets else [])
