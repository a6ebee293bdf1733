-- The dvr node: its taps, and the items that they give (DMX_OUT_TS_TAP of the Linux media API; how taps
-- are attached is this project's rule).
use Rattle.std.specs.Prelude.{ℕ, Bool, false, nat_eq, List, [], ◌∷◌, ◌++◌, filter, Option, Some, None, if◌then◌else◌}
use Rattle.std.specs.List.{list_any, range_with_len}
use Rattle.dmx_calls.specs.declared.params.Input.TheVariants.{Frontend}
use Rattle.dmx_calls.specs.declared.limits.TheConstants.{DEMUX_NODES}
use Rattle.dmx_calls.specs.Invocation.{Attach, Detach}
use Rattle.dmx_calls.specs.History.{Event, History, accepted, after_of}
use Rattle.dmx_calls.specs.Capture.{dvr_capture}
use Rattle.dmx_calls.specs.Items.{packets_in, is_named}

-- a demux node's tap: the client that attached it, and the PIDs that it names
pub record Tap : Type 0 where
  pub by : ℕ
  pub pids : List ℕ

-- a Detach removes the tap that the same client attached
abbrev pub detached_by : (who : ℕ) → Option Tap → Option Tap
detached_by who None = None
detached_by who (Some tap) = if nat_eq who tap.by then None else Some tap

-- the tap of a demux node after these events; taps are kept whether or not the dvr node is open
abbrev pub tap_after : (node : ℕ) → List Event → Option Tap
tap_after node [] = None
tap_after node (ev ∷ evs) = elim (ev.entry.invocation) [
  | Attach n pids ↦ if nat_eq n node then Some (record { by = ev.entry.who; pids = pids }) else tap_after node evs
  | Detach n ↦ if nat_eq n node then detached_by ev.entry.who (tap_after node evs) else tap_after node evs
  | _ ↦ tap_after node evs
]

unfoldable pub tap_of : (node : ℕ) → History → Option Tap
tap_of node h = tap_after node (accepted h)

abbrev pub tap_names : List ℕ → Option Tap → Bool
tap_names packet None = false
tap_names packet (Some tap) = is_named tap.pids packet

-- the tap of some demux node names the packet
unfoldable pub is_tapped : History → List ℕ → Bool
is_tapped h packet = list_any (λ node. tap_names packet (tap_of node h)) (range_with_len 0 DEMUX_NODES)

-- of each pass the packets that some tap named at that pass, each once
abbrev pub tapped : List Event → List (List ℕ)
tapped [] = []
tapped (ev ∷ evs) = tapped evs ++ filter (is_tapped ev.before) (packets_in Frontend ev)

-- The items of the dvr node's capture: whole packets.
unfoldable pub dvr_items : History → List (List ℕ)
dvr_items h = tapped (after_of (dvr_capture h))
