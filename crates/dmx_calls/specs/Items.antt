-- The items of a capture: what a filter selects from the packets that passed.
-- Source: the Linux media API, chapter Digital TV demux (dmx_sct_filter_params, dmx_pes_filter_params, dmx_output);
-- ISO/IEC 13818-1, 2.4.3 for packets and 2.4.4 for sections.
use Rattle.std.specs.Prelude.{ℕ, ◌+◌, Bool, true, false, not, ◌&&◌, ◌||◌, nat_eq, nat_le, List, [], ◌∷◌, ◌++◌, take, filter, filter_map, slice_index, Option, Some, None, if◌then◌else◌}
use Rattle.std.specs.Option.{option_or}
use Rattle.ts_packet.specs.Fields.{bit, pid_of, payload_of}
use Rattle.section_parse.specs.Sections.{sections}
use Rattle.section_crc.specs.Crc.{crc}
use Rattle.filter_match.specs.Match.{matches}
use Rattle.pid_set.specs.Pids.{names_pid}
use Rattle.dmx_calls.specs.declared.params.Input.{Input}
use Rattle.dmx_calls.specs.declared.params.Input.TheVariants.{Frontend, Dvr}
use Rattle.dmx_calls.specs.declared.params.Output.{Output}
use Rattle.dmx_calls.specs.declared.params.Output.TheVariants.{Decoder, Tap, TsTap, TsdemuxTap}
use Rattle.dmx_calls.specs.declared.params.SectionParams.{SectionParams}
use Rattle.dmx_calls.specs.declared.params.PesParams.{PesParams}
use Rattle.dmx_calls.specs.declared.limits.TheConstants.{CHECK_CRC, ONESHOT}
use Rattle.dmx_calls.specs.Invocation.{Read, Poll, Pass}
use Rattle.dmx_calls.specs.History.{Event, History, is_empty}
use Rattle.dmx_calls.specs.Tenure.{Params, Empty, Section, Pes, params, pids}
use Rattle.dmx_calls.specs.Capture.{has_flag, started, live}

-- ------ the packets that passed

abbrev pub is_same_input : Input → Input → Bool
is_same_input Frontend Frontend = true
is_same_input Dvr Dvr = true
is_same_input _ _ = false

-- the packets of a pass of this input
abbrev pub packets_in : Input → Event → List (List ℕ)
packets_in input ev = elim (ev.entry.invocation) [
  | Pass from first packets now ↦ if is_same_input from input then packets else []
  | _ ↦ []
]

-- the packets of these passes, the oldest first
abbrev pub packets_of : Input → List Event → List (List ℕ)
packets_of input [] = []
packets_of input (ev ∷ evs) = packets_of input evs ++ packets_in input ev

-- ------ section filters

-- A section is selected where it matches; and under DMX_CHECK_CRC only where it has no CRC, its
-- section_syntax_indicator being 0, or where the CRC over the whole of it is 0.
unfoldable pub selects : SectionParams → List ℕ → Bool
selects p section =
    matches p.filter section
    && (not (has_flag CHECK_CRC p.flags) || (not (bit (slice_index section 1) 128) || nat_eq (crc section) 0))

abbrev pub is_oneshot : SectionParams → Bool
is_oneshot p = has_flag ONESHOT p.flags

-- the selected sections of all packets together; with DMX_ONESHOT the first alone
unfoldable pub section_items : SectionParams → List Event → List (List ℕ)
section_items p evs =
    let selected = filter (selects p) (sections (packets_of Frontend evs) p.pid) in
    if is_oneshot p then take 1 selected else selected

-- ------ PES filters

-- a packet has one of these PIDs, or PID 0x2000 among them names every packet
abbrev pub is_named : List ℕ → List ℕ → Bool
is_named names packet = names_pid names (pid_of packet)

-- what a named packet gives to the demux node: its payload, the whole packet, or nothing
abbrev pub item_of : Output → List ℕ → Option (List ℕ)
item_of Tap packet = payload_of packet
item_of TsdemuxTap packet = Some packet
item_of TsTap packet = None
item_of Decoder packet = None

-- what the named ones of these packets give
abbrev pub picked : Output → List ℕ → List (List ℕ) → List (List ℕ)
picked output names packets = filter_map (item_of output) (filter (is_named names) packets)

-- packet by packet, each pass by the PIDs of that moment
abbrev pub pes_items : PesParams → List Event → List (List ℕ)
pes_items p [] = []
pes_items p (ev ∷ evs) = pes_items p evs ++ picked p.output (pids ev.before) (packets_in p.input ev)

-- ------ what is selected, and until when

-- what the filter selects from these events
abbrev pub selected : Params → List Event → List (List ℕ)
selected Empty evs = []
selected (Section p) evs = section_items p evs
selected (Pes p) evs = pes_items p evs

abbrev pub timeout_of : Params → ℕ
timeout_of Empty = 0
timeout_of (Section p) = p.timeout
timeout_of (Pes p) = 0

-- the moment of a Pass, Read or Poll
abbrev pub clock_of : Event → Option ℕ
clock_of ev =
    elim (ev.entry.invocation) [
      | Read now count ↦ Some now
      | Poll now ↦ Some now
      | Pass input first packets now ↦ Some now
      | _ ↦ None
    ]

-- a filter's expiry: the moment of the entry that expired it, and the live events before that entry
pub record Expiry : Type 0 where
  pub now : ℕ
  pub before : List Event

abbrev pub expiry_at : (due : ℕ) → Option ℕ → List Event → Option Expiry
expiry_at due None before = None
expiry_at due (Some now) before = if nat_le due now then Some (record { now = now; before = before }) else None

-- of these events the first that is due while nothing is selected from those before it
abbrev pub expiry_in : Params → (due : ℕ) → List Event → Option Expiry
expiry_in set due [] = None
expiry_in set due (ev ∷ evs) =
    option_or (expiry_in set due evs) (if is_empty (selected set evs) then expiry_at due (clock_of ev) evs else None)

-- A section filter with a timeout expires at the first Pass, Read or Poll whose moment is at least the start's plus the
-- timeout, if it still runs then and has no item.
unfoldable pub expiry : History → Option Expiry
expiry h = if nat_eq (timeout_of (params h)) 0 then None
    else expiry_in (params h) (started h + timeout_of (params h)) (live h)

abbrev pub offered_of : List Event → Option Expiry → List Event
offered_of evs None = evs
offered_of evs (Some x) = x.before

-- what the filter was offered: all that is live, or where it expired only what came before
unfoldable pub offered : History → List Event
offered h = offered_of (live h) (expiry h)

-- The items of the capture, in order.
unfoldable pub items : History → List (List ℕ)
items h = selected (params h) (offered h)
