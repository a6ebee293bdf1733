-- A capture: what a node collects from a start on.
-- Source: the Linux media API, chapter Digital TV demux (DMX_START, DMX_STOP, DMX_IMMEDIATE_START); what
-- ends a capture is this project's rule.
use Rattle.std.specs.Prelude.{ℕ, Bool, true, false, not, ◌||◌, nat_eq, List, [], ◌∷◌, Option, Some, None, unwrap_or, if◌then◌else◌}
use Rattle.std.specs.List.{list_any}
use Rattle.ts_packet.specs.Fields.{bit}
use Rattle.dmx_calls.specs.declared.limits.TheConstants.{IMMEDIATE_START}
use Rattle.dmx_calls.specs.Invocation.{Open, SetFilter, SetPes, Start, Stop, SetSize, Read, Poll, Pass}
use Rattle.dmx_calls.specs.History.{Event, History, Since, since, after_of, whole_of}
use Rattle.dmx_calls.specs.Tenure.{tenure, size, dvr_size, sets}

-- a flag's bit is 1
abbrev pub has_flag : ℕ → ℕ → Bool
has_flag flag flags = bit flags flag

-- a SetSize to another size than the node has
abbrev pub resizes : Event → Bool
resizes ev = elim (ev.entry.invocation) [ SetSize n ↦ not (nat_eq n (size ev.before)) | _ ↦ false ]

-- On a demux node a capture begins with Start, and with a set call that carries DMX_IMMEDIATE_START.
abbrev pub begins : Event → Bool
begins ev = elim (ev.entry.invocation) [
  | Start now ↦ true
  | SetFilter p now ↦ has_flag IMMEDIATE_START p.flags
  | SetPes p now ↦ has_flag IMMEDIATE_START p.flags
  | _ ↦ false
]

-- The capture is the last that began in the tenure. There is none where a set call without that flag, or a SetSize to
-- another size, came after. Stop doesn't end it.
unfoldable pub capture : History → Option Since
capture h = since begins (λ ev. sets ev || resizes ev) (after_of (tenure h))

-- the moment that a call carries, in milliseconds
abbrev pub moment_of : Event → Option ℕ
moment_of ev = elim (ev.entry.invocation) [
  | SetFilter p now ↦ Some now
  | SetPes p now ↦ Some now
  | Start now ↦ Some now
  | Read now count ↦ Some now
  | Poll now ↦ Some now
  | Pass input first packets now ↦ Some now
  | _ ↦ None
]

abbrev pub started_of : Option Since → ℕ
started_of None = 0
started_of (Some s) = unwrap_or (moment_of s.by) 0

-- the moment of the call that began the capture
unfoldable pub started : History → ℕ
started h = started_of (capture h)

abbrev pub stops : Event → Bool
stops ev = elim (ev.entry.invocation) [ Stop ↦ true | _ ↦ false ]

-- a Stop is in the capture
unfoldable pub is_stopped : History → Bool
is_stopped h = list_any stops (after_of (capture h))

-- of these events those before the first Stop
abbrev pub unstopped : List Event → List Event
unstopped [] = []
unstopped (ev ∷ evs) = if list_any stops (ev ∷ evs) then unstopped evs else ev ∷ evs

-- the part of the capture before its first Stop
unfoldable pub live : History → List Event
live h = unstopped (after_of (capture h))

abbrev pub dvr_resizes : Event → Bool
dvr_resizes ev = elim (ev.entry.invocation) [ SetSize n ↦ not (nat_eq n (dvr_size ev.before)) | _ ↦ false ]

-- On the dvr node a capture begins with Open, and with a SetSize to another size.
abbrev pub dvr_begins : Event → Bool
dvr_begins ev = elim (ev.entry.invocation) [ Open ↦ true | _ ↦ dvr_resizes ev ]

-- The capture is the last that began in the tenure, to which the Open belongs.
unfoldable pub dvr_capture : History → Option Since
dvr_capture h = since dvr_begins (λ ev. false) (whole_of (tenure h))
