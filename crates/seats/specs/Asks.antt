-- What a request asks (this project's own; what an ioctl asks is dmx_abi's).
use Rattle.std.specs.Prelude.{ℕ, ◌≤◌, ◌==◌, nat_lt, min, List, take, drop, Option, Some, None, Result, Ok, Err, if◌then◌else◌}
use Rattle.seats.specs.Imports.{AbiFault, DEMUX_NODES, LARGEST_READ, Length, Request, Unknown, Want, decoded, field, want_of}
use Rattle.client_script.specs.declared.line.Want.TheVariants as want
use Rattle.seats.specs.declared.serve_frames.ask.Ask.{Ask}
use Rattle.seats.specs.declared.serve_frames.ask.Ask.TheVariants.{OpenDemux, Call, Leave, Refused}
use Rattle.seats.specs.declared.serve_frames.numbers.TheConstants.{OPEN_DEMUX, OPEN_DVR, CLOSE, IOCTL, READ, POLL, LEAVE, ARGUMENT_LEN, ARGUMENT_AT, EBADF, EINVAL, ENOTTY}

-- ------ ioctls

-- a call, where there is something that a node is asked
abbrev pub called : (node : ℕ) → Option Want → Ask
called node (Some w) = Call node w
called node None = Refused EINVAL

-- an ioctl by what it is decoded to
abbrev pub ioctl_of : (node : ℕ) → Result Request AbiFault → Ask
ioctl_of node (Ok r) = called node (want_of r)
ioctl_of node (Err (Unknown number)) = Refused ENOTTY
ioctl_of node (Err (Length want found)) = Refused EINVAL

-- ------ requests

-- what a verb asks of a node; where more bytes of the argument are to count than there are, it is refused
abbrev pub call_of : (verb node number len : ℕ) → (argument : List ℕ) → Ask
call_of verb node number len argument =
    if verb == CLOSE then Call node want.Close
    else (if verb == IOCTL then
    (if nat_lt ARGUMENT_LEN len then Refused EINVAL else ioctl_of node (decoded number (take len argument)))
    else (if verb == READ then Call node (want.Read (min number LARGEST_READ))
    else (if verb == POLL then Call node want.Poll else Refused EINVAL)))

-- what a verb asks; where it wants a node, that is one of the 33
abbrev pub asked : (verb node number len : ℕ) → (argument : List ℕ) → Ask
asked verb node number len argument =
    if verb == OPEN_DEMUX then OpenDemux
    else (if verb == OPEN_DVR then Call DEMUX_NODES want.Open
    else (if verb == LEAVE then Leave
    else (if nat_lt DEMUX_NODES node then Refused EBADF else call_of verb node number len argument)))

-- What the 76 bytes of a request ask: verb, node, number and length, four bytes each with the lowest first, and the
-- argument.
abbrev pub ask_of : List ℕ → Ask
ask_of bytes = asked (field 0 4 bytes) (field 4 4 bytes) (field 8 4 bytes) (field 12 4 bytes) (drop ARGUMENT_AT bytes)

-- ------ ranges

-- a read asks for no more than a buffer holds
abbrev pub IsWantInRange : Want → Type 0
IsWantInRange (want.Read count) = count ≤ LARGEST_READ
IsWantInRange _ = Unit {0}

-- a call is on one of the 33 nodes
abbrev pub IsAskInRange : Ask → Type 0
IsAskInRange (Call node w) = (node ≤ DEMUX_NODES) × IsWantInRange w
IsAskInRange _ = Unit {0}
