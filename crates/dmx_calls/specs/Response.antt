-- Responses: the replies of a history, as plain data.
use Rattle.std.specs.Prelude.{ℕ, Bool, true, false, List}
use Rattle.dmx_calls.specs.declared.reply.Errno.{Errno}
use Rattle.dmx_calls.specs.declared.reply.PollError.{PollError}
use Rattle.dmx_calls.specs.declared.reply.Tap.{Tap}

-- what the dvr node is to be told of a demux node's tap
abbrev pub TapChange : Type 0
TapChange = Tap (List ℕ)

-- Places count the bytes of a capture from 0. Done names the span of unread bytes that the call dropped. Overflow names
-- the span that is lost, the first item that didn't fit, its length and the room that it found.
pub data Response : Type 0 where
  Done : (from to : ℕ) → TapChange → Response
  Busy : (owner : ℕ) → Response
  Refused : Errno → Response
  NoMemory : Response
  Data : (bytes : List ℕ) → Response
  Again : (ended : Bool) → Response
  Overflow : (from to item need room : ℕ) → Response
  TimedOut : (started now timeout : ℕ) → Response
  Ready : (readable : Bool) → PollError → (at : ℕ) → (ended : Bool) → Response
  Passed : Response

-- a refused call, a call on a busy node and a call that found no memory change nothing; every other call is accepted
abbrev pub is_accepted : Response → Bool
is_accepted (Refused errno) = false
is_accepted (Busy owner) = false
is_accepted NoMemory = false
is_accepted _ = true
