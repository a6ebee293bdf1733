-- What is told in reply (this project's own; the numbers of errors are those of Linux).
use Rattle.std.specs.Prelude.{ℕ, ◌+◌, Bool, false, List, [], ◌++◌, if◌then◌else◌}
use Rattle.seats.specs.Imports.{Again, Busy, Data, Done, Ebadf, Ebusy, Einval, Enospc, Errno, NoMemory, Overflow, Passed, PollError, Ready, Refused, Response, TimedOut, little_bytes}
use Rattle.dmx_calls.specs.declared.reply.PollError.TheVariants.{Quiet, Overflow as OverflowPending, TimedOut as TimeoutPending}
use Rattle.seats.specs.declared.serve_frames.tell.Tell.{Tell}
use Rattle.seats.specs.declared.serve_frames.numbers.TheConstants.{EBADF, EAGAIN, ENOMEM, EBUSY, EINVAL, ENOSPC, EOVERFLOW, ETIMEDOUT}

-- the number of an error
abbrev pub errno_number : Errno → ℕ
errno_number Ebadf = EBADF
errno_number Ebusy = EBUSY
errno_number Einval = EINVAL
errno_number Enospc = ENOSPC

-- what is pending, as a bit
abbrev pub pending_bit : PollError → ℕ
pending_bit Quiet = 0
pending_bit OverflowPending = 2
pending_bit TimeoutPending = 4

-- what a poll finds, bit by bit
abbrev pub ready_bits : (readable : Bool) → PollError → (ended : Bool) → ℕ
ready_bits readable error ended =
    (if readable then 1 else 0) + pending_bit error + (if ended then 8 else 0)

-- a reply to the call at this place
abbrev pub tell : (code value place : ℕ) → Tell
tell code value place = record { code = code; value = value; place = place }

-- A response to the call at this place, in numbers.
abbrev pub told_of : Response → (place : ℕ) → Tell
told_of (Done from to tap) place = tell 0 0 place
told_of (Busy owner) place = tell EBUSY 0 place
told_of (Refused errno) place = tell (errno_number errno) 0 place
told_of NoMemory place = tell ENOMEM 0 place
told_of (Data bytes) place = tell 0 0 place
told_of (Again ended) place = tell EAGAIN (ready_bits false Quiet ended) place
told_of (Overflow from to item need room) place = tell EOVERFLOW 0 place
told_of (TimedOut started now timeout) place = tell ETIMEDOUT 0 place
told_of (Ready readable error at ended) place = tell 0 (ready_bits readable error ended) place
told_of Passed place = tell 0 0 place

-- the bytes that were read
abbrev pub data_of : Response → List ℕ
data_of (Data bytes) = bytes
data_of _ = []

-- The first 24 bytes of a reply that so many bytes follow.
abbrev pub head_of : Tell → (len : ℕ) → List ℕ
head_of t len =
    (((little_bytes 4 t.code ++ little_bytes 4 len) ++ little_bytes 4 t.value) ++ little_bytes 4 0) ++ little_bytes 8 t.place
