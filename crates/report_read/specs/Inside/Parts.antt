-- How calls and replies of a report are read (this project's own).
use Rattle.std.specs.Prelude.{ℕ, suc, ◌+◌, ◌==◌, ◌&&◌, Bool, true, false, not, nat_eq, nat_le, List, [], ◌∷◌, length, replicate, Some, None, if◌then◌else◌, codes}
use Rattle.std.proofs.Common.{zero}
use Rattle.report_read.specs.Imports.{Act, AddPid as AddPidAct, Again, Attach as AttachAct, Busy, Close as CloseAct, Data, Detach as DetachAct, Done, End as EndAct, Input, LARGEST_READ, NoMemory, Open as OpenAct, Output, Overflow, Passed, Place, Poll as PollAct, PollError, Read as ReadAct, Ready, Refused, RemovePid as RemovePidAct, Response, SectionFilter, SetFilter as SetFilterAct, SetPes as SetPesAct, SetSize as SetSizeAct, Start as StartAct, Stop as StopAct, TapChange, TimedOut, has_pid, passing, with_pid, with_place}
use Rattle.dmx_calls.specs.declared.params.Input.TheVariants as input
use Rattle.dmx_calls.specs.declared.params.Output.TheVariants as output
use Rattle.dmx_calls.specs.declared.reply.Errno.TheVariants as errno
use Rattle.dmx_calls.specs.declared.reply.PollError.TheVariants as pending
use Rattle.dmx_calls.specs.declared.reply.Tap.TheVariants.{Keep as KeepTap, Attach as AttachTap, Detach as DetachTap}
use Rattle.report_read.specs.Inside.Reading.{Reading, and_then, made, past, choose, number_in, number16, number32, number64, byte_in, bytes_in, begins_number}

-- ------ words

unfoldable pub input_in : List ℕ → Reading Input
input_in bytes =
    choose (codes "frontend") bytes (λ bytes. Some (input.Frontend, bytes))
    (past (codes "dvr") bytes (λ bytes. Some (input.Dvr, bytes)))

unfoldable pub output_in : List ℕ → Reading Output
output_in bytes =
    choose (codes "decoder") bytes (λ bytes. Some (output.Decoder, bytes))
    (choose (codes "tap") bytes (λ bytes. Some (output.Tap, bytes))
    (choose (codes "ts_tap") bytes (λ bytes. Some (output.TsTap, bytes))
    (past (codes "tsdemux_tap") bytes (λ bytes. Some (output.TsdemuxTap, bytes)))))

unfoldable pub flag_in : List ℕ → Reading Bool
flag_in bytes =
    choose (codes "1") bytes (λ bytes. Some (true, bytes)) (past (codes "0") bytes (λ bytes. Some (false, bytes)))

unfoldable pub pending_in : List ℕ → Reading PollError
pending_in bytes =
    choose (codes "none") bytes (λ bytes. Some (pending.Quiet, bytes))
    (choose (codes "overflow") bytes (λ bytes. Some (pending.Overflow, bytes))
    (past (codes "timedout") bytes (λ bytes. Some (pending.TimedOut, bytes))))

-- a caller: `feed`, or `c` and the number of a client
unfoldable pub who_in : List ℕ → Reading ℕ
who_in bytes =
    choose (codes "feed") bytes (λ bytes. Some (0, bytes))
    (past (codes "c") bytes (λ bytes. made (λ client. client + 1) (number_in 0 4294967294 bytes)))

-- ------ sets and filters

-- a set of 128 PIDs takes no other
abbrev pub is_full_for : (pid : ℕ) → (set : List ℕ) → Bool
is_full_for pid set = not (has_pid pid set) && nat_eq (length set) 128

-- one more PID
unfoldable pub pid_step : (set bytes : List ℕ) → Reading (List ℕ)
pid_step set bytes =
    and_then (number16 bytes) (λ pid bytes. if is_full_for pid set then None else Some (with_pid pid set, bytes))

-- so many more PIDs, each behind a comma, put into a set
unfoldable pub more_pids : (left : ℕ) → (set bytes : List ℕ) → Reading (List ℕ)
more_pids zero set bytes = Some (set, bytes)
more_pids (suc left) set bytes =
    choose (codes ",") bytes (λ bytes. and_then (pid_step set bytes) (λ set bytes. more_pids left set bytes))
    (Some (set, bytes))

-- the PIDs of a set, at most 128
unfoldable pub pids_in : List ℕ → Reading (List ℕ)
pids_in bytes =
    choose (codes "-") bytes (λ bytes. Some ([], bytes))
    (and_then (number16 bytes) (λ pid bytes. more_pids 127 (pid ∷ []) bytes))

-- `I=FF/MM/DD`
unfoldable pub place_in : List ℕ → Reading Place
place_in bytes =
    and_then (number_in 0 15 bytes) (λ number bytes.
    past (codes "=") bytes (λ bytes. and_then (byte_in bytes) (λ filter bytes.
    past (codes "/") bytes (λ bytes. and_then (byte_in bytes) (λ mask bytes.
    past (codes "/") bytes (λ bytes. and_then (byte_in bytes) (λ mode bytes.
    Some (record { number = number; filter = filter; mask = mask; mode = mode }, bytes))))))))

-- whether a space and a digit stand at the front
abbrev pub begins_place : List ℕ → Bool
begins_place (space ∷ bytes) = (space == 32) && begins_number bytes
begins_place [] = false

-- one more place, behind a space
unfoldable pub place_step : SectionFilter → List ℕ → Reading SectionFilter
place_step filter bytes =
    past (codes " ") bytes (λ bytes. and_then (place_in bytes) (λ place bytes. Some (with_place filter place, bytes)))

-- so many more places, put into a filter
unfoldable pub more_places : (left : ℕ) → SectionFilter → List ℕ → Reading SectionFilter
more_places zero filter bytes = Some (filter, bytes)
more_places (suc left) filter bytes =
    if begins_place bytes then and_then (place_step filter bytes) (λ filter bytes. more_places left filter bytes)
    else Some (filter, bytes)

-- the places of a section filter
unfoldable pub filter_in : List ℕ → Reading SectionFilter
filter_in bytes =
    more_places 16 (record { filter = replicate 16 0; mask = replicate 16 0; mode = replicate 16 0 }) bytes

-- ------ calls

unfoldable pub section_in : List ℕ → Reading Act
section_in bytes =
    and_then (number16 bytes) (λ pid bytes.
    and_then (past (codes " timeout=") bytes number32) (λ timeout bytes.
    and_then (past (codes " flags=") bytes number32) (λ flags bytes.
    and_then (past (codes " at=") bytes number64) (λ now bytes.
    and_then (filter_in bytes) (λ filter bytes.
    Some (SetFilterAct (record { pid = pid; filter = filter; timeout = timeout; flags = flags }) now, bytes))))))

unfoldable pub pes_in : List ℕ → Reading Act
pes_in bytes =
    and_then (number16 bytes) (λ pid bytes.
    past (codes " input=") bytes (λ bytes. and_then (input_in bytes) (λ from bytes.
    past (codes " output=") bytes (λ bytes. and_then (output_in bytes) (λ to bytes.
    and_then (past (codes " type=") bytes number32) (λ pes_type bytes.
    and_then (past (codes " flags=") bytes number32) (λ flags bytes.
    and_then (past (codes " at=") bytes number64) (λ now bytes.
    Some (
      SetPesAct (record { pid = pid; input = from; output = to; pes_type = pes_type; flags = flags }) now,
      bytes,
    )))))))))

unfoldable pub pass_in : List ℕ → Reading Act
pass_in bytes =
    and_then (input_in bytes) (λ from bytes.
    and_then (past (codes " first=") bytes number64) (λ first bytes.
    and_then (past (codes " count=") bytes number32) (λ count bytes.
    and_then (past (codes " at=") bytes number64) (λ now bytes.
    Some (passing from first count now, bytes)))))

unfoldable pub read_in : List ℕ → Reading Act
read_in bytes =
    and_then (number32 bytes) (λ count bytes.
    and_then (past (codes " at=") bytes number64) (λ now bytes. Some (ReadAct now count, bytes)))

unfoldable pub attach_in : List ℕ → Reading Act
attach_in bytes =
    and_then (number32 bytes) (λ node bytes.
    past (codes " pids=") bytes (λ bytes. and_then (pids_in bytes) (λ pids bytes. Some (AttachAct node pids, bytes))))

-- a call that isn't one of the first
unfoldable pub other_act_in : List ℕ → Reading Act
other_act_in bytes =
    choose (codes "size ") bytes (λ bytes. made SetSizeAct (number32 bytes))
    (choose (codes "read ") bytes read_in
    (choose (codes "poll at=") bytes (λ bytes. made PollAct (number64 bytes))
    (choose (codes "pass input=") bytes pass_in
    (choose (codes "end") bytes (λ bytes. Some (EndAct, bytes))
    (choose (codes "attach node=") bytes attach_in
    (made DetachAct (past (codes "detach node=") bytes number32)))))))

unfoldable pub plain_act_in : List ℕ → Reading Act
plain_act_in bytes =
    choose (codes "add ") bytes (λ bytes. made AddPidAct (number16 bytes))
    (choose (codes "remove ") bytes (λ bytes. made RemovePidAct (number16 bytes))
    (choose (codes "start at=") bytes (λ bytes. made StartAct (number64 bytes))
    (choose (codes "stop") bytes (λ bytes. Some (StopAct, bytes)) (other_act_in bytes))))

-- a call
unfoldable pub act_in : List ℕ → Reading Act
act_in bytes =
    choose (codes "open") bytes (λ bytes. Some (OpenAct, bytes))
    (choose (codes "close") bytes (λ bytes. Some (CloseAct, bytes))
    (choose (codes "section pid=") bytes section_in
    (choose (codes "pes pid=") bytes pes_in (plain_act_in bytes))))

-- ------ replies

-- what the dvr node is to be told
unfoldable pub tap_in : List ℕ → Reading TapChange
tap_in bytes =
    choose (codes "keep") bytes (λ bytes. Some (KeepTap, bytes))
    (choose (codes "attach:") bytes (λ bytes. made AttachTap (pids_in bytes))
    (past (codes "detach") bytes (λ bytes. Some (DetachTap, bytes))))

unfoldable pub done_in : List ℕ → Reading Response
done_in bytes =
    and_then (number64 bytes) (λ from bytes.
    and_then (past (codes "..") bytes number64) (λ to bytes.
    past (codes " tap=") bytes (λ bytes. and_then (tap_in bytes) (λ tap bytes. Some (Done from to tap, bytes)))))

-- the bytes of a read
unfoldable pub data_in : List ℕ → Reading Response
data_in bytes =
    choose (codes "-") bytes (λ bytes. Some (Data [], bytes))
    (let read = bytes_in bytes in if nat_le (length read.0) LARGEST_READ then Some (Data read.0, read.1) else None)

unfoldable pub overflow_in : List ℕ → Reading Response
overflow_in bytes =
    and_then (number64 bytes) (λ from bytes.
    and_then (past (codes "..") bytes number64) (λ to bytes.
    and_then (past (codes " item=") bytes number64) (λ item bytes.
    and_then (past (codes " need=") bytes number64) (λ need bytes.
    and_then (past (codes " room=") bytes number64) (λ room bytes.
    Some (Overflow from to item need room, bytes))))))

unfoldable pub timed_out_in : List ℕ → Reading Response
timed_out_in bytes =
    and_then (number64 bytes) (λ started bytes.
    and_then (past (codes " now=") bytes number64) (λ now bytes.
    and_then (past (codes " timeout=") bytes number32) (λ timeout bytes.
    Some (TimedOut started now timeout, bytes))))

unfoldable pub ready_in : List ℕ → Reading Response
ready_in bytes =
    and_then (flag_in bytes) (λ readable bytes.
    past (codes " error=") bytes (λ bytes. and_then (pending_in bytes) (λ error bytes.
    and_then (past (codes " at=") bytes number64) (λ at bytes.
    past (codes " ended=") bytes (λ bytes. and_then (flag_in bytes) (λ ended bytes.
    Some (Ready readable error at ended, bytes)))))))

-- a reply that isn't one of the first
unfoldable pub other_response_in : List ℕ → Reading Response
other_response_in bytes =
    choose (codes "data ") bytes data_in
    (choose (codes "again ended=") bytes (λ bytes. made Again (flag_in bytes))
    (choose (codes "overflow ") bytes overflow_in
    (choose (codes "timedout started=") bytes timed_out_in
    (choose (codes "ready readable=") bytes ready_in
    (past (codes "passed") bytes (λ bytes. Some (Passed, bytes)))))))

-- a refusal, or one of those
unfoldable pub refusal_in : List ℕ → Reading Response
refusal_in bytes =
    choose (codes "EBADF") bytes (λ bytes. Some (Refused errno.Ebadf, bytes))
    (choose (codes "EBUSY") bytes (λ bytes. Some (Refused errno.Ebusy, bytes))
    (choose (codes "EINVAL") bytes (λ bytes. Some (Refused errno.Einval, bytes))
    (choose (codes "ENOSPC") bytes (λ bytes. Some (Refused errno.Enospc, bytes))
    (choose (codes "ENOMEM") bytes (λ bytes. Some (NoMemory, bytes)) (other_response_in bytes)))))

-- a reply
unfoldable pub response_in : List ℕ → Reading Response
response_in bytes =
    choose (codes "done drop=") bytes done_in
    (choose (codes "busy owner=") bytes (λ bytes. made Busy (who_in bytes)) (refusal_in bytes))
