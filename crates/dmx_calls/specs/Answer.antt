-- The answer that a history gives to a call.
use Rattle.std.specs.Prelude.{ℕ, min, Bool, true, false, not, nat_eq, List, [], ◌∷◌, length, take, Option, Some, None, option_map, if◌then◌else◌}
use Rattle.pid_set.specs.Pids.{has_pid}
use Rattle.dmx_calls.specs.declared.node.NodeKind.{NodeKind}
use Rattle.dmx_calls.specs.declared.node.NodeKind.TheVariants.{Dvr}
use Rattle.dmx_calls.specs.declared.node.State.TheVariants.{Go}
use Rattle.dmx_calls.specs.declared.params.Output.TheVariants.{TsTap}
use Rattle.dmx_calls.specs.declared.reply.Errno.{Errno}
use Rattle.dmx_calls.specs.declared.reply.Errno.TheVariants.{Ebadf}
use Rattle.dmx_calls.specs.declared.reply.PollError.{PollError}
use Rattle.dmx_calls.specs.declared.reply.PollError.TheVariants.{Quiet, Overflow as OverflowPending, TimedOut as TimeoutPending}
use Rattle.dmx_calls.specs.Invocation.{Invocation, Open, Close, SetFilter, SetPes, AddPid, RemovePid, Start, Stop, SetSize, Read, Poll, Pass, End, Attach, Detach}
use Rattle.dmx_calls.specs.declared.reply.Tap.TheVariants.{Keep as KeepTap, Attach as AttachTap, Detach as DetachTap}
use Rattle.dmx_calls.specs.Response.{Response, Done, Busy, Refused, Data, Again, Overflow, TimedOut, Ready, Passed, TapChange}
use Rattle.dmx_calls.specs.History.{History, is_empty, entry_of}
use Rattle.dmx_calls.specs.Tenure.{Params, Section, Pes}
use Rattle.dmx_calls.specs.Items.{timeout_of}
use Rattle.dmx_calls.specs.Rules.{Rules}
use Rattle.dmx_calls.specs.Ledger.{Misfit}
use Rattle.dmx_calls.specs.Facts.{Ledger, Facts, facts, state_of}
use Rattle.dmx_calls.specs.Refusal.{refusal}

-- ------ refusals

-- the calls that have no owner test and no refusal
abbrev pub is_for_anybody : NodeKind → Invocation → Bool
is_for_anybody kind Open = true
is_for_anybody kind (Pass input first packets now) = true
is_for_anybody kind End = true
is_for_anybody Dvr (Attach node pids) = true
is_for_anybody Dvr (Detach node) = true
is_for_anybody kind _ = false

abbrev pub is_owned_by : ℕ → Option ℕ → Bool
is_owned_by who None = false
is_owned_by who (Some owner) = nat_eq who owner

-- a SetSize to the size that the node has
abbrev pub is_same_size : Facts → Invocation → Bool
is_same_size f (SetSize size) = nat_eq size f.size
is_same_size f _ = false

-- The owner test comes first, then the table; a SetSize to the size that the node has is no
-- change, so it isn't asked of the table.
abbrev pub refusal_to : NodeKind → Facts → (who : ℕ) → Invocation → Option Errno
refusal_to kind f who call =
    if is_for_anybody kind call then None
    else (if not (is_owned_by who f.owner) then Some Ebadf
    else (if is_same_size f call then None
    else refusal kind (state_of f) f.params f.pids call))

-- ------ the tap of Done

-- it runs, and its packets go to the dvr node
abbrev pub is_recording : Facts → Bool
is_recording f = elim (f.params) [
  | Pes p ↦ (elim (p.output) [
    | TsTap ↦ (elim (state_of f) [ Go ↦ true | _ ↦ false ])
    | _ ↦ false
  ])
  | _ ↦ false
]

-- a Start, a set call, or a call that changes the PIDs
abbrev pub renews_tap : Facts → Invocation → Bool
renews_tap f (Start now) = true
renews_tap f (SetFilter p now) = true
renews_tap f (SetPes p now) = true
renews_tap f (AddPid pid) = not (has_pid pid f.pids)
renews_tap f (RemovePid pid) = has_pid pid f.pids
renews_tap f _ = false

-- What Done tells of the tap: attach it, where the node records after the call and the call may have changed the tap;
-- detach it, where the node recorded before and no longer does. f is before the call, g after it.
abbrev pub tap_of_done : Facts → Invocation → Facts → TapChange
tap_of_done f call g =
    if is_recording g then (if renews_tap f call then AttachTap g.pids else KeepTap)
    else (if is_recording f then DetachTap else KeepTap)

-- ------ Read and Poll

-- it is a filter of sections
abbrev pub is_section : Params → Bool
is_section (Section p) = true
is_section _ = false

-- what a Read goes by besides the ledger
pub record ReadTerms : Type 0 where
  -- End has passed the node
  pub has_ended : Bool
  -- it gives no bytes behind the end of a section
  pub by_section : Bool
  -- the filter's timeout, in milliseconds
  pub timeout : ℕ

abbrev pub read_terms : Facts → ReadTerms
read_terms f = record { has_ended = f.has_ended; by_section = is_section f.params; timeout = timeout_of f.params }

-- the pending overflow at the edge: nothing before it is unread
abbrev pub over_at_edge : Ledger → Option Misfit
over_at_edge l = if is_empty l.unread then l.over else None

abbrev pub overflow_of : Ledger → Option Response
overflow_of l = option_map (λ x. Overflow l.answered l.total x.item x.need x.room) (over_at_edge l)

-- the expiry, where no Read was told of it
abbrev pub timed_out_of : ReadTerms → Ledger → (expired : Option ℕ) → Option Response
timed_out_of t l expired = if l.is_told then None else option_map (λ moment. TimedOut l.started moment t.timeout) expired

-- as many bytes as the least of the count, what is unread and, on a section filter, the rest of the section
abbrev pub most_bytes : (by_section : Bool) → Ledger → (count : ℕ) → ℕ
most_bytes by_section l count =
    if by_section then min (min count (length l.unread)) l.rest else min count (length l.unread)

-- the first that is there, and else the last
abbrev pub first_of : List (Option Response) → (last : Response) → Response
first_of [] last = last
first_of (None ∷ responses) last = first_of responses last
first_of (Some response ∷ responses) last = response

-- The response of a Read is the first of these that applies: no bytes without a capture; else the pending overflow, once
-- nothing before it is unread; else the expiry, once; else no bytes for a count of 0; else Again where all is answered;
-- else bytes.
abbrev pub response_of_read : ReadTerms → Option Ledger → (expired : Option ℕ) → (count : ℕ) → Response
response_of_read t None expired count = Data []
response_of_read t (Some l) expired count = first_of (
    overflow_of l
    ∷ timed_out_of t l expired
    ∷ (if nat_eq count 0 then Some (Data []) else None)
    ∷ (if nat_eq l.answered l.total then Some (Again t.has_ended) else None)
    ∷ []
    )
    (Data (take (most_bytes t.by_section l count) l.unread))

abbrev pub read_response : Facts → Option Ledger → (expired : Option ℕ) → (count : ℕ) → Response
read_response f ledger expired count = response_of_read (read_terms f) ledger expired count

-- neither Again nor Data of no bytes
abbrev pub is_readable : Response → Bool
is_readable (Again ended) = false
is_readable (Data []) = false
is_readable _ = true

-- what this Read tells that is pending
abbrev pub pending : Response → PollError
pending (Overflow from to item need room) = OverflowPending
pending (TimedOut started now timeout) = TimeoutPending
pending _ = Quiet

abbrev pub answered_of : Option Ledger → ℕ
answered_of None = 0
answered_of (Some l) = l.answered

-- A Poll: whether a Read of one byte would give something, whether it would tell an overflow or an expiry, and the place
-- up to which all is answered.
abbrev pub poll_response : Facts → (expired : Option ℕ) → Response
poll_response f expired =
    Ready (is_readable (read_response f f.ledger expired 1)) (pending (read_response f f.ledger expired 1))
    (answered_of f.ledger) f.has_ended

-- ------ all calls

abbrev pub expired_of : Option Ledger → Option ℕ
expired_of None = None
expired_of (Some l) = l.expired

abbrev pub open_response : Option ℕ → Response
open_response None = Done 0 0 KeepTap
open_response (Some owner) = Busy owner

-- what is unread is dropped, and named
abbrev pub done_dropping : Option Ledger → TapChange → Response
done_dropping None tap = Done 0 0 tap
done_dropping (Some l) tap = Done l.answered l.total tap

-- The response to a call that isn't refused: f is what the history says before the call, g what it says with it.
abbrev pub response_to : Facts → Facts → Invocation → Response
response_to f g Open = open_response f.owner
response_to f g Close = done_dropping f.ledger (tap_of_done f Close g)
response_to f g (SetFilter p now) = done_dropping f.ledger (tap_of_done f (SetFilter p now) g)
response_to f g (SetPes p now) = done_dropping f.ledger (tap_of_done f (SetPes p now) g)
response_to f g (AddPid pid) = Done 0 0 (tap_of_done f (AddPid pid) g)
response_to f g (RemovePid pid) = Done 0 0 (tap_of_done f (RemovePid pid) g)
response_to f g (Start now) = done_dropping f.ledger (tap_of_done f (Start now) g)
response_to f g Stop = Done 0 0 (tap_of_done f Stop g)
response_to f g (SetSize size) =
    if nat_eq size f.size then Done 0 0 KeepTap else done_dropping f.ledger (tap_of_done f (SetSize size) g)
response_to f g (Read now count) = read_response f f.ledger (expired_of g.ledger) count
response_to f g (Poll now) = poll_response f (expired_of g.ledger)
response_to f g (Pass input first packets now) = Passed
response_to f g End = Passed
response_to f g (Attach node pids) = Done 0 0 KeepTap
response_to f g (Detach node) = Done 0 0 KeepTap

abbrev pub response_unless : Option Errno → Response → Response
response_unless None response = response
response_unless (Some errno) response = Refused errno

abbrev pub answer_by : NodeKind → Facts → Facts → (who : ℕ) → Invocation → Response
answer_by kind f g who call = response_unless (refusal_to kind f who call) (response_to f g call)

-- The history with this call and any response by which it is accepted: what was set, the capture, what is live
-- and the expiry look at the calls alone.
abbrev pub with_call : History → (who : ℕ) → Invocation → History
with_call h who call = entry_of who call Passed ∷ h

unfoldable pub answer : Rules → History → (who : ℕ) → Invocation → Response
answer node h who call = answer_by node.kind (facts node h) (facts node (with_call h who call)) who call
