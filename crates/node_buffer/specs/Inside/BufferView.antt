-- How a buffer's fields are seen, and what holds of them.
use Rattle.std.specs.Prelude.{ℕ, ◌≡◌, ◌≤◌, ◌+◌, ◌-◌, Bool, true, false, nat_eq, not, ◌&&◌, ◌||◌, is_some, if◌then◌else◌, List, [], length, Option, Some, None, option_map}
use Rattle.node_buffer.specs.Imports.{Ledger, Misfit, PollError}
use Rattle.dmx_calls.specs.declared.reply.PollError.TheVariants.{Quiet, Overflow as OverflowPending, TimedOut as TimeoutPending}
use Rattle.node_buffer.specs.Inside.BufferValue.{BufferValue}
use Rattle.node_buffer.specs.declared.buffer.Lost.{Lost}
use Rattle.node_buffer.specs.declared.buffer.Capture.{Capture}
use Rattle.node_buffer.specs.declared.buffer.Buffer.TheInside.{Inside}

-- the first item that didn't fit
abbrev pub misfit_of : Lost → Misfit
misfit_of x = record { item = x.item; place = x.place; need = x.need; room = x.room }

-- the ledger, over the bytes that the ring holds
abbrev pub ledger_of : List ℕ → Capture → Ledger
ledger_of unread c = record {
  started = c.started;
  is_stopped = c.is_stopped;
  expired = c.expired;
  is_told = c.is_told;
  count = c.items;
  total = c.total;
  answered = c.answered;
  over = option_map misfit_of c.over;
  unread = unread;
  rest = c.rest;
}

-- the size is the ring's
abbrev pub buffer_view : Inside → BufferValue
buffer_view b = record { size = b.ring.size; terms = b.terms; ledger = option_map (ledger_of b.ring.bytes) b.capture }

-- What the ring holds of a capture of so many bytes, of which so many are answered: all others; where an item didn't fit,
-- with KEEP those before it, and without KEEP none.
abbrev pub RingFits : (keeps : Bool) → Option Lost → List ℕ → (answered total : ℕ) → Type 0
RingFits keeps None unread answered total = length unread ≡ total - answered
RingFits true (Some x) unread answered total = (answered + length unread ≡ x.place) × (x.place ≤ total)
RingFits false (Some x) unread answered total = (unread ≡ []) × (answered ≤ x.place) × (x.place ≤ total)

-- The ring holds what may be read, and nothing without a capture. Each item has at least one byte.
abbrev pub CaptureHolds : (keeps : Bool) → Option Capture → List ℕ → Type 0
CaptureHolds keeps None unread = unread ≡ []
CaptureHolds keeps (Some c) unread =
    (c.answered ≤ c.total) × (c.items ≤ c.total) × RingFits keeps c.over unread c.answered c.total

abbrev pub BufferHolds : Inside → Type 0
BufferHolds b = CaptureHolds b.terms.keeps b.capture b.ring.bytes

-- the pending overflow, where all before it is answered
abbrev pub told_by : (keeps : Bool) → (answered : ℕ) → Option Lost → Option Lost
told_by keeps answered None = None
told_by keeps answered (Some x) = if not keeps || nat_eq answered x.place then Some x else None

-- what a Read would tell of a capture with this overflow at its edge
abbrev pub pending_by : Option Lost → Capture → PollError
pending_by over c =
    if is_some over then OverflowPending
    else (if is_some c.expired && not c.is_told then TimeoutPending else Quiet)
