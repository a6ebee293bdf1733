-- The head of a stream: its numbers, and the rows of its PIDs.
use Rattle.std.specs.Prelude.{ℕ, Bool, List, [], ◌∷◌, ◌++◌, length, nat_lt, if◌then◌else◌}
use Rattle.std.proofs.Common.{zero, suc}
use Rattle.ts_packet.specs.Cut.{Cut, cut}
use Rattle.ts_packet.specs.Counts.{counts}
use Rattle.ts_packet.specs.declared.cutter.Tally.{Tally}
use Rattle.ts_packet.specs.declared.size.PacketSize.{PacketSize}
use Rattle.ts_watch.specs.declared.head.Head.{Head}
use Rattle.ts_watch.specs.declared.seen.PidRow.{PidRow}
use Rattle.ts_watch.specs.Watching.{row_of}

-- what the head says of the stream
pub record StreamHead : Type 0 where
  -- how many packets, bytes between them and bytes behind them there are
  pub tally : Tally
  -- the PIDs that have a packet, each with its numbers
  pub rows : List (ℕ × PidRow)
  -- the source failed in the stream
  pub read_fault : Bool

-- the code's head
abbrev pub told_head : Head → StreamHead
told_head head = record { tally = head.tally; rows = head.rows.items; read_fault = head.read_fault }

-- the numbers of a cutting: how many packets, skipped bytes and bytes of rest there are
abbrev pub tally_of : Cut → Tally
tally_of c = record { packets = length c.packets; skipped = c.skipped; rest = length c.rest }

-- the PIDs below this number that have a packet among these, ascending, each with its row
unfoldable pub rows_below : ℕ → List (List ℕ) → List (ℕ × PidRow)
rows_below zero packets = []
rows_below (suc pid) packets =
    if nat_lt 0 (counts packets pid).packets then rows_below pid packets ++ (pid, row_of packets pid) ∷ []
    else rows_below pid packets

-- the head of a stream of these bytes, whose packets take up so many each: the numbers of its cutting, the rows of the
-- PIDs of its packets, and whether the source failed in it
unfoldable pub head_of : PacketSize → List ℕ → Bool → StreamHead
head_of size bytes failed = record {
  tally = tally_of (cut size bytes);
  rows = rows_below 8192 (cut size bytes).packets;
  read_fault = failed;
}
