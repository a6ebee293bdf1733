-- How a server has read its stream, and when its clock.
use Rattle.std.specs.Prelude.{◌≡◌, ◌≤◌, ◌+◌, ◌^◌, ℕ, Bool, true, false, IsTrue, List, length}
use Rattle.serve_top.specs.Imports.{Consumes, Fed, IsAtEnd, Of188, SourceEnd, cut}

-- one read has failed, the last; or none has, and nothing is left
abbrev pub HasReadTo : (failed : Bool) → (before after : SourceEnd) → Type 0
HasReadTo true before after = after.faults ≡ before.faults + 1
HasReadTo false before after = (after.faults ≡ before.faults) × IsAtEnd after.left

-- As many bytes were taken as the most reads that are made, each of which takes one at least.
pub record HasReadTooOften (before after : SourceEnd) : Type 0 where
  pub taken : List ℕ
  pub consumes : Consumes before.left after.left taken
  pub many : 2 ^ 32 ≤ length taken

-- The clock may give the moment of this batch where the stream was read so far: these bytes have its packets and those before it.
pub record IsTimed (behind : SourceEnd → ℕ → Bool) (before : SourceEnd) (fed : Fed) : Type 0 where
  pub at : SourceEnd
  pub read : List ℕ
  pub consumes : Consumes before.left at.left read
  pub packets : fed.first + fed.count ≤ length (cut Of188 read).packets
  pub moment : IsTrue (behind at fed.now)
