use Rattle.report_read.proofs.Imports.{◌≡◌, ◌<◌, ℕ, length, slice_index_or}
use Rattle.report_read.proofs.decoded.decode.Given as goal

abbrev pub invariant-bytes : goal.invariant-bytes
invariant-bytes l = record {
  long : length l.room ≡ length l.fn.room;
  range : (k d : ℕ) → k < l.i → slice_index_or l.room k d < 256;
}
