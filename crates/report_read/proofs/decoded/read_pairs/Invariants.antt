use Rattle.report_read.proofs.Imports.{◌≡◌, ◌<◌, ◌++◌, length, All, bytes_in}
use Rattle.report_read.proofs.decoded.read_pairs.Given as goal

abbrev pub invariant-bytes : goal.invariant-bytes
invariant-bytes l = record {
  so_far : bytes_in l.fn.bytes ≡ (l.read.items ++ (bytes_in l.bytes).0, (bytes_in l.bytes).1);
  range : All (λ byte. byte < 256) l.read.items;
}

abbrev pub decreases-bytes : goal.decreases-bytes
decreases-bytes l = length l.bytes
