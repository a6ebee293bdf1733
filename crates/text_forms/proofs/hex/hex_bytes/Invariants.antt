use Rattle.text_forms.proofs.Imports.{◌≡◌, ◌≤◌, ◌+◌, ◌*◌, length, hex_bytes}
use Rattle.text_forms.proofs.HexWords.{IsReading}
use Rattle.text_forms.proofs.hex.hex_bytes.Given as goal

abbrev pub invariant-pairs : goal.invariant-pairs
invariant-pairs g l = record {
  few : length l.bytes.items ≤ g.row.MOST;
  half : 2 * length l.bytes.items + length l.rest ≡ length l.word;
  so_far : IsReading g.row.MOST (hex_bytes g.row.MOST l.word) l.bytes.items l.rest;
}

abbrev pub decreases-pairs : goal.decreases-pairs
decreases-pairs g l = length l.rest
