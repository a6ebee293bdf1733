use Rattle.text_forms.proofs.Imports.{◌≡◌, ◌*◌, take, length, hex_text}
use Rattle.text_forms.proofs.hex.fill_digits.Given as goal

abbrev pub invariant-bytes : goal.invariant-bytes
invariant-bytes l = record {
  long : length l.room ≡ 2 * length l.bytes;
  written : take (2 * l.i) l.room ≡ hex_text (take l.i l.bytes);
}
