use Rattle.text_forms.proofs.Imports.{◌≡◌, ◌≤◌, length, all_ascii_digits, value_after, value_of}
use Rattle.text_forms.proofs.number.number_between.Given as goal

abbrev pub invariant-digits : goal.invariant-digits
invariant-digits l = record {
  within : l.n ≤ l.most;
  digits : all_ascii_digits l.word ≡ all_ascii_digits l.rest;
  value : value_of l.word ≡ value_after l.n l.rest;
}

abbrev pub decreases-digits : goal.decreases-digits
decreases-digits l = length l.rest
