use Rattle.std.proofs.Common.{◌≡◌, length, vec_len}
use Rattle.dvb_serve.proofs.serve_journals.Given as goal

abbrev pub invariant-seats : goal.invariant-seats
invariant-seats g l = vec_len l.lines ≡ length l.yielded
