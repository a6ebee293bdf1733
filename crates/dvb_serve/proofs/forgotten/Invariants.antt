use Rattle.std.proofs.Common.{◌≡◌, vec_len}
use Rattle.dvb_serve.proofs.forgotten.Given as goal

abbrev pub invariant-seats : goal.invariant-seats
invariant-seats l = vec_len l.journals ≡ l.counter
