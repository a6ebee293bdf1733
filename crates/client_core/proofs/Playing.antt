-- A write that has a batch is one of the client's.
use Rattle.client_core.proofs.Imports.{ℕ, zero, suc, ◌<◌, [], ◌∷◌, length, arith, IsSome, Batches, batch_at}

pub has_write : (batches : Batches) (write : ℕ) → IsSome (batch_at batches write) → write < length batches
has_write [] write is = absurd (cc is)
has_write (b ∷ bs) zero is = omega arith
has_write (b ∷ bs) (suc write) is = let lt = has_write bs write is in omega (arith, lt)

pub ruleset written_rules = (has_write)
