-- A pass carries its moment.
use Rattle.workers.proofs.Imports.{ℕ, Bool, Option, Some, None, IsTrue, Packets, act_of, pass_of, IsGiven}

-- whatever it brings
pub pass_is_given : (may : ℕ → Bool) (batch : Option Packets) (now : ℕ) → IsTrue (may now) → IsGiven may (act_of (pass_of batch now))
pass_is_given may None now is = is
pass_is_given may (Some batch) now is = is
