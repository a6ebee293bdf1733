-- A call that is asked for has the moment at which it is made.
use Rattle.report_check.proofs.Imports.{◌≡◌, refl, sym, ap, ◌∙◌, ℕ, Packets, Act, act_of, ClientRequest, Own, Attach, Detach, Pass, Open, Close, Section, Pes, Add, Remove, Start, Stop, Size, Read, Poll, Batches, batch_at, call_of, pass_of, has_write, asked_at, moment_in}
use Rattle.std.proofs.Common.{Option, Some, None}

passed_then : (batch : Option Packets) (m : ℕ) → moment_in (act_of (pass_of batch m)) ≡ m
passed_then None m = refl
passed_then (Some batch) m = refl

own : (batches : Batches) (request : ClientRequest) (m : ℕ) → asked_at batches request (act_of (call_of batches request m)) ≡ act_of (call_of batches request m)
own batches (Own Open) m = refl
own batches (Own Close) m = refl
own batches (Own (Section p)) m = refl
own batches (Own (Pes p)) m = refl
own batches (Own (Add pid)) m = refl
own batches (Own (Remove pid)) m = refl
own batches (Own Start) m = refl
own batches (Own Stop) m = refl
own batches (Own (Size n)) m = refl
own batches (Own (Read n)) m = refl
own batches (Own Poll) m = refl
own batches (Attach node pids) m = refl
own batches (Detach node) m = refl
own batches (Pass write) m = ap (λ (now : ℕ). act_of (pass_of (batch_at batches write) now)) (passed_then (batch_at batches write) m)

-- a call that is asked for at some moment is asked for at its own
pub at_own : (batches : Batches) (request : ClientRequest) (m : ℕ) (act : Act) → act ≡ act_of (call_of batches request m) → act ≡ asked_at batches request act
at_own batches request m act e = e ∙ (sym (own batches request m) ∙ ap (asked_at batches request) (sym e))

pub ruleset asked_rules = (at_own)

pub ruleset written_rules = (has_write)
