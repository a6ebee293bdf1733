-- Responses that answer no bytes and tell nothing of the capture.
use Rattle.node_buffer.proofs.Imports.{ℕ, ◌≡◌, refl, Bool, true, false, Option, Some, None, if◌then◌else◌, PollError, KeepTap, Invocation, Response, Done, Ready, Passed, is_accepted, TapChange, History, entry_of, event, tells_timeout, answered_in, is_overflow, Ledger, done_dropping}

pub data Silent : Response → Type 0 where
  as_done : (from to : ℕ) → (tap : TapChange) → Silent (Done from to tap)
  as_ready : (readable : Bool) → (error : PollError) → (at : ℕ) → (ended : Bool) → Silent (Ready readable error at ended)
  as_passed : Silent Passed

pub accepted_of : (r : Response) → Silent r → is_accepted r ≡ true
accepted_of _ as_passed = refl
accepted_of _ _ = refl

module _ (who : ℕ) (call : Invocation) (h : History) where
  pub quiet_of : (r : Response) → Silent r → is_overflow (event (entry_of who call r) h) ≡ false
  quiet_of _ as_passed = refl
  quiet_of _ _ = refl

  pub untold_of : (r : Response) → Silent r → tells_timeout (event (entry_of who call r) h) ≡ false
  untold_of _ as_passed = refl
  untold_of _ _ = refl

  pub nothing_of : (r : Response) → Silent r → answered_in (event (entry_of who call r) h) ≡ 0
  nothing_of _ as_passed = refl
  nothing_of _ _ = refl

-- ------ what is answered

pub dropping : (o : Option Ledger) (tap : TapChange) → Silent (done_dropping o tap)
dropping None tap = as_done 0 0 tap
dropping (Some l) tap = as_done l.answered l.total tap

pub dropping_unless : (b : Bool) (o : Option Ledger) (tap : TapChange) → Silent (if b then Done 0 0 KeepTap else done_dropping o tap)
dropping_unless true o tap = as_done 0 0 KeepTap
dropping_unless false o tap = dropping o tap
