-- What a Read gives by the ledger is what the facts of a history answer.
use Rattle.node_buffer.proofs.Imports.{ℕ, ◌≡◌, refl, Bool, true, false, ◌||◌, Option, Some, None, if◌then◌else◌, not, is_some, option_map, Passed, timeout_of, Ledger, Facts, is_section, read_terms, response_of_read, read_response, expired_of, terms_of, is_due, expiring, read_by, with_response}

module _ (f : Facts) where
  -- the expiry alone is another in the ledger after the entry
  expiring_by : (l : Ledger) (now : ℕ) (b : Bool) (count : ℕ)
      → response_of_read (read_terms f) (Some (if b then l else record l { expired = Some now })) (if b then l else record l { expired = Some now }).expired count
      ≡ response_of_read (read_terms f) (Some l) (if b then l else record l { expired = Some now }).expired count
  expiring_by l now true count = refl
  expiring_by l now false count = refl

  -- where the entry may have expired the filter first
  pub read_is : (o : Option Ledger) (now count : ℕ)
      → read_by f.has_ended (terms_of f.params) (option_map (expiring (timeout_of f.params) now) o) count
      ≡ read_response f o (expired_of (option_map (λ l. with_response (is_section f.params) Passed (expiring (timeout_of f.params) now l)) o)) count
  read_is None now count = refl
  read_is (Some l) now count = expiring_by l now (l.is_stopped || (is_some l.expired || not (is_due (timeout_of f.params) now l))) count

  -- where nothing expires
  pub read_now : (o : Option Ledger) (count : ℕ) → read_by f.has_ended (terms_of f.params) o count ≡ read_response f o (expired_of o) count
  read_now o count = refl
