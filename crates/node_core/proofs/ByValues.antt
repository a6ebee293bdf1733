-- A call before which the node's filter may have expired, by what is known before and after the expiry.
use Rattle.node_core.proofs.Imports.{ℕ, ◌≡◌, refl, ◌∙◌, ap, Bool, true, false, Option, Some, None, option_map, if◌then◌else◌, not, is_some, Go, Read, Poll, Response, Ready, Passed, is_accepted, Params, Empty, Section, Pes, timeout_of, Ledger, state_of_filter, state_of_ledger, is_section, is_readable, pending, answered_of, expired_of, response_to, terms_of, read_by, is_due, expiring, with_response, read_accepted, read_is, expired_at, then_answered, answered-expired, CoherentIn, Knows, next, moved, IsSoundBy, reply_to}
use Rattle.std.specs.Prelude.{◌||◌}

-- a ledger that comes of a sound one
sound_by : (set : Params) (o left : Option Ledger) → (o ≡ None → left ≡ None) → IsSoundBy set o → CoherentIn left → IsSoundBy set left
sound_by Empty o left none sound holds = none sound
sound_by (Section p) o left none sound holds = holds
sound_by (Pes p) o left none sound holds = holds

-- ------ a Read

-- what it gives is the response to a Read that isn't refused
reads_as : (k : Knows) (who now count : ℕ)
    → read_by k.facts.has_ended (terms_of k.facts.params) (option_map (expiring (timeout_of k.facts.params) now) k.facts.ledger) count
    ≡ response_to k.facts (moved k who (Read now count) Passed).facts (Read now count)
reads_as k who now count = read_is k.facts k.facts.ledger now count

-- with the ledger between the expiry and the reply
pub read-said : (k : Knows) (now count : ℕ) (mid : Option Ledger) (r : Response) → mid ≡ option_map (expiring (timeout_of k.facts.params) now) k.facts.ledger
    → r ≡ read_by k.facts.has_ended (terms_of k.facts.params) mid count → r ≡ reply_to k 0 (Read now count)
read-said k now count mid r is said = said ∙ rw is (reads_as k 0 now count)

pub read-after : (k : Knows) (now count : ℕ) (mid left : Option Ledger) (r : Response) → mid ≡ option_map (expiring (timeout_of k.facts.params) now) k.facts.ledger
    → r ≡ read_by k.facts.has_ended (terms_of k.facts.params) mid count → left ≡ option_map (with_response (is_section k.facts.params) r) mid
    → record k { facts = record k.facts { ledger = left } } ≡ next k 0 (Read now count) r
read-after k now count mid left r is said after =
    let ok : is_accepted r ≡ true =
    ap is_accepted (read-said k now count mid r is said) ∙ read_accepted k.facts k.facts.ledger (expired_of (moved k 0 (Read now count) Passed).facts.ledger) count in
    rw (ok, after, is, then_answered (is_section k.facts.params) r (timeout_of k.facts.params) now k.facts.ledger) refl

-- what is sound stays so
pub read-sound : (set : Params) (r : Response) (now : ℕ) (o mid left : Option Ledger) → mid ≡ option_map (expiring (timeout_of set) now) o → left ≡ option_map (with_response (is_section set) r) mid
    → IsSoundBy set o → CoherentIn left → IsSoundBy set left
read-sound set r now o mid left is after = sound_by set o left (λ none. rw (after, is, none) refl)

-- ------ a Poll

-- with the ledger behind the expiry
pub poll-said : (k : Knows) (now : ℕ) (mid : Option Ledger) (r : Response) → mid ≡ option_map (expiring (timeout_of k.facts.params) now) k.facts.ledger
    → r ≡ Ready (is_readable (read_by k.facts.has_ended (terms_of k.facts.params) mid 1)) (pending (read_by k.facts.has_ended (terms_of k.facts.params) mid 1)) (answered_of mid) k.facts.has_ended
    → r ≡ reply_to k 0 (Poll now)
poll-said k now mid r is said =
    said ∙ rw (is, read_is k.facts k.facts.ledger now 1, answered-expired (timeout_of k.facts.params) now k.facts.ledger) refl

pub poll-after : (k : Knows) (now : ℕ) (mid : Option Ledger) (r : Response) → is_accepted r ≡ true → mid ≡ option_map (expiring (timeout_of k.facts.params) now) k.facts.ledger
    → record k { facts = record k.facts { ledger = mid } } ≡ next k 0 (Poll now) r
poll-after k now mid r ok is = rw (ok, is) refl

pub poll-sound : (set : Params) (now : ℕ) (o mid : Option Ledger) → mid ≡ option_map (expiring (timeout_of set) now) o → IsSoundBy set o → CoherentIn mid → IsSoundBy set mid
poll-sound set now o mid is = sound_by set o mid (λ none. rw (is, none) refl)

-- ------ a Pass

by_stop : (set : Params) (l : Ledger) (now : ℕ) (b : Bool) → l.is_stopped ≡ b → state_of_ledger set (Some (expired_at l (Some now))) ≡ Go → state_of_ledger set (Some l) ≡ Go
by_stop set l now true yea is = absurd (let k = rw yea at is in cc)
by_stop set l now false nay is = absurd (let k = rw nay at is in cc)

by_expiry : (set : Params) (l : Ledger) (now : ℕ) (b : Bool) → state_of_ledger set (Some (if b then l else expired_at l (Some now))) ≡ Go → state_of_ledger set (Some l) ≡ Go
by_expiry set l now true is = is
by_expiry set l now false is = by_stop set l now l.is_stopped refl is

-- a filter that runs after the expiry ran before the call
pub ran_before : (set : Params) (timeout now : ℕ) (o : Option Ledger) → state_of_filter set (option_map (expiring timeout now) o) ≡ Go → state_of_filter set o ≡ Go
ran_before Empty timeout now o is = absurd (cc)
ran_before (Section p) timeout now None is = is
ran_before (Section p) timeout now (Some l) is = by_expiry (Section p) l now (l.is_stopped || (is_some l.expired || not (is_due timeout now l))) is
ran_before (Pes p) timeout now None is = is
ran_before (Pes p) timeout now (Some l) is = by_expiry (Pes p) l now (l.is_stopped || (is_some l.expired || not (is_due timeout now l))) is
