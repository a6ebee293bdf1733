-- When each answer to a Read comes.
use Rattle.node_buffer.proofs.Imports.{ℕ, ◌-◌, ◌<◌, ◌≤◌, ◌≡◌, refl, Bool, true, false, List, [], ◌∷◌, Option, Some, None, length, take, drop, arith, length-take, if◌then◌else◌, not, ◌&&◌, nat_eq, nat_lt, is_some, option_map, concat, nat_tests, Response, Data, Again, Overflow, TimedOut, Passed, Params, Empty, Section, Pes, timeout_of, Misfit, Ledger, Facts, unread_of, rest_of, is_empty, is_section, read_terms, timed_out_of, most_bytes, first_of, read_response, expired_of, with_response, UnreadFits, Coherent, gives_no_bytes, gives_bytes, ReadCausesBy, ReadCauses}
use Rattle.node_buffer.proofs.Rests.{rest_some}

-- on a section filter, where something is unread, something is left of the section at the front
abbrev pub StillToRead : Params → (unread : List ℕ) → (rest : ℕ) → Type 0
StillToRead (Section p) unread rest = 0 < length unread → 0 < rest
StillToRead _ unread rest = Unit {0}

-- up to an edge that isn't behind the items
pub still_by : (set : Params) (to : ℕ) (xs : List (List ℕ)) (n : ℕ) → to ≤ length (concat xs) → StillToRead set (unread_of to n (concat xs)) (rest_of set to xs n)
still_by Empty to xs n within = tt
still_by (Pes p) to xs n within = tt
still_by (Section p) to xs n within = λ some.
    let before : n < to = omega (arith, some, length-take (to - n) (drop n (concat xs))) in
    let test : nat_lt n to ≡ true = grind (arith, nat_tests) in
    rw test (rest_some xs n (omega (arith, before, within)))

-- what a Read rests on
abbrev pub Readable : Params → Option Ledger → Type 0
Readable set None = Unit {0}
Readable set (Some l) = Coherent l × StillToRead set l.unread l.rest

some_length : (xs : List ℕ) → is_empty xs ≡ false → 0 < length xs
some_length [] some = absurd (cc)
some_length (x ∷ xs) some = omega arith

-- bytes that are there
some_bytes : (xs : List ℕ) → 0 < length xs → (gives_no_bytes (Data xs) ≡ false) × (gives_bytes (Data xs) ≡ true)
some_bytes [] lt = absurd (omega (arith, lt))
some_bytes (x ∷ xs) lt = (refl, refl)

most_some : (set : Params) (l : Ledger) (count : ℕ) → StillToRead set l.unread l.rest → 0 < length l.unread → 0 < count → 0 < most_bytes (is_section set) l count
most_some Empty l count still some asked = omega (arith, some, asked)
most_some (Pes p) l count still some asked = omega (arith, some, asked)
most_some (Section p) l count still some asked = omega (arith, some, asked, still some)

module _ (f : Facts) (l : Ledger) (count : ℕ) (still : StillToRead f.params l.unread l.rest) where
  abbrev last : Response
  last = Data (take (most_bytes (is_section f.params) l count) l.unread)

  abbrev from_again : List (Option Response)
  from_again = (if nat_eq l.answered l.total then Some (Again f.has_ended) else None) ∷ []

  abbrev from_nothing : List (Option Response)
  from_nothing = (if nat_eq count 0 then Some (Data []) else None) ∷ from_again

  -- where bytes are asked for
  by_place : (b : Bool) → (b ≡ false → 0 < length l.unread) → nat_eq count 0 ≡ false
      → ReadCausesBy true false false b count (first_of ((if b then Some (Again f.has_ended) else None) ∷ []) last)
  by_place true some asked =
      let above : nat_lt 0 count ≡ true = grind (arith, nat_tests) in
      record { overflows = refl; times_out = refl; waits = rw above refl; gives_none = rw asked refl; gives_some = rw above refl }
  by_place false some asked =
      let above : nat_lt 0 count ≡ true = grind (arith, nat_tests) in
      let lt : 0 < count = grind (arith, nat_tests) in
      let most : 0 < most_bytes (is_section f.params) l count = most_some f.params l count still (some refl) lt in
      let k = some_bytes (take (most_bytes (is_section f.params) l count) l.unread) (omega (arith, some refl, most, length-take (most_bytes (is_section f.params) l count) l.unread)) in
      record { overflows = refl; times_out = refl; waits = rw above refl; gives_none = rw (asked, k.0) refl; gives_some = rw (above, k.1) refl }

  by_count : (b : Bool) → (nat_eq l.answered l.total ≡ false → 0 < length l.unread) → nat_eq count 0 ≡ b
      → ReadCausesBy true false false (nat_eq l.answered l.total) count (first_of ((if b then Some (Data []) else None) ∷ from_again) last)
  by_count true some none =
      let below : nat_lt 0 count ≡ false = grind (arith, nat_tests) in
      record { overflows = refl; times_out = refl; waits = rw below refl; gives_none = rw none refl; gives_some = rw below refl }
  by_count false some asked = by_place (nat_eq l.answered l.total) some asked

  by_expiry : (b : Bool) (x : Option ℕ) → (nat_eq l.answered l.total ≡ false → 0 < length l.unread)
      → ReadCausesBy true false (is_some x && not b) (nat_eq l.answered l.total) count
      (first_of ((if b then None else option_map (λ moment. TimedOut l.started moment (timeout_of f.params)) x) ∷ from_nothing) last)
  by_expiry true None some = by_count (nat_eq count 0) some refl
  by_expiry true (Some m) some = by_count (nat_eq count 0) some refl
  by_expiry false None some = by_count (nat_eq count 0) some refl
  by_expiry false (Some m) some = record { overflows = refl; times_out = refl; waits = refl; gives_none = refl; gives_some = refl }

  by_over : (x : Option ℕ) (o : Option Misfit) (b : Bool) → l.answered ≤ l.total → UnreadFits o l.unread l.answered l.total → is_empty l.unread ≡ b
      → ReadCausesBy true (is_some o && b) (is_some x && not l.is_told) (nat_eq l.answered l.total) count
      (first_of (option_map (λ y. Overflow l.answered l.total y.item y.need y.room) (if b then o else None) ∷ timed_out_of (read_terms f) l x ∷ from_nothing) last)
  by_over x None true le unread none = by_expiry l.is_told x (λ left. let less : l.answered < l.total = grind (arith, nat_tests, le) in omega (arith, less, unread))
  by_over x None false le unread some = by_expiry l.is_told x (λ left. some_length l.unread some)
  by_over x (Some m) true le unread none = record { overflows = refl; times_out = refl; waits = refl; gives_none = refl; gives_some = refl }
  by_over x (Some m) false le unread some = by_expiry l.is_told x (λ left. some_length l.unread some)

pub read_cause : (f : Facts) (o : Option Ledger) (x : Option ℕ) (count : ℕ) → Readable f.params o → ReadCauses o x count (read_response f o x count)
read_cause f None x count k = record { overflows = refl; times_out = refl; waits = refl; gives_none = refl; gives_some = refl }
read_cause f (Some l) x count k = by_over f l count k.1 x l.over (is_empty l.unread) k.0.answered k.0.unread refl

-- the expiry after the Read doesn't hang on its response
expired_kept : (sec : Bool) (r : Response) (l : Ledger) → (with_response sec r l).expired ≡ l.expired
expired_kept sec Passed l = refl
expired_kept sec _ l = refl

pub expired_either : (sec : Bool) (r : Response) (step : Ledger → Ledger) (o : Option Ledger)
    → expired_of (option_map (λ l. with_response sec r (step l)) o) ≡ expired_of (option_map (λ l. with_response sec Passed (step l)) o)
expired_either sec r step None = refl
expired_either sec r step (Some l) = expired_kept sec r (step l)
