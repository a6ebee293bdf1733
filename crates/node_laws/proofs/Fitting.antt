-- An answer fits: it gives the next bytes up to the edge, or names those that are lost from there on.
use Rattle.node_laws.proofs.Imports.{ℕ, zero, suc, ◌≤◌, ◌≡◌, refl, sym, ◌∙◌, ap, Bool, true, false, List, [], ◌∷◌, ◌++◌, Option, Some, None, length, drop, take, arith, inl, inr, length-take, length-drop, ◌+◌, ◌-◌, if◌then◌else◌, nat_eq, take-append-le, drop-append-le, drop-nil, dec_le, Errno, Invocation, Open, Close, SetFilter, SetPes, AddPid, RemovePid, Start, Stop, SetSize, Read, Poll, Pass, End, Attach, Detach, Response, Done, Busy, Refused, NoMemory, Data, Again, Overflow, TimedOut, Ready, Passed, is_accepted, TapChange, Event, History, is_empty, event, entry_of, Since, Rules, joined, answered, edge, answered_in, is_overflow, Ledger, Facts, unread_of, ledger_at, ledger_of, ReadTerms, read_terms, refusal_to, most_bytes, response_of_read, expired_of, open_response, done_dropping, response_to, response_unless, with_call, May, Fits, AllFit, read_each, facts}
use Rattle.dmx_calls.specs.Ledger.{total}
use Rattle.dmx_calls.specs.Answer.{answer}

-- ------ lists

short : (d xs : List ℕ) → d ≡ take (length d) xs → length d ≤ length xs
short d xs is = omega (arith, ap length is, length-take (length d) xs)

drop-past : {A : Type 0} (n : ℕ) (xs : List A) → length xs ≤ n → drop n xs ≡ []
drop-past n [] le = drop-nil n
drop-past zero (x ∷ xs) le = absurd (omega arith)
drop-past (suc n) (x ∷ xs) le = drop-past n xs (omega arith)

none_long : (d : List ℕ) → length d ≤ 0 → d ≡ []
none_long [] le = refl
none_long (x ∷ d) le = absurd (omega arith)

fits_more : (d xs ys : List ℕ) (n : ℕ) → d ≡ take (length d) (drop n xs) → d ≡ take (length d) (drop n (xs ++ ys))
fits_more d xs ys n is = by_place (dec_le n (length xs)) where
  by_place : Dec (n ≤ length xs) → d ≡ take (length d) (drop n (xs ++ ys))
  by_place (yes le) = rw (drop-append-le n xs ys le) (is ∙ sym (take-append-le (length d) (drop n xs) ys (short d (drop n xs) is)))
  by_place (no far) = let e : d ≡ [] = none_long d (omega (arith, short d (drop n xs) is, ap length (drop-past n xs (omega (arith, far))))) in rw e refl

took : (n : ℕ) (xs : List ℕ) → take n xs ≡ take (length (take n xs)) xs
took zero xs = refl
took (suc n) [] = refl
took (suc n) (x ∷ xs) = ap (λ ys. x ∷ ys) (took n xs)

take_within : (n m : ℕ) (xs : List ℕ) → n ≤ m → take n (take m xs) ≡ take n xs
take_within zero m xs le = refl
take_within (suc n) zero xs le = absurd (omega (arith, le))
take_within (suc n) (suc m) [] le = refl
take_within (suc n) (suc m) (x ∷ xs) le = ap (λ ys. x ∷ ys) (take_within n m xs (omega (arith, le)))

-- bytes of what is unread, up to this edge
took_of : (n to a : ℕ) (us xs : List ℕ) → us ≡ unread_of to a xs → a ≤ to → (take n us ≡ take (length (take n us)) (drop a xs)) × (a + length (take n us) ≤ to)
took_of n to a us xs is le =
    let short : length us ≤ to - a = omega (arith, ap length is, length-take (to - a) (drop a xs)) in
    let few : length (take n us) ≤ to - a = omega (arith, short, length-take n us) in
    (took n us ∙ (ap (take (length (take n us))) is ∙ take_within (length (take n us)) (to - a) (drop a xs) few), omega (arith, few, le))

-- nothing is unread at the edge alone
at_the_edge : (to a : ℕ) (xs : List ℕ) → a ≤ to → to ≤ length xs → unread_of to a xs ≡ [] → a ≡ to
at_the_edge to a xs le within none = omega (arith, le, within, ap length none, length-take (to - a) (drop a xs), length-drop a xs)

no_byte : (xs : List ℕ) → is_empty xs ≡ true → xs ≡ []
no_byte [] none = refl
no_byte (x ∷ xs) none = absurd (cc)

module _ (node : Rules) where
  -- ------ a response stands where more bytes follow

  pub Fits_more : (bytes new : List ℕ) (h : History) (r : Response) → Fits node bytes h r → Fits node (bytes ++ new) h r
  Fits_more bytes new h (Done a b tap) fit = tt
  Fits_more bytes new h (Busy who) fit = tt
  Fits_more bytes new h (Refused x) fit = tt
  Fits_more bytes new h NoMemory fit = tt
  Fits_more bytes new h (Data d) fit = (fits_more d bytes new (answered node h) fit.0, fit.1)
  Fits_more bytes new h (Again b) fit = tt
  Fits_more bytes new h (Overflow a b c d e) fit = fit
  Fits_more bytes new h (TimedOut a b c) fit = tt
  Fits_more bytes new h (Ready a b c d) fit = tt
  Fits_more bytes new h Passed fit = tt

  pub AllFit_more : (bytes new : List ℕ) (evs : List Event) → AllFit node bytes evs → AllFit node (bytes ++ new) evs
  AllFit_more bytes new [] fit = tt
  AllFit_more bytes new (ev ∷ evs) fit = (AllFit_more bytes new evs fit.0, Fits_more bytes new ev.before ev.entry.response fit.1)

  -- ------ the answer stands

  dropping_fits : (bytes : List ℕ) (h : History) (o : Option Ledger) (tap : TapChange) → Fits node bytes h (done_dropping o tap)
  dropping_fits bytes h None tap = tt
  dropping_fits bytes h (Some l) tap = tt

  if_fits : (bytes : List ℕ) (h : History) (b : Bool) (x y : Response) → Fits node bytes h x → Fits node bytes h y → Fits node bytes h (if b then x else y)
  if_fits bytes h true x y fx fy = fx
  if_fits bytes h false x y fx fy = fy

  module _ (h : History) (le : answered node h ≤ edge node h) (within : edge node h ≤ total node h) where
    no_bytes_fit : Fits node (joined node h) h (Data [])
    no_bytes_fit = (refl, omega (arith, le))

    read_fits : (t : ReadTerms) (o : Option Since) (m : Option ℕ) (count : ℕ) → Fits node (joined node h) h (response_of_read t (ledger_of node h o) m count)
    unfolding total
    read_fits t None m count = no_bytes_fit
    read_fits t (Some s) m count =
        let l : Ledger = ledger_at node h in
        let most : ℕ = most_bytes t.by_section l count in
        read_each (Fits node (joined node h) h) t l m count
        (λ x is none. (refl, at_the_edge (edge node h) (answered node h) (joined node h) le within (no_byte l.unread none), refl)) (λ moment is. tt) no_bytes_fit tt
        (took_of most (edge node h) (answered node h) l.unread (joined node h) refl le)

  open_fits : (bytes : List ℕ) (h : History) (o : Option ℕ) → Fits node bytes h (open_response o)
  open_fits bytes h None = tt
  open_fits bytes h (Some who) = tt

  pub response_fits : (h : History) → answered node h ≤ edge node h → edge node h ≤ total node h → (g : Facts) (call : Invocation)
      → Fits node (joined node h) h (response_to (facts node h) g call)
  unfolding facts
  response_fits h le within g Open = open_fits (joined node h) h (facts node h).owner
  response_fits h le within g Close = dropping_fits (joined node h) h (facts node h).ledger _
  response_fits h le within g (SetFilter p now) = dropping_fits (joined node h) h (facts node h).ledger _
  response_fits h le within g (SetPes p now) = dropping_fits (joined node h) h (facts node h).ledger _
  response_fits h le within g (AddPid n) = tt
  response_fits h le within g (RemovePid n) = tt
  response_fits h le within g (Start now) = dropping_fits (joined node h) h (facts node h).ledger _
  response_fits h le within g Stop = tt
  response_fits h le within g (SetSize n) = if_fits (joined node h) h (nat_eq n (facts node h).size) _ _ tt (dropping_fits (joined node h) h (facts node h).ledger _)
  response_fits h le within g (Read now count) = read_fits h le within (read_terms (facts node h)) (node.capture h) (expired_of g.ledger) count
  response_fits h le within g (Poll now) = tt
  response_fits h le within g (Pass i first ps now) = tt
  response_fits h le within g End = tt
  response_fits h le within g (Attach n ps) = tt
  response_fits h le within g (Detach n) = tt

  granted : (o : Option Errno) (r x : Response) → r ≡ response_unless o x → is_accepted r ≡ true → r ≡ x
  granted None r x is ok = is
  granted (Some errno) r x is ok = absurd (let k : is_accepted (Refused errno) ≡ true = rw is at ok in cc)

  -- an accepted response that is allowed is the answer, and no refusal
  pub allowed_response : (h : History) (who : ℕ) (call : Invocation) (r : Response) → May node h who call r → is_accepted r ≡ true
      → r ≡ response_to (facts node h) (facts node (with_call h who call)) call
  unfolding answer
  allowed_response h who call r (inl is) ok = granted (refusal_to node.kind (facts node h) who call) r (response_to (facts node h) (facts node (with_call h who call)) call) is ok
  allowed_response h who call r (inr (is, y, z)) ok = absurd (let k : is_accepted NoMemory ≡ true = rw is at ok in cc)

  -- ------ a response answers no more than is unread

  pub answers_unread : (h : History) (who : ℕ) (call : Invocation) (r : Response) → answered node h ≤ edge node h → edge node h ≤ total node h → Fits node (joined node h) h r
      → answered_in (event (entry_of who call r) h) + answered node h ≤ total node h
  answers_unread h who call (Done a b tap) le within fits = omega (arith, le, within)
  answers_unread h who call (Busy o) le within fits = omega (arith, le, within)
  answers_unread h who call (Refused x) le within fits = omega (arith, le, within)
  answers_unread h who call NoMemory le within fits = omega (arith, le, within)
  answers_unread h who call (Data d) le within fits = omega (arith, within, fits.1)
  answers_unread h who call (Again b) le within fits = omega (arith, le, within)
  answers_unread h who call (Overflow from to item need room) le within fits = omega (arith, le, within, fits.0, fits.2)
  answers_unread h who call (TimedOut a b c) le within fits = omega (arith, le, within)
  answers_unread h who call (Ready a b c d) le within fits = omega (arith, le, within)
  answers_unread h who call Passed le within fits = omega (arith, le, within)

  -- but for an Overflow, none behind the edge
  pub answers_within : (h : History) (who : ℕ) (call : Invocation) (r : Response) → answered node h ≤ edge node h → Fits node (joined node h) h r
      → is_overflow (event (entry_of who call r) h) ≡ false → answered_in (event (entry_of who call r) h) + answered node h ≤ edge node h
  answers_within h who call (Done a b tap) le fits quiet = omega (arith, le)
  answers_within h who call (Busy o) le fits quiet = omega (arith, le)
  answers_within h who call (Refused x) le fits quiet = omega (arith, le)
  answers_within h who call NoMemory le fits quiet = omega (arith, le)
  answers_within h who call (Data d) le fits quiet = omega (arith, fits.1)
  answers_within h who call (Again b) le fits quiet = omega (arith, le)
  answers_within h who call (Overflow from to item need room) le fits quiet = absurd (cc)
  answers_within h who call (TimedOut a b c) le fits quiet = omega (arith, le)
  answers_within h who call (Ready a b c d) le fits quiet = omega (arith, le)
  answers_within h who call Passed le fits quiet = omega (arith, le)
