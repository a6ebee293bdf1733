-- What a selector keeps stands for the packets offered, packet by packet and item by item.
use Rattle.item_select.proofs.Imports.{◌≡◌, ◌≢◌, ℕ, ◌≤◌, ◌&&◌, ◌||◌, subst, Bool, true, false, List, [], ◌∷◌, ◌++◌, length, take, drop, Option, Some, None, refl, sym, ap, ◌∙◌, arith, append_assoc, length-drop, suc, ◌+◌, append-nil, filter-append, filter_map-append, sum_by-cons, sum_by-take-le, sum_by-append, filter_map, sum_by, SectionFilter, payload_of, payload_start, has_payload, Assembly, after_packet, all_taken, length_of, goes, kept-stands, kept-append, Assembled-push, carried-few, stay, Give, Payload, Whole, Choice, Nothing, Sections, Packets, is_selected, first_if, given_by, Selecting, Selects, Follows, begun, is_once, listed, is_ready, without_first, bytes_held, OneIsAll, OneIsGiven, AllAreGiven, kept as kept_after_all, items_of}
use Rattle.std.specs.List.{filter}
use Rattle.ts_packet.specs.Clean.{clean, without_repeats_after}
use Rattle.section_parse.specs.Segments.{runs}
use Rattle.section_parse.specs.Sections.{sections}
use Rattle.item_select.specs.Selecting.{after_offer, all_given, items_found, kept_after}

abbrev pub of : Choice → Assembly → Bool → List (List ℕ) → Selecting
of choice kept is_spent ready = record { choice = choice; kept = kept; is_spent = is_spent; ready = ready }

none-more : (is_spent is_once : Bool) → (is_spent || (is_once && is_ready [])) ≡ is_spent
none-more true once = refl
none-more false true = refl
none-more false false = refl

-- ------ a filter that begins

begun-first : (once : Bool) → first_if once [] ≡ []
begun-first true = refl
begun-first false = refl

pub Selects-begun : (choice : Choice) → Selects [] [] (begun choice)
unfolding items_of sections clean without_repeats_after runs kept_after_all
Selects-begun Nothing = record { so_far = refl; follows = refl }
Selects-begun (Packets give) = record { so_far = refl; follows = refl }
Selects-begun (Sections pid wanted check once) = record { so_far = begun-first once; follows = (λ e. (refl, λ t. refl), λ e. absurd cc) }

-- ------ a packet is offered

-- the sections of one packet more
sections-one : (pid : ℕ) (packets : List (List ℕ)) (p : List ℕ) → sections (packets ++ p ∷ []) pid ≡ sections packets pid ++ (after_packet (kept_after_all pid packets) p).ready
sections-one pid packets p =
    let k = kept-stands pid packets in
    let g = goes (kept_after_all pid packets) p k.drained k.stands.settled in
    let h = Assembled-push packets (sections packets pid) p (kept_after_all pid packets) k.drained k.stands in
    let e : sections (packets ++ p ∷ []) (after_packet (kept_after_all pid packets) p).pid ≡ sections packets pid ++ (after_packet (kept_after_all pid packets) p).ready = h.so_far in
    rw (g.pid ∙ k.same) at e

take-none : (xs : List (List ℕ)) → take 1 xs ≡ [] → xs ≡ []
take-none [] e = refl
take-none (x ∷ xs) e = absurd cc

take-some : (xs ys : List (List ℕ)) → take 1 xs ≢ [] → take 1 (xs ++ ys) ≡ take 1 xs
take-some [] ys n = absurd (n refl)
take-some (x ∷ xs) ys n = refl

-- a filter that goes on: what came before was given, of a one-shot filter nothing
first-more : (once : Bool) (xs ys given : List (List ℕ)) → first_if once xs ≡ given ++ [] → (once ≡ true → given ≡ []) → first_if once (xs ++ ys) ≡ given ++ first_if once ys
first-more false xs ys given e n = rw (e, append-nil given) refl
first-more true xs ys given e n =
    let g = n refl in
    let t : take 1 xs ≡ [] = e ∙ rw g refl in
    rw (take-none xs t, g) refl

offer-going : (pid : ℕ) (wanted : SectionFilter) (check once : Bool) (kept : Assembly) (offered given : List (List ℕ)) (p : List ℕ)
    → Selects offered given (of (Sections pid wanted check once) kept false [])
    → Selects (offered ++ p ∷ []) given (of (Sections pid wanted check once) (all_taken (after_packet kept p)) false (first_if once (filter (is_selected wanted check) (after_packet kept p).ready)))
unfolding items_of
offer-going pid wanted check once kept offered given p h =
    let f = h.follows.0 refl in
    let more = first-more once (filter (is_selected wanted check) (sections offered pid)) (filter (is_selected wanted check) (after_packet kept p).ready) given h.so_far f.1 in
    record {
      so_far = rw (sections-one pid offered p, filter-append (is_selected wanted check) (sections offered pid) (after_packet (kept_after_all pid offered) p).ready, ← f.0) more;
      follows = (λ e. (rw (kept-append pid offered p, f.0) refl, f.1), λ e. absurd cc);
    }

-- a one-shot filter that has given its section
first-all : (pid : ℕ) (wanted : SectionFilter) (check : Bool) (packets more given : List (List ℕ)) → given ≢ [] → take 1 (filter (is_selected wanted check) (sections packets pid)) ≡ given
    → take 1 (filter (is_selected wanted check) (sections (packets ++ more) pid)) ≡ given
first-all pid wanted check packets more given n e =
    let m = stay packets more pid in
    let xs = filter (is_selected wanted check) (sections packets pid) in
    let ys = filter (is_selected wanted check) m.0 in
    rw (m.1, filter-append (is_selected wanted check) (sections packets pid) m.0) (take-some xs ys (rw (← e) at n) ∙ e)

pub spent-selects : OneIsAll
unfolding items_of
spent-selects offered more given s h spent ready = go s.choice s.kept s.is_spent s.ready spent ready h
  where
    go : (choice : Choice) (kept : Assembly) (is_spent : Bool) (ready : List (List ℕ)) → is_spent ≡ true → ready ≡ [] → Selects offered given (of choice kept is_spent ready) → Selects (offered ++ more) given (of choice kept is_spent ready)
    go Nothing kept is_spent ready e r k = record { so_far = k.so_far; follows = k.follows }
    go (Packets give) kept is_spent ready e r k = absurd (let f = k.follows in cc)
    go (Sections pid wanted check true) kept is_spent ready e r k =
        let f = k.follows.1 e in
        let given_all : take 1 (filter (is_selected wanted check) (sections offered pid)) ≡ given = k.so_far ∙ rw r (append-nil given) in
        record {
          so_far = rw (r, append-nil given) (first-all pid wanted check offered more given f.1 given_all);
          follows = (λ g. absurd cc, λ g. f);
        }
    go (Sections pid wanted check false) kept is_spent ready e r k = absurd (let f = (k.follows.1 e).0 in cc)

-- a filter of packets
filter_map-one : (f : List ℕ → Option (List ℕ)) (o : List ℕ) (r : Option (List ℕ)) → f o ≡ r → filter_map f (o ∷ []) ≡ listed r
filter_map-one f o None e = rw e refl
filter_map-one f o (Some x) e = rw e refl

offer-packet : (give : Give) (kept : Assembly) (is_spent : Bool) (offered given : List (List ℕ)) (p : List ℕ)
    → Selects offered given (of (Packets give) kept is_spent [])
    → Selects (offered ++ p ∷ []) given (of (Packets give) kept is_spent (listed (given_by give p)))
unfolding items_of
offer-packet give kept is_spent offered given p h =
    record {
      so_far = filter_map-append (given_by give) offered (p ∷ []) ∙ rw (filter_map-one (given_by give) p (given_by give p) refl, h.so_far, append-nil given) refl;
      follows = h.follows;
    }

offer-by : (choice : Choice) (kept : Assembly) (is_spent : Bool) (offered given : List (List ℕ)) (p : List ℕ)
    → Selects offered given (of choice kept is_spent []) → Selects (offered ++ p ∷ []) given (after_offer (of choice kept is_spent []) p)
unfolding after_offer items_of
offer-by Nothing kept is_spent offered given p h = record { so_far = h.so_far; follows = h.follows }
offer-by (Packets give) kept is_spent offered given p h = offer-packet give kept is_spent offered given p h
offer-by (Sections pid wanted check once) kept false offered given p h = offer-going pid wanted check once kept offered given p h
offer-by (Sections pid wanted check once) kept true offered given p h = spent-selects offered (p ∷ []) given (of (Sections pid wanted check once) kept true []) h refl refl

pub Selects-offer : (offered given : List (List ℕ)) (s : Selecting) (p : List ℕ) → s.ready ≡ [] → Selects offered given s → Selects (offered ++ p ∷ []) given (after_offer s p)
Selects-offer offered given s p e h =
    let P : List (List ℕ) → Type 0 = λ r. Selects offered given (of s.choice s.kept s.is_spent r) → Selects (offered ++ p ∷ []) given (after_offer (of s.choice s.kept s.is_spent r) p) in
    subst P (sym e) (λ k. offer-by s.choice s.kept s.is_spent offered given p k) h

pub Selects-offered : (offered given : List (List ℕ)) (s new : Selecting) (p : List ℕ) → new ≡ after_offer s p → s.ready ≡ [] → Selects offered given s → Selects (offered ++ p ∷ []) given new
Selects-offered offered given s new p v e h = rw v (Selects-offer offered given s p e h)

-- ------ items are given

append-some : (xs ys : List (List ℕ)) (x : List ℕ) → xs ++ (x ∷ ys) ≢ []
append-some [] ys x e = cc
append-some (y ∷ xs) ys x e = cc

-- whether the filter is spent once some items were given
spent-by : (choice : Choice) (kept : Assembly) (is_spent : Bool) (offered : List (List ℕ)) (given some : List (List ℕ)) (old new : List (List ℕ)) → some ≢ []
    → Follows choice offered given (of choice kept is_spent old) → Follows choice offered (given ++ some) (of choice kept (is_spent || (is_once choice && true)) new)
spent-by Nothing kept is_spent offered given some old new n f = rw f refl
spent-by (Packets give) kept is_spent offered given some old new n f = rw f refl
spent-by (Sections pid wanted check false) kept false offered given some old new n f = (λ e. ((f.0 refl).0, λ t. absurd cc), λ e. absurd cc)
spent-by (Sections pid wanted check false) kept true offered given some old new n f = absurd (let z = (f.1 refl).0 in cc)
spent-by (Sections pid wanted check true) kept is_spent offered given some old new n f =
    (λ e. absurd (spent e), λ e. (refl, nonempty some n))
  where
    spent : (is_spent || (true && true)) ≡ false → ⊥
    spent e = grind (arith)

    nonempty : (xs : List (List ℕ)) → xs ≢ [] → given ++ xs ≢ []
    nonempty [] m = λ e. m refl
    nonempty (x ∷ xs) m = append-some given xs x

pub Selects-next : (offered given : List (List ℕ)) (x : List ℕ) (rest : List (List ℕ)) (s : Selecting) → s.ready ≡ x ∷ rest → Selects offered given s → Selects offered (given ++ x ∷ []) (without_first s)
Selects-next offered given x rest s e h =
    let P : List (List ℕ) → Type 0 = λ r. Selects offered given (of s.choice s.kept s.is_spent r) → Selects offered (given ++ x ∷ []) (without_first (of s.choice s.kept s.is_spent r)) in
    subst P (sym e) (λ k. record { so_far = k.so_far ∙ sym (append_assoc given (x ∷ []) rest); follows = spent-by s.choice s.kept s.is_spent offered given (x ∷ []) (x ∷ rest) rest (λ z. cc) k.follows }) h

pub Selects-all_given : (offered given : List (List ℕ)) (s : Selecting) → Selects offered given s → Selects offered (given ++ s.ready) (all_given s)
Selects-all_given offered given s h = go s.choice s.kept s.is_spent s.ready h
  where
    go : (choice : Choice) (kept : Assembly) (is_spent : Bool) (ready : List (List ℕ)) → Selects offered given (of choice kept is_spent ready) → Selects offered (given ++ ready) (all_given (of choice kept is_spent ready))
    go choice kept is_spent [] k = rw (append-nil given, none-more is_spent (is_once choice)) k
    go choice kept is_spent (x ∷ rest) k = record {
      so_far = k.so_far ∙ sym (append-nil (given ++ (x ∷ rest)));
      follows = spent-by choice kept is_spent offered given (x ∷ rest) (x ∷ rest) [] (λ z. cc) k.follows;
    }

-- without an item to give nothing changes
pub without_first-none : (s : Selecting) → s.ready ≡ [] → without_first s ≡ s
without_first-none s e =
    let P : List (List ℕ) → Type 0 = λ r. without_first (of s.choice s.kept s.is_spent r) ≡ of s.choice s.kept s.is_spent r in
    subst P (sym e) (rw (none-more s.is_spent (is_once s.choice)) refl)

-- ------ the bytes

sum-filter : (p : List ℕ → Bool) (xs : List (List ℕ)) → sum_by length (filter p xs) ≤ sum_by length xs
sum-filter p [] = omega arith
sum-filter p (x ∷ xs) = go (p x) refl (sum-filter p xs)
  where
    go : (b : Bool) → p x ≡ b → sum_by length (filter p xs) ≤ sum_by length xs → sum_by length (filter p (x ∷ xs)) ≤ sum_by length (x ∷ xs)
    go true e h = rw e (omega (arith, h, sum_by-cons length x xs, sum_by-cons length x (filter p xs)))
    go false e h = rw e (omega (arith, h, sum_by-cons length x xs))

pub sum-selected : (once : Bool) (p : List ℕ → Bool) (xs : List (List ℕ)) → sum_by length (first_if once (filter p xs)) ≤ sum_by length xs
sum-selected true p xs = omega (arith, sum-filter p xs, sum_by-take-le length (filter p xs) 1)
sum-selected false p xs = sum-filter p xs

sum-payload : (p : List ℕ) (b : Bool) → has_payload p ≡ b → length p ≡ 188 → sum_by length (listed (payload_of p)) ≤ 188
sum-payload p true e l = rw e (omega (arith, length-drop (payload_start p) p, sum_by-cons length (drop (payload_start p) p) []))
sum-payload p false e l = rw e (omega arith)

pub sum-packet : (give : Give) (p : List ℕ) → length p ≡ 188 → sum_by length (listed (given_by give p)) ≤ 188
sum-packet Whole p l = rw l (omega (arith, sum_by-cons length p []))
sum-packet Payload p l = sum-payload p (has_payload p) refl l

-- a packet adds at most its 188 bytes
section-bytes : (pid : ℕ) (wanted : SectionFilter) (check once : Bool) (packets : List (List ℕ)) (p : List ℕ) → length p ≡ 188
    → sum_by length (first_if once (filter (is_selected wanted check) (after_packet (kept_after_all pid packets) p).ready)) + length_of (after_packet (kept_after_all pid packets) p).open_now ≤ length_of (kept_after_all pid packets).open_now + 188
section-bytes pid wanted check once packets p l =
    let k = kept-stands pid packets in
    let g = goes (kept_after_all pid packets) p k.drained k.stands.settled in
    let b = g.bytes (carried-few p l) in
    let none = ap (λ l. sum_by length l) k.drained in
    omega (arith, b, none, sum-selected once (is_selected wanted check) (after_packet (kept_after_all pid packets) p).ready)

offer-bytes-by : (choice : Choice) (kept : Assembly) (is_spent : Bool) (offered given : List (List ℕ)) (p : List ℕ) → length p ≡ 188
    → Selects offered given (of choice kept is_spent []) → bytes_held (after_offer (of choice kept is_spent []) p) ≤ bytes_held (of choice kept is_spent []) + 188
unfolding after_offer
offer-bytes-by Nothing kept is_spent offered given p l h = omega arith
offer-bytes-by (Packets give) kept is_spent offered given p l h = omega (arith, sum-packet give p l)
offer-bytes-by (Sections pid wanted check once) kept true offered given p l h = omega arith
offer-bytes-by (Sections pid wanted check once) kept false offered given p l h =
    let e = (h.follows.0 refl).0 in
    rw e (omega (arith, section-bytes pid wanted check once (offered) p l))

offer-bytes : (offered given : List (List ℕ)) (s : Selecting) (p : List ℕ) → length p ≡ 188 → s.ready ≡ [] → Selects offered given s → bytes_held (after_offer s p) ≤ bytes_held s + 188
offer-bytes offered given s p l e h =
    let P : List (List ℕ) → Type 0 = λ r. Selects offered given (of s.choice s.kept s.is_spent r) → bytes_held (after_offer (of s.choice s.kept s.is_spent r) p) ≤ bytes_held (of s.choice s.kept s.is_spent r) + 188 in
    subst P (sym e) (λ k. offer-bytes-by s.choice s.kept s.is_spent offered given p l k) h

-- ------ packets in a row

-- a packet doesn't change the filter

offer-keeps : (s : Selecting) (p : List ℕ) → (after_offer s p).choice ≡ s.choice
unfolding after_offer
offer-keeps s p = go s.choice s.kept s.is_spent s.ready
  where
    go : (choice : Choice) (kept : Assembly) (is_spent : Bool) (ready : List (List ℕ)) → (after_offer (of choice kept is_spent ready) p).choice ≡ choice
    go Nothing kept is_spent ready = refl
    go (Packets give) kept is_spent ready = refl
    go (Sections pid wanted check once) kept true ready = refl
    go (Sections pid wanted check once) kept false ready = refl

pub all-selects : AllAreGiven
unfolding items_found kept_after
all-selects [] offered given s h e = record {
  stands = rw (append-nil offered, append-nil given) h;
  drained = e;
  choice = refl;
  bytes = λ few. omega arith;
}
all-selects (p ∷ ps) offered given s h e =
    let now = after_offer s p in
    let one = Selects-offer offered given s p e h in
    let all = Selects-all_given (offered ++ p ∷ []) given now one in
    let r = all-selects ps (offered ++ p ∷ []) (given ++ now.ready) (all_given now) all refl in
    record {
      stands = rw (append_assoc offered (p ∷ []) ps, append_assoc given now.ready (items_found (all_given now) ps)) at r.stands;
      drained = r.drained;
      choice = r.choice ∙ offer-keeps s p;
      bytes = λ few. omega (arith, r.bytes (λ i d below. few (suc i) d (omega (arith, below))), offer-bytes offered given s p (few 0 [] (omega arith)) e h, sum_by-append length now.ready (items_found (all_given now) ps));
    }

-- ------ a one-shot filter

pub once-spent : OneIsGiven
once-spent offered given s h once some = go s.choice s.kept s.is_spent s.ready once h
  where
    go : (choice : Choice) (kept : Assembly) (is_spent : Bool) (ready : List (List ℕ)) → is_once choice ≡ true → Selects offered given (of choice kept is_spent ready) → is_spent ≡ true
    go Nothing kept is_spent ready e k = absurd cc
    go (Packets give) kept is_spent ready e k = absurd cc
    go (Sections pid wanted check one) kept true ready e k = refl
    go (Sections pid wanted check one) kept false ready e k = absurd (some ((k.follows.0 refl).1 e))

-- ------ for a loop over the items, and over the packets
