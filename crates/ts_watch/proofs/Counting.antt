-- How the counts of a list of packets change with one packet behind it.
use Rattle.ts_watch.proofs.Imports.{if◌then◌else◌, ◌≡◌, ℕ, ◌+◌, ◌-◌, ◌≤◌, ◌==◌, Bool, true, false, List, [], ◌∷◌, ◌++◌, length, Option, Some, None, refl, sym, ◌∙◌, arith, length-append, append-nil, filter-append, filter, last_or, pid_of, error_bit, has_payload, is_usable, repeats, joins, is_of, is_error_of, clean-append, last-clean, AreAlike, Seen, kept_of, without_repeats_after, clean, breaks_after, counts, after}

-- one packet behind a list
filter-yes : (f : List ℕ → Bool) (ps : List (List ℕ)) (p : List ℕ) → f p ≡ true → filter f (ps ++ p ∷ []) ≡ filter f ps ++ p ∷ []
filter-yes f ps p e = rw (filter-append f ps (p ∷ []), e) refl

filter-no : (f : List ℕ → Bool) (ps : List (List ℕ)) (p : List ℕ) → f p ≡ false → filter f (ps ++ p ∷ []) ≡ filter f ps
filter-no f ps p e = rw (filter-append f ps (p ∷ []), e) (append-nil (filter f ps))

last-one : (o : Option (List ℕ)) (ps : List (List ℕ)) (p : List ℕ) → last_or o (ps ++ p ∷ []) ≡ Some p
last-one o [] p = refl
last-one o (q ∷ ps) p = last-one (Some q) ps p

breaks-by : (before p : List ℕ) (ps qs : List (List ℕ)) (n : ℕ) (b : Bool) → joins before p ≡ b → breaks_after (Some p) (ps ++ qs) ≡ breaks_after (Some p) ps + n
    → breaks_after (Some before) (p ∷ (ps ++ qs)) ≡ breaks_after (Some before) (p ∷ ps) + n
unfolding breaks_after
breaks-by before p ps qs n true e h = rw e h
breaks-by before p ps qs n false e h = rw e (omega (arith, h))

breaks-append : (o : Option (List ℕ)) (ps qs : List (List ℕ)) → breaks_after o (ps ++ qs) ≡ breaks_after o ps + breaks_after (last_or o ps) qs
unfolding breaks_after
breaks-append None [] qs = omega arith
breaks-append (Some before) [] qs = omega arith
breaks-append None (p ∷ ps) qs = breaks-append (Some p) ps qs
breaks-append (Some before) (p ∷ ps) qs = breaks-by before p ps qs (breaks_after (last_or (Some p) ps) qs) (joins before p) refl (breaks-append (Some p) ps qs)

clean-le-by : (before p : List ℕ) (ps : List (List ℕ)) (b : Bool) → repeats before p ≡ b → length (without_repeats_after (Some p) ps) ≤ length ps → length (without_repeats_after (Some before) (p ∷ ps)) ≤ length (p ∷ ps)
unfolding without_repeats_after
clean-le-by before p ps true e h = rw e (omega (arith, h))
clean-le-by before p ps false e h = rw e (omega (arith, h))

clean-le : (o : Option (List ℕ)) (ps : List (List ℕ)) → length (without_repeats_after o ps) ≤ length ps
unfolding without_repeats_after
clean-le o [] = omega arith
clean-le None (p ∷ ps) = (let h = clean-le (Some p) ps in omega (arith, h))
clean-le (Some before) (p ∷ ps) = clean-le-by before p ps (repeats before p) refl (clean-le (Some p) ps)

-- what is kept, by the packets of the PID, those with the error bit and the usable ones
kept_from : ℕ → List (List ℕ) → List (List ℕ) → List (List ℕ) → Seen
kept_from pid all errors usable = record {
  pid = pid;
  row = record {
    packets = length all;
    breaks = if pid == 0x1fff then 0 else breaks_after None (without_repeats_after None usable);
    duplicates = if pid == 0x1fff then 0 else length usable - length (without_repeats_after None usable);
    errors = length errors;
  };
  last = if pid == 0x1fff then None else last_or None (without_repeats_after None usable);
}

kept-from : (ps : List (List ℕ)) (pid : ℕ) → kept_of ps pid ≡ kept_from pid (filter (is_of pid) ps) (filter (is_error_of pid) ps) (filter (is_usable pid) ps)
unfolding kept_from counts clean
kept-from ps pid = refl

-- a packet of another PID
pub kept-other : (ps : List (List ℕ)) (p : List ℕ) (pid : ℕ) → (pid_of p == pid) ≡ false → kept_of (ps ++ p ∷ []) pid ≡ kept_of ps pid
kept-other ps p pid e =
    let of : is_of pid p ≡ false = e in
    let error : is_error_of pid p ≡ false = rw e refl in
    let usable : is_usable pid p ≡ false = rw e refl in
    kept-from (ps ++ p ∷ []) pid ∙ (rw (filter-no (is_of pid) ps p of, filter-no (is_error_of pid) ps p error, filter-no (is_usable pid) ps p usable) (sym (kept-from ps pid)))

-- a packet with the error bit
after-error : (pid : ℕ) (all errors usable : List (List ℕ)) (p : List ℕ) → error_bit p ≡ true → after (kept_from pid all errors usable) p ≡ kept_from pid (all ++ p ∷ []) (errors ++ p ∷ []) usable
unfolding after kept_from
after-error pid all errors usable p e = rw (e, length-append all (p ∷ []), length-append errors (p ∷ [])) refl

-- a packet without payload
after-empty : (pid : ℕ) (all errors usable : List (List ℕ)) (p : List ℕ) (b : Bool) → (pid == 0x1fff) ≡ b → error_bit p ≡ false → has_payload p ≡ false → after (kept_from pid all errors usable) p ≡ kept_from pid (all ++ p ∷ []) errors usable
unfolding after kept_from
after-empty pid all errors usable p true n e h = rw (n, e, length-append all (p ∷ [])) refl
after-empty pid all errors usable p false n e h = rw (n, e, h, length-append all (p ∷ [])) refl

-- a null packet
after-null : (pid : ℕ) (all errors usable : List (List ℕ)) (p : List ℕ) → (pid == 0x1fff) ≡ true → error_bit p ≡ false → after (kept_from pid all errors usable) p ≡ kept_from pid (all ++ p ∷ []) errors (usable ++ p ∷ [])
unfolding after kept_from
after-null pid all errors usable p n e = rw (n, e, length-append all (p ∷ [])) refl

-- the clean packets, their last one and the breaks with one more clean packet
pub record Grown (clean grown : List (List ℕ)) (p : List ℕ) : Type 0 where
  pub size : length grown ≡ length clean + 1
  pub last : last_or None grown ≡ Some p
  pub breaks : breaks_after None grown ≡ breaks_after None clean + breaks_after (last_or None clean) (p ∷ [])

grown-by : (clean grown : List (List ℕ)) (p : List ℕ) → grown ≡ clean ++ p ∷ [] → Grown clean grown p
grown-by clean grown p e = rw e (record { size = length-append clean (p ∷ []); last = last-one None clean p; breaks = breaks-append None clean (p ∷ []) })

-- numbers of duplicates
fewer : (a b : ℕ) → a + 1 - (b + 1) ≡ a - b
fewer a b = omega arith

one-more : (a b : ℕ) → b ≤ a → a + 1 - b ≡ a - b + 1
one-more a b h = omega (arith, h)

-- the first usable packet, a duplicate, and a packet that joins the last clean one or doesn't
usable-first : (pid : ℕ) (all errors usable : List (List ℕ)) (p : List ℕ) → (pid == 0x1fff) ≡ false → error_bit p ≡ false → has_payload p ≡ true
    → last_or None (without_repeats_after None usable) ≡ None → without_repeats_after None (usable ++ p ∷ []) ≡ without_repeats_after None usable ++ p ∷ []
    → after (kept_from pid all errors usable) p ≡ kept_from pid (all ++ p ∷ []) errors (usable ++ p ∷ [])
unfolding after kept_from breaks_after
usable-first pid all errors usable p n e h last grown =
    let g = grown-by (without_repeats_after None usable) (without_repeats_after None (usable ++ p ∷ [])) p grown in
    let zero : breaks_after None (without_repeats_after None (usable ++ p ∷ [])) ≡ breaks_after None (without_repeats_after None usable) = g.breaks ∙ (rw last (omega arith)) in
    rw (n, e, h, last, g.last, zero, g.size, length-append all (p ∷ []), length-append usable (p ∷ []), fewer (length usable) (length (without_repeats_after None usable))) refl

usable-again : (pid : ℕ) (all errors usable : List (List ℕ)) (p before : List ℕ) → (pid == 0x1fff) ≡ false → error_bit p ≡ false → has_payload p ≡ true
    → last_or None (without_repeats_after None usable) ≡ Some before → repeats before p ≡ true → without_repeats_after None (usable ++ p ∷ []) ≡ without_repeats_after None usable
    → after (kept_from pid all errors usable) p ≡ kept_from pid (all ++ p ∷ []) errors (usable ++ p ∷ [])
unfolding after kept_from
usable-again pid all errors usable p before n e h last same grown =
    rw (n, e, h, last, same, grown, length-append all (p ∷ []), length-append usable (p ∷ []), last, one-more (length usable) (length (without_repeats_after None usable)) (clean-le None usable)) refl

usable-more : (pid : ℕ) (all errors usable : List (List ℕ)) (p before : List ℕ) (b : Bool) → joins before p ≡ b → (pid == 0x1fff) ≡ false → error_bit p ≡ false → has_payload p ≡ true
    → last_or None (without_repeats_after None usable) ≡ Some before → repeats before p ≡ false → without_repeats_after None (usable ++ p ∷ []) ≡ without_repeats_after None usable ++ p ∷ []
    → after (kept_from pid all errors usable) p ≡ kept_from pid (all ++ p ∷ []) errors (usable ++ p ∷ [])
unfolding after kept_from breaks_after
usable-more pid all errors usable p before true j n e h last other grown =
    let g = grown-by (without_repeats_after None usable) (without_repeats_after None (usable ++ p ∷ [])) p grown in
    let none : breaks_after None (without_repeats_after None (usable ++ p ∷ [])) ≡ breaks_after None (without_repeats_after None usable) = g.breaks ∙ (rw (last, j) (omega arith)) in
    rw (n, e, h, last, other, j, g.last, none, g.size, length-append all (p ∷ []), length-append usable (p ∷ []), fewer (length usable) (length (without_repeats_after None usable))) refl
usable-more pid all errors usable p before false j n e h last other grown =
    let g = grown-by (without_repeats_after None usable) (without_repeats_after None (usable ++ p ∷ [])) p grown in
    let one : breaks_after None (without_repeats_after None (usable ++ p ∷ [])) ≡ breaks_after None (without_repeats_after None usable) + 1 = g.breaks ∙ (rw (last, j) (omega arith)) in
    rw (n, e, h, last, other, j, g.last, one, g.size, length-append all (p ∷ []), length-append usable (p ∷ []), fewer (length usable) (length (without_repeats_after None usable))) refl

-- the clean packets with a usable packet behind those that were there
first-grown : (usable : List (List ℕ)) (p : List ℕ) → last_or None usable ≡ None → without_repeats_after None (usable ++ p ∷ []) ≡ without_repeats_after None usable ++ p ∷ []
unfolding without_repeats_after
first-grown usable p e = clean-append None usable (p ∷ []) ∙ (rw e refl)

more-grown : (usable : List (List ℕ)) (p last : List ℕ) → last_or None usable ≡ Some last → repeats last p ≡ false → without_repeats_after None (usable ++ p ∷ []) ≡ without_repeats_after None usable ++ p ∷ []
unfolding without_repeats_after
more-grown usable p last e r = clean-append None usable (p ∷ []) ∙ (rw (e, r) refl)

again-grown : (usable : List (List ℕ)) (p last : List ℕ) → last_or None usable ≡ Some last → repeats last p ≡ true → without_repeats_after None (usable ++ p ∷ []) ≡ without_repeats_after None usable
unfolding without_repeats_after
again-grown usable p last e r = clean-append None usable (p ∷ []) ∙ (rw (e, r) (append-nil (without_repeats_after None usable)))

-- what the last clean packet is repeated by, the last usable one is
alike-repeats : (c u p : List ℕ) (b : Bool) → AreAlike (Some c) (Some u) → repeats c p ≡ b → repeats u p ≡ b
alike-repeats c u p b h r = rw (← h.0, ← h.1) r

-- a usable packet
usable-by : (pid : ℕ) (all errors usable : List (List ℕ)) (p : List ℕ) (c u : Option (List ℕ)) → (pid == 0x1fff) ≡ false → error_bit p ≡ false → has_payload p ≡ true
    → last_or None (without_repeats_after None usable) ≡ c → last_or None usable ≡ u → AreAlike c u
    → after (kept_from pid all errors usable) p ≡ kept_from pid (all ++ p ∷ []) errors (usable ++ p ∷ [])
usable-by pid all errors usable p None None n e h last latest alike = usable-first pid all errors usable p n e h last (first-grown usable p latest)
usable-by pid all errors usable p None (Some u) n e h last latest alike = absurd alike
usable-by pid all errors usable p (Some c) None n e h last latest alike = absurd alike
usable-by pid all errors usable p (Some c) (Some u) n e h last latest alike = go (repeats c p) refl
  where
    go : (b : Bool) → repeats c p ≡ b → after (kept_from pid all errors usable) p ≡ kept_from pid (all ++ p ∷ []) errors (usable ++ p ∷ [])
    go true r = usable-again pid all errors usable p c n e h last r (again-grown usable p u latest (alike-repeats c u p true alike r))
    go false r = usable-more pid all errors usable p c (joins c p) refl n e h last r (more-grown usable p u latest (alike-repeats c u p false alike r))

after-usable : (pid : ℕ) (all errors usable : List (List ℕ)) (p : List ℕ) (b : Bool) → (pid == 0x1fff) ≡ b → error_bit p ≡ false → has_payload p ≡ true
    → after (kept_from pid all errors usable) p ≡ kept_from pid (all ++ p ∷ []) errors (usable ++ p ∷ [])
after-usable pid all errors usable p true n e h = after-null pid all errors usable p n e
after-usable pid all errors usable p false n e h = usable-by pid all errors usable p (last_or None (without_repeats_after None usable)) (last_or None usable) n e h refl refl (last-clean usable None None tt)

unusable-error : (p : List ℕ) (pid : ℕ) → error_bit p ≡ true → is_usable pid p ≡ false
unusable-error p pid e = go (pid_of p == pid) (has_payload p) refl refl
  where
    go : (a b : Bool) → (pid_of p == pid) ≡ a → has_payload p ≡ b → is_usable pid p ≡ false
    go true true o h = rw (o, h, e) refl
    go true false o h = rw (o, h) refl
    go false b o h = rw o refl

own-by : (ps : List (List ℕ)) (p : List ℕ) (pid : ℕ) (error payload : Bool) → (pid_of p == pid) ≡ true → error_bit p ≡ error → has_payload p ≡ payload → after (kept_of ps pid) p ≡ kept_of (ps ++ p ∷ []) pid
own-by ps p pid true payload o e h =
    let error : is_error_of pid p ≡ true = rw (o, e) refl in
    let usable : is_usable pid p ≡ false = unusable-error p pid e in
    rw (kept-from ps pid, kept-from (ps ++ p ∷ []) pid, filter-yes (is_of pid) ps p o, filter-yes (is_error_of pid) ps p error, filter-no (is_usable pid) ps p usable) (after-error pid (filter (is_of pid) ps) (filter (is_error_of pid) ps) (filter (is_usable pid) ps) p e)
own-by ps p pid false false o e h =
    let error : is_error_of pid p ≡ false = rw (o, e) refl in
    let usable : is_usable pid p ≡ false = rw (o, h) refl in
    rw (kept-from ps pid, kept-from (ps ++ p ∷ []) pid, filter-yes (is_of pid) ps p o, filter-no (is_error_of pid) ps p error, filter-no (is_usable pid) ps p usable) (after-empty pid (filter (is_of pid) ps) (filter (is_error_of pid) ps) (filter (is_usable pid) ps) p (pid == 0x1fff) refl e h)
own-by ps p pid false true o e h =
    let error : is_error_of pid p ≡ false = rw (o, e) refl in
    let usable : is_usable pid p ≡ true = rw (o, e, h) refl in
    rw (kept-from ps pid, kept-from (ps ++ p ∷ []) pid, filter-yes (is_of pid) ps p o, filter-no (is_error_of pid) ps p error, filter-yes (is_usable pid) ps p usable) (after-usable pid (filter (is_of pid) ps) (filter (is_error_of pid) ps) (filter (is_usable pid) ps) p (pid == 0x1fff) refl e h)

-- a packet of the PID
pub kept-own : (ps : List (List ℕ)) (p : List ℕ) (pid : ℕ) → (pid_of p == pid) ≡ true → after (kept_of ps pid) p ≡ kept_of (ps ++ p ∷ []) pid
kept-own ps p pid o = own-by ps p pid (error_bit p) (has_payload p) o refl refl
