-- The laws of clean packets.
use Rattle.ts_packet.proofs.Imports.{if◌then◌else◌, ◌≡◌, ℕ, Bool, true, false, List, [], ◌∷◌, ◌++◌, Option, Some, None, refl, ap, ◌∙◌, arith, eqb, last_or, pointwise, bytes_decides, second_so, counter_of, carried, repeats, without_repeats_after}

-- the parts of a repeat
pub repeats-counter : (p q : List ℕ) → repeats p q ≡ true → counter_of p ≡ counter_of q
repeats-counter p q h = grind (arith)

pub repeats-carried : (p q : List ℕ) → repeats p q ≡ true → carried p ≡ carried q
repeats-carried p q h = (bytes_decides (carried p) (carried q)).0 (second_so (eqb (counter_of p) (counter_of q)) (pointwise eqb (carried p) (carried q)) h)

-- after a repeat the packet before stays the same
pub without-repeat : (before p : List ℕ) (ps : List (List ℕ)) → repeats before p ≡ true → without_repeats_after (Some p) ps ≡ without_repeats_after (Some before) ps
unfolding without_repeats_after
without-repeat before p [] h = refl
without-repeat before p (q ∷ qs) h = rw (repeats-counter before p h, repeats-carried before p h) refl

-- clean packets of one list behind another
clean-by : (before p : List ℕ) (b : Bool) → repeats before p ≡ b → (ps cs more : List (List ℕ)) → without_repeats_after (Some p) ps ≡ cs ++ more
    → without_repeats_after (Some before) (p ∷ ps) ≡ (if repeats before p then cs else p ∷ cs) ++ more
unfolding without_repeats_after
clean-by before p true e ps cs more h = rw e h
clean-by before p false e ps cs more h = rw e (ap (λ (l : List (List ℕ)). p ∷ l) h)

pub clean-append : (o : Option (List ℕ)) (ps qs : List (List ℕ)) → without_repeats_after o (ps ++ qs) ≡ without_repeats_after o ps ++ without_repeats_after (last_or o ps) qs
unfolding without_repeats_after
clean-append o [] qs = refl
clean-append None (p ∷ ps) qs = ap (λ (l : List (List ℕ)). p ∷ l) (clean-append (Some p) ps qs)
clean-append (Some before) (p ∷ ps) qs = clean-by before p (repeats before p) refl (ps ++ qs) (without_repeats_after (Some p) ps) (without_repeats_after (last_or (Some p) ps) qs) (clean-append (Some p) ps qs)

-- packets that the same packets repeat
abbrev pub AreAlike : Option (List ℕ) → Option (List ℕ) → Type 0
AreAlike None None = Unit {0}
AreAlike None (Some q) = ⊥
AreAlike (Some p) None = ⊥
AreAlike (Some p) (Some q) = (counter_of p ≡ counter_of q) × (carried p ≡ carried q)

alike-repeat : (o : Option (List ℕ)) (before p : List ℕ) → AreAlike o (Some before) → repeats before p ≡ true → AreAlike o (Some p)
alike-repeat None before p h r = absurd h
alike-repeat (Some c) before p h r = (h.0 ∙ repeats-counter before p r, h.1 ∙ repeats-carried before p r)

last-by : (o : Option (List ℕ)) (before p : List ℕ) (ps : List (List ℕ)) (b : Bool) → repeats before p ≡ b → AreAlike o (Some before)
    → ((o' : Option (List ℕ)) → AreAlike o' (Some p) → AreAlike (last_or o' (without_repeats_after (Some p) ps)) (last_or (Some p) ps))
    → AreAlike (last_or o (without_repeats_after (Some before) (p ∷ ps))) (last_or (Some p) ps)
unfolding without_repeats_after
last-by o before p ps true e h next = rw e (next o (alike-repeat o before p h e))
last-by o before p ps false e h next = rw e (next (Some p) (refl, refl))

pub last-clean : (ps : List (List ℕ)) (o u : Option (List ℕ)) → AreAlike o u → AreAlike (last_or o (without_repeats_after u ps)) (last_or u ps)
unfolding without_repeats_after
last-clean [] o u h = h
last-clean (p ∷ ps) o None h = last-clean ps (Some p) (Some p) (refl, refl)
last-clean (p ∷ ps) o (Some before) h = last-by o before p ps (repeats before p) refl h (λ o' k. last-clean ps o' (Some p) k)

pub clean-apart : (c u : Option (List ℕ)) (q : List ℕ) (qs : List (List ℕ)) → AreAlike c u → ((before : List ℕ) → c ≡ Some before → repeats before q ≡ false) → without_repeats_after u (q ∷ qs) ≡ without_repeats_after None (q ∷ qs)
unfolding without_repeats_after
clean-apart c None q qs h apart = refl
clean-apart None (Some b) q qs h apart = absurd h
clean-apart (Some c) (Some b) q qs h apart =
    let r : repeats b q ≡ false = rw (← h.0, ← h.1) (apart c refl) in
    rw r refl
