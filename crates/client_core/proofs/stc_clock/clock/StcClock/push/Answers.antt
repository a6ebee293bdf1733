-- One stretch more is followed.
use Rattle.client_core.proofs.Imports.{◌≡◌, ℕ, ◌∙◌, ap, ◌-◌, take, drop, length, List, arith, sym, take-length, length-drop, common_steps, Clock, ◌+◌, [], ◌∷◌, ◌++◌, Option, Some, None, refl, subst, append_assoc, take-add, option_or, Cutting, fresh, Cuts, PacketSize, Of188, HasFollowed, last_pcr, pcr_of}
use Rattle.client_core.proofs.stc_clock.clock.StcClock.push.Goals as goal

-- of three the first that there is
pub or_or : (a b c : Option ℕ) → option_or (option_or a b) c ≡ option_or a (option_or b c)
or_or None b c = refl
or_or (Some x) b c = refl

-- the last of some packets and others behind them
pub last_in_two : (ps qs : List (List ℕ)) → last_pcr (ps ++ qs) ≡ option_or (last_pcr qs) (last_pcr ps)
last_in_two [] qs = sym (or_none (last_pcr qs))
  where
    or_none : (a : Option ℕ) → option_or a None ≡ a
    or_none None = refl
    or_none (Some x) = refl
last_in_two (p ∷ ps) qs = ap (λ l. option_or l (pcr_of p)) (last_in_two ps qs) ∙ or_or (last_pcr qs) (last_pcr ps) (pcr_of p)

pub one_stretch : (piece rest before : List ℕ) (taken result : ℕ) (found out : List (List ℕ)) (mid : Clock) (cutting : Cutting)
    (last : Option ℕ)
    → HasFollowed (before ++ take taken piece) mid → found ≡ []
    → rest ≡ drop taken piece
    → ((size : PacketSize) (b : List ℕ) (f : List (List ℕ)) → Cuts (fresh size) b f mid.cutting
    → Cuts (fresh size) (b ++ take result rest) (f ++ drop (length found) out) cutting)
    → last ≡ option_or (last_pcr out) mid.last
    → HasFollowed (before ++ take (taken + result) piece) (record { cutting = cutting; last = last })
one_stretch piece rest before taken result found out mid cutting last followed empty behind stream seen =
    let bytes : List ℕ = before ++ take taken piece in
    let joined : bytes ++ take result rest ≡ before ++ take (taken + result) piece =
    ap (λ r. bytes ++ take result r) behind ∙ append_assoc before (take taken piece) (take result (drop taken piece))
    ∙ ap (λ xs. before ++ xs) (sym (take-add taken result piece)) in
    let P : List ℕ → Type 0 = λ bs. Cuts (fresh Of188) bs (followed.found ++ out) cutting in
    let Q : List (List ℕ) → Type 0 = λ fs. Cuts (fresh Of188) (bytes ++ take result rest) (followed.found ++ drop (length fs) out) cutting in
    record {
      found = followed.found ++ out;
      cuts = subst P joined (subst Q empty (stream Of188 bytes followed.found followed.cuts));
      last = seen ∙ ap (λ l. option_or (last_pcr out) l) followed.last ∙ sym (last_in_two followed.found out);
    }

-- the slice from a place on
whole : (taken : ℕ) (piece : List ℕ) → take (length piece - taken) (drop taken piece) ≡ drop taken piece
whole taken piece = ap (λ n. take n (drop taken piece)) (sym (length-drop taken piece)) ∙ take-length (drop taken piece)

pub stretches-preserved : goal.stretches-preserved
stretches-preserved c =
    let i = c.stretches.invariant in
    let out : List (List ℕ) = c.push-taken.new.out in
    let mid : Clock = record { cutting = c.stretches.self-inside.cutter; last = c.stretches.self-inside.last } in
    record {
      within = grind (arith, common_steps, c.push-taken.ensures.within, i.within, c.stretches-test.true);
      empty = c.clear.ensures;
      bytes = grind (arith, c.push-taken.ensures.counted, i.bytes);
      follows = λ before has. one_stretch c.args.piece.now _ before c.stretches.taken c.push-taken.result c.stretches.found
          out mid c.push-taken.new.self c.last_of-self-inside.result (i.follows before has) i.empty
          (whole c.stretches.taken c.args.piece.now) c.push-taken.ensures.stream c.last_of-self-inside.ensures;
    }
