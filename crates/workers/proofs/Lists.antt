-- Lists and what is made of their members.
pub use Rattle.lemmas.proofs.Members.{each_more, mapped}
use Rattle.workers.proofs.Imports.{◌≡◌, ⊎_elim, ℕ, List, [], ◌∷◌, ◌++◌, length, map, Some, ap, sym, ◌∙◌, subst, arith, Vec, Global, map-append, length-map, slice_get_within, at_end, Outcome, ClientWorker, AreOutcomesOf}
use Rattle.std.specs.Prelude.{slice_get}

pub maps_more : {A B C : Type 0} (f : A → C) (g : B → C) (xs new : List A) (a : A) (bs : List B) (b : B) → new ≡ xs ++ a ∷ [] → map f xs ≡ map g bs → f a ≡ g b → map f new ≡ map g (bs ++ b ∷ [])
maps_more f g xs new a bs b e same one = ap (map f) e ∙ map-append f xs (a ∷ []) ∙ ap (λ l. l ++ f a ∷ []) same ∙ ap (λ z. map g bs ++ z ∷ []) one ∙ sym (map-append g bs (b ∷ []))

pub gives_more : {A B : Type 0} (g : B → A) (xs new : List A) (a : A) (bs : List B) (b : B) → new ≡ xs ++ a ∷ [] → xs ≡ map g bs → a ≡ g b → new ≡ map g (bs ++ b ∷ [])
gives_more g xs new a bs b e same one = e ∙ ap (λ l. l ++ a ∷ []) same ∙ ap (λ z. map g bs ++ z ∷ []) one ∙ sym (map-append g bs (b ∷ []))

module _ (ys : List ClientWorker) (w : ClientWorker) (os new : List (Vec Outcome Global)) (those : Vec Outcome Global) (is : new ≡ os ++ those ∷ []) (long : length os ≡ length ys) where
  told_more : map (λ (o : Vec Outcome Global). o.items) new ≡ map (λ (o : Vec Outcome Global). o.items) os ++ those.items ∷ []
  told_more = ap (map (λ (o : Vec Outcome Global). o.items)) is ∙ map-append (λ (o : Vec Outcome Global). o.items) os (those ∷ [])

  -- with the outcomes of one worker more
  pub outcomes_more : ((c : ℕ) (v : ClientWorker) (told : List Outcome) → slice_get ys c ≡ Some v → slice_get (map (λ (o : Vec Outcome Global). o.items) os) c ≡ Some told → AreOutcomesOf v.core told) → AreOutcomesOf w.core those.items
      → (c : ℕ) (v : ClientWorker) (told : List Outcome) → slice_get (ys ++ w ∷ []) c ≡ Some v → slice_get (map (λ (o : Vec Outcome Global). o.items) new) c ≡ Some told → AreOutcomesOf v.core told
  outcomes_more all one c v told at_v at_told =
      let size = length-map os (λ (o : Vec Outcome Global). o.items) in
      let here = at_end (map (λ (o : Vec Outcome Global). o.items) os) those.items told c (ap (λ (l : List (List Outcome)). slice_get l c) (sym told_more) ∙ at_told) in
      ⊎_elim
      (λ old. ⊎_elim (λ old_told. all c v told old old_told) (λ last. let low = slice_get_within ys c v old in let e = last.0 in absurd (omega (arith, size, long))) here)
      (λ last. ⊎_elim (λ old_told. let low = slice_get_within (map (λ (o : Vec Outcome Global). o.items) os) c told old_told in let e = last.0 in absurd (omega (arith, size, long)))
      (λ last_told. subst (λ (x : ClientWorker). AreOutcomesOf x.core told) last.1 (subst (λ (o : List Outcome). AreOutcomesOf w.core o) last_told.1 one)) here)
      (at_end ys w v c at_v)
