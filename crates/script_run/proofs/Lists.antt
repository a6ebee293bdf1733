-- Members of lists.
use Rattle.script_run.proofs.Imports.{◌≡◌, ℕ, zero, suc, Bool, true, false, List, [], ◌∷◌, ◌++◌, length, map, filter, take, slice_get, Some, inl, inr, refl, ap, sym, ◌∙◌, if◌then◌else◌, filter-append, Has}

pub at_has : {A : Type 0} (xs : List A) (x : A) → Has xs x → (i : ℕ) × (slice_get xs i ≡ Some x)
at_has [] x has = absurd has
at_has (y ∷ xs) x (inl same) = (0, ap (λ z. Some z) same)
at_has (y ∷ xs) x (inr more) = let there = at_has xs x more in (suc there.0, there.1)

pub of_filter : {A : Type 0} (p : A → Bool) (xs : List A) (x : A) → Has (filter p xs) x → Has xs x × (p x ≡ true)
of_filter p [] x has = absurd has
of_filter {A = A} p (y ∷ xs) x has = go (of_filter p xs x) (p y) refl has where
  go : (Has (filter p xs) x → Has xs x × (p x ≡ true)) → (b : Bool) → p y ≡ b → Has (if b then y ∷ filter p xs else filter p xs) x → Has (y ∷ xs) x × (p x ≡ true)
  go deeper true yea (inl same) = (inl same, sym (ap p same) ∙ yea)
  go deeper true yea (inr more) = let there = deeper more in (inr there.0, there.1)
  go deeper false nay more = let there = deeper more in (inr there.0, there.1)

pub has_filter : {A : Type 0} (p : A → Bool) (xs : List A) (x : A) → p x ≡ true → Has xs x → Has (filter p xs) x
has_filter p [] x yea has = absurd has
has_filter {A = A} p (y ∷ xs) x yea has = go (λ more. has_filter p xs x yea more) (p y) refl has where
  go : (Has xs x → Has (filter p xs) x) → (b : Bool) → p y ≡ b → Has (y ∷ xs) x → Has (if b then y ∷ filter p xs else filter p xs) x
  go deeper true is (inl same) = inl same
  go deeper true is (inr more) = inr (deeper more)
  go deeper false is (inl same) = absurd (let k : true ≡ false = sym yea ∙ sym (ap p same) ∙ is in cc k)
  go deeper false is (inr more) = deeper more

pub filter_more : {A : Type 0} (p : A → Bool) (xs : List A) (x : A) (b : Bool) → p x ≡ b → filter p (xs ++ x ∷ []) ≡ filter p xs ++ (if b then x ∷ [] else [])
filter_more p xs x b is = filter-append p xs (x ∷ []) ∙ ap (λ c. filter p xs ++ (if c then x ∷ [] else [])) is

pub take_next : {A : Type 0} (xs : List A) (i : ℕ) (x : A) → slice_get xs i ≡ Some x → take (suc i) xs ≡ take i xs ++ x ∷ []
take_next [] i x is = absurd (cc is)
take_next (y ∷ xs) zero x is = let same : y ≡ x = cc is in ap (λ z. z ∷ []) same
take_next (y ∷ xs) (suc i) x is = ap (λ l. y ∷ l) (take_next xs i x is)

pub length_taken : {A B : Type 0} (f : A → B) (xs : List A) (i : ℕ) (x : A) → slice_get xs i ≡ Some x → length (map f (take i xs)) ≡ i
length_taken f [] i x is = absurd (cc is)
length_taken f (y ∷ xs) zero x is = refl
length_taken f (y ∷ xs) (suc i) x is = ap suc (length_taken f xs i x is)
