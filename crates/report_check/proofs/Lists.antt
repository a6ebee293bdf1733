-- Facts of lists, by index.
use Rattle.report_check.proofs.Imports.{◌≡◌, ◌<◌, ◌≤◌, ◌-◌, refl, sym, subst, ℕ, zero, suc, List, [], ◌∷◌, length, map, get_or, take, take_all, drop, arith, All-head, All-tail, All-nil, All-cons, Some, slice_get, All, Bool, Decides, pointwise, slice_eq-Decides}

-- where `==` says whether two values are the same, it says so of two lists of them
pub decided : {A : Type 0} {E : A → A → Bool} (xs ys : List A) (r : Bool) → r ≡ pointwise E xs ys → ((a b : A) → Decides (E a b) (a ≡ b)) → Decides r (xs ≡ ys)
decided xs ys r is each = slice_eq-Decides each xs ys r is

module _ {X : Type 0} (P : X → Type 0) where
  pub all_at : (xs : List X) → All P xs → (i : ℕ) (x : X) → slice_get xs i ≡ Some x → P x
  all_at [] all i x at = absurd (cc)
  all_at (y ∷ xs) all zero x at =
      let same : y ≡ x = cc in
      subst P same (All-head P y xs all)
  all_at (y ∷ xs) all (suc i) x at = all_at xs (All-tail P y xs all) i x at

  pub at_all : (xs : List X) → ((i : ℕ) (x : X) → slice_get xs i ≡ Some x → P x) → All P xs
  at_all [] each = All-nil P
  at_all (x ∷ xs) each = All-cons P x xs (each 0 x refl) (at_all xs (λ i y at. each (suc i) y at))

-- ------ a slice's first element, and those behind it

abbrev pub behind : {A : Type 0} → List A → List A
behind xs = take (length xs - 1) (drop 1 xs)

pub parted : {A : Type 0} (xs : List A) (x d : A) → 1 ≤ length xs → x ≡ get_or xs 0 d → xs ≡ x ∷ behind xs
parted [] x d some is = absurd (omega arith)
parted (y ∷ ys) x d some is =
    let all : take (suc (length ys) - 1) ys ≡ ys = take_all _ ys (omega arith) in
    rw (is, all) refl

pub none_left : {A : Type 0} (xs : List A) → length xs < 1 → xs ≡ []
none_left [] none = refl
none_left (x ∷ xs) none = absurd (omega arith)

pub at_none : {A B : Type 0} (f : A → B) (P : B → Type 0) (xs : List A) → length xs < 1 → All P (map f xs)
at_none f P xs none = subst (λ ys. All P (map f ys)) (sym (none_left xs none)) (All-nil P)

module _ {A B : Type 0} (f : A → B) (P : B → Type 0) (xs : List A) (x d : A) (some : 1 ≤ length xs) (is : x ≡ get_or xs 0 d) where
  pub at_front : All P (map f xs) → P (f x)
  at_front all = All-head P (f x) (map f (behind xs)) (subst (λ (ys : List A). All P (map f ys)) (parted xs x d some is) all)

  pub at_behind : All P (map f xs) → All P (map f (behind xs))
  at_behind all = All-tail P (f x) (map f (behind xs)) (subst (λ (ys : List A). All P (map f ys)) (parted xs x d some is) all)

  pub at_both : P (f x) → All P (map f (behind xs)) → All P (map f xs)
  at_both here later = subst (λ (ys : List A). All P (map f ys)) (sym (parted xs x d some is)) (All-cons P (f x) (map f (behind xs)) here later)
