-- Members of lists, and of lists to which one member, or more, are added. What each member of a list is. Tests of members.
use Rattle.std.proofs.Common.{◌≡◌, ◌⊎◌, ℕ, zero, suc, ◌<◌, Bool, ◌||◌, List, [], ◌∷◌, ◌++◌, length, map, slice_get, Some, inl, inr, ⊎_elim, refl, ap, sym, ◌∙◌, arith, length-append}
use Rattle.std.specs.List.{All, list_any}
use Rattle.std.proofs.lemmas.List.Elements.{All-nil, All-cons, All-head, All-tail}
use Rattle.lemmas.specs.Lists.{Has}

-- what stands at a place
pub at_place : {A : Type 0} (l : List A) (i : ℕ) → i < length l → (a : A) × (slice_get l i ≡ Some a)
at_place [] i h = absurd (omega arith)
at_place (x ∷ xs) zero h = (x, refl)
at_place (x ∷ xs) (suc i) h = at_place xs i (omega arith)

-- two members at one place are one
pub one_value : {A : Type 0} (l : List A) (i : ℕ) (a b : A) → slice_get l i ≡ Some a → slice_get l i ≡ Some b → a ≡ b
one_value l i a b d e = let same : Some a ≡ Some b = sym d ∙ e in cc same

-- the member that was added last
pub at_last : {A : Type 0} (l : List A) (a : A) → slice_get (l ++ a ∷ []) (length l) ≡ Some a
at_last [] a = refl
at_last (x ∷ xs) a = at_last xs a

-- a member stays at its place
pub at_before : {A : Type 0} (l m : List A) (i : ℕ) (a : A) → slice_get l i ≡ Some a → slice_get (l ++ m) i ≡ Some a
at_before [] m i a e = absurd (cc e)
at_before (x ∷ xs) m zero a e = e
at_before (x ∷ xs) m (suc i) a e = at_before xs m i a e

-- a member of a list with one more is a member of the list, or that one, which stands at the list's length
pub at_end : {A : Type 0} (l : List A) (a b : A) (i : ℕ) → slice_get (l ++ a ∷ []) i ≡ Some b → (slice_get l i ≡ Some b) ⊎ ((i ≡ length l) × (a ≡ b))
at_end [] a b zero e = inr (refl, cc e)
at_end [] a b (suc i) e = absurd (cc e)
at_end (x ∷ xs) a b zero e = inl e
at_end (x ∷ xs) a b (suc i) e = ⊎_elim (λ h. inl h) (λ h. inr (ap suc h.0, h.1)) (at_end xs a b i e)

-- a list that goes on behind another isn't that one
pub not_all : {A : Type 0} (xs ys zs : List A) (y : A) → xs ≡ ys ++ y ∷ zs → ¬ (xs ≡ ys)
not_all xs ys zs y e = λ f. omega (arith, ap length e, ap length f, length-append ys (y ∷ zs))

-- what each member of two lists in a row is, each member of the first is
pub all_front : {A : Type 0} (P : A → Type 0) (xs ys : List A) → All P (xs ++ ys) → All P xs
all_front P [] ys all = All-nil P
all_front P (x ∷ xs) ys all = All-cons P x xs (All-head P x (xs ++ ys) all) (all_front P xs ys (All-tail P x (xs ++ ys) all))

-- and each member of the second
pub all_behind : {A : Type 0} (P : A → Type 0) (xs ys : List A) → All P (xs ++ ys) → All P ys
all_behind P [] ys all = all
all_behind P (x ∷ xs) ys all = all_behind P xs ys (All-tail P x (xs ++ ys) all)

-- a test finds one of the values of members just where it finds a member by its value
pub any_of_map : {A B : Type 0} (test : B → Bool) (value : A → B) (xs : List A) → list_any test (map value xs) ≡ list_any (λ x. test (value x)) xs
any_of_map test value [] = refl
any_of_map test value (x ∷ xs) = ap (λ b. test (value x) || b) (any_of_map test value xs)

-- what is made of a member stands at its place
pub at_map : {A B : Type 0} (f : A → B) (xs : List A) (i : ℕ) (x : A) → slice_get xs i ≡ Some x → slice_get (map f xs) i ≡ Some (f x)
at_map f [] i x at = absurd (cc at)
at_map f (y ∷ xs) zero x at = let same : y ≡ x = cc at in ap (λ z. Some (f z)) same
at_map f (y ∷ xs) (suc i) x at = at_map f xs i x at

-- ------ what stands in a list

pub has_at : {A : Type 0} (xs : List A) (x : A) (i : ℕ) → slice_get xs i ≡ Some x → Has xs x
has_at [] x i at = absurd (cc at)
has_at (y ∷ xs) x zero at = inl (cc at)
has_at (y ∷ xs) x (suc i) at = inr (has_at xs x i at)

pub has_left : {A : Type 0} (xs ys : List A) (x : A) → Has xs x → Has (xs ++ ys) x
has_left [] ys x h = absurd h
has_left (y ∷ xs) ys x h = ⊎_elim (λ e. inl e) (λ m. inr (has_left xs ys x m)) h

pub has_right : {A : Type 0} (xs ys : List A) (x : A) → Has ys x → Has (xs ++ ys) x
has_right [] ys x h = h
has_right (y ∷ xs) ys x h = inr (has_right xs ys x h)

pub has_either : {A : Type 0} (xs ys : List A) (x : A) → Has (xs ++ ys) x → Has xs x ⊎ Has ys x
has_either [] ys x h = inr h
has_either (y ∷ xs) ys x h = ⊎_elim (λ e. inl (inl e)) (λ m. ⊎_elim (λ a. inl (inr a)) (λ b. inr b) (has_either xs ys x m)) h
