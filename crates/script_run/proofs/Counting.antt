-- Sums over the numbers below a number, and lists in which a token of each of them stands.
use Rattle.script_run.proofs.Imports.{◌≡◌, refl, sym, ap, subst, ◌∙◌, ℕ, zero, suc, ◌+◌, ◌*◌, ◌<◌, ◌≤◌, Bool, true, false, nat_eq, nat_lt, List, [], ◌∷◌, ◌++◌, Some, length, slice_get, inl, inr, arith, ◌⊎◌, if◌then◌else◌, nat_tests, reverse, reverse-append, Has, has_left, has_right}
use Rattle.std.specs.Prelude.{map}

-- ------ sums

-- the sum of these over the numbers below n
abbrev pub total : (ℕ → ℕ) → ℕ → ℕ
total f zero = 0
total f (suc n) = f n + total f n

pub total_le : (f g : ℕ → ℕ) (n : ℕ) → ((i : ℕ) → i < n → f i ≤ g i) → total f n ≤ total g n
total_le f g zero le = omega arith
total_le f g (suc n) le = let deeper = total_le f g n (λ i lt. le i (omega (arith, lt))) in omega (arith, deeper, le n (omega arith))

pub total_add : (f g : ℕ → ℕ) (n : ℕ) → total (λ i. f i + g i) n ≡ total f n + total g n
total_add f g zero = refl
total_add f g (suc n) = let deeper = total_add f g n in omega (arith, deeper)

-- the same number each time
pub total_same : (b n : ℕ) → total (λ i. b) n ≡ n * b
total_same b zero = omega arith
total_same b (suc n) = let deeper = total_same b n in grind (arith, deeper)

pub total_33 : (f : ℕ → ℕ) (n : ℕ) → total (λ i. 33 * f i) n ≡ 33 * total f n
total_33 f zero = refl
total_33 f (suc n) = let deeper = total_33 f n in omega (arith, deeper)

-- all but one of them
abbrev pub but : ℕ → (ℕ → ℕ) → ℕ → ℕ
but c f i = if nat_eq i c then 0 else f i

but_le : (c : ℕ) (f : ℕ → ℕ) (i : ℕ) → but c f i ≤ f i
but_le c f i = go (nat_eq i c) where
  go : (b : Bool) → (if b then 0 else f i) ≤ f i
  go true = omega arith
  go false = omega arith

but_here : (c : ℕ) (f : ℕ → ℕ) → but c f c ≡ 0
but_here c f = grind (arith, nat_tests)

but_more : (c : ℕ) (f : ℕ → ℕ) (n : ℕ) → c < suc n → (c < n → f c + total (but c f) n ≤ total f n) → f c + (but c f n + total (but c f) n) ≤ f n + total f n
but_more c f n lt deeper = go (nat_lt c n) refl where
  go : (b : Bool) → nat_lt c n ≡ b → f c + (but c f n + total (but c f) n) ≤ f n + total f n
  go true is = let less : c < n = grind (arith, nat_tests, is) in omega (arith, deeper less, but_le c f n)
  go false is =
      let same : c ≡ n = grind (arith, nat_tests, is, lt) in
      let none : but c f n ≡ 0 = subst (λ k. but c f k ≡ 0) same (but_here c f) in
      omega (arith, none, ap f same, total_le (but c f) f n (λ i less. but_le c f i))

pub total_but : (c : ℕ) (f : ℕ → ℕ) (n : ℕ) → c < n → f c + total (but c f) n ≤ total f n
total_but c f zero lt = absurd (omega (arith, lt))
total_but c f (suc n) lt = but_more c f n lt (λ less. total_but c f n less)

-- only one of them is more than nothing
abbrev pub one_at : ℕ → ℕ → ℕ
one_at c i = if nat_eq i c then 1 else 0

one_below : (c m : ℕ) → m ≤ c → total (one_at c) m ≡ 0
one_below c zero le = refl
one_below c (suc m) le =
    let isnt : nat_eq m c ≡ false = grind (arith, nat_tests, le) in
    let none : one_at c m ≡ 0 = rw isnt refl in
    omega (arith, none, one_below c m (omega (arith, le)))

one_more : (c m : ℕ) → total (one_at c) m ≤ 1 → one_at c m + total (one_at c) m ≤ 1
one_more c m le = go (nat_eq m c) refl where
  go : (b : Bool) → nat_eq m c ≡ b → one_at c m + total (one_at c) m ≤ 1
  go true is =
      let same : m ≤ c = grind (arith, nat_tests, is) in
      let one : one_at c m ≡ 1 = rw is refl in
      omega (arith, one, one_below c m same)
  go false is = let none : one_at c m ≡ 0 = rw is refl in omega (arith, none, le)

pub total_one : (c n : ℕ) → total (one_at c) n ≤ 1
total_one c zero = omega arith
total_one c (suc n) = one_more c n (total_one c n)

-- the first of them by itself
pub total_first : (f : ℕ → ℕ) (n : ℕ) → total f (suc n) ≡ f 0 + total (λ i. f (suc i)) n
total_first f zero = refl
total_first f (suc n) = let deeper = total_first f n in omega (arith, deeper)

-- ------ tokens

-- the sum of these over a list
abbrev pub sum_of : {A : Type 0} → (A → ℕ) → List A → ℕ
sum_of f [] = 0
sum_of f (x ∷ xs) = f x + sum_of f xs

module _ {T : Type 0} (weight : T → ℕ) where
  -- what these tokens weigh
  abbrev pub weigh : List T → ℕ
  weigh ts = sum_of weight ts

  pub weigh_append : (xs ys : List T) → weigh (xs ++ ys) ≡ weigh xs + weigh ys
  weigh_append [] ys = omega arith
  weigh_append (x ∷ xs) ys = let deeper = weigh_append xs ys in omega (arith, deeper)

  pub weigh_reverse : (xs : List T) → weigh (reverse xs) ≡ weigh xs
  weigh_reverse [] = refl
  weigh_reverse (x ∷ xs) = omega (arith, ap weigh (reverse-append (x ∷ []) xs), weigh_append (reverse xs) (x ∷ []), weigh_reverse xs)

  pub weigh_map : {A : Type 0} (f : A → T) (g : A → ℕ) → ((a : A) → weight (f a) ≡ g a) → (xs : List A) → weigh (map f xs) ≡ sum_of g xs
  weigh_map f g same [] = refl
  weigh_map f g same (x ∷ xs) = omega (arith, same x, weigh_map f g same xs)

  -- what stands at a place weighs this, and nothing where nothing stands
  abbrev pub weight_at : List T → ℕ → ℕ
  weight_at [] i = 0
  weight_at (x ∷ xs) zero = weight x
  weight_at (x ∷ xs) (suc i) = weight_at xs i

  pub weigh_places : (xs : List T) → weigh xs ≡ total (weight_at xs) (length xs)
  weigh_places [] = refl
  weigh_places (x ∷ xs) = omega (arith, total_first (weight_at (x ∷ xs)) (length xs), weigh_places xs)

  pub weight_got : (xs : List T) (i : ℕ) (x : T) → slice_get xs i ≡ Some x → weight_at xs i ≡ weight x
  weight_got [] i x is = absurd (cc is)
  weight_got (y ∷ xs) zero x is = let same : y ≡ x = cc is in ap weight same
  weight_got (y ∷ xs) (suc i) x is = weight_got xs i x is

  -- a list with all these tokens, of at most this weight
  pub record Pool (Q : T → Type 0) (bound : ℕ) : Type 0 where
    pub tokens : List T
    pub within : weigh tokens ≤ bound
    pub all : (t : T) → Q t → Has tokens t

  record Without (t : T) (ts : List T) : Type 0 where
    rest : List T
    less : weigh ts ≡ weight t + weigh rest
    either : (u : T) → Has ts u → (u ≡ t) ⊎ Has rest u

  out_first : (t y : T) (ys : List T) → y ≡ t → Without t (y ∷ ys)
  out_first t y ys is = record { rest = ys; less = ap (λ u. weight u + weigh ys) is; either = λ u has. here u has } where
    here : (u : T) → (y ≡ u) ⊎ Has ys u → (u ≡ t) ⊎ Has ys u
    here u (inl same) = inl (sym same ∙ is)
    here u (inr has) = inr has

  out_later : (t y : T) (ys : List T) → Without t ys → Without t (y ∷ ys)
  out_later t y ys deeper = record { rest = y ∷ deeper.rest; less = omega (arith, deeper.less); either = λ u is. behind u is } where
    still : (u : T) → (u ≡ t) ⊎ Has deeper.rest u → (u ≡ t) ⊎ ((y ≡ u) ⊎ Has deeper.rest u)
    still u (inl same) = inl same
    still u (inr there) = inr (inr there)

    behind : (u : T) → (y ≡ u) ⊎ Has ys u → (u ≡ t) ⊎ ((y ≡ u) ⊎ Has deeper.rest u)
    behind u (inl same) = inr (inl same)
    behind u (inr there) = still u (deeper.either u there)

  taken_out : (t : T) (ts : List T) → Has ts t → Without t ts
  taken_out t [] has = absurd has
  taken_out t (y ∷ ys) (inl is) = out_first t y ys is
  taken_out t (y ∷ ys) (inr has) = out_later t y ys (taken_out t ys has)

  -- each number below n that counts has a token of its own, which weighs as much
  pub record HaveTokens (n : ℕ) (v : ℕ → ℕ) (IsOf : ℕ → T → Type 0) (ts : List T) : Type 0 where
    pub differ : (i j : ℕ) (t : T) → i < j → j < n → IsOf i t → IsOf j t → ⊥
    pub has : (i : ℕ) → i < n → 0 < v i → (t : T) × Has ts t × (v i ≤ weight t) × IsOf i t

  last_counts : (n : ℕ) (v : ℕ → ℕ) (IsOf : ℕ → T → Type 0) (ts : List T) → HaveTokens (suc n) v IsOf ts → ((us : List T) → HaveTokens n v IsOf us → total v n ≤ weigh us)
      → (k : ℕ) → v n ≡ k → v n + total v n ≤ weigh ts
  last_counts n v IsOf ts h deeper zero is = omega (arith, is, deeper ts (record { differ = λ i j t less lt. h.differ i j t less (omega (arith, lt)); has = λ i lt. h.has i (omega (arith, lt)) }))
  last_counts n v IsOf ts h deeper (suc k) is = go (h.has n (omega arith) (omega (arith, is))) where
    go : (t : T) × Has ts t × (v n ≤ weight t) × IsOf n t → v n + total v n ≤ weigh ts
    go (t, there, heavy, of) = omega (arith, out.less, heavy, deeper out.rest (record { differ = λ i j u less lt. h.differ i j u less (omega (arith, lt)); has = others })) where
      out : Without t ts
      out = taken_out t ts there

      not_mine : (i : ℕ) → i < n → (u : T) → IsOf i u → (u ≡ t) ⊎ Has out.rest u → Has out.rest u
      not_mine i lt u mine (inl same) = absurd (h.differ i n t lt (omega arith) (subst (IsOf i) same mine) of)
      not_mine i lt u mine (inr more) = more

      others : (i : ℕ) → i < n → 0 < v i → (u : T) × Has out.rest u × (v i ≤ weight u) × IsOf i u
      others i lt counts = let one = h.has i (omega (arith, lt)) counts in (one.0, not_mine i lt one.0 one.3 (out.either one.0 one.1), one.2, one.3)

  -- Where each number that counts has a token of its own, all count no more than the tokens weigh.
  pub counts_fit : (n : ℕ) (v : ℕ → ℕ) (IsOf : ℕ → T → Type 0) (ts : List T) → HaveTokens n v IsOf ts → total v n ≤ weigh ts
  counts_fit zero v IsOf ts h = omega arith
  counts_fit (suc n) v IsOf ts h = last_counts n v IsOf ts h (λ us more. counts_fit n v IsOf us more) (v n) refl

  -- the tokens of two pools
  pub both : (P Q : T → Type 0) (a b : ℕ) → Pool P a → Pool Q b → Pool (λ t. P t ⊎ Q t) (a + b)
  both P Q a b p q = record {
    tokens = p.tokens ++ q.tokens;
    within = omega (arith, weigh_append p.tokens q.tokens, p.within, q.within);
    all = λ t is. go t is;
  } where
    go : (t : T) → P t ⊎ Q t → Has (p.tokens ++ q.tokens) t
    go t (inl is) = has_left p.tokens q.tokens t (p.all t is)
    go t (inr is) = has_right p.tokens q.tokens t (q.all t is)

  one_pool_more : (Q : ℕ → T → Type 0) (n a b : ℕ) → Pool (Q n) a → Pool (λ t. (i : ℕ) × (i < n) × Q i t) b → Pool (λ t. (i : ℕ) × (i < suc n) × Q i t) (a + b)
  one_pool_more Q n a b here lower = record {
    tokens = here.tokens ++ lower.tokens;
    within = omega (arith, weigh_append here.tokens lower.tokens, here.within, lower.within);
    all = λ t is. go t is.0 is.1 is.2 (nat_lt is.0 n) refl;
  } where
    go : (t : T) (i : ℕ) → i < suc n → Q i t → (b : Bool) → nat_lt i n ≡ b → Has (here.tokens ++ lower.tokens) t
    go t i lt is true yea = has_right here.tokens lower.tokens t (lower.all t (i, (grind (arith, nat_tests, yea)), is))
    go t i lt is false nay =
        let same : i ≡ n = grind (arith, nat_tests, nay, lt) in
        has_left here.tokens lower.tokens t (here.all t (subst (λ k. Q k t) same is))

  -- the tokens of a pool for each number below n
  pub all_pools : (Q : ℕ → T → Type 0) (bound : ℕ → ℕ) (n : ℕ) → ((i : ℕ) → i < n → Pool (Q i) (bound i)) → Pool (λ t. (i : ℕ) × (i < n) × Q i t) (total bound n)
  all_pools Q bound zero give = record { tokens = []; within = omega arith; all = λ t is. absurd (omega (arith, is.1)) }
  all_pools Q bound (suc n) give = one_pool_more Q n (bound n) (total bound n) (give n (omega arith)) (all_pools Q bound n (λ i lt. give i (omega (arith, lt))))
