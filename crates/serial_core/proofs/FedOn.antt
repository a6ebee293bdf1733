-- The feeder's call on one demux node after the other.
use Rattle.serial_core.proofs.Imports.{◌≡◌, refl, sym, ap, subst, ◌∙◌, ℕ, zero, suc, ◌+◌, ◌-◌, ◌<◌, ◌≤◌, ◌^◌, List, [], ◌∷◌, ◌++◌, length, map, replicate, get_or, set, add-one, arith, length-replicate, get_or-replicate, DEMUX_NODES, Invocation, Act, act_of, SerialNode, Node, answered, Pairs, IsSeat, IsUnder, AreUnder, entries_in}
use Rattle.serial_core.proofs.Pairs.{map_replicate, same_length}

-- ------ lists of which a front has come to stand in another relation

-- each of the first so many elements is related by S to its partner's image; the others are related by R
abbrev pub Through : {X Y : Type 0} → (R S : X → Y → Type 0) → (Y → Y) → (count : ℕ) → List X → List Y → Type 0
Through R S f zero xs ys = Pairs R xs ys
Through R S f (suc n) [] [] = Unit {0}
Through R S f (suc n) (x ∷ xs) (y ∷ ys) = S x (f y) × Through R S f n xs ys
Through R S f (suc n) _ _ = ⊥

module _ {X Y : Type 0} (R S : X → Y → Type 0) (f : Y → Y) where
  through_suc : (i : ℕ) (xs : List X) (ys : List Y) (x' d : X) → i < length xs → ((y : Y) → R (get_or xs i d) y → S x' (f y))
      → Through R S f i xs ys → Through R S f (suc i) (set xs i x') ys
  through_suc i [] ys x' d lt goes p = absurd (omega (arith, lt))
  through_suc zero (x ∷ xs) [] x' d lt goes p = absurd p
  through_suc zero (x ∷ xs) (y ∷ ys) x' d lt goes p = (goes y p.0, p.1)
  through_suc (suc i) (x ∷ xs) [] x' d lt goes p = absurd p
  through_suc (suc i) (x ∷ xs) (y ∷ ys) x' d lt goes p = (p.0, through_suc i xs ys x' d (omega (arith, lt)) goes p.1)

  pub through_more : (i : ℕ) (xs : List X) (ys : List Y) (x' d : X) → i < length xs → ((y : Y) → R (get_or xs i d) y → S x' (f y))
      → Through R S f i xs ys → Through R S f (i + 1) (set xs i x') ys
  through_more i xs ys x' d lt goes p = subst (λ n. Through R S f n (set xs i x') ys) (sym (add-one i)) (through_suc i xs ys x' d lt goes p)

  pub through_all : (i : ℕ) (xs : List X) (ys : List Y) → length xs ≤ i → Through R S f i xs ys → Pairs S xs (map f ys)
  through_all zero [] [] le p = tt
  through_all zero [] (y ∷ ys) le p = absurd p
  through_all zero (x ∷ xs) ys le p = absurd (omega (arith, le))
  through_all (suc i) [] [] le p = tt
  through_all (suc i) [] (y ∷ ys) le p = absurd p
  through_all (suc i) (x ∷ xs) [] le p = absurd p
  through_all (suc i) (x ∷ xs) (y ∷ ys) le p = (p.0, through_all i xs ys (omega (arith, le)) p.1)

  pub through_at : (i : ℕ) (xs : List X) (ys : List Y) (d : X) (e : Y) → i < length xs → Through R S f i xs ys → R (get_or xs i d) (get_or ys i e)
  through_at i [] ys d e lt p = absurd (omega (arith, lt))
  through_at zero (x ∷ xs) [] d e lt p = absurd p
  through_at zero (x ∷ xs) (y ∷ ys) d e lt p = p.0
  through_at (suc i) (x ∷ xs) [] d e lt p = absurd p
  through_at (suc i) (x ∷ xs) (y ∷ ys) d e lt p = through_at i xs ys d e (omega (arith, lt)) p.1

-- ------ the feeder's call on one node after the other

-- it was made on the first so many of these nodes
pub record FedOn (c : Invocation) (start now : List SerialNode) (count : ℕ) : Type 0 where
  pub at : (acts : List Act) (ns : List Node) → Pairs (IsSeat acts) start ns
      → Through (IsSeat acts) (IsSeat (acts ++ act_of c ∷ [])) (answered 0 (length acts) c) count now ns
  pub under : (most : ℕ) → AreUnder start most → Through IsUnder IsUnder (λ n. n + 1) count now (replicate (DEMUX_NODES + 1) most)

-- the next node takes the call
pub fed_more : (c : Invocation) (start now : List SerialNode) (i : ℕ) (seat d : SerialNode) → i < length now
    → ((acts : List Act) (n : Node) → IsSeat acts (get_or now i d) n → IsSeat (acts ++ act_of c ∷ []) seat (answered 0 (length acts) c n))
    → entries_in seat.core ≡ entries_in (get_or now i d).core + 1
    → FedOn c start now i → FedOn c start (set now i seat) (i + 1)
fed_more c start now i seat d there goes rises fed = record {
  at = λ acts ns p. through_more (IsSeat acts) (IsSeat (acts ++ act_of c ∷ [])) (answered 0 (length acts) c) i now ns seat d there (goes acts) (fed.at acts ns p);
  under = λ most p. through_more IsUnder IsUnder (λ n. n + 1) i now (replicate (DEMUX_NODES + 1) most) seat d there (λ m u. omega (arith, rises, u)) (fed.under most p);
}

same_through : (count i : ℕ) (xs : List SerialNode) (most : ℕ) → Through IsUnder IsUnder (λ n. n + 1) i xs (replicate count most) → length xs ≡ count
same_through count zero xs most p = same_length IsUnder xs (replicate count most) p ∙ length-replicate count most
same_through zero (suc i) [] most p = refl
same_through zero (suc i) (x ∷ xs) most p = absurd p
same_through (suc count) (suc i) [] most p = absurd p
same_through (suc count) (suc i) (x ∷ xs) most p = ap suc (same_through count i xs most p.1)

pub fed_few : (c : Invocation) (start now : List SerialNode) (i : ℕ) (d : SerialNode) → i < length now → AreUnder start (2 ^ 50 - 1) → FedOn c start now i
    → entries_in (get_or now i d).core < 2 ^ 50
fed_few c start now i d there few fed =
    let p = fed.under (2 ^ 50 - 1) few in
    let here : i < (DEMUX_NODES + 1) = omega (arith, there, same_through (DEMUX_NODES + 1) i now (2 ^ 50 - 1) p) in
    let u : entries_in (get_or now i d).core ≤ get_or (replicate (DEMUX_NODES + 1) (2 ^ 50 - 1)) i (2 ^ 50 - 1) = through_at IsUnder IsUnder (λ n. n + 1) i now (replicate (DEMUX_NODES + 1) (2 ^ 50 - 1)) d (2 ^ 50 - 1) there p in
    omega (arith, u, get_or-replicate (DEMUX_NODES + 1) i (2 ^ 50 - 1) (2 ^ 50 - 1) here)

pub fed_at : (c : Invocation) (start now : List SerialNode) (i : ℕ) → length now ≤ i → FedOn c start now i
    → (acts : List Act) (ns : List Node) → Pairs (IsSeat acts) start ns → Pairs (IsSeat (acts ++ act_of c ∷ [])) now (map (answered 0 (length acts) c) ns)
fed_at c start now i all fed acts ns p = through_all (IsSeat acts) (IsSeat (acts ++ act_of c ∷ [])) (answered 0 (length acts) c) i now ns all (fed.at acts ns p)

pub fed_under : (c : Invocation) (start now : List SerialNode) (i : ℕ) → length now ≤ i → FedOn c start now i
    → (most : ℕ) → AreUnder start most → AreUnder now (most + 1)
fed_under c start now i all fed most p =
    subst (λ ms. Pairs IsUnder now ms) (map_replicate (DEMUX_NODES + 1) (λ n. n + 1) most) (through_all IsUnder IsUnder (λ n. n + 1) i now (replicate (DEMUX_NODES + 1) most) all (fed.under most p))
