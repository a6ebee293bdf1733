-- How the lists of the nodes grow, entry by entry.
use Rattle.adapter.proofs.Imports.{ℕ, ◌<◌, ◌≡◌, ◌≢◌, ◌∙◌, refl, sym, ap, subst, Bool, true, false, cond, List, [], ◌∷◌, ◌++◌, length, filter, reverse, set, get_or, nat_eq, All, arith, append_assoc, length-append, nat_tests, reverse-append, get_or-set_same, get_or-set_other, filter-append, get_or-append_seam, ToldEntry, is_on}

pub all-last : {X : Type 0} (P : X → Type 0) (xs : List X) (x : X) → All P (xs ++ x ∷ []) → P x
all-last P xs x a = subst P (get_or-append_seam xs x [] x) (a (length xs) x (let l = length-append xs (x ∷ []) in omega (arith, l)))

-- the list of a node, behind it what is still to come, the last one first
abbrev pub IsDealing : (lists : List (List ToldEntry)) → (left : List ToldEntry) → (whole : ℕ → List ToldEntry) → Type 0
IsDealing lists left whole = (node : ℕ) → node < length lists → get_or lists node [] ++ reverse (filter (is_on node) left) ≡ whole node

last-of : (node : ℕ) (rest : List ToldEntry) (e : ToldEntry) → reverse (filter (is_on node) (rest ++ e ∷ [])) ≡ reverse (filter (is_on node) (e ∷ [])) ++ reverse (filter (is_on node) rest)
last-of node rest e = ap reverse (filter-append (is_on node) rest (e ∷ [])) ∙ reverse-append (filter (is_on node) rest) (filter (is_on node) (e ∷ []))

pub dealing-more : (lists longer : List (List ToldEntry)) (left rest : List ToldEntry) (e : ToldEntry) (whole : ℕ → List ToldEntry) → e.node < length lists → left ≡ rest ++ e ∷ []
    → longer ≡ set lists e.node (get_or lists e.node [] ++ e ∷ []) → length longer ≡ length lists → IsDealing lists left whole → IsDealing longer rest whole
dealing-more lists longer left rest e whole there last is same so_far node low =
    by_test (nat_eq e.node node) refl where
      before : get_or lists node [] ++ (reverse (filter (is_on node) (e ∷ [])) ++ reverse (filter (is_on node) rest)) ≡ whole node
      before = ap (λ r. get_or lists node [] ++ r) (sym (last-of node rest e)) ∙ ap (λ l. get_or lists node [] ++ reverse (filter (is_on node) l)) (sym last) ∙ so_far node (omega (arith, low, same))

      by_test : (b : Bool) → nat_eq e.node node ≡ b → get_or longer node [] ++ reverse (filter (is_on node) rest) ≡ whole node
      by_test true y =
          let at : e.node ≡ node = grind (arith, nat_tests) in
          let own : get_or longer node [] ≡ get_or lists node [] ++ e ∷ [] =
          ap (λ l. get_or l node []) is ∙ ap (λ n. get_or (set lists e.node (get_or lists e.node [] ++ e ∷ [])) n []) (sym at)
          ∙ get_or-set_same lists e.node (get_or lists e.node [] ++ e ∷ []) [] there ∙ ap (λ n. get_or lists n [] ++ e ∷ []) at in
          ap (λ l. l ++ reverse (filter (is_on node) rest)) own ∙ append_assoc (get_or lists node []) (e ∷ []) (reverse (filter (is_on node) rest))
          ∙ ap (λ b. get_or lists node [] ++ (reverse (cond b (e ∷ []) []) ++ reverse (filter (is_on node) rest))) (sym y) ∙ before
      by_test false y =
          let apart : node ≢ e.node = λ same. absurd (let at : e.node ≢ node = grind (arith, nat_tests) in at (sym same)) in
          ap (λ l. get_or l node [] ++ reverse (filter (is_on node) rest)) is
          ∙ ap (λ l. l ++ reverse (filter (is_on node) rest)) (get_or-set_other lists e.node node (get_or lists e.node [] ++ e ∷ []) [] apart)
          ∙ ap (λ b. get_or lists node [] ++ (reverse (cond b (e ∷ []) []) ++ reverse (filter (is_on node) rest))) (sym y) ∙ before

-- one list is replaced
pub set-each : (P : ℕ → List ToldEntry → Type 0) (lists : List (List ToldEntry)) (i : ℕ) (x : List ToldEntry) → i < length lists → P i x → (n : ℕ) → (n ≢ i → P n (get_or lists n [])) → P n (get_or (set lists i x) n [])
set-each P lists i x there own n other = by_test (nat_eq n i) refl where
  by_test : (b : Bool) → nat_eq n i ≡ b → P n (get_or (set lists i x) n [])
  by_test true y =
      let at : n ≡ i = grind (arith, nat_tests) in
      subst (λ n. P n (get_or (set lists i x) n [])) (sym at) (subst (λ l. P i l) (sym (get_or-set_same lists i x [] there)) own)
  by_test false y =
      let apart : n ≢ i = grind (arith, nat_tests) in
      subst (λ l. P n l) (sym (get_or-set_other lists i n x [] apart)) (other apart)
