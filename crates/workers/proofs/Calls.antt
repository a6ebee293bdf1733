-- The merged entries of a node are those of the logs on it, at places that rise.
use Rattle.workers.proofs.Imports.{◌≡◌, ◌≢◌, inl, inr, ⊎_elim, ℕ, zero, suc, true, false, cond, nat_eq, eq-eqb, ne_eqb, ◌<◌, List, [], ◌∷◌, map, filter, get_or, slice_get, Some, refl, ap, sym, ◌∙◌, subst, arith, AllByRecursion, IsPermutation, IsNonDecreasingBy, map-append, filter-append, All-permutation, IsPermutation-map, IsPermutation-sym, IsDistinct-cons, IsDistinct-IsPermutation, get_or_from_slice_get, slice_get_within, slice_get-get_or, dite, ℕ_discrete, Has, has_at, has_either, has_left, has_right, Once, once_append, ToldEntry, told_entry, is_on, all_of, entries_on, nat_eq_turned, Ascends, ascends, nat_tests, at_has, has_filter, of_filter, IsDistinct}
use Rattle.std.proofs.Common.{All}
use Rattle.workers.proofs.Weaves.{Rises}

-- ------ members

pub has_all : {A : Type 0} (P : A → Type 0) (xs : List A) → All P xs → (x : A) → Has xs x → P x
has_all P xs all x has = let i = at_has xs x has in subst P (get_or_from_slice_get xs i.0 x x i.1) (all i.0 x (slice_get_within xs i.0 x i.1))

pub all_has : {A : Type 0} (P : A → Type 0) (xs : List A) → ((x : A) → Has xs x → P x) → All P xs
all_has P xs each k d low = each (get_or xs k d) (has_at xs (get_or xs k d) k (slice_get-get_or xs k d low))

pub has_moved : {A : Type 0} (xs ys : List A) → IsPermutation xs ys → (y : A) → Has ys y → Has xs y
has_moved xs ys moved y has = has_all (Has xs) ys (All-permutation (Has xs) xs ys moved (all_has (Has xs) xs (λ x h. h))) y has

-- the entries of a log on a node
abbrev pub on_node : (node : ℕ) → List ToldEntry → List ToldEntry
on_node node log = filter (is_on node) log

is_first : (node : ℕ) (e : ToldEntry) (log : List ToldEntry) → e.node ≡ node → on_node node (e ∷ log) ≡ e ∷ on_node node log
is_first node e log on = ap (λ b. cond b (e ∷ on_node node log) (on_node node log)) (eq-eqb e.node node on)

is_passed : (node : ℕ) (e : ToldEntry) (log : List ToldEntry) → e.node ≢ node → on_node node (e ∷ log) ≡ on_node node log
is_passed node e log off = ap (λ b. cond b (e ∷ on_node node log) (on_node node log)) (ne_eqb e.node node off)

pub on_has : (node : ℕ) (log : List ToldEntry) (e : ToldEntry) → Has (on_node node log) e → (e.node ≡ node) × Has log e
on_has node log e has =
    let kept = of_filter (is_on node) log e has in
    let on : nat_eq e.node node ≡ true = kept.1 in
    (grind (arith, nat_tests, on), kept.0)

pub has_on : (node : ℕ) (log : List ToldEntry) (e : ToldEntry) → e.node ≡ node → Has log e → Has (on_node node log) e
has_on node log e on has = has_filter (is_on node) log e (eq-eqb e.node node on) has

all_of_has : (logs : List (List ToldEntry)) (e : ToldEntry) → Has (all_of logs) e → (c : ℕ) × (log : List ToldEntry) × (slice_get logs c ≡ Some log) × Has log e
all_of_has [] e has = absurd has
all_of_has (log ∷ logs) e has = ⊎_elim (λ h. (0, log, refl, h)) (λ h. let r = all_of_has logs e h in (suc r.0, r.1, r.2, r.3)) (has_either log (all_of logs) e has)

has_all_of : (logs : List (List ToldEntry)) (c : ℕ) (log : List ToldEntry) (e : ToldEntry) → slice_get logs c ≡ Some log → Has log e → Has (all_of logs) e
has_all_of [] c log e at has = absurd (cc at)
has_all_of (l ∷ logs) zero log e at has = let same : l ≡ log = cc at in has_left l (all_of logs) e (subst (λ z. Has z e) (sym same) has)
has_all_of (l ∷ logs) (suc c) log e at has = has_right l (all_of logs) e (has_all_of logs c log e at has)

-- ------ places

abbrev places_of : List ToldEntry → List ℕ
places_of entries = map (λ (e : ToldEntry). e.place) entries

has_place : (entries : List ToldEntry) (k : ℕ) → Has (places_of entries) k → (e : ToldEntry) × Has entries e × (e.place ≡ k)
has_place [] k has = absurd has
has_place (e ∷ entries) k has = ⊎_elim (λ is. (e, inl refl, is)) (λ more. let r = has_place entries k more in (r.0, inr r.1, r.2)) has

distinct : (ks : List ℕ) → Once ks → IsDistinct nat_eq ks
unfolding IsDistinct
distinct [] once = tt
distinct (k ∷ ks) once = IsDistinct-cons nat_eq k ks (others ks once.0) (distinct ks once.1) where
  others : (ls : List ℕ) → ¬ Has ls k → AllByRecursion (λ l. nat_eq k l ≡ false) ls
  others [] not = tt
  others (l ∷ ls) not = (ne_eqb k l (λ e. not (inl (sym e))), others ls (λ h. not (inr h)))

-- the places of a log rise on the node
abbrev pub RisesOn : (node : ℕ) → List ToldEntry → Type 0
RisesOn node log = (i j : ℕ) (e f : ToldEntry) → i < j → slice_get log i ≡ Some e → slice_get log j ≡ Some f → e.node ≡ node → f.node ≡ node → e.place < f.place

once_log : (node : ℕ) (log : List ToldEntry) → RisesOn node log → Once (places_of (on_node node log))
once_log node [] up = tt
once_log node (x ∷ log) up =
    let rest = once_log node log (λ i j e f low a b on on_f. up (suc i) (suc j) e f (omega arith) a b on on_f) in
    dite (ℕ_discrete x.node node)
    (λ on. subst (λ l. Once (places_of l)) (sym (is_first node x log on)) (no_more on, rest))
    (λ off. subst (λ l. Once (places_of l)) (sym (is_passed node x log off)) rest) where
      no_more : x.node ≡ node → ¬ Has (places_of (on_node node log)) x.place
      no_more on has =
          let p = has_place (on_node node log) x.place has in let m = on_has node log p.0 p.1 in let i = at_has log p.0 m.1 in
          let low = up 0 (suc i.0) x p.0 (omega arith) refl i.1 on m.0 in let same = p.2 in omega arith

-- no two logs name one place of the node
abbrev pub AreApart : (node : ℕ) → List (List ToldEntry) → Type 0
AreApart node logs = (c d : ℕ) (a b : List ToldEntry) (e f : ToldEntry) → slice_get logs c ≡ Some a → slice_get logs d ≡ Some b → Has a e → Has b f → e.node ≡ node → f.node ≡ node → e.place ≡ f.place → c ≡ d

once_all : (node : ℕ) (logs : List (List ToldEntry)) → ((c : ℕ) (log : List ToldEntry) → slice_get logs c ≡ Some log → RisesOn node log) → AreApart node logs → Once (places_of (entries_on node logs))
once_all node [] up apart = tt
once_all node (log ∷ logs) up apart =
    subst Once (sym (ap places_of (filter-append (is_on node) log (all_of logs)) ∙ map-append (λ (e : ToldEntry). e.place) (on_node node log) (entries_on node logs)))
    (once_append (places_of (on_node node log)) (places_of (entries_on node logs)) (once_log node log (up 0 log refl))
    (once_all node logs (λ c l at. up (suc c) l at) (λ c d a b e f at bt h g on on_f same. let s = apart (suc c) (suc d) a b e f at bt h g on on_f same in omega arith)) other) where
      other : (k : ℕ) → Has (places_of (on_node node log)) k → Has (places_of (entries_on node logs)) k → ⊥
      other k here there =
          let p = has_place (on_node node log) k here in let m = on_has node log p.0 p.1 in
          let q = has_place (entries_on node logs) k there in let n = on_has node (all_of logs) q.0 q.1 in let o = all_of_has logs q.0 n.1 in
          let s = apart 0 (suc o.0) log o.1 p.0 q.0 refl o.2 m.1 o.3 m.0 n.0 (p.2 ∙ sym q.2) in absurd (omega arith)

rises_told : (place : ℕ) (calls : List ToldEntry) → Ascends place calls → Rises place (map told_entry calls)
rises_told place [] up = tt
rises_told place (e ∷ calls) up = (up.0, rises_told (suc e.place) calls up.1)

-- ------ the merged entries of a node

module _ (node : ℕ) (logs : List (List ToldEntry)) (calls : List ToldEntry) (moved : IsPermutation (entries_on node logs) calls) where
  -- each is an entry of some log on the node
  pub of_some_log : (e : ToldEntry) → Has calls e → (e.node ≡ node) × ((c : ℕ) × (log : List ToldEntry) × (slice_get logs c ≡ Some log) × Has log e)
  of_some_log e has = let m = on_has node (all_of logs) e (has_moved (entries_on node logs) calls moved e has) in (m.0, all_of_has logs e m.1)

  -- and each entry of a log on the node is there
  pub is_merged : (c : ℕ) (log : List ToldEntry) (e : ToldEntry) → slice_get logs c ≡ Some log → Has log e → e.node ≡ node → Has calls e
  is_merged c log e at has on = has_moved calls (entries_on node logs) (IsPermutation-sym (entries_on node logs) calls moved) e (has_on node (all_of logs) e on (has_all_of logs c log e at has))

  pub merged_rise : IsNonDecreasingBy (λ (e : ToldEntry). e.place) calls → ((c : ℕ) (log : List ToldEntry) → slice_get logs c ≡ Some log → RisesOn node log) → AreApart node logs → Rises 0 (map told_entry calls)
  merged_rise order up apart =
      rises_told 0 calls (ascends calls order (IsDistinct-IsPermutation nat_eq nat_eq_turned (places_of (entries_on node logs)) (places_of calls) (IsPermutation-map (λ (e : ToldEntry). e.place) (entries_on node logs) calls moved) (distinct (places_of (entries_on node logs)) (once_all node logs up apart))))
