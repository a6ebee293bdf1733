-- Items that arrive one by one, and the same items at once.
use Rattle.node_buffer.proofs.Imports.{ℕ, zero, suc, take, drop, add-one, ◌+◌, ◌-◌, ◌<◌, ◌≤◌, ◌≡◌, refl, sym, ◌∙◌, ap, subst, Bool, true, false, List, [], ◌∷◌, ◌++◌, Option, Some, None, length, arith, append_assoc, length-append, length-take, length-drop, add-zero, zero-add, add_assoc, one-add, nat_eq, nat_lt, if◌then◌else◌, slice_get, concat, concat-append, nat_tests, append-nil, take-append-le, take_all, History, Params, Empty, Section, Pes, Rules, Misfit, keeps, edge_of, answered, over, Ledger, rest_of_item, rest_of, ledger_at, PlacedIn, rest_of-end, over_none, ledger_next, is_section, terms_of, rest_with, with_lost, with_misfit, with_kept, with_item_by, with_item, with_items, UnreadFits, Coherent, Terms, joined, total, edge}
use Rattle.node_buffer.proofs.Rests.{rest_some, rest_before, rest_behind_all}

-- ------ lists

-- the first n of bytes and then others, where there are n of them, are those bytes
first_are : (n : ℕ) (us xs : List ℕ) → n ≡ length us → take n (us ++ xs) ≡ us
first_are n us xs is = take-append-le n us xs (omega (arith, is)) ∙ take_all n us (omega (arith, is))

joined_length : (xs : List (List ℕ)) (x : List ℕ) → length (concat (xs ++ x ∷ [])) ≡ length (concat xs) + length x
joined_length xs x = ap length (concat-append xs (x ∷ [])) ∙ (length-append (concat xs) (x ++ []) ∙ ap (λ ys. length (concat xs) + length ys) (append-nil x))

-- ------ what is left of the section

-- up to the edge items that arrive change nothing of it
rest_same : (set : Params) (to : ℕ) (old new : List (List ℕ)) (n : ℕ) → to ≤ length (concat old) → rest_of set to old n ≡ rest_of set to (old ++ new) n
rest_same Empty to old new n within = refl
rest_same (Pes p) to old new n within = refl
rest_same (Section p) to old new n within = by_test (nat_lt n to) refl where
  by_test : (b : Bool) → nat_lt n to ≡ b → (if b then rest_of_item old n else 0) ≡ (if b then rest_of_item (old ++ new) n else 0)
  by_test false past = refl
  by_test true before = let lt : n < to = grind (arith, nat_tests) in sym (rest_before old new n (omega (arith, lt, within)))

-- an item that is kept is at the front where nothing was unread
rest_kept : (set : Params) (old : List (List ℕ)) (x : List ℕ) (n total : ℕ) → total ≡ length (concat old) → n ≤ total
    → rest_with (is_section set) (rest_of set total old n) x ≡ rest_of set (total + length x) (old ++ x ∷ []) n
rest_kept Empty old x n total is le = refl
rest_kept (Pes p) old x n total is le = refl
rest_kept (Section p) old x n total is le = by_test (nat_lt n total) refl where
  at_end : (b : Bool) → nat_lt n (total + length x) ≡ b → n ≡ total → length x ≡ (if b then rest_of_item (old ++ x ∷ []) n else 0)
  at_end false past here = let few : total + length x ≤ n = grind (arith, nat_tests) in omega (arith, few, here)
  at_end true more here =
      let some : nat_lt 0 (length x) ≡ true = let lt : n < total + length x = grind (arith, nat_tests) in grind (arith, nat_tests, lt, here) in
      let whole : rest_of_item (x ∷ []) 0 ≡ length x = rw some (omega arith) in
      rw (here, is) (sym (rest_behind_all old (x ∷ []) ∙ whole))

  by_test : (b : Bool) → nat_lt n total ≡ b
      → rest_with true (if b then rest_of_item old n else 0) x ≡ (if nat_lt n (total + length x) then rest_of_item (old ++ x ∷ []) n else 0)
  by_test true before =
      let lt : n < total = grind (arith, nat_tests) in
      let some : 0 < rest_of_item old n = rest_some old n (omega (arith, lt, is)) in
      let test : nat_eq (rest_of_item old n) 0 ≡ false = grind (arith, nat_tests) in
      let also : nat_lt n (total + length x) ≡ true = grind (arith, nat_tests) in
      rw (test, also) (sym (rest_before old (x ∷ []) n (omega (arith, lt, is))))
  by_test false past = let ge : total ≤ n = grind (arith, nat_tests) in at_end (nat_lt n (total + length x)) refl (omega (arith, ge, le))

-- ------ a ledger of these items

abbrev pub edge_in : Params → Ledger → ℕ
edge_in set l = edge_of (keeps set) l.over l.total l.answered

-- it is that of a capture which has had these items
pub record Fits (set : Params) (old : List (List ℕ)) (l : Ledger) : Type 0 where
  pub total : l.total ≡ length (concat old)
  pub answered : l.answered ≤ l.total
  pub placed : PlacedIn l.over l.answered l.total
  pub unread : length l.unread ≡ edge_in set l - l.answered
  pub rest : l.rest ≡ rest_of set (edge_in set l) old l.answered

-- ------ one by one, and at once

module _ (set : Params) (cap : ℕ) where
  abbrev Next : List (List ℕ) → Ledger → List (List ℕ) → Ledger
  Next old l new = ledger_next cap set old l 0 false false l.expired new

  next-nil : (old : List (List ℕ)) (l : Ledger) → Fits set old l → l ≡ Next old l []
  next-nil old l fits =
      rw (over_none l.over, add-zero l.count, add-zero l.total, zero-add l.answered, append-nil l.unread, append-nil old, ← fits.unread, take_all (length l.unread) l.unread (omega arith), ← fits.rest) refl

  -- behind an item that didn't fit
  module _ (old : List (List ℕ)) (x : List ℕ) (l : Ledger) (m : Misfit) (is : l.over ≡ Some m) (fits : Fits set old l) where
    placed : PlacedIn (Some m) l.answered l.total
    placed = subst (λ o. PlacedIn o l.answered l.total) is fits.placed

    abbrev edge_here : ℕ
    edge_here = if keeps set then m.place else l.answered

    within : edge_here ≤ l.total
    within = by_keep (keeps set) where
      by_keep : (b : Bool) → (if b then m.place else l.answered) ≤ l.total
      by_keep true = placed.1
      by_keep false = fits.answered

    fits-lost : Fits set (old ++ x ∷ []) (with_lost l x)
    fits-lost = record {
      total = omega (arith, fits.total, joined_length old x);
      answered = omega (arith, fits.answered);
      placed = rw is (placed.0, omega (arith, placed.1));
      unread = rw is (let u = fits.unread in rw is at u);
      rest = rw is (let r : l.rest ≡ rest_of set edge_here old l.answered = rw is at fits.rest in r ∙ rest_same set edge_here old (x ∷ []) l.answered (omega (arith, within, fits.total)));
    }

    next-lost : (xs : List (List ℕ)) → Next (old ++ x ∷ []) (with_lost l x) xs ≡ Next old l (x ∷ xs)
    next-lost xs =
        let u : length l.unread ≡ edge_here - l.answered = rw is at fits.unread in
        let same : take (edge_here - l.answered) (l.unread ++ concat xs) ≡ take (edge_here - l.answered) (l.unread ++ (x ++ concat xs)) =
        first_are (edge_here - l.answered) l.unread (concat xs) (sym u) ∙ sym (first_are (edge_here - l.answered) l.unread (x ++ concat xs) (sym u)) in
        rw (is, zero-add l.answered, same, append_assoc old (x ∷ []) xs, length-append x (concat xs), add_assoc l.count 1 (length xs), add_assoc l.total (length x) (length (concat xs)), one-add (length xs)) refl

  -- before any
  module _ (old : List (List ℕ)) (x : List ℕ) (l : Ledger) (is : l.over ≡ None) (fits : Fits set old l) where
    all_unread : length l.unread ≡ l.total - l.answered
    all_unread = rw is at fits.unread

    rest_here : l.rest ≡ rest_of set l.total old l.answered
    rest_here = rw is at fits.rest

    fits-kept : Fits set (old ++ x ∷ []) (with_kept (is_section set) l x)
    fits-kept = record {
      total = omega (arith, fits.total, joined_length old x);
      answered = omega (arith, fits.answered);
      placed = rw is tt;
      unread = rw is (omega (arith, length-append l.unread x, all_unread, fits.answered));
      rest = rw (is, rest_here) (rest_kept set old x l.answered l.total fits.total fits.answered);
    }

    fits-misfit : (room : ℕ) → Fits set (old ++ x ∷ []) (with_misfit (keeps set) room l x)
    fits-misfit room = by_keep (keeps set) refl where
      by_keep : (b : Bool) → keeps set ≡ b → Fits set (old ++ x ∷ []) (with_misfit b room l x)
      by_keep true kept = record {
        total = omega (arith, fits.total, joined_length old x);
        answered = omega (arith, fits.answered);
        placed = (fits.answered, omega arith);
        unread = rw kept all_unread;
        rest = rw kept (rest_here ∙ rest_same set l.total old (x ∷ []) l.answered (omega (arith, fits.total)));
      }
      by_keep false lost = record {
        total = omega (arith, fits.total, joined_length old x);
        answered = omega (arith, fits.answered);
        placed = (fits.answered, omega arith);
        unread = rw lost (omega arith);
        rest = rw lost (sym (rest_of-end set l.answered (old ++ x ∷ [])));
      }

    next-kept : (xs : List (List ℕ)) → nat_lt (cap - (l.total - l.answered)) (length x) ≡ false → Next (old ++ x ∷ []) (with_kept (is_section set) l x) xs ≡ Next old l (x ∷ xs)
    next-kept xs room =
        rw (is, room, append_assoc l.unread x (concat xs), append_assoc old (x ∷ []) xs, length-append x (concat xs), add_assoc l.count 1 (length xs), add_assoc l.total (length x) (length (concat xs)), one-add (length xs)) refl

    next-misfit : (xs : List (List ℕ)) → nat_lt (cap - (l.total - l.answered)) (length x) ≡ true
        → Next (old ++ x ∷ []) (with_misfit (keeps set) (cap - length l.unread) l x) xs ≡ Next old l (x ∷ xs)
    next-misfit xs room =
        rw (is, all_unread, room, same (keeps set), append_assoc old (x ∷ []) xs, length-append x (concat xs), add_assoc l.count 1 (length xs), add_assoc l.total (length x) (length (concat xs)), one-add (length xs)) refl where
          same : (b : Bool) → take ((if b then l.total else 0 + l.answered) - (0 + l.answered)) ((if b then l.unread else []) ++ concat xs)
              ≡ take ((if b then l.total else 0 + l.answered) - (0 + l.answered)) (l.unread ++ (x ++ concat xs))
          same true =
              first_are (l.total - (0 + l.answered)) l.unread (concat xs) (omega (arith, all_unread)) ∙ sym (first_are (l.total - (0 + l.answered)) l.unread (x ++ concat xs) (omega (arith, all_unread)))
          same false = let none : 0 + l.answered - (0 + l.answered) ≡ 0 = omega arith in rw none refl

  one-by-one : (x : List ℕ) (xs old : List (List ℕ)) (l : Ledger) (o : Option Misfit)
      → ((old : List (List ℕ)) (l : Ledger) → Fits set old l → with_items (terms_of set) cap l xs ≡ Next old l xs)
      → l.over ≡ o → Fits set old l → with_items (terms_of set) cap (with_item_by o (terms_of set) cap l x) xs ≡ Next old l (x ∷ xs)
  one-by-one x xs old l (Some m) ih is fits = ih (old ++ x ∷ []) (with_lost l x) (fits-lost old x l m is fits) ∙ next-lost old x l m is fits xs
  one-by-one x xs old l None ih is fits = by_room (nat_lt (cap - (l.total - l.answered)) (length x)) refl where
    same : nat_lt (cap - length l.unread) (length x) ≡ nat_lt (cap - (l.total - l.answered)) (length x)
    same = ap (λ n. nat_lt (cap - n) (length x)) (all_unread old x l is fits)

    by_room : (b : Bool) → nat_lt (cap - (l.total - l.answered)) (length x) ≡ b
        → with_items (terms_of set) cap (with_item_by None (terms_of set) cap l x) xs ≡ Next old l (x ∷ xs)
    by_room true long =
        ap (λ b. with_items (terms_of set) cap (if b then with_misfit (keeps set) (cap - length l.unread) l x else with_kept (is_section set) l x) xs) (same ∙ long)
        ∙ (ih (old ++ x ∷ []) (with_misfit (keeps set) (cap - length l.unread) l x) (fits-misfit old x l is fits (cap - length l.unread)) ∙ next-misfit old x l is fits xs long)
    by_room false short =
        ap (λ b. with_items (terms_of set) cap (if b then with_misfit (keeps set) (cap - length l.unread) l x else with_kept (is_section set) l x) xs) (same ∙ short)
        ∙ (ih (old ++ x ∷ []) (with_kept (is_section set) l x) (fits-kept old x l is fits) ∙ next-kept old x l is fits xs short)

  -- It is the ledger with them at once.
  pub with_items-next : (xs old : List (List ℕ)) (l : Ledger) → Fits set old l → with_items (terms_of set) cap l xs ≡ Next old l xs
  with_items-next [] old l fits = next-nil old l fits
  with_items-next (x ∷ xs) old l fits = one-by-one x xs old l l.over (λ old' l' fits'. with_items-next xs old' l' fits') refl fits

-- ------ the ledger of a history

pub placed_by : (o : Option Misfit) (us : List ℕ) (answered total : ℕ) → UnreadFits o us answered total → PlacedIn o answered total
placed_by None us answered total fits = tt
placed_by (Some m) us answered total fits = (omega (arith, fits.0), fits.1)

edge_by : (k : Bool) (o : Option Misfit) (answered total : ℕ) → answered ≤ total → PlacedIn o answered total → (answered ≤ edge_of k o total answered) × (edge_of k o total answered ≤ total)
edge_by k None answered total le placed = (le, omega arith)
edge_by true (Some m) answered total le placed = (placed.0, placed.1)
edge_by false (Some m) answered total le placed = (omega arith, le)

module _ (node : Rules) (h : History) (c : Coherent (ledger_at node h)) where
  pub placed_in : PlacedIn (over node h) (answered node h) (total node h)
  placed_in = placed_by (over node h) (ledger_at node h).unread (answered node h) (total node h) c.unread

  -- what is answered is before the edge, and the edge before the end
  pub around_edge : (answered node h ≤ edge node h) × (edge node h ≤ total node h)
  unfolding edge
  around_edge = edge_by (keeps (node.params h)) (over node h) (answered node h) (total node h) c.answered placed_in

  pub unread_length : length (ledger_at node h).unread ≡ edge node h - answered node h
  unfolding total
  unread_length =
      omega (arith, around_edge.0, around_edge.1, length-take (edge node h - answered node h) (drop (answered node h) (joined node h)), length-drop (answered node h) (joined node h))

  pub fits_here : (expired : Option ℕ) → Fits (node.params h) (node.items h) (record (ledger_at node h) { expired = expired })
  unfolding edge total joined
  fits_here expired = record { total = refl; answered = c.answered; placed = placed_in; unread = unread_length; rest = refl }

-- ------ items of one part, and then those of the rest

pub with_items-append : (terms : Terms) (capacity : ℕ) (xs ys : List (List ℕ)) (l : Ledger)
    → with_items terms capacity l (xs ++ ys) ≡ with_items terms capacity (with_items terms capacity l xs) ys
with_items-append terms capacity [] ys l = refl
with_items-append terms capacity (x ∷ xs) ys l = with_items-append terms capacity xs ys (with_item terms capacity l x)

-- the element in place i, and then those behind it
pub drop-one : {X : Type 0} (xs : List X) (i : ℕ) (x : X) → slice_get xs i ≡ Some x → drop i xs ≡ x ∷ drop (i + 1) xs
drop-one [] i x is = absurd (cc)
drop-one (y ∷ ys) zero x is = let e : y ≡ x = cc in ap (λ z. z ∷ ys) e
drop-one (y ∷ ys) (suc i) x is = rw (add-one) (let e = drop-one ys i x is in rw (add-one) at e)
