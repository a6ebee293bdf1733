-- Queues of told entries.
use Rattle.report_check.proofs.Imports.{◌≡◌, ◌<◌, ◌+◌, ℕ, zero, suc, List, [], ◌∷◌, length, map, get_or, refl, sym, ap, ◌∙◌, Bor, arith, true, false, nat_eq, map-set, length-map, slice_get-map, slice_get-get_or, slice_get_within, get_or_from_slice_get, Option, Some, None, slice_get, slice_set, option_map, ToldEntry, told_entry, LogEntry, of_client, queues_in, IsTaken, left_on}

abbrev pub told_of : Bor (List ToldEntry) → List LogEntry
told_of q = map told_entry q.now

-- ------ the entries of a client

pub mine : (client : ℕ) (e : ToldEntry) (es : List ToldEntry) → nat_eq e.who (client + 1) ≡ true → of_client client (map told_entry (e ∷ es)) ≡ told_entry e ∷ of_client client (map told_entry es)
mine client e es is = rw is refl

pub other : (client : ℕ) (e : ToldEntry) (es : List ToldEntry) → nat_eq e.who (client + 1) ≡ false → of_client client (map told_entry (e ∷ es)) ≡ of_client client (map told_entry es)
other client e es is = rw is refl

-- ------ a queue among the others

module _ (client : ℕ) where
  -- the client's entries on a node
  abbrev pub queue : Bor (List ToldEntry) → List LogEntry
  queue q = of_client client (told_of q)

  queue_at : (xs : List (Bor (List ToldEntry))) (i : ℕ) → slice_get (queues_in client (map told_of xs)) i ≡ option_map queue (slice_get xs i)
  queue_at xs i = slice_get-map (of_client client) (map told_of xs) i ∙ (ap (option_map (of_client client)) (slice_get-map told_of xs i) ∙ twice (slice_get xs i))
    where
      twice : (o : Option (Bor (List ToldEntry))) → option_map (of_client client) (option_map told_of o) ≡ option_map queue o
      twice None = refl
      twice (Some x) = refl

  here : (xs : List (Bor (List ToldEntry))) (i : ℕ) (x : Bor (List ToldEntry)) → i < length xs → x ≡ get_or xs i x → slice_get (queues_in client (map told_of xs)) i ≡ Some (queue x)
  here xs i x small e = queue_at xs i ∙ ap (option_map queue) (slice_get-get_or xs i x small ∙ ap (λ (y : Bor (List ToldEntry)). Some y) (sym e))

  pub empty_at : (xs : List (Bor (List ToldEntry))) (i : ℕ) (x : Bor (List ToldEntry)) → i < length xs → x ≡ get_or xs i x → queue x ≡ [] → slice_get (queues_in client (map told_of xs)) i ≡ Some []
  empty_at xs i x small e none = here xs i x small e ∙ ap (λ (q : List LogEntry). Some q) none

  pub taken_at : (xs : List (Bor (List ToldEntry))) (i : ℕ) (x y : Bor (List ToldEntry)) (e : ToldEntry) → i < length xs → x ≡ get_or xs i x → queue x ≡ told_entry e ∷ queue y → IsTaken i (told_entry e) (queues_in client (map told_of xs)) (queues_in client (map told_of (slice_set xs i y)))
  taken_at xs i x y e small at parts = record {
    later = queue y;
    at = here xs i x small at ∙ ap (λ (q : List LogEntry). Some q) parts;
    is = ap (queues_in client) (map-set told_of xs i y) ∙ map-set (of_client client) (map told_of xs) i (told_of y);
  }

  pub all_empty : (xs : List (Bor (List ToldEntry))) → ((k : ℕ) (d : Bor (List ToldEntry)) → k < length xs → queue (get_or xs k d) ≡ []) → (node : ℕ) (q : List LogEntry) → slice_get (queues_in client (map told_of xs)) node ≡ Some q → q ≡ []
  all_empty xs all node q at = by (slice_get xs node) refl
    where
      by : (o : Option (Bor (List ToldEntry))) → slice_get xs node ≡ o → q ≡ []
      by None e =
          let none : slice_get (queues_in client (map told_of xs)) node ≡ None = queue_at xs node ∙ ap (option_map queue) e in
          absurd (cc)
      by (Some x) e =
          let some : slice_get (queues_in client (map told_of xs)) node ≡ Some (queue x) = queue_at xs node ∙ ap (option_map queue) e in
          let whole : q ≡ queue x = cc in
          let small : node < length xs = slice_get_within xs node x e in
          let is : get_or xs node x ≡ x = get_or_from_slice_get xs node x x e in
          whole ∙ (ap queue (sym is) ∙ all node x small)

  pub each_empty : (xs : List (Bor (List ToldEntry))) → ((node : ℕ) (q : List LogEntry) → slice_get (queues_in client (map told_of xs)) node ≡ Some q → q ≡ []) → (k : ℕ) (d : Bor (List ToldEntry)) → k < length xs → queue (get_or xs k d) ≡ []
  each_empty xs each k d small = each k (queue (get_or xs k d)) (queue_at xs k ∙ ap (option_map queue) (slice_get-get_or xs k d small))

-- ------ how many entries are left

pub fewer : (xs : List (Bor (List ToldEntry))) (i : ℕ) (x y : Bor (List ToldEntry)) → i < length xs → x ≡ get_or xs i x → length y.now < length x.now → left_on (map told_of (slice_set xs i y)) < left_on (map told_of xs)
unfolding left_on
fewer [] i x y small e less = absurd (omega arith)
fewer (z ∷ xs) zero x y small e less =
    let same : length x.now ≡ length z.now = ap (λ (w : Bor (List ToldEntry)). length w.now) e in
    omega (arith, same, length-map y.now told_entry, length-map z.now told_entry)
fewer (z ∷ xs) (suc i) x y small e less =
    let later : left_on (map told_of (slice_set xs i y)) < left_on (map told_of xs) = fewer xs i x y (omega arith) e less in
    omega (arith, later)
