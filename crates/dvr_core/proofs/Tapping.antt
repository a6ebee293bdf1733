-- The taps that a history says, one entry later, and the packets that they name.
use Rattle.dvr_core.proofs.Imports.{ℕ, zero, suc, ◌+◌, ◌<◌, ◌≡◌, refl, sym, true, false, List, [], ◌∷◌, Some, map, arith, zero-add, if◌then◌else◌, filter, nat_eq, range_with_len, nat_tests, any_of_map, DEMUX_NODES, Attach, Detach, Response, is_accepted, Entry, History, entry_of, detached_by, tap_names, dvr_same, changed_at, attached, detached, some_names, tap_of, is_tapped, taps_of}

-- ------ a function's values at the places of a list, with another value at one place

module _ {X : Type 0} (change : X → X) (value : ℕ → X) where
  abbrev changed : (place i : ℕ) → X
  changed place i = if nat_eq place i then change (value i) else value i

  -- the place lies before the list
  before : (place from n : ℕ) → place < from → map (changed place) (range_with_len from n) ≡ map value (range_with_len from n)
  before place from zero lt = refl
  before place from (suc n) lt = let other : nat_eq place from ≡ false = grind (arith, nat_tests) in rw (other, before place (from + 1) n (omega (arith, lt))) refl

  change_places : (k place from n : ℕ) → from + k ≡ place → map (changed place) (range_with_len from n) ≡ changed_at k change (map value (range_with_len from n))
  change_places k place from zero is = refl
  change_places zero place from (suc n) is =
      let here : nat_eq place from ≡ true = grind (arith, nat_tests) in
      rw (here, before place (from + 1) n (omega (arith, is))) refl
  change_places (suc k) place from (suc n) is =
      let there : nat_eq place from ≡ false = grind (arith, nat_tests) in
      rw (there, change_places k place (from + 1) n (omega (arith, is))) refl

-- ------ one entry later

pub taps_same : (e : Entry) (h : History) → ((node : ℕ) → tap_of node (e ∷ h) ≡ tap_of node h) → taps_of (e ∷ h) ≡ taps_of h
unfolding taps_of
taps_same e h same = by_node (range_with_len 0 DEMUX_NODES) where
  by_node : (nodes : List ℕ) → map (λ node. tap_of node (e ∷ h)) nodes ≡ map (λ node. tap_of node h) nodes
  by_node [] = refl
  by_node (node ∷ nodes) = rw (same node, by_node nodes) refl

pub taps_refused : (e : Entry) (h : History) → is_accepted e.response ≡ false → taps_of (e ∷ h) ≡ taps_of h
taps_refused e h nay = taps_same e h (dvr_same e h nay).taps

module _ (h : History) (who : ℕ) (r : Response) (ok : is_accepted r ≡ true) where
  pub taps_attached : (node : ℕ) (pids : List ℕ) → taps_of (entry_of who (Attach node pids) r ∷ h) ≡ attached who node pids (taps_of h)
  unfolding taps_of tap_of
  taps_attached node pids = rw ok (change_places (λ tap. Some (record { by = who; pids = pids })) (λ n. tap_of n h) node node 0 DEMUX_NODES (zero-add node))

  pub taps_detached : (node : ℕ) → taps_of (entry_of who (Detach node) r ∷ h) ≡ detached who node (taps_of h)
  unfolding taps_of tap_of
  taps_detached node = rw ok (change_places (detached_by who) (λ n. tap_of n h) node node 0 DEMUX_NODES (zero-add node))

-- ------ the packets that they name

names_is : (h : History) (packet : List ℕ) → is_tapped h packet ≡ some_names (taps_of h) packet
unfolding is_tapped taps_of
names_is h packet = sym (any_of_map (tap_names packet) (λ node. tap_of node h) (range_with_len 0 DEMUX_NODES))

pub tapped_are : (h : History) (packets : List (List ℕ)) → filter (is_tapped h) packets ≡ filter (some_names (taps_of h)) packets
tapped_are h [] = refl
tapped_are h (packet ∷ packets) = rw (names_is h packet, tapped_are h packets) refl
