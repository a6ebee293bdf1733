-- The laws of sections over whole lists of packets.
use Rattle.section_parse.proofs.Imports.{if◌then◌else◌, ◌≡◌, ℕ, ◌+◌, ◌≤◌, Bool, true, false, List, [], ◌∷◌, ◌++◌, length, take, drop, Some, None, refl, sym, ap, ◌∙◌, arith, length-drop, get_or, append-nil, flat_map-append, All-append, All-nil, filter-append, All, filter, flat_map, fold, last_or, IsPacket, has_adaptation, carried, is_usable, joins, clean-append, last-clean, clean-apart, in_front, segments, section_length, has_section, sections_of_run, IsSection, sections_to_come, cleared, SectionsLieEndToEnd, SectionsStay, IsApart, SectionsRecover, SectionsAreWhole, SectionsFitThePackets, without_repeats_after, clean, runs, read_sections, sections}
use Rattle.section_parse.proofs.Reading.{read-first, read-none, each-is}
use Rattle.section_parse.proofs.Assembled.{AreFew, next_kept, keeps-all}

-- reading from the front
read-by : (s : List ℕ) (b : Bool) → has_section s ≡ b → read_sections s ≡ (if has_section s then take (3 + section_length s) s ∷ read_sections (drop (3 + section_length s) s) else [])
read-by s true e = rw e (read-first s e)
read-by s false e = rw e (read-none s e)

pub end_to_end : SectionsLieEndToEnd
end_to_end s = read-by s (has_section s) refl

-- a prefix's sections are a prefix
pub stay : SectionsStay
stay earlier later pid =
    let k = keeps-all pid earlier in
    let h = k.keeps in
    let e : sections earlier pid ≡ k.found = rw (h.drained, append-nil k.found, h.same) at h.stands.so_far in
    let a = fold next_kept (cleared pid) earlier in
    let g : sections (earlier ++ later) a.pid ≡ k.found ++ sections_to_come a later = h.stands.goes_on later in
    (sections_to_come a later, rw e (ap (λ (n : ℕ). sections (earlier ++ later) n) (sym h.same) ∙ g))

-- each is whole
All-flat_map : (f : List (List ℕ) → List (List ℕ)) → ((x : List (List ℕ)) → All IsSection (f x)) → (xs : List (List (List ℕ))) → All IsSection (flat_map f xs)
All-flat_map f each [] = All-nil IsSection
All-flat_map f each (x ∷ xs) = All-append IsSection (f x) (flat_map f xs) (each x) (All-flat_map f each xs)

All-segments : (ss : List (List ℕ)) → All IsSection (flat_map read_sections ss)
unfolding read_sections
All-segments [] = All-nil IsSection
All-segments (s ∷ ss) = All-append IsSection (read_sections s) (flat_map read_sections ss) (each-is 0 s) (All-segments ss)

pub are_whole : SectionsAreWhole
unfolding sections
are_whole packets pid = All-flat_map sections_of_run (λ run. All-segments (segments run)) (runs (clean packets pid))

-- the bytes
pub carried-few : (p : List ℕ) → length p ≡ 188 → length (carried p) ≤ 184
carried-few p size = go (has_adaptation p) refl
  where
    go : (b : Bool) → has_adaptation p ≡ b → length (carried p) ≤ 184
    go true e = rw e (omega (arith, size, length-drop (5 + get_or p 4 0) p))
    go false e = rw e (omega (arith, size, length-drop 4 p))

are-few : (packets : List (List ℕ)) → All IsPacket packets → AreFew packets
are-few packets h = λ k d below. carried-few (get_or packets k d) (h k d below).size

pub fit : SectionsFitThePackets
fit packets pid all =
    let k = keeps-all pid packets in
    let h = k.keeps in
    let e : sections packets pid ≡ k.found = rw (h.drained, append-nil k.found, h.same) at h.stands.so_far in
    rw e (omega (arith, k.bytes (are-few packets all)))

-- recovery: the runs of packets that are apart
front-apart : (p q : List ℕ) (rs : List (List (List ℕ))) → joins p q ≡ false → in_front p (in_front q rs) ≡ (p ∷ []) ∷ in_front q rs
front-apart p q [] j = rw j refl
front-apart p q ([] ∷ rs) j = rw j refl
front-apart p q ((r ∷ run) ∷ rs) j = go (joins q r) refl
  where
    go : (b : Bool) → joins q r ≡ b → in_front p (in_front q ((r ∷ run) ∷ rs)) ≡ (p ∷ []) ∷ in_front q ((r ∷ run) ∷ rs)
    go true e = rw (e, j) refl
    go false e = rw (e, j) refl

front-by : (p q : List ℕ) (run : List (List ℕ)) (rs more : List (List (List ℕ))) (b : Bool) → joins p q ≡ b → in_front p (((q ∷ run) ∷ rs) ++ more) ≡ in_front p ((q ∷ run) ∷ rs) ++ more
front-by p q run rs more true e = rw e refl
front-by p q run rs more false e = rw e refl

front-append : (p q : List ℕ) (rs more : List (List (List ℕ))) → in_front p (in_front q rs ++ more) ≡ in_front p (in_front q rs) ++ more
front-append p q [] more = front-by p q [] [] more (joins p q) refl
front-append p q ([] ∷ rs) more = front-by p q [] rs more (joins p q) refl
front-append p q ((r ∷ run) ∷ rs) more = go (joins q r) refl
  where
    go : (b : Bool) → joins q r ≡ b → in_front p (in_front q ((r ∷ run) ∷ rs) ++ more) ≡ in_front p (in_front q ((r ∷ run) ∷ rs)) ++ more
    go true e = rw e (front-by p q (r ∷ run) rs more (joins p q) refl)
    go false e = rw e (front-by p q [] ((r ∷ run) ∷ rs) more (joins p q) refl)

runs-apart : (ps : List (List ℕ)) (q : List ℕ) (qs : List (List ℕ)) → ((before : List ℕ) → last_or None ps ≡ Some before → joins before q ≡ false) → runs (ps ++ q ∷ qs) ≡ runs ps ++ runs (q ∷ qs)
unfolding runs
runs-apart [] q qs h = refl
runs-apart (p ∷ []) q qs h = front-apart p q (runs qs) (h p refl)
runs-apart (p ∷ r ∷ ps) q qs h = rw (runs-apart (r ∷ ps) q qs h) (front-append p r (runs ps) (runs (q ∷ qs)))

sections-of : (ps qs : List (List ℕ)) → runs (ps ++ qs) ≡ runs ps ++ runs qs → flat_map sections_of_run (runs (ps ++ qs)) ≡ flat_map sections_of_run (runs ps) ++ flat_map sections_of_run (runs qs)
sections-of ps qs e = rw e (flat_map-append sections_of_run (runs ps) (runs qs))

recover-by : (us vs : List (List ℕ)) → IsApart (without_repeats_after None us) (without_repeats_after None vs)
    → flat_map sections_of_run (runs (without_repeats_after None (us ++ vs))) ≡ flat_map sections_of_run (runs (without_repeats_after None us)) ++ flat_map sections_of_run (runs (without_repeats_after None vs))
unfolding without_repeats_after runs
recover-by us [] h = rw (append-nil us) (sym (append-nil (flat_map sections_of_run (runs (without_repeats_after None us)))))
recover-by us (v ∷ vs) h =
    let cs = without_repeats_after None us in
    let alike = last-clean us None None tt in
    let same = clean-apart (last_or None cs) (last_or None us) v vs alike (λ before e. (h before v e refl).1) in
    rw (clean-append None us (v ∷ vs), same) (sections-of cs (without_repeats_after None (v ∷ vs)) (runs-apart cs v (without_repeats_after (Some v) vs) (λ before e. (h before v e refl).0)))

pub recover : SectionsRecover
unfolding sections clean
recover earlier later pid h = rw (filter-append (is_usable pid) earlier later) (recover-by (filter (is_usable pid) earlier) (filter (is_usable pid) later) h)
