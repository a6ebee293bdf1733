-- The table of places.
use Rattle.ts_watch.proofs.Imports.{◌≡◌, ◌≢◌, ℕ, ◌+◌, ◌*◌, ◌<◌, ◌≤◌, ◌==◌, inl, inr, Bool, true, false, List, [], ◌∷◌, ◌++◌, length, replicate, get_or, set, Option, Some, None, refl, sym, ap, ◌∙◌, arith, length-append, length-set, get_or-set_same, get_or-set_other, get_or_append_left, get_or_push, get_or_default, get_or-replicate, get_or_past, length-replicate, All-set, All-push, All-nil, sum_by-set, sum_by-cons, sum_by-replicate, cases_eq, cases_lt, eqb_tells, sum_by, pid_of, Seen, Watching, IsWatching, IsSeen, Watched, nothing, kept, kept_of, after, taken, clean, without_repeats_after, counts, breaks_after}
use Rattle.ts_watch.proofs.Counting.{kept-own, kept-other}

sum-le : (xs : List (Option ℕ)) → sum_by taken xs ≤ length xs
sum-le [] = omega arith
sum-le (None ∷ xs) = (let h = sum-le xs in let e = sum_by-cons taken None xs in omega (arith, h, e))
sum-le (Some k ∷ xs) = (let h = sum-le xs in let e = sum_by-cons taken (Some k) xs in omega (arith, h, e))

-- one more place
pub one-taken : (xs : List (Option ℕ)) (i place : ℕ) → i < length xs → get_or xs i None ≡ None → sum_by taken (set xs i (Some place)) ≡ sum_by taken xs + 1
one-taken xs i place h none = (let s : sum_by taken (set xs i (Some place)) + taken (get_or xs i None) ≡ sum_by taken xs + 1 = sum_by-set taken xs i (Some place) None h in let k = rw none at s in omega (arith, k))

-- where a PID has no place there is room for one
pub has-room : (xs : List (Option ℕ)) (i : ℕ) → i < length xs → get_or xs i None ≡ None → sum_by taken xs < length xs
has-room xs i h none =
    let one = one-taken xs i 0 h none in
    let few = sum-le (set xs i (Some 0)) in
    let size = length-set xs i (Some 0) in
    omega (arith, one, few, size)

pub not-both : false ≡ true → ⊥
not-both e = cc

same-some : (a b : ℕ) → Some a ≡ Some b → a ≡ b
same-some a b e = cc

some-none : (place : ℕ) → Some place ≡ None → ⊥
some-none place e = cc

-- at the beginning
pub begins : (places : List (Option ℕ)) (seen : List Seen) → places ≡ replicate 8192 None → seen ≡ [] → IsWatching (record { watched = 0; places = places; seen = seen })
begins places seen p s = rw (p, s) (record {
  size = length-replicate {A = Option ℕ} 8192 None;
  own = λ pid place h. absurd (none-placed pid place h);
  all = sum_by-replicate taken 8192 None ∙ (let z : 8192 * 0 ≡ 0 = omega arith in z);
  few = All-nil (λ s. s.row.packets ≤ 0);
  sound = All-nil IsSeen;
})
  where
    none-placed : (pid place : ℕ) → get_or (replicate 8192 None) pid None ≡ Some place → ⊥
    none-placed pid place h = elim (cases_lt pid 8192) [
      | inl in' ↦ (let e : get_or (replicate 8192 None) pid None ≡ None = get_or-replicate 8192 pid None None in' in some-none place (sym h ∙ e))
      | inr past ↦ (let e : get_or (replicate 8192 None) pid None ≡ None = get_or_past (replicate 8192 None) pid None (omega (arith, length-replicate {A = Option ℕ} 8192 None, past)) in some-none place (sym h ∙ e))
    ]

nothing-by : (pid : ℕ) (b : Bool) → (pid == 0x1fff) ≡ b → nothing pid ≡ kept_of [] pid
unfolding counts clean without_repeats_after breaks_after
nothing-by pid true e = rw e refl
nothing-by pid false e = rw e refl

pub begins-with : (places : List (Option ℕ)) (seen : List Seen) → places ≡ replicate 8192 None → Watched [] (record { watched = 0; places = places; seen = seen })
begins-with places seen p = rw p (record { count = refl; kept = λ pid below. (let e : get_or {A = Option ℕ} (replicate 8192 None) pid None ≡ None = get_or-replicate 8192 pid None None below in rw e (nothing-by pid (pid == 0x1fff) refl)) })

-- a PID gets a place
pub placed : (w : Watching) (pid : ℕ) → IsWatching w → pid < 8192 → get_or w.places pid None ≡ None
    → IsWatching (record { watched = w.watched; places = set w.places pid (Some (length w.seen)); seen = w.seen ++ nothing pid ∷ [] })
placed w pid i h none = record {
  size = length-set w.places pid (Some (length w.seen)) ∙ i.size;
  own = own;
  all = (let one = one-taken w.places pid (length w.seen) (omega (arith, i.size)) none in omega (arith, one, i.all, length-append w.seen (nothing pid ∷ [])));
  few = All-push (λ s. s.row.packets ≤ w.watched) w.seen (nothing pid) i.few (omega arith);
  sound = All-push IsSeen w.seen (nothing pid) i.sound (record { breaks = omega arith; duplicates = omega arith; errors = omega arith; last = tt });
}
  where
    own : (q place : ℕ) → get_or (set w.places pid (Some (length w.seen))) q None ≡ Some place
        → (place < length (w.seen ++ nothing pid ∷ [])) × ((get_or (w.seen ++ nothing pid ∷ []) place (nothing q)).pid ≡ q)
    own q place e = elim (cases_eq q pid) [
      | inl same ↦ (let k : length w.seen ≡ place = same-some (length w.seen) place (sym (get_or-set_same w.places pid (Some (length w.seen)) None (omega (arith, h, i.size))) ∙ (rw same at e)) in (omega (arith, k, length-append w.seen (nothing pid ∷ [])), ap (λ (t : Seen). t.pid) (get_or_push w.seen (nothing pid) (nothing q) place k) ∙ sym same))
      | inr other ↦ (let k : get_or w.places q None ≡ Some place = sym (get_or-set_other w.places pid q (Some (length w.seen)) None other) ∙ e in let o = i.own q place k in (omega (arith, o.0, length-append w.seen (nothing pid ∷ [])), ap (λ (t : Seen). t.pid) (get_or_append_left w.seen (nothing pid ∷ []) (nothing q) place o.0) ∙ o.1))
    ]

-- two PIDs at one place are one
in-place : (w : Watching) (pid place : ℕ) (s : Seen) (q other : ℕ) → s.pid ≡ pid → other ≡ place → other < length w.seen → (get_or w.seen other (nothing q)).pid ≡ q → (get_or w.seen place (nothing pid)).pid ≡ pid
    → (get_or (set w.seen place s) other (nothing q)).pid ≡ q
in-place w pid place s q other own same below theirs mine =
    let d : get_or w.seen other (nothing q) ≡ get_or w.seen other (nothing pid) = get_or_default w.seen other (nothing q) (nothing pid) below in
    let m : (get_or w.seen other (nothing pid)).pid ≡ pid = rw same mine in
    let both : q ≡ pid = sym theirs ∙ ap (λ (t : Seen). t.pid) d ∙ m in
    let e : get_or (set w.seen place s) place (nothing q) ≡ s = get_or-set_same w.seen place s (nothing q) (rw same at below) in
    rw (same, e) (own ∙ sym both)

-- what is kept of a PID that has a place
pub kept-placed : (w : Watching) (pid place : ℕ) → get_or w.places pid None ≡ Some place → kept w pid ≡ get_or w.seen place (nothing pid)
kept-placed w pid place at = rw at refl

pub kept-taken : (w : Watching) (pid place count : ℕ) (s : Seen) → IsWatching w → get_or w.places pid None ≡ Some place → kept (record { watched = count; places = w.places; seen = set w.seen place s }) pid ≡ s
kept-taken w pid place count s i at = rw at (get_or-set_same w.seen place s (nothing pid) ((i.own pid place at).0))

-- two PIDs with places have two
apart : (w : Watching) (pid q place other : ℕ) → IsWatching w → get_or w.places pid None ≡ Some place → get_or w.places q None ≡ Some other → q ≢ pid → other ≢ place
apart w pid q place other i at their ne = λ same. ne (
    let o = i.own q other their in
    let mine = i.own pid place at in
    let d : get_or w.seen other (nothing q) ≡ get_or w.seen other (nothing pid) = get_or_default w.seen other (nothing q) (nothing pid) o.0 in
    let m : (get_or w.seen other (nothing pid)).pid ≡ pid = rw same mine.1 in
    sym o.1 ∙ ap (λ (t : Seen). t.pid) d ∙ m)

kept-by : (w : Watching) (pid q place count : ℕ) (s : Seen) (o : Option ℕ) → IsWatching w → get_or w.places pid None ≡ Some place → get_or w.places q None ≡ o → q ≢ pid
    → kept (record { watched = count; places = w.places; seen = set w.seen place s }) q ≡ kept w q
kept-by w pid q place count s None i at their ne = rw their refl
kept-by w pid q place count s (Some other) i at their ne = rw their (get_or-set_other w.seen place other s (nothing q) (apart w pid q place other i at their ne))

pub kept-others : (w : Watching) (pid q place count : ℕ) (s : Seen) → IsWatching w → get_or w.places pid None ≡ Some place → q ≢ pid
    → kept (record { watched = count; places = w.places; seen = set w.seen place s }) q ≡ kept w q
kept-others w pid q place count s i at ne = kept-by w pid q place count s (get_or w.places q None) i at refl ne

-- what is kept at a place changes
pub taken-in : (w : Watching) (pid place : ℕ) (r s : Seen) → IsWatching w → get_or w.places pid None ≡ Some place → r ≡ get_or w.seen place r → s.pid ≡ r.pid → s.row.packets ≡ r.row.packets + 1 → IsSeen s
    → IsWatching (record { watched = w.watched + 1; places = w.places; seen = set w.seen place s })
taken-in w pid place r s i at was same more sound =
    let below = (i.own pid place at).0 in
    let mine : r.pid ≡ pid = ap (λ (t : Seen). t.pid) (was ∙ get_or_default w.seen place r (nothing pid) below) ∙ (i.own pid place at).1 in
    let own : s.pid ≡ pid = same ∙ mine in
    let most : (get_or w.seen place r).row.packets ≤ w.watched = i.few place r below in
    let was-few : r.row.packets ≤ w.watched = rw was most in
    let few : s.row.packets ≤ w.watched + 1 = omega (arith, more, was-few) in
    record {
      size = i.size;
      own = λ q other e. elim (cases_eq other place) [
        | inl same ↦ (let o = i.own q other e in let mine = i.own pid place at in (omega (arith, o.0, length-set w.seen place s), in-place w pid place s q other own same o.0 o.1 mine.1))
        | inr apart ↦ (let o = i.own q other e in (omega (arith, o.0, length-set w.seen place s), ap (λ (t : Seen). t.pid) (get_or-set_other w.seen place other s (nothing q) apart) ∙ o.1))
      ];
      all = i.all ∙ sym (length-set w.seen place s);
      few = All-set (λ t. t.row.packets ≤ w.watched + 1) w.seen place s few (λ k d below. (let h = i.few k d below in omega (arith, h)));
      sound = All-set IsSeen w.seen place s sound i.sound;
    }

-- one more packet was shown
pub shown : (w new : Watching) (p : List ℕ) (packets : List (List ℕ)) → new.watched ≡ w.watched + 1 → kept new (pid_of p) ≡ after (kept w (pid_of p)) p
    → ((pid : ℕ) → pid ≢ pid_of p → kept new pid ≡ kept w pid) → Watched packets w → Watched (packets ++ p ∷ []) new
shown w new p packets count own others h = record {
  count = count ∙ (rw h.count (sym (length-append packets (p ∷ []))));
  kept = λ pid below. elim (eqb_tells (pid_of p) pid) [
    | inl same ↦ (let o : kept new pid ≡ after (kept w pid) p = rw same.1 at own in o ∙ (rw (h.kept pid below) (kept-own packets p pid same.0)))
    | inr other ↦ others pid (λ e. other.1 (sym e)) ∙ h.kept pid below ∙ sym (kept-other packets p pid other.0)
  ];
}
