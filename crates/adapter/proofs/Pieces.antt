-- A row of 33 is a row of 32 and one more.
use Rattle.adapter.proofs.Imports.{◌≡◌, ℕ, List, [], ◌∷◌, ◌++◌, length, slice_get, set, Some, ap, sym, ◌∙◌, set-append_left, set-append_seam, slice_get_within, TableId, View, Held, OneMore, OneCalls, OneMiss, OneMisses, OneLook, OneLooks}
use Rattle.adapter.proofs.Lists.{at_last, at_before}

module _ {N : Type 0} where
  module _ (who_of : N → ℕ) (S T : List N → Type 0) (means : (h : List N) → S h → T h) where
    more_means : (e : N) (place : ℕ) (p q : TableId × View N) → OneMore who_of S e place p q → OneMore who_of T e place p q
    more_means e place p q o = record { before = o.before; seen = o.seen; now = o.now; at = o.at; few = o.few; told = o.told; calls = o.calls; same = o.same; left = o.left; miss = o.miss; meant = means q.1.seen o.meant }

    miss_means : (held : Held) (p q : TableId × View N) → OneMiss who_of S held p q → OneMiss who_of T held p q
    miss_means held p q o = record { seen = o.seen; served = o.served; behind = o.behind; few = o.few; looks = o.looks; miss = o.miss; own = o.own; calls = o.calls; same = o.same; left = o.left; meant = means q.1.seen o.meant }

    look_means : (len : ℕ) (p q : TableId × View N) → OneLook who_of S len p q → OneLook who_of T len p q
    look_means len p q o = record { seen = o.seen; long = o.long; few = o.few; looks = o.looks; own = o.own; calls = o.calls; whole = o.whole; same = o.same; left = o.left; miss = o.miss; meant = means q.1.seen o.meant }

    was_left : (node : ℕ) (ps : List (TableId × View N)) (p first : TableId × View N) → slice_get ps node ≡ Some first → slice_get (ps ++ p ∷ []) node ≡ Some first
    was_left node ps p first was = at_before ps (p ∷ []) node first was

    is_left : (node : ℕ) (ps qs : List (TableId × View N)) (p first then : TableId × View N) → slice_get ps node ≡ Some first → qs ≡ set ps node then → qs ++ p ∷ [] ≡ set (ps ++ p ∷ []) node then
    is_left node ps qs p first then was is = ap (λ l. l ++ p ∷ []) is ∙ sym (set-append_left ps (p ∷ []) node then (slice_get_within ps node first was))

    pub calls_left : (node : ℕ) (entry : ℕ → N) (place : ℕ) (ps qs : List (TableId × View N)) (p : TableId × View N)
        → OneCalls who_of S node entry place ps qs → OneCalls who_of T node entry place (ps ++ p ∷ []) (qs ++ p ∷ [])
    calls_left node entry place ps qs p o = record { first = o.first; then = o.then; was = was_left node ps p o.first o.was; is = is_left node ps qs p o.first o.then o.was o.is; more = more_means (entry o.first.1.number) place o.first o.then o.more }

    pub misses_left : (node : ℕ) (held : Held) (ps qs : List (TableId × View N)) (p : TableId × View N)
        → OneMisses who_of S node held ps qs → OneMisses who_of T node held (ps ++ p ∷ []) (qs ++ p ∷ [])
    misses_left node held ps qs p o = record { first = o.first; then = o.then; was = was_left node ps p o.first o.was; is = is_left node ps qs p o.first o.then o.was o.is; missed = miss_means held o.first o.then o.missed }

    pub looks_left : (node len : ℕ) (ps qs : List (TableId × View N)) (p : TableId × View N)
        → OneLooks who_of S node len ps qs → OneLooks who_of T node len (ps ++ p ∷ []) (qs ++ p ∷ [])
    looks_left node len ps qs p o = record { first = o.first; then = o.then; was = was_left node ps p o.first o.was; is = is_left node ps qs p o.first o.then o.was o.is; looked = look_means len o.first o.then o.looked }

    -- in the last place
    pub calls_last : (entry : ℕ → N) (place : ℕ) (ps : List (TableId × View N)) (p q : TableId × View N)
        → OneMore who_of S (entry p.1.number) place p q → OneCalls who_of T (length ps) entry place (ps ++ p ∷ []) (ps ++ q ∷ [])
    calls_last entry place ps p q o = record { first = p; then = q; was = at_last ps p; is = sym (set-append_seam ps p [] q); more = more_means (entry p.1.number) place p q o }

    pub misses_last : (held : Held) (ps : List (TableId × View N)) (p q : TableId × View N)
        → OneMiss who_of S held p q → OneMisses who_of T (length ps) held (ps ++ p ∷ []) (ps ++ q ∷ [])
    misses_last held ps p q o = record { first = p; then = q; was = at_last ps p; is = sym (set-append_seam ps p [] q); missed = miss_means held p q o }

    pub looks_last : (len : ℕ) (ps : List (TableId × View N)) (p q : TableId × View N)
        → OneLook who_of S len p q → OneLooks who_of T (length ps) len (ps ++ p ∷ []) (ps ++ q ∷ [])
    looks_last len ps p q o = record { first = p; then = q; was = at_last ps p; is = sym (set-append_seam ps p [] q); looked = look_means len p q o }
