-- What a packet does to what is kept, and what giving a section does.
use Rattle.section_parse.proofs.Imports.{if◌then◌else◌, ◌≡◌, ℕ, Bool, true, false, List, [], ◌∷◌, ◌++◌, Option, Some, None, refl, sym, append_assoc, ◌||◌, not, append-nil, filter, unit_start, carried, is_usable, repeats, joins, without-repeat, pointed, rest_of_segment, Assembly, sections_of_open, left_of_open, longer, opened, repeats_last, joins_last, taken, sections_of_runs, sections_behind, sections_to_come, ap, ◌∙◌, ◌&&◌, in_front, is_pointed, sections_of_run, without_repeats_after, runs, segments, after_packet}
use Rattle.section_parse.proofs.Reading.{open-append, open-left}

-- ------ The sections of runs, packet by packet

longer-append : (o : Option (List ℕ)) (xs ys : List ℕ) → longer o (xs ++ ys) ≡ longer (longer o xs) ys
longer-append None xs ys = refl
longer-append (Some s) xs ys = ap (λ (l : List ℕ). Some l) (sym (append_assoc s xs ys))

-- the sections of a run that begins with p
run-first : (p : List ℕ) (run : List (List ℕ)) → sections_of_run (p ∷ run) ≡ sections_of_open (longer (opened p) (rest_of_segment run)) ++ sections_of_run run
unfolding segments
run-first p run = go (unit_start p && is_pointed p) refl
  where
    go : (b : Bool) → (unit_start p && is_pointed p) ≡ b → sections_of_run (p ∷ run) ≡ sections_of_open (longer (opened p) (rest_of_segment run)) ++ sections_of_run run
    go true e = rw e refl
    go false e = rw e refl

longer-nil : (o : Option (List ℕ)) → longer o [] ≡ o
longer-nil None = refl
longer-nil (Some s) = ap (λ (l : List ℕ). Some l) (append-nil s)

-- the sections of a run of one packet
run-one : (p : List ℕ) → sections_of_run (p ∷ []) ≡ sections_of_open (opened p)
unfolding segments rest_of_segment
run-one p = run-first p [] ∙ (rw (longer-nil (opened p)) (append-nil (sections_of_open (opened p))))

front-more : (p q : List ℕ) (run : List (List ℕ)) (rs : List (List (List ℕ))) (b : Bool) → joins p q ≡ b → sections_of_runs (in_front p ((q ∷ run) ∷ rs)) ≡ sections_behind p (opened p) ((q ∷ run) ∷ rs)
front-more p q run rs true e = rw e (ap (λ (l : List (List ℕ)). l ++ sections_of_runs rs) (run-first p (q ∷ run)) ∙ append_assoc (sections_of_open (longer (opened p) (rest_of_segment (q ∷ run)))) (sections_of_run (q ∷ run)) (sections_of_runs rs))
front-more p q run rs false e = rw e (ap (λ (l : List (List ℕ)). l ++ (sections_of_run (q ∷ run) ++ sections_of_runs rs)) (run-one p))

-- the first packet of all
pub sections-front : (p : List ℕ) (rs : List (List (List ℕ))) → sections_of_runs (in_front p rs) ≡ sections_behind p (opened p) rs
sections-front p [] = append-nil (sections_of_run (p ∷ [])) ∙ run-one p
sections-front p ([] ∷ rs) = ap (λ (l : List (List ℕ)). l ++ sections_of_runs rs) (run-one p)
sections-front p ((q ∷ run) ∷ rs) = front-more p q run rs (joins p q) refl

break-more : (before p q : List ℕ) (o : Option (List ℕ)) (run : List (List ℕ)) (rs : List (List (List ℕ))) (b : Bool) → joins p q ≡ b → joins before p ≡ false
    → sections_behind before o (in_front p ((q ∷ run) ∷ rs)) ≡ sections_of_open o ++ sections_of_runs (in_front p ((q ∷ run) ∷ rs))
break-more before p q o run rs true e n = rw (e, n) refl
break-more before p q o run rs false e n = rw (e, n) refl

-- a packet that doesn't join
pub sections-break : (before p : List ℕ) (o : Option (List ℕ)) (rs : List (List (List ℕ))) → joins before p ≡ false
    → sections_behind before o (in_front p rs) ≡ sections_of_open o ++ sections_behind p (opened p) rs
sections-break before p o [] n = rw (n, ← sections-front p []) refl
sections-break before p o ([] ∷ rs) n = rw (n, ← sections-front p ([] ∷ rs)) refl
sections-break before p o ((q ∷ run) ∷ rs) n = break-more before p q o run rs (joins p q) refl n ∙ ap (λ (l : List (List ℕ)). sections_of_open o ++ l) (sections-front p ((q ∷ run) ∷ rs))

rest-unit : (p : List ℕ) (run : List (List ℕ)) → unit_start p ≡ true → rest_of_segment (p ∷ run) ≡ pointed p
unfolding rest_of_segment
rest-unit p run u = rw u refl

rest-more : (p : List ℕ) (run : List (List ℕ)) → unit_start p ≡ false → rest_of_segment (p ∷ run) ≡ carried p ++ rest_of_segment run
unfolding rest_of_segment
rest-more p run u = rw u refl

run-more : (p : List ℕ) (run : List (List ℕ)) → unit_start p ≡ false → sections_of_run (p ∷ run) ≡ sections_of_run run
unfolding segments
run-more p run u = rw u refl

rest-none : rest_of_segment [] ≡ []
unfolding rest_of_segment
rest-none = refl

run-none : sections_of_run [] ≡ []
unfolding segments
run-none = refl

behind-join : (before p : List ℕ) (o : Option (List ℕ)) (run : List (List ℕ)) (rs : List (List (List ℕ))) → joins before p ≡ true
    → sections_behind before o ((p ∷ run) ∷ rs) ≡ sections_of_open (longer o (rest_of_segment (p ∷ run))) ++ sections_of_runs ((p ∷ run) ∷ rs)
behind-join before p o run rs j = rw j refl

unit-more : (before p q : List ℕ) (o : Option (List ℕ)) (run : List (List ℕ)) (rs : List (List (List ℕ))) (b : Bool) → joins p q ≡ b → joins before p ≡ true → unit_start p ≡ true
    → sections_behind before o (in_front p ((q ∷ run) ∷ rs)) ≡ sections_of_open (longer o (pointed p)) ++ sections_of_runs (in_front p ((q ∷ run) ∷ rs))
unit-more before p q o run rs true e j u = rw e (behind-join before p o (q ∷ run) rs j ∙ rw (rest-unit p (q ∷ run) u) refl)
unit-more before p q o run rs false e j u = rw e (behind-join before p o [] ((q ∷ run) ∷ rs) j ∙ rw (rest-unit p [] u) refl)

-- a packet with unit start that joins
pub sections-unit : (before p : List ℕ) (o : Option (List ℕ)) (rs : List (List (List ℕ))) → joins before p ≡ true → unit_start p ≡ true
    → sections_behind before o (in_front p rs) ≡ sections_of_open (longer o (pointed p)) ++ sections_behind p (opened p) rs
sections-unit before p o [] j u = behind-join before p o [] [] j ∙ rw (rest-unit p [] u, ← sections-front p []) refl
sections-unit before p o ([] ∷ rs) j u = behind-join before p o [] rs j ∙ rw (rest-unit p [] u, ← sections-front p ([] ∷ rs)) refl
sections-unit before p o ((q ∷ run) ∷ rs) j u = unit-more before p q o run rs (joins p q) refl j u ∙ ap (λ (l : List (List ℕ)). sections_of_open (longer o (pointed p)) ++ l) (sections-front p ((q ∷ run) ∷ rs))

more-more : (before p q : List ℕ) (o : Option (List ℕ)) (run : List (List ℕ)) (rs : List (List (List ℕ))) (b : Bool) → joins p q ≡ b → joins before p ≡ true → unit_start p ≡ false
    → sections_behind before o (in_front p ((q ∷ run) ∷ rs)) ≡ sections_behind p (longer o (carried p)) ((q ∷ run) ∷ rs)
more-more before p q o run rs true e j u = rw e (behind-join before p o (q ∷ run) rs j ∙ rw (rest-more p (q ∷ run) u, run-more p (q ∷ run) u, longer-append o (carried p) (rest_of_segment (q ∷ run))) refl)
more-more before p q o run rs false e j u = rw e (behind-join before p o [] ((q ∷ run) ∷ rs) j ∙ rw (rest-more p [] u, run-more p [] u, longer-append o (carried p) (rest_of_segment []), rest-none, longer-nil (longer o (carried p)), run-none) refl)

-- a packet without unit start that joins
pub sections-more : (before p : List ℕ) (o : Option (List ℕ)) (rs : List (List (List ℕ))) → joins before p ≡ true → unit_start p ≡ false
    → sections_behind before o (in_front p rs) ≡ sections_behind p (longer o (carried p)) rs
sections-more before p o [] j u = behind-join before p o [] [] j ∙ rw (rest-more p [] u, run-more p [] u, rest-none, append-nil (carried p), run-none) (append-nil (sections_of_open (longer o (carried p))))
sections-more before p o ([] ∷ rs) j u = behind-join before p o [] rs j ∙ rw (rest-more p [] u, run-more p [] u, rest-none, append-nil (carried p), run-none) refl
sections-more before p o ((q ∷ run) ∷ rs) j u = more-more before p q o run rs (joins p q) refl j u

-- the sections of the open segment are read before all else
pub behind-left : (before : List ℕ) (o : Option (List ℕ)) (rs : List (List (List ℕ))) → sections_behind before o rs ≡ sections_of_open o ++ sections_behind before (left_of_open o) rs
behind-left before o [] = rw (open-left o) (sym (append-nil (sections_of_open o)))
behind-left before o ([] ∷ rs) = rw (open-left o) refl
behind-left before o ((p ∷ run) ∷ rs) = go (joins before p) refl
  where
    go : (b : Bool) → joins before p ≡ b → sections_behind before o ((p ∷ run) ∷ rs) ≡ sections_of_open o ++ sections_behind before (left_of_open o) ((p ∷ run) ∷ rs)
    go true e = rw (e, open-append o (rest_of_segment (p ∷ run))) (append_assoc (sections_of_open o) (sections_of_open (longer (left_of_open o) (rest_of_segment (p ∷ run)))) _)
    go false e = rw (e, open-left o) refl

-- the four ways of a clean packet
from-first : (p : List ℕ) (ps : List (List ℕ)) → sections_of_runs (runs (p ∷ ps)) ≡ sections_behind p (opened p) (runs ps)
unfolding runs
from-first p ps = sections-front p (runs ps)

from-break : (before p : List ℕ) (o : Option (List ℕ)) (ps : List (List ℕ)) → joins before p ≡ false → sections_behind before o (runs (p ∷ ps)) ≡ sections_of_open o ++ sections_behind p (opened p) (runs ps)
unfolding runs
from-break before p o ps j = sections-break before p o (runs ps) j

from-unit : (before p : List ℕ) (o : Option (List ℕ)) (ps : List (List ℕ)) → joins before p ≡ true → unit_start p ≡ true → sections_behind before o (runs (p ∷ ps)) ≡ sections_of_open (longer o (pointed p)) ++ sections_behind p (opened p) (runs ps)
unfolding runs
from-unit before p o ps j u = sections-unit before p o (runs ps) j u

from-more : (before p : List ℕ) (o : Option (List ℕ)) (ps : List (List ℕ)) → joins before p ≡ true → unit_start p ≡ false → sections_behind before o (runs (p ∷ ps)) ≡ sections_behind p (longer o (carried p)) (runs ps)
unfolding runs
from-more before p o ps j u = sections-more before p o (runs ps) j u

-- what comes after a clean packet
pub sections_after_taken : ℕ → List ℕ → Option (List ℕ) → Option (List ℕ) → List (List ℕ) → List (List ℕ)
sections_after_taken pid p closing o more = sections_of_open closing ++ sections_behind p o (runs (without_repeats_after (Some p) (filter (is_usable pid) more)))

pub to_come-taken : (pid : ℕ) (p : List ℕ) (closing o : Option (List ℕ)) (more : List (List ℕ)) → sections_after_taken pid p closing o more ≡ sections_to_come (taken pid p closing o) more
unfolding sections_after_taken
to_come-taken pid p closing o more = rw (behind-left p o (runs (without_repeats_after (Some p) (filter (is_usable pid) more)))) (sym (append_assoc (sections_of_open closing) (sections_of_open o) _))

-- the packet's place among the cases
pub first-step : (pid : ℕ) (o : Option (List ℕ)) (p : List ℕ) (more : List (List ℕ)) → is_usable pid p ≡ true
    → sections_to_come (record { pid = pid; before = None; ready = []; open_now = o }) (p ∷ more) ≡ sections_after_taken pid p None (opened p) more
unfolding without_repeats_after sections_after_taken
first-step pid o p more u = rw u (from-first p (without_repeats_after (Some p) (filter (is_usable pid) more)))

pub repeat-step : (pid : ℕ) (b : List ℕ) (o : Option (List ℕ)) (p : List ℕ) (more : List (List ℕ)) → is_usable pid p ≡ true → repeats b p ≡ true
    → sections_to_come (record { pid = pid; before = Some b; ready = []; open_now = o }) (p ∷ more) ≡ sections_to_come (record { pid = pid; before = Some b; ready = []; open_now = o }) more
unfolding without_repeats_after
repeat-step pid b o p more u r = rw (u, r, without-repeat b p (filter (is_usable pid) more) r) refl

pub break-step : (pid : ℕ) (b : List ℕ) (o : Option (List ℕ)) (p : List ℕ) (more : List (List ℕ)) → sections_of_open o ≡ [] → is_usable pid p ≡ true → repeats b p ≡ false → joins b p ≡ false
    → sections_to_come (record { pid = pid; before = Some b; ready = []; open_now = o }) (p ∷ more) ≡ sections_after_taken pid p None (opened p) more
unfolding without_repeats_after sections_after_taken
break-step pid b o p more s u r j = rw (u, r, from-break b p o (without_repeats_after (Some p) (filter (is_usable pid) more)) j, s) refl

pub unit-step : (pid : ℕ) (b : List ℕ) (o : Option (List ℕ)) (p : List ℕ) (more : List (List ℕ)) → is_usable pid p ≡ true → repeats b p ≡ false → joins b p ≡ true → unit_start p ≡ true
    → sections_to_come (record { pid = pid; before = Some b; ready = []; open_now = o }) (p ∷ more) ≡ sections_after_taken pid p (longer o (pointed p)) (opened p) more
unfolding without_repeats_after sections_after_taken
unit-step pid b o p more u r j t = rw (u, r) (from-unit b p o (without_repeats_after (Some p) (filter (is_usable pid) more)) j t)

pub more-step : (pid : ℕ) (b : List ℕ) (o : Option (List ℕ)) (p : List ℕ) (more : List (List ℕ)) → is_usable pid p ≡ true → repeats b p ≡ false → joins b p ≡ true → unit_start p ≡ false
    → sections_to_come (record { pid = pid; before = Some b; ready = []; open_now = o }) (p ∷ more) ≡ sections_after_taken pid p None (longer o (carried p)) more
unfolding without_repeats_after sections_after_taken
more-step pid b o p more u r j t = rw (u, r) (from-more b p o (without_repeats_after (Some p) (filter (is_usable pid) more)) j t)

-- what is kept after a packet, case by case
pub kept-unusable : (a : Assembly) (p : List ℕ) → is_usable a.pid p ≡ false → after_packet a p ≡ a
unfolding after_packet
kept-unusable a p u = rw u refl

pub kept-repeat : (a : Assembly) (p : List ℕ) → repeats_last a.before p ≡ true → after_packet a p ≡ a
unfolding after_packet
kept-repeat a p r = go (is_usable a.pid p) refl
  where
    go : (b : Bool) → is_usable a.pid p ≡ b → (if not (is_usable a.pid p) || repeats_last a.before p then a else (if not (joins_last a.before p) then taken a.pid p None (opened p) else (if unit_start p then taken a.pid p (longer a.open_now (pointed p)) (opened p) else taken a.pid p None (longer a.open_now (carried p))))) ≡ a
    go true e = rw (e, r) refl
    go false e = rw (e) refl

pub kept-break : (a : Assembly) (p : List ℕ) → is_usable a.pid p ≡ true → repeats_last a.before p ≡ false → joins_last a.before p ≡ false → after_packet a p ≡ taken a.pid p None (opened p)
unfolding after_packet
kept-break a p u r j = rw (u, r, j) refl

pub kept-unit : (a : Assembly) (p : List ℕ) → is_usable a.pid p ≡ true → repeats_last a.before p ≡ false → joins_last a.before p ≡ true → unit_start p ≡ true → after_packet a p ≡ taken a.pid p (longer a.open_now (pointed p)) (opened p)
unfolding after_packet
kept-unit a p u r j t = rw (u, r, j, t) refl

pub kept-more : (a : Assembly) (p : List ℕ) → is_usable a.pid p ≡ true → repeats_last a.before p ≡ false → joins_last a.before p ≡ true → unit_start p ≡ false → after_packet a p ≡ taken a.pid p None (longer a.open_now (carried p))
unfolding after_packet
kept-more a p u r j t = rw (u, r, j, t) refl
