-- One step of the readers that go over several parts.
use Rattle.report_read.proofs.Imports.{take_all, IsFilter, zeros-IsFilter, ◌≡◌, ◌<◌, ◌≤◌, ◌-◌, take, drop, get_or, refl, ap, ◌∙◌, ℕ, zero, suc, List, [], ◌∷◌, length, true, false, arith, Some, None, codes, replicate, SectionFilter, behind, choose, with_first, hex_byte, pid_step, begins_place, place_step, more_pids, more_places, bytes_in}

pub pids_none : (left : ℕ) (set bytes : List ℕ) → left ≡ 0 → more_pids left set bytes ≡ Some (set, bytes)
unfolding more_pids
pids_none left set bytes e = rw e refl

pub pids_stop : (left : ℕ) (set bytes : List ℕ) → behind (codes ",") bytes ≡ None → more_pids left set bytes ≡ Some (set, bytes)
unfolding more_pids
pids_stop zero set bytes e = refl
pids_stop (suc left) set bytes e = rw (e, choose) refl

pub pids_fail : (left : ℕ) (set bytes rest : List ℕ) → 0 < left → behind (codes ",") bytes ≡ Some rest → pid_step set rest ≡ None → more_pids left set bytes ≡ None
unfolding more_pids
pids_fail zero set bytes rest some e f = absurd (omega arith)
pids_fail (suc left) set bytes rest some e f = rw (e, choose, f) refl

pub pids_on : (left : ℕ) (set bytes rest set' rest' : List ℕ) → 0 < left → behind (codes ",") bytes ≡ Some rest → pid_step set rest ≡ Some (set', rest') → more_pids left set bytes ≡ more_pids (left - 1) set' rest'
unfolding more_pids
pids_on zero set bytes rest set' rest' some e f = absurd (omega arith)
pids_on (suc left) set bytes rest set' rest' some e f =
    let back : left ≡ suc left - 1 = omega arith in
    let here : more_pids (suc left) set bytes ≡ more_pids left set' rest' = rw (e, choose, f) refl in
    here ∙ ap (λ (n : ℕ). more_pids n set' rest') back

pub places_none : (left : ℕ) (filter : SectionFilter) (bytes : List ℕ) → left ≡ 0 → more_places left filter bytes ≡ Some (filter, bytes)
unfolding more_places
places_none left filter bytes e = rw e refl

pub places_stop : (left : ℕ) (filter : SectionFilter) (bytes : List ℕ) → begins_place bytes ≡ false → more_places left filter bytes ≡ Some (filter, bytes)
unfolding more_places
places_stop zero filter bytes e = refl
places_stop (suc left) filter bytes e = rw e refl

pub places_fail : (left : ℕ) (filter : SectionFilter) (bytes : List ℕ) → 0 < left → begins_place bytes ≡ true → place_step filter bytes ≡ None → more_places left filter bytes ≡ None
unfolding more_places
places_fail zero filter bytes some e f = absurd (omega arith)
places_fail (suc left) filter bytes some e f = rw (e, f) refl

pub places_on : (left : ℕ) (filter : SectionFilter) (bytes : List ℕ) (filter' : SectionFilter) (rest' : List ℕ) → 0 < left → begins_place bytes ≡ true → place_step filter bytes ≡ Some (filter', rest') → more_places left filter bytes ≡ more_places (left - 1) filter' rest'
unfolding more_places
places_on zero filter bytes filter' rest' some e f = absurd (omega arith)
places_on (suc left) filter bytes filter' rest' some e f =
    let back : left ≡ suc left - 1 = omega arith in
    let here : more_places (suc left) filter bytes ≡ more_places left filter' rest' = rw (e, f) refl in
    here ∙ ap (λ (n : ℕ). more_places n filter' rest') back

-- the filter in which no bit counts is one
pub zeros_filter : IsFilter (record { filter = replicate 16 0; mask = replicate 16 0; mode = replicate 16 0 })
zeros_filter = zeros-IsFilter

pub ruleset pids_steps = (pids_none, pids_stop, pids_fail, pids_on)

pub ruleset places_steps = (places_none, places_stop, places_fail, places_on)

pub bytes_some : (high low byte : ℕ) (rest : List ℕ) → hex_byte high low ≡ Some byte → bytes_in (high ∷ low ∷ rest) ≡ with_first byte (bytes_in rest)
unfolding bytes_in
bytes_some high low byte rest e = rw (e, bytes_in) refl

pub bytes_none : (high low : ℕ) (rest : List ℕ) → hex_byte high low ≡ None → bytes_in (high ∷ low ∷ rest) ≡ ([], high ∷ low ∷ rest)
unfolding bytes_in
bytes_none high low rest e = rw (e, bytes_in) refl

pub bytes_short : (bytes : List ℕ) → length bytes < 2 → bytes_in bytes ≡ ([], bytes)
unfolding bytes_in
bytes_short [] few = refl
bytes_short (one ∷ []) few = refl
bytes_short (one ∷ two ∷ more) few = absurd (omega arith)

pub at_pair : (xs : List ℕ) (byte : ℕ) → 2 ≤ length xs → hex_byte (get_or xs 0 0) (get_or xs 1 0) ≡ Some byte → bytes_in xs ≡ with_first byte (bytes_in (take (length xs - 2) (drop 2 xs)))
at_pair [] byte long e = absurd (omega arith)
at_pair (one ∷ []) byte long e = absurd (omega arith)
at_pair (one ∷ two ∷ more) byte long e =
    let all : take (length (one ∷ two ∷ more) - 2) more ≡ more = take_all (length (one ∷ two ∷ more) - 2) more (omega arith) in
    rw all (bytes_some one two byte more e)

pub ruleset bytes_steps = (at_pair, bytes_none, bytes_short)
