-- What giving a section leaves.
use Rattle.section_parse.proofs.Imports.{slice_get, ◌≡◌, ℕ, ◌+◌, true, List, [], ◌∷◌, ◌++◌, length, take, drop, Option, Some, None, refl, sym, ◌∙◌, arith, append-nil, sum_by-cons, not_all, section_length, read_sections, sections, IsSection, Assembly, Assembled, without_first, sections_of_open, left_of_open, bytes_kept, Advances, is_drained}
use Rattle.section_parse.proofs.Reading.{read-first, left-first, first-is, open-drained}
use Rattle.section_parse.proofs.Assembled.{Assembled-next}

-- s is the first section that is ready in a, and rest is what is kept without it
pub record Gives (a rest : Assembly) (s : List ℕ) : Type 0 where
  pub section : Some s ≡ slice_get a.ready 0
  pub whole : IsSection s
  pub some : (packets given : List (List ℕ)) → Assembled packets given a → ¬ (sections packets a.pid ≡ given)
  pub left : rest ≡ without_first a
  pub some_ready : ¬ (a.ready ≡ [])
  pub drained : a.ready ≡ [] → rest.ready ≡ []
  pub bytes : bytes_kept rest + length s ≡ bytes_kept a
  pub stands : (packets given : List (List ℕ)) → Assembled packets given a → Assembled packets (given ++ s ∷ []) rest

gives-by : (pid : ℕ) (before o : Option (List ℕ)) (s : List ℕ) (rest : List (List ℕ)) → IsSection s
    → Gives (record { pid = pid; before = before; ready = s ∷ rest; open_now = o }) (record { pid = pid; before = before; ready = rest; open_now = o }) s
gives-by pid before o s rest w = record {
  section = refl;
  whole = w;
  some = λ packets given h. not_all (sections packets pid) given rest s h.so_far;
  left = refl;
  some_ready = λ e. cc;
  drained = λ e. absurd cc;
  bytes = omega (arith, sum_by-cons length s rest);
  stands = λ packets given h. Assembled-next packets given s rest _ refl h;
}

gives-from : (pid : ℕ) (before o left : Option (List ℕ)) (s : List ℕ) (ready rest : List (List ℕ)) → ready ≡ s ∷ rest → left ≡ o → IsSection s
    → Gives (record { pid = pid; before = before; ready = ready; open_now = o }) (record { pid = pid; before = before; ready = rest; open_now = left }) s
gives-from pid before o left s ready rest e f w = rw (e, f) (gives-by pid before o s rest w)

-- a section of the closing segment
pub gives-closing : (pid : ℕ) (before o u left : Option (List ℕ)) (s : List ℕ) → Advances o (Some s) left
    → Gives (record { pid = pid; before = before; ready = sections_of_open o ++ sections_of_open u; open_now = left_of_open u }) (record { pid = pid; before = before; ready = sections_of_open left ++ sections_of_open u; open_now = left_of_open u }) s
gives-closing pid before None u left s h = absurd (let z = h.0 in cc)
gives-closing pid before (Some b) u left s h =
    rw (h.1, h.2) (gives-from pid before (left_of_open u) (left_of_open u) (take (3 + section_length b) b) (read_sections b ++ sections_of_open u) (read_sections (drop (3 + section_length b) b) ++ sections_of_open u) (rw (read-first b h.0) refl) refl (first-is b h.0))

-- nothing is taken from a segment in which no section stands
pub advances-none : (o left : Option (List ℕ)) → Advances o None left → (left ≡ o) × (is_drained o ≡ true)
advances-none None left h = (h.1, refl)
advances-none (Some s) left h = (h.1, rw h.0 refl)

-- a section of the open segment, behind a closing one that is drained
gives-behind : (pid : ℕ) (before o u n left : Option (List ℕ)) (s : List ℕ) → n ≡ o → sections_of_open o ≡ [] → Advances u (Some s) left
    → Gives (record { pid = pid; before = before; ready = sections_of_open o ++ sections_of_open u; open_now = left_of_open u }) (record { pid = pid; before = before; ready = sections_of_open n ++ sections_of_open left; open_now = left_of_open left }) s
gives-behind pid before o None n left s same d h = absurd (let z = h.0 in cc)
gives-behind pid before o (Some b) n left s same d h =
    rw (h.1, h.2, same, d) (gives-from pid before (left_of_open (Some b)) (left_of_open (Some (drop (3 + section_length b) b))) (take (3 + section_length b) b) (read_sections b) (read_sections (drop (3 + section_length b) b)) (read-first b h.0) (sym (left-first b h.0)) (first-is b h.0))

pub gives-open : (pid : ℕ) (before o u closing left : Option (List ℕ)) (s : List ℕ) → Advances o None closing → Advances u (Some s) left
    → Gives (record { pid = pid; before = before; ready = sections_of_open o ++ sections_of_open u; open_now = left_of_open u }) (record { pid = pid; before = before; ready = sections_of_open closing ++ sections_of_open left; open_now = left_of_open left }) s
gives-open pid before o u closing left s k h =
    let z = advances-none o closing k in
    gives-behind pid before o u closing left s z.0 (open-drained o z.1) h

-- no section is there
pub record GivesNone (a rest : Assembly) : Type 0 where
  pub section : None ≡ slice_get a.ready 0
  pub all : (packets given : List (List ℕ)) → Assembled packets given a → sections packets a.pid ≡ given
  pub left : rest ≡ without_first a
  pub none_ready : a.ready ≡ []
  pub drained : a.ready ≡ [] → rest.ready ≡ []
  pub bytes : bytes_kept rest + 0 ≡ bytes_kept a
  pub stands : (packets given : List (List ℕ)) → Assembled packets given a → Assembled packets given rest

gives_none-by : (pid : ℕ) (before o left : Option (List ℕ)) (ready after : List (List ℕ)) → ready ≡ [] → after ≡ [] → left ≡ o
    → GivesNone (record { pid = pid; before = before; ready = ready; open_now = o }) (record { pid = pid; before = before; ready = after; open_now = left })
gives_none-by pid before o left ready after e f g = rw (e, f, g) (record {
  section = refl;
  all = λ packets given h. h.so_far ∙ append-nil given;
  left = refl;
  none_ready = refl;
  drained = λ e. refl;
  bytes = omega arith;
  stands = λ packets given h. h;
})

pub gives-none : (pid : ℕ) (before o u closing left : Option (List ℕ)) → Advances o None closing → Advances u None left
    → GivesNone (record { pid = pid; before = before; ready = sections_of_open o ++ sections_of_open u; open_now = left_of_open u }) (record { pid = pid; before = before; ready = sections_of_open closing ++ sections_of_open left; open_now = left_of_open left })
gives-none pid before o u closing left k h =
    let z = advances-none o closing k in
    let y = advances-none u left h in
    rw (z.0, y.0) (gives_none-by pid before (left_of_open u) (left_of_open u) _ _ (rw (open-drained o z.1) (open-drained u y.1)) (rw (open-drained o z.1) (open-drained u y.1)) refl)

-- where no section is ready, none stands in either segment
first-none : (xs ys : List (List ℕ)) → xs ++ ys ≡ [] → xs ≡ []
first-none [] ys e = refl
first-none (x ∷ xs) ys e = absurd cc

pub ready-closing : (o u : Option (List ℕ)) → sections_of_open o ++ sections_of_open u ≡ [] → sections_of_open o ≡ []
ready-closing o u e = first-none (sections_of_open o) (sections_of_open u) e

pub ready-open : (o u : Option (List ℕ)) → sections_of_open o ++ sections_of_open u ≡ [] → sections_of_open u ≡ []
ready-open o u e = let d = ready-closing o u e in rw d at e
