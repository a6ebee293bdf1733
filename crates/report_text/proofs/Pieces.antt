-- Texts that are written in pieces out of a buffer.
use Rattle.report_text.proofs.Imports.{◌≡◌, ◌<◌, ◌≤◌, ◌+◌, ℕ, List, [], ◌++◌, length, take, drop, sym, ap, ◌∙◌, subst, arith, get_or, append_assoc, append-nil, length-append, Option, Result, Ok, Err, OnOk, OnErr, flat_map, flat_map_more, take_more, take-append-drop, flat_map-append, Appends, Appends-trans, Appends-nil, take-append-add, take-append-le, Adds, AddsPart, AddsSome}

-- no text
pub adds_nothing : {now : Option (List ℕ)} {waited : List ℕ} → Adds now now waited waited []
adds_nothing {now} {waited} = record { front = []; written = Appends-nil now; rest = append-nil waited }

-- one text behind another
pub adds_both : {a b c : Option (List ℕ)} {u v w : List ℕ} (s t : List ℕ) → Adds a b u v s → Adds b c v w t → Adds a c u w (s ++ t)
adds_both {a} {b} {c} {u} {v} {w} s t p q = record {
  front = p.front ++ q.front;
  written = Appends-trans a b c p.front q.front p.written q.written;
  rest = sym (append_assoc u s t) ∙ ap (λ l. l ++ t) p.rest ∙ append_assoc p.front v t ∙ ap (λ l. p.front ++ l) q.rest ∙ sym (append_assoc p.front q.front w);
}

-- a text, and behind it a write failed
pub part_behind : {a b c : Option (List ℕ)} {u v : List ℕ} (s t : List ℕ) → Adds a b u v s → AddsPart b c v t → AddsPart a c u (s ++ t)
part_behind {a} {b} {c} {u} {v} s t p q =
    let whole : u ++ (s ++ t) ≡ p.front ++ (v ++ t) = sym (append_assoc u s t) ∙ ap (λ l. l ++ t) p.rest ∙ append_assoc p.front v t in
    let front : take (length p.front + q.count) (u ++ (s ++ t)) ≡ p.front ++ take q.count (v ++ t) = ap (take (length p.front + q.count)) whole ∙ take-append-add p.front (v ++ t) q.count in
    let size : length (u ++ (s ++ t)) ≡ length p.front + length (v ++ t) = ap length whole ∙ length-append p.front (v ++ t) in
    record {
      count = length p.front + q.count;
      part = omega (arith, size, q.part);
      written = subst (Appends a c) (sym front) (Appends-trans a b c p.front (take q.count (v ++ t)) p.written q.written);
    }

-- a write failed, and more was to come
pub part_before : {a b : Option (List ℕ)} {u : List ℕ} (s t : List ℕ) → AddsPart a b u s → AddsPart a b u (s ++ t)
part_before {a} {b} {u} s t p =
    let size : length ((u ++ s) ++ t) ≡ length (u ++ s) + length t = length-append (u ++ s) t in
    let few : p.count ≤ length (u ++ s) = omega (arith, p.part) in
    let longer : p.count < length ((u ++ s) ++ t) = omega (arith, size, p.part) in
    let same : (u ++ s) ++ t ≡ u ++ (s ++ t) = append_assoc u s t in
    record {
      count = p.count;
      part = subst (λ l. p.count < length l) same longer;
      written = subst (λ l. Appends a b (take p.count l)) same (subst (Appends a b) (sym (take-append-le p.count (u ++ s) t few)) p.written);
    }

-- ------ a line, and then what is due

pub line_added : {T E : Type 0} (a b : Option (List ℕ)) (u v w line : List ℕ) (r : Result T E) → v ≡ u ++ line → OnOk r (Adds a b v w []) → OnOk r (Adds a b u w line)
line_added a b u v w line (Ok x) grew p = record { front = p.front; written = p.written; rest = sym grew ∙ (sym (append-nil v) ∙ p.rest) }
line_added a b u v w line (Err e) grew p = tt

pub line_failed : {T E : Type 0} (a b : Option (List ℕ)) (u v line : List ℕ) (r : Result T E) → v ≡ u ++ line → OnErr r (AddsPart a b v []) → OnErr r (AddsPart a b u line)
line_failed a b u v line (Ok x) grew p = tt
line_failed a b u v line (Err e) grew p =
    let same : v ++ [] ≡ u ++ line = append-nil v ∙ grew in
    record { count = p.count; part = subst (λ l. p.count < length l) same p.part; written = subst (λ l. Appends a b (take p.count l)) same p.written }

-- ------ an answer of what is written last

-- an answer that is an error owes what is asked of errors
pub on_any_err : {T E P : Type 0} (r : Result T E) → P → OnErr r P
on_any_err (Ok x) p = tt
on_any_err (Err e) p = p

-- nothing waits any more
pub none_waits : {T E : Type 0} (a b : Option (List ℕ)) (u w text : List ℕ) (r : Result T E) → OnOk r (w ≡ []) → OnOk r (Adds a b u w text) → OnOk r (Adds a b u [] text)
none_waits a b u w text (Ok x) none p = subst (λ l. Adds a b u l text) none p
none_waits a b u w text (Err e) none p = tt

-- where nothing waited before and nothing waits now, the whole text was written
pub whole_written : {a b : Option (List ℕ)} {waited : List ℕ} (text : List ℕ) → waited ≡ [] → Adds a b waited [] text → Appends a b text
whole_written {a} {b} {waited} text none p =
    let same : text ≡ p.front = sym (ap (λ l. l ++ text) none) ∙ (p.rest ∙ append-nil p.front) in
    subst (Appends a b) (sym same) p.written

-- the same text, told otherwise
pub adds_as : {a b : Option (List ℕ)} {u v s t : List ℕ} → s ≡ t → Adds a b u v s → Adds a b u v t
adds_as {a} {b} {u} {v} same p = subst (Adds a b u v) same p

pub part_as : {a b : Option (List ℕ)} {u s t : List ℕ} → s ≡ t → AddsPart a b u s → AddsPart a b u t
part_as {a} {b} {u} same p = subst (AddsPart a b u) same p

-- no text, of which something is said
pub some_nothing : {now : Option (List ℕ)} {waited : List ℕ} (IsSo : List ℕ → Type 0) → IsSo [] → AddsSome now now waited waited IsSo
some_nothing IsSo is = ([], adds_nothing, is)

-- ------ a text of one element behind the other

module _ {X : Type 0} (f : X → List ℕ) (xs : List X) (i : ℕ) (d : X) (within : i < length xs) where
  next_one : flat_map f (take i xs) ++ f (get_or xs i d) ≡ flat_map f (take (i + 1) xs)
  next_one = flat_map_more f [] (take i xs) (get_or xs i d) ∙ ap (flat_map f) (sym (take_more xs i d within))

  -- the text of one element more
  pub adds_next : {a b c : Option (List ℕ)} {u v w : List ℕ} → Adds a b u v (flat_map f (take i xs)) → Adds b c v w (f (get_or xs i d)) → Adds a c u w (flat_map f (take (i + 1) xs))
  adds_next {a} {b} {c} {u} {v} {w} p q = subst (Adds a c u w) next_one (adds_both (flat_map f (take i xs)) (f (get_or xs i d)) p q)

  -- .. or a write failed
  pub part_next : {a b c : Option (List ℕ)} {u v : List ℕ} → Adds a b u v (flat_map f (take i xs)) → AddsPart b c v (f (get_or xs i d)) → AddsPart a c u (flat_map f xs)
  part_next {a} {b} {c} {u} {v} p q =
      let here : AddsPart a c u (flat_map f (take (i + 1) xs)) = subst (AddsPart a c u) next_one (part_behind (flat_map f (take i xs)) (f (get_or xs i d)) p q) in
      let all : flat_map f (take (i + 1) xs) ++ flat_map f (drop (i + 1) xs) ≡ flat_map f xs = sym (flat_map-append f (take (i + 1) xs) (drop (i + 1) xs)) ∙ ap (flat_map f) (take-append-drop (i + 1) xs) in
      subst (AddsPart a c u) all (part_before (flat_map f (take (i + 1) xs)) (flat_map f (drop (i + 1) xs)) here)
