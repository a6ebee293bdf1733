-- How the lines of a node are written.
use Rattle.report_text.proofs.Imports.{ℕ, suc, ◌+◌, ◌<◌, ◌≤◌, ◌≡◌, ◌∙◌, ◌⊎◌, refl, sym, ap, subst, false, true, List, [], ◌∷◌, ◌++◌, length, map, drop, append_assoc, codes, get_or, arith, Option, flat_map, list_any, Fed, ToldEntry, told_entry, feeder_acts, feeder_entry, feeder_entries, before_entry, woven_from, woven, node_text, entry_text, is_of_client, history_text, Adds, AddsPart, AddsSome, turn, BreaksBefore, Told}
use Rattle.report_text.proofs.Pieces.{adds_nothing, adds_both, part_behind, part_before}
use Rattle.report_text.proofs.Turning.{IsTelling, IsEnding, IsWeaving, telling-more, telling-done, ending-more, ending-done, weaving-more, calls-more, calls-none, untold, told_whole}

-- the line of a call of the feeder
abbrev pub turn_line : List Fed → (told next : ℕ) → List ℕ
turn_line feeding told next = entry_text (feeder_entry 0 (told + next) next (turn feeding next))

-- ------ before a client's entry

module _ (feeding : List Fed) (told place step next : ℕ) where
  pub before_more : {a b c : Option (List ℕ)} {u v w : List ℕ} → next ≤ length feeding → told + next < place
      → AddsSome a b u v (IsTelling feeding told place step next []) → Adds b c v w (turn_line feeding told next) → AddsSome a c u w (IsTelling feeding told place step (next + 1) [])
  before_more there low t line =
      let text = t.0 ++ turn_line feeding told next in
      (text, adds_both t.0 (turn_line feeding told next) t.1 line, telling-more feeding told place step next [] t.0 text there low t.2 refl)

  pub before_breaks : {a b c : Option (List ℕ)} {u v : List ℕ} → next ≤ length feeding → told + next < place
      → AddsSome a b u v (IsTelling feeding told place step next []) → AddsPart b c v (turn_line feeding told next) → BreaksBefore feeding told place step (AddsPart a c u)
  before_breaks {a} {b} {c} {u} {v} there low t line node e later at =
      let text = t.0 ++ turn_line feeding told next in
      let rest = flat_map entry_text (before_entry node e later (told + (next + 1)) (next + 1) (drop (next + 1) (feeder_acts feeding))) in
      subst (AddsPart a c u) (telling-more feeding told place step next [] t.0 text there low t.2 refl node e later at) (part_before text rest (part_behind t.0 (turn_line feeding told next) t.1 line))

  pub before_done : {a b : Option (List ℕ)} {u v : List ℕ} → (length feeding < next) ⊎ (place ≤ told + next)
      → AddsSome a b u v (IsTelling feeding told place step next []) → AddsSome a b u v (Told feeding told place step next [])
  before_done done t = (t.0, t.1, telling-done feeding told place step next [] t.0 done t.2)

-- ------ behind all entries of clients

module _ (feeding : List Fed) (told step next : ℕ) where
  pub behind_more : {a b c : Option (List ℕ)} {u v w : List ℕ} → next ≤ length feeding
      → AddsSome a b u v (IsEnding feeding told step next []) → Adds b c v w (turn_line feeding told next) → AddsSome a c u w (IsEnding feeding told step (next + 1) [])
  behind_more there t line =
      let text = t.0 ++ turn_line feeding told next in
      (text, adds_both t.0 (turn_line feeding told next) t.1 line, ending-more feeding told step next [] t.0 text there t.2 refl)

  pub behind_breaks : {a b c : Option (List ℕ)} {u v : List ℕ} → next ≤ length feeding
      → AddsSome a b u v (IsEnding feeding told step next []) → AddsPart b c v (turn_line feeding told next)
      → (node : ℕ) → AddsPart a c u (flat_map entry_text (feeder_entries node (told + step) step (drop step (feeder_acts feeding))))
  behind_breaks {a} {b} {c} {u} {v} there t line node =
      let text = t.0 ++ turn_line feeding told next in
      let rest = flat_map entry_text (feeder_entries node (told + (next + 1)) (next + 1) (drop (next + 1) (feeder_acts feeding))) in
      subst (AddsPart a c u) (ending-more feeding told step next [] t.0 text there t.2 refl node) (part_before text rest (part_behind t.0 (turn_line feeding told next) t.1 line))

  pub behind_done : {a b : Option (List ℕ)} {u v : List ℕ} → length feeding < next → AddsSome a b u v (IsEnding feeding told step next [])
      → (node : ℕ) → Adds a b u v (flat_map entry_text (feeder_entries node (told + step) step (drop step (feeder_acts feeding))))
  behind_done {a} {b} {u} {v} past t node = subst (Adds a b u v) (ending-done feeding told step next [] t.0 past t.2 node) t.1

-- ------ a whole node

told_behind : (feeding : List Fed) (told place step next : ℕ) (before text : List ℕ) → Told feeding told place step next [] text → Told feeding told place step next before (before ++ text)
told_behind feeding told place step next before text h node e later at =
    append_assoc before text (flat_map entry_text (e ∷ later (suc (told + next)) next (drop next (feeder_acts feeding)))) ∙ ap (λ l. before ++ l) (h node e later at)

module _ (feeding : List Fed) (calls : List ToldEntry) (told step : ℕ) where
  -- all the lines of the node
  abbrev pub node_lines : (node : ℕ) → List ℕ
  node_lines node = flat_map entry_text (woven node (feeder_acts feeding) (map told_entry calls))

  module _ (next : ℕ) (call : ToldEntry) (there : told < length calls) (is : call ≡ get_or calls told call) where
    pub entries_more : {a b c d : Option (List ℕ)} {u v w x : List ℕ} → AddsSome a b u v (IsWeaving feeding calls told step []) → AddsSome b c v w (Told feeding told call.place step next [])
        → Adds c d w x (entry_text (told_entry call)) → AddsSome a d u x (IsWeaving feeding calls (told + 1) next [])
    entries_more t s line =
        let both = t.0 ++ s.0 in
        let text = both ++ entry_text (told_entry call) in (
          text,
          adds_both both (entry_text (told_entry call)) (adds_both t.0 s.0 t.1 s.1) line,
          weaving-more feeding calls told step next call [] t.0 both text there is t.2 (told_behind feeding told call.place step next t.0 s.0 s.2) refl,
        )

    pub entries_break : {a b c d : Option (List ℕ)} {u v w : List ℕ} → AddsSome a b u v (IsWeaving feeding calls told step []) → AddsSome b c v w (Told feeding told call.place step next [])
        → AddsPart c d w (entry_text (told_entry call)) → (node : ℕ) → AddsPart a d u (node_lines node)
    entries_break {a} {b} {c} {d} {u} {v} {w} t s line node =
        let both = t.0 ++ s.0 in
        let text = both ++ entry_text (told_entry call) in
        let rest = flat_map entry_text (woven_from node (drop (told + 1) (map told_entry calls)) (told + 1 + next) next (drop next (feeder_acts feeding))) in
        subst (AddsPart a d u) (weaving-more feeding calls told step next call [] t.0 both text there is t.2 (told_behind feeding told call.place step next t.0 s.0 s.2) refl node)
        (part_before text rest (part_behind both (entry_text (told_entry call)) (adds_both t.0 s.0 t.1 s.1) line))

  pub turns_break : {a b c : Option (List ℕ)} {u v : List ℕ} (call : ToldEntry) → told < length calls → call ≡ get_or calls told call → AddsSome a b u v (IsWeaving feeding calls told step [])
      → BreaksBefore feeding told call.place step (AddsPart b c v) → (node : ℕ) → AddsPart a c u (node_lines node)
  turns_break {a} {b} {c} {u} {v} call there is t breaks node =
      let rest = drop (suc told) (map told_entry calls) in
      let acts = drop step (feeder_acts feeding) in
      subst (AddsPart a c u) (ap (λ l. t.0 ++ flat_map entry_text (woven_from node l (told + step) step acts)) (sym (calls-more calls told call there is)) ∙ t.2 node)
      (part_behind t.0 (flat_map entry_text (before_entry node (told_entry call) (woven_from node rest) (told + step) step acts)) t.1 (breaks node (told_entry call) (woven_from node rest) refl))

  last_lines : (t : List ℕ) → length calls ≤ told → IsWeaving feeding calls told step [] t → (node : ℕ)
      → t ++ flat_map entry_text (feeder_entries node (told + step) step (drop step (feeder_acts feeding))) ≡ node_lines node
  last_lines t past so_far node = ap (λ l. t ++ flat_map entry_text (woven_from node l (told + step) step (drop step (feeder_acts feeding)))) (sym (calls-none calls told past)) ∙ so_far node

  -- what the feeder's calls behind the last entry of a client add
  abbrev ending : (told node : ℕ) → List ℕ
  ending told node = flat_map entry_text (feeder_entries node (told + step) step (drop step (feeder_acts feeding)))

  pub entries_done : {a b c : Option (List ℕ)} {u v w : List ℕ} → told ≡ length calls → AddsSome a b u v (IsWeaving feeding calls told step [])
      → ((node : ℕ) → Adds b c v w (flat_map entry_text (feeder_entries node (length calls + step) step (drop step (feeder_acts feeding))))) → (node : ℕ) → Adds a c u w (node_lines node)
  entries_done {a} {b} {c} {u} {v} {w} all t last node =
      let there : Adds b c v w (ending told node) = subst (λ n. Adds b c v w (ending n node)) (sym all) (last node) in
      subst (Adds a c u w) (last_lines t.0 (omega (arith, all)) t.2 node) (adds_both t.0 (ending told node) t.1 there)

  pub end_breaks : {a b c : Option (List ℕ)} {u v : List ℕ} → told ≡ length calls → AddsSome a b u v (IsWeaving feeding calls told step [])
      → ((node : ℕ) → AddsPart b c v (flat_map entry_text (feeder_entries node (length calls + step) step (drop step (feeder_acts feeding))))) → (node : ℕ) → AddsPart a c u (node_lines node)
  end_breaks {a} {b} {c} {u} {v} all t last node =
      let there : AddsPart b c v (ending told node) = subst (λ n. AddsPart b c v (ending n node)) (sym all) (last node) in
      subst (AddsPart a c u) (last_lines t.0 (omega (arith, all)) t.2 node) (part_behind t.0 (ending told node) t.1 there)

-- ------ a node, or none

module _ (node : ℕ) (feeding : List Fed) (calls : List ToldEntry) where
  abbrev whole_text : List ℕ
  whole_text = history_text node (woven node (feeder_acts feeding) (map told_entry calls))

  pub history_none : {now : Option (List ℕ)} {u : List ℕ} → list_any is_of_client (map told_entry calls) ≡ false → Adds now now u u whole_text
  history_none {now} {u} none = subst (Adds now now u u) (untold node feeding calls [] none) adds_nothing

  -- the line of the node, and what stands behind it
  node_line : list_any is_of_client (map told_entry calls) ≡ true
      → (codes "node " ++ (node_text node ++ codes "\n")) ++ flat_map entry_text (woven node (feeder_acts feeding) (map told_entry calls)) ≡ whole_text
  node_line some =
      let lines = flat_map entry_text (woven node (feeder_acts feeding) (map told_entry calls)) in
      told_whole node feeding calls [] _ some (append_assoc (codes "node ") (node_text node ++ codes "\n") lines ∙ ap (λ l. codes "node " ++ l) (append_assoc (node_text node) (codes "\n") lines))

  pub history_some : {a b c : Option (List ℕ)} {u v w : List ℕ} → list_any is_of_client (map told_entry calls) ≡ true → Adds a b u v (codes "node " ++ (node_text node ++ codes "\n"))
      → Adds b c v w (flat_map entry_text (woven node (feeder_acts feeding) (map told_entry calls))) → Adds a c u w whole_text
  history_some {a} {b} {c} {u} {v} {w} some p q = subst (Adds a c u w) (node_line some) (adds_both _ _ p q)

  pub history_breaks : {a b c : Option (List ℕ)} {u v : List ℕ} → list_any is_of_client (map told_entry calls) ≡ true → Adds a b u v (codes "node " ++ (node_text node ++ codes "\n"))
      → AddsPart b c v (flat_map entry_text (woven node (feeder_acts feeding) (map told_entry calls))) → AddsPart a c u whole_text
  history_breaks {a} {b} {c} {u} {v} some p q = subst (AddsPart a c u) (node_line some) (part_behind _ _ p q)

  pub history_breaks_first : {a b : Option (List ℕ)} {u : List ℕ} → list_any is_of_client (map told_entry calls) ≡ true → AddsPart a b u (codes "node " ++ (node_text node ++ codes "\n"))
      → AddsPart a b u whole_text
  history_breaks_first {a} {b} {u} some p = subst (AddsPart a b u) (node_line some) (part_before _ _ p)
