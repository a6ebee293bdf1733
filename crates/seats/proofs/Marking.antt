-- The nodes that a seat has marked are those that it holds by its calls.
use Rattle.seats.proofs.Imports.{◌≡◌, ◌≢◌, ℕ, ◌+◌, ◌≤◌, nat_eq, Bool, false, true, eq-eqb, ne_eqb, List, [], ◌∷◌, ◌++◌, length, replicate, set, Some, get_or, refl, ap, sym, ◌∙◌, subst, arith, slice_get, if◌then◌else◌, append_assoc, length-replicate, get_or-replicate, fold-append, slice_get_within, slice_get-get_or, get_or_from_slice_get, dite, ℕ_discrete, set_there, set_elsewhere, one_value, DEMUX_NODES, Invocation, LogEntry, act_of, Response, has_then, holds, AreMarked}
use Rattle.dmx_calls.specs.Invocation.{Open, Close}

-- before the first call
pub marked_none : (held : List Bool) → held ≡ replicate (DEMUX_NODES + 1) false → AreMarked [] held
marked_none held is node low =
    let long : length held ≡ DEMUX_NODES + 1 = ap length is ∙ length-replicate (DEMUX_NODES + 1) false in
    slice_get-get_or held node false (omega (arith, long, low))
    ∙ ap (λ (b : Bool). Some b) (ap (λ (l : List Bool). get_or l node false) is ∙ get_or-replicate (DEMUX_NODES + 1) node false false (omega (arith, low)))

-- a node is marked just where it is held
pub marked_is : (calls : List LogEntry) (held : List Bool) (node : ℕ) (b : Bool) → AreMarked calls held → node ≤ DEMUX_NODES → slice_get held node ≡ Some b → holds calls node ≡ b
marked_is calls held node b m low is = one_value held node (holds calls node) b (m node low) is

-- one call more
pub holds_more : (calls : List LogEntry) (e : LogEntry) (node : ℕ) (b : Bool) → nat_eq e.node node ≡ b → holds (calls ++ e ∷ []) node ≡ (if b then has_then (holds calls node) e.act e.response else holds calls node)
holds_more calls e node b is =
    fold-append (λ (had : Bool) (x : LogEntry). if nat_eq x.node node then has_then had x.act x.response else had) false calls (e ∷ [])
    ∙ ap (λ (v : Bool). if v then has_then (holds calls node) e.act e.response else holds calls node) is

module _ (calls : List LogEntry) (e : LogEntry) (held : List Bool) (m : AreMarked calls held) (on : e.node ≤ DEMUX_NODES) where
  abbrev mark : Bool
  mark = has_then (get_or held e.node false) e.act e.response

  here : mark ≡ has_then (holds calls e.node) e.act e.response
  here = ap (λ (b : Bool). has_then b e.act e.response) (get_or_from_slice_get held e.node (holds calls e.node) false (m e.node on))

  pub marked_more : (now : List Bool) → now ≡ set held e.node mark → AreMarked (calls ++ e ∷ []) now
  marked_more now is node low = ap (λ (l : List Bool). slice_get l node) is ∙ dite (ℕ_discrete e.node node)
      (λ same.
      ap (λ n. slice_get (set held e.node mark) n) (sym same)
      ∙ (set_there held e.node mark (slice_get_within held e.node (holds calls e.node) (m e.node on))
      ∙ ap (λ (b : Bool). Some b) (here ∙ (ap (λ n. has_then (holds calls n) e.act e.response) same ∙ sym (holds_more calls e node true (eq-eqb e.node node same))))))
      (λ not.
      set_elsewhere held e.node node mark (λ same. not (sym same))
      ∙ (m node low ∙ ap (λ (b : Bool). Some b) (sym (holds_more calls e node false (ne_eqb e.node node not)))))

-- the same behind any calls before those of a log
pub marked_one : (gone log new : List LogEntry) (e : LogEntry) (held now : List Bool) → AreMarked (gone ++ log) held → e.node ≤ DEMUX_NODES → new ≡ log ++ e ∷ []
    → now ≡ set held e.node (has_then (get_or held e.node false) e.act e.response) → AreMarked (gone ++ new) now
marked_one gone log new e held now m on more is =
    subst (λ (l : List LogEntry). AreMarked l now) (append_assoc gone log (e ∷ []) ∙ ap (λ (l : List LogEntry). gone ++ l) (sym more)) (marked_more (gone ++ log) e held m on now is)

-- ------ a call that is no Open

marks_then : (call : Invocation) (had : Bool) (r : Response) → call ≢ Open → has_then had (act_of call) r ≡ true → had ≡ true
marks_then Open had r other is = absurd (other refl)
marks_then Close had r other is = absurd (cc is)
marks_then _ had r other is = is

module _ (call : Invocation) (r : Response) (node : ℕ) (held now : List Bool) (had : Bool) (was : slice_get held node ≡ Some had) (is : now ≡ set held node (has_then had (act_of call) r)) where
  abbrev next : Bool
  next = has_then had (act_of call) r

  now_there : slice_get now node ≡ Some next
  now_there = ap (λ (l : List Bool). slice_get l node) is ∙ set_there held node next (slice_get_within held node had was)

  -- it marks no node more
  pub marks_no_more : call ≢ Open → (i : ℕ) → slice_get now i ≡ Some true → slice_get held i ≡ Some true
  marks_no_more other i at = dite (ℕ_discrete i node)
      (λ here. let yea : next ≡ true = one_value now node next true now_there (ap (slice_get now) (sym here) ∙ at) in
      ap (slice_get held) here ∙ (was ∙ ap (λ (b : Bool). Some b) (marks_then call had r other yea)))
      (λ more. sym (set_elsewhere held node i next more) ∙ (sym (ap (λ (l : List Bool). slice_get l i) is) ∙ at))

  -- by a Close its node isn't marked
  pub close_unmarks : call ≡ Close → slice_get now node ≢ Some true
  close_unmarks close at =
      let yea : next ≡ true = one_value now node next true now_there at in
      let both : false ≡ true = ap (λ (k : Invocation). has_then had (act_of k) r) (sym close) ∙ yea in cc both
