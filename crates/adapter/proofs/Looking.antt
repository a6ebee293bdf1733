-- The nodes are looked at one after another.
use Rattle.adapter.proofs.Imports.{◌≡◌, ℕ, ◌+◌, ◌<◌, ◌≤◌, List, length, slice_get, slice_index, set, Some, ap, sym, ◌∙◌, subst, arith, length-set, get_or-set_same, get_or-set_other, dite, ℕ_discrete, TableId, View, HasJust, Has, prefix_trans, DEMUX_NODES, Entry, Fits, OneLook, OneLooks, column, IsGathered, IsLegalAt, caller_of, IsHistory}
use Rattle.adapter.proofs.Lists.{set_elsewhere}
use Rattle.adapter.proofs.Fitting.{fits_set}

module _ (locks : List TableId) (rows : List (List (TableId × View Entry))) where
  pub record Looked (node : ℕ) (lengths : List ℕ) (now : List (TableId × View Entry)) : Type 0 where
    pub own : Fits locks now
    pub long : length lengths ≡ DEMUX_NODES + 1
    pub later : (i : ℕ) (p : TableId × View Entry) → node ≤ i → slice_get now i ≡ Some p → IsGathered (column i rows) p
    pub done : (i : ℕ) → i < node → (h : List Entry) × (length h ≡ slice_index lengths i) × IsHistory i (column i rows) h

  history_of : (i r : ℕ) (p q : TableId × View Entry) → IsGathered (column i rows) p → OneLook caller_of (IsLegalAt i) r p q → IsHistory i (column i rows) q.1.seen
  history_of i r p q g o = record {
    legal = o.meant;
    just = subst (λ l. HasJust caller_of l q.1.seen) (o.own ∙ g.calls) (o.whole (λ w below. subst (λ (l : List ℕ). Has l w) (sym o.same.2) (g.whole w (subst (λ (n : ℕ). w < n) o.same.3 below))));
    begins = λ j x e. prefix_trans x.1.seen p.1.seen q.1.seen (g.begins j x e) o.seen;
  }

  pub next_looked : (node r : ℕ) (lengths : List ℕ) (now new : List (TableId × View Entry)) → node ≤ DEMUX_NODES → Looked node lengths now → OneLooks caller_of (IsLegalAt node) node r now new → Looked (node + 1) (set lengths node r) new
  next_looked node r lengths now new below k o =
      let few = k.long in let inside : node < length lengths = omega arith in record {
        own = subst (Fits locks) (sym o.is) (fits_set locks now node o.first o.then k.own o.was o.looked.same.0);
        long = length-set lengths node r ∙ k.long;
        later = λ i p from e. k.later i p (omega arith) (sym (set_elsewhere now node i o.then (λ here. omega arith)) ∙ ap (λ (l : List (TableId × View Entry)). slice_get l i) (sym o.is) ∙ e);
        done = λ i under. dite (ℕ_discrete i node)
            (λ here. let d = subst (λ (j : ℕ). (length o.then.1.seen ≡ slice_index (set lengths node r) j) × IsHistory j (column j rows) o.then.1.seen) (sym here) (
              o.looked.long ∙ sym (get_or-set_same lengths node r 0 inside),
              history_of node r o.first o.then (k.later node o.first (omega arith) o.was) o.looked,
            ) in (o.then.1.seen, d.0, d.1))
            (λ more. let d = k.done i (omega arith) in (d.0, d.1 ∙ sym (get_or-set_other lengths node i r 0 more), d.2));
      }
