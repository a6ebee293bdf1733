-- Lines that are written one behind another.
use Rattle.std.proofs.Common.{List, [], ◌++◌, ℕ, sym, subst}
use Rattle.serve_top.specs.Imports.{Appends-nil, Appends-trans, SinkEnd, flat_map, flat_map-append}
use Rattle.serve_top.specs.declared.written.WrittenLines.{WrittenLines}
use Rattle.serve_top.specs.Lines.{HasWritten}

module _ {K : Type 0} (end : K → SinkEnd) where
  pub written_none : (a : WrittenLines K) → HasWritten end [] a a
  written_none a whole = (whole, Appends-nil (end a.sink).written)

  pub written_then : (a b c : WrittenLines K) (s t : List ℕ) → HasWritten end s a b → HasWritten end t b c
      → HasWritten end (s ++ t) a c
  written_then a b c s t p q whole =
      let later = q whole in let first = p later.0 in
      (first.0, Appends-trans (end a.sink).written (end b.sink).written (end c.sink).written s t first.1 later.1)

  pub written_both : {X : Type 0} (line : X → List ℕ) (a b c : WrittenLines K) (xs ys : List X)
      → HasWritten end (flat_map line xs) a b → HasWritten end (flat_map line ys) b c
      → HasWritten end (flat_map line (xs ++ ys)) a c
  written_both line a b c xs ys p q =
      subst (λ (text : List ℕ). HasWritten end text a c) (sym (flat_map-append line xs ys))
      (written_then a b c (flat_map line xs) (flat_map line ys) p q)
