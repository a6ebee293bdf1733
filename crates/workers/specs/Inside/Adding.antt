-- Lists that grow.
use Rattle.std.proofs.Common.{◌≡◌, List, [], ◌++◌, ap, sym, ◌∙◌}
use Rattle.workers.specs.Imports.{append-nil, append_assoc}

pub added_none : {A : Type 0} (a : List A) → a ≡ a ++ []
added_none a = sym (append-nil a)

pub added_both : {A : Type 0} (a b c xs ys : List A) → b ≡ a ++ xs → c ≡ b ++ ys → c ≡ a ++ (xs ++ ys)
added_both a b c xs ys p q = q ∙ (ap (λ (l : List _). l ++ ys) p ∙ append_assoc a xs ys)
