-- An answer that says None exactly where a fact holds, of a fact that is the same.
use Rattle.report_check.proofs.Imports.{Option, Some, None, MatchOption, Result, Ok, Err, IfOk, ◌≡◌, Bool, true, false, not, is_some}

pub by_other : {A : Type 0} (o : Option A) (P Q : Type 0) → (P → Q) → (Q → P) → MatchOption o P (λ _. P → ⊥) → MatchOption o Q (λ _. Q → ⊥)
by_other None P Q on back is = on is
by_other (Some x) P Q on back never = λ q. never (back q)

pub ok_by_other : {A E : Type 0} (r : Result (Option A) E) (P Q : Type 0) → (P → Q) → (Q → P) → IfOk r (λ o. MatchOption o P (λ _. P → ⊥)) → IfOk r (λ o. MatchOption o Q (λ _. Q → ⊥))
ok_by_other (Ok o) P Q on back is = by_other o P Q on back is
ok_by_other (Err e) P Q on back is = is

pub where_none : {A : Type 0} (o : Option A) (P : Type 0) (b : Bool) → MatchOption o P (λ _. P → ⊥) → is_some o ≡ not b → b ≡ true → P
where_none None P b is e t = is
where_none (Some x) P true is e t = absurd (cc)
where_none (Some x) P false is e t = absurd (cc)

pub where_some : {A : Type 0} (o : Option A) (P : Type 0) (b : Bool) → MatchOption o P (λ _. P → ⊥) → is_some o ≡ not b → b ≡ false → P → ⊥
where_some None P true is e f p = absurd (cc)
where_some None P false is e f p = absurd (cc)
where_some (Some x) P b never e f p = never p

pub at_none : {A : Type 0} (o : Option A) (P Q : Type 0) → MatchOption o P (λ _. Q) → o ≡ None → P
at_none None P Q is e = is
at_none (Some x) P Q is e = absurd (cc)

pub at_some : {A : Type 0} (o : Option A) (x : A) (P Q : Type 0) → MatchOption o P (λ _. Q) → o ≡ Some x → Q
at_some None x P Q is e = absurd (cc)
at_some (Some y) x P Q is e = is
