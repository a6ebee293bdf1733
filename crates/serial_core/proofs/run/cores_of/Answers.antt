use Rattle.serial_core.proofs.Imports.{◌≡◌, refl, sym, subst, ◌∙◌, ℕ, ◌<◌, List, [], ◌∷◌, ◌++◌, length, length-append, inl, inr, arith, slice_index_or, cases_lt, get_or_append_left, get_or-append_seam, All-push, All-nil, Scripted, Core, IsAfter}
use Rattle.serial_core.proofs.run.cores_of.Goals as goal

after_push : (script : Scripted) (cores : List Core) (core : Core) (n : ℕ) → length cores ≡ n → ((c : ℕ) (d : Core) → c < length cores → IsAfter c script [] (slice_index_or cores c d))
    → IsAfter n script [] core → (c : ℕ) (d : Core) → c < length (cores ++ core ∷ []) → IsAfter c script [] (slice_index_or (cores ++ core ∷ []) c d)
after_push script cores core n count before one c d lt = elim (cases_lt c (length cores)) [
  | inl old ↦ subst (λ x. IsAfter c script [] x) (sym (get_or_append_left cores (core ∷ []) d c old)) (before c d old)
  | inr new ↦
      let last : length cores ≡ c = omega (arith, new, lt, length-append cores (core ∷ [])) in
      subst (λ i. IsAfter i script [] (slice_index_or (cores ++ core ∷ []) i d)) last
      (subst (λ x. IsAfter (length cores) script [] x) (sym (get_or-append_seam cores core [] d)) (subst (λ i. IsAfter i script [] core) (sym count) one))
]

pub clients-init : goal.clients-init
clients-init c = rw c.new-cores.ensures.items record { count = refl; after = λ k d lt. absurd (omega (arith, lt)); fresh = All-nil _ }

pub clients-preserved : goal.clients-preserved
clients-preserved c =
    let i = c.clients.invariant in
    let k = c.in_ok-new.ensures.after in
    rw c.in_ok-push.ensures.items record {
      count = length-append c.clients.cores.items _ ∙ omega (arith, i.count);
      after = after_push _ c.clients.cores.items _ c.clients.client i.count i.after k;
      fresh = All-push (λ (x : Core). x.step ≡ 0) c.clients.cores.items _ i.fresh k.steps;
    }
