-- Bytes that lie in two pieces.
use Rattle.node_buffer.proofs.buffer.fill.Goals as goal
use Rattle.node_buffer.proofs.Imports.{ℕ, min, ◌+◌, ◌-◌, ◌≡◌, ap, sym, ◌∙◌, inl, inr, List, ◌++◌, length, take, arith, cases_lt, take-append-le, take_all, append-nil, take-append-add, rules, refl}

-- the first bytes of two pieces: as many of the front as there are, then the others of the back
pub take-two : (n split : ℕ) (front back : List ℕ) → split ≡ min n (length front) → take split front ++ take (n - split) back ≡ take n (front ++ back)
take-two n split front back is = elim (cases_lt n (length front)) [
  | inl less ↦
      let whole : split ≡ n = omega (arith, is) in let none : n - n ≡ 0 = omega arith in rw (whole, none, append-nil (take n front)) (sym (take-append-le n front back (omega (arith, less))))
  | inr more ↦
      let all : split ≡ length front = omega (arith, is) in let sum : n ≡ length front + (n - length front) = omega (arith, more) in
      rw (all, take_all (length front) front (omega arith)) (sym (take-append-add front back (n - length front)) ∙ ap (λ k. take k (front ++ back)) (sym sum))
]

pub returns-clause-bytes : goal.returns-clause-bytes
returns-clause-bytes c =
    rw (c.append-2.ensures, c.append.ensures, c.clear.ensures, take-two c.args.most c.min-split.result c.as_slices.result.0.now c.as_slices.result.1.now (search rules), c.as_slices.ensures) refl
