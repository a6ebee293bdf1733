-- The replies of the clients, and what stands at a line.
use Rattle.serial_core.proofs.Imports.{◌≡◌, refl, ap, ℕ, zero, suc, Bool, true, false, nat_eq, List, [], ◌∷◌, Option, Some, None, ◌⊎◌, inl, inr, if◌then◌else◌, option_map, slice_index_or, slice_set, Response, Scripted, Event, Standing, progress, next_event, next_of_line, standing_at, none-some}
use Rattle.std.specs.Prelude.{replicate}

-- another client's replies stay, and so do those of a client that isn't there
pub index_set : (xs : List (List Response)) (i j : ℕ) (y : List Response) → (slice_index_or (slice_set xs i y) j [] ≡ slice_index_or xs j []) ⊎ (j ≡ i) × (slice_index_or (slice_set xs i y) j [] ≡ y)
index_set [] i j y = inl refl
index_set (x ∷ xs) zero zero y = inr (refl, refl)
index_set (x ∷ xs) zero (suc j) y = inl refl
index_set (x ∷ xs) (suc i) zero y = inl refl
index_set (x ∷ xs) (suc i) (suc j) y = go (index_set xs i j y) where
  go : (slice_index_or (slice_set xs i y) j [] ≡ slice_index_or xs j []) ⊎ (j ≡ i) × (slice_index_or (slice_set xs i y) j [] ≡ y)
      → (slice_index_or (slice_set (x ∷ xs) (suc i) y) (suc j) [] ≡ slice_index_or (x ∷ xs) (suc j) []) ⊎ (suc j ≡ suc i) × (slice_index_or (slice_set (x ∷ xs) (suc i) y) (suc j) [] ≡ y)
  go (inl same) = inl same
  go (inr mine) = inr (ap suc mine.0, mine.1)

-- what stands at a line stands next
pub next_at_line : (client : ℕ) (script : Scripted) (line : ℕ) (rs : List Response) (e : Event) → next_of_line client script line rs ≡ Some e → next_event client script rs ≡ Some e
next_at_line client script line rs e is = go (progress client script rs).standing is where
  by_line : (s : Standing) (b : Bool) → (if b then Some s.event else None) ≡ Some e → Some s.event ≡ Some e
  by_line s true at = at
  by_line s false at = absurd (none-some e at)

  go : (o : Option Standing) → standing_at line o ≡ Some e → option_map (λ s. s.event) o ≡ Some e
  go None at = absurd (none-some e at)
  go (Some s) at = by_line s (nat_eq s.line line) at

-- before the first call none has got a reply
pub none_said : (n client : ℕ) → slice_index_or (replicate {A = List Response} n []) client [] ≡ []
none_said zero client = refl
none_said (suc n) zero = refl
none_said (suc n) (suc client) = none_said n client
