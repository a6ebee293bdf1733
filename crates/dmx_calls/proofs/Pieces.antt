-- The items that are left at a place, the first one cut there: their bytes are what is unread, and the first one's length is
-- the rest of the section in which the place stands.
use Rattle.dmx_calls.proofs.Imports.{ℕ, zero, suc, ◌-◌, ◌≤◌, ◌≡◌, ◌∙◌, ap, List, [], ◌∷◌, ◌++◌, length, drop, arith, if◌then◌else◌, nat_lt}

abbrev pub pieces : List (List ℕ) → ℕ → List (List ℕ)
pieces [] n = []
pieces (x ∷ xs) n = if nat_lt n (length x) then drop n x ∷ xs else pieces xs (n - length x)

pub drop_past_first : (x ys : List ℕ) (n : ℕ) → length x ≤ n → drop n (x ++ ys) ≡ drop (n - length x) ys
drop_past_first [] ys n le = ap (λ k. drop k ys) (omega arith)
drop_past_first (a ∷ x) ys zero le = absurd (omega arith)
drop_past_first (a ∷ x) ys (suc n) le = drop_past_first x ys n (omega arith) ∙ ap (λ k. drop k ys) (omega arith)
