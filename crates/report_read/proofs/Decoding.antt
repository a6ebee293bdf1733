-- Digits that were decoded and are written again.
use Rattle.report_read.proofs.Imports.{◌≡◌, ◌<◌, sym, ℕ, List, [], ◌∷◌, ◌++◌, Some, true, arith, nat_tests, All, hex_text, behind, begins_with, bytes_in, subst}
use Rattle.report_read.proofs.WordsAgain.{bytes_again}
use Rattle.report_read.proofs.Compared.{there}

-- they are what is read, where they stand in front of a line feed
pub decoded_are_read : (read bytes left : List ℕ) → All (λ byte. byte < 256) read → behind (hex_text read) bytes ≡ Some left → begins_with (10 ∷ []) left ≡ true → bytes_in bytes ≡ (read, left)
decoded_are_read read bytes [] all e f = absurd (cc f)
decoded_are_read read bytes (x ∷ rest) all e f =
    let feed : x ≡ 10 = grind (arith, nat_tests, f) in
    subst (λ (b : List ℕ). bytes_in b ≡ (read, x ∷ rest)) (there (hex_text read) bytes (x ∷ rest) e)
    (subst (λ (n : ℕ). bytes_in (hex_text read ++ n ∷ rest) ≡ (read, n ∷ rest)) (sym feed) (bytes_again read rest all))
