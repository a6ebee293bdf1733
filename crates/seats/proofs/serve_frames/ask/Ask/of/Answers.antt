-- The numbers that were read are those that the definition names.
use Rattle.seats.proofs.Imports.{rules, ◌≡◌, ℕ, List, ap, ◌∙◌, drop, take, length, arith, take_all, length-drop, field, asked, Ask}
use Rattle.seats.proofs.serve_frames.ask.Ask.of.Goals as goal

behind : (b : List ℕ) → length b ≡ 76 → take 60 (drop 16 b) ≡ drop 16 b
behind b long = let rest = length-drop 16 b in take_all 60 (drop 16 b) (omega (arith, rest, long))

same : (b : List ℕ) (r : Ask) (v n m l : ℕ) → r ≡ asked v n m l (take 60 (drop 16 b)) → length b ≡ 76 → v ≡ field 0 4 b → n ≡ field 4 4 b
    → m ≡ field 8 4 b → l ≡ field 12 4 b → r ≡ asked (field 0 4 b) (field 4 4 b) (field 8 4 b) (field 12 4 b) (drop 16 b)
same b r v n m l is long a e f g =
    is ∙ (ap (λ (xs : List ℕ). asked v n m l xs) (behind b long)
    ∙ (ap (λ (x : ℕ). asked x n m l (drop 16 b)) a
    ∙ (ap (λ (x : ℕ). asked (field 0 4 b) x m l (drop 16 b)) e
    ∙ (ap (λ (x : ℕ). asked (field 0 4 b) (field 4 4 b) x l (drop 16 b)) f
    ∙ ap (λ (x : ℕ). asked (field 0 4 b) (field 4 4 b) (field 8 4 b) x (drop 16 b)) g))))

pub returns-clause-value : goal.returns-clause-value
returns-clause-value c =
    let long : length c.args.bytes.now ≡ 76 = search rules in
    same c.args.bytes.now c.asked.result c.u32_at-verb.result c.u32_at-node.result c.u32_at-number.result c.u32_at-len.result c.asked.ensures.value
    long c.u32_at-verb.ensures c.u32_at-node.ensures c.u32_at-number.ensures c.u32_at-len.ensures
