-- Whether what was read stands in the bytes as it is written.
use Rattle.report_read.proofs.Imports.{◌≡◌, ◌≢◌, ◌<◌, ◌+◌, refl, sym, ap, ◌∙◌, ℕ, List, [], ◌∷◌, ◌++◌, length, take, map, get_or, Some, None, arith, flat_map, nat_tests, append-nil, length-append, behind, take-append-drop, common_steps, gone, Option}
use Rattle.std.specs.Cmp.Lexicographic.{bytes_decides}

-- ------ texts one after another

both : (a b bytes : List ℕ) → gone b (behind a bytes) ≡ behind (a ++ b) bytes
unfolding gone
both [] b bytes = refl
both (x ∷ a) b [] = refl
both (x ∷ a) b (y ∷ bytes) = grind (arith, nat_tests, both a b bytes)

pub gone_none : (left : Option (List ℕ)) → gone [] left ≡ left
unfolding gone
gone_none None = refl
gone_none (Some bytes) = refl

pub gone_both : (a b : List ℕ) (left : Option (List ℕ)) → gone b (gone a left) ≡ gone (a ++ b) left
unfolding gone
gone_both a b None = refl
gone_both a b (Some bytes) = both a b bytes

pub ruleset gone_steps = (gone_none, gone_both)

-- behind one element more
pub gone_more : {A B : Type 0} (text : B → List ℕ) (f : A → B) (xs : List A) (i : ℕ) (x : A) (left : Option (List ℕ)) {before : Option (List ℕ)} → i < length xs → x ≡ get_or xs i x
    → before ≡ gone (flat_map text (map f (take i xs))) left → gone (text (f x)) before ≡ gone (flat_map text (map f (take (i + 1) xs))) left
gone_more text f xs i x left lt is so_far = grind (arith, common_steps, gone_both)

-- a node is its line and its entries
pub gone_node : (a b c d : List ℕ) (left : Option (List ℕ)) → gone d (gone (a ++ (b ++ c)) left) ≡ gone (a ++ (b ++ (c ++ d))) left
gone_node a b c d left = grind (arith, common_steps, gone_both)

-- a report is what stands in front of its nodes, the nodes and the end
pub gone_all : (a b c d e f : List ℕ) (left : Option (List ℕ)) → gone f (gone e (gone ((a ++ (b ++ c)) ++ d) left)) ≡ gone (a ++ (b ++ (c ++ (d ++ (e ++ f))))) left
gone_all a b c d e f left = grind (arith, common_steps, gone_both)

-- ------ the whole

pub there : (text bytes rest : List ℕ) → behind text bytes ≡ Some rest → text ++ rest ≡ bytes
there text bytes rest e = grind (arith, bytes_decides, take-append-drop)

pub same_end : (text bytes rest : List ℕ) → gone text (Some bytes) ≡ Some rest → length rest ≡ 0 → text ≡ bytes
unfolding gone
same_end text bytes [] e none = sym (append-nil text) ∙ there text bytes [] e
same_end text bytes (x ∷ rest) e none = absurd (omega arith)

pub no_end : (text bytes : List ℕ) → gone text (Some bytes) ≡ None → text ≢ bytes
unfolding gone
no_end text bytes e is = grind (arith, common_steps, bytes_decides)

pub other_end : (text bytes rest : List ℕ) → gone text (Some bytes) ≡ Some rest → 0 < length rest → text ≢ bytes
unfolding gone
other_end text bytes rest e some is = absurd (omega (arith, some, ap length (there text bytes rest e), ap length is, length-append text rest))

pub ruleset ends = (same_end, no_end, other_end)
