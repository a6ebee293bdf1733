-- A number before the option of `selftest`, or behind it.
use Rattle.std.proofs.Common.{rules, string_bytes, Global, arith, ◌≡◌, ◌≤◌, ◌<◌, ◌-◌, ◌∙◌, refl, sym, ap, ℕ, List, [], ◌∷◌, map, length, take, drop, true, false, Option, Some, None, slice_index_or}
use Rattle.std.proofs.lemmas.Result.{IfOk-weaker}
use Rattle.command_words.proofs.behind.self_test.Goals as goal
use Rattle.command_words.proofs.behind.self_test.Goals.{in_default, in-len1-up+in_ok-first+else-is_some}
use Rattle.std.proofs.lemmas.List.{get_or-map, length-map, take-map, take_all}
use Rattle.std.specs.Option.{is_some, option_or}
use Rattle.command_words.specs.declared.Command.{Command}
use Rattle.command_words.specs.Meant.{options_of, self_test_by, self_test_of, session_number}

taken_first : {X : Type 0} (x : X) (xs : List X) → take (length (x ∷ xs) - 1) xs ≡ xs
taken_first x xs = take_all (length (x ∷ xs) - 1) xs (omega arith)

-- what comes first is taken where it is a command
found : (o p : Option Command) → is_some o ≡ true → o ≡ option_or o p
found (Some x) p e = refl
found None p e = absurd (cc)

missed : (o p : Option Command) → is_some o ≡ false → p ≡ option_or o p
missed None p e = refl
missed (Some x) p e = absurd (cc)

module _ {X : Type 0} (f : X → List ℕ) where
  -- the number in front and the words behind it, and the number at the end and the words before it
  by_first : X → List X → Option Command
  by_first x xs = self_test_by (session_number (f x)) (options_of (map f xs))

  by_last : X → List X → Option Command
  by_last x xs = self_test_by (session_number (slice_index_or (map f (x ∷ xs)) (length (map f xs)) (f x))) (options_of (take (length (map f xs)) (map f (x ∷ xs))))

  is_first : (x : X) (xs : List X) (word : X) (o : Option Command) → word ≡ x
      → o ≡ self_test_by (session_number (f word)) (options_of (map f (take (length (x ∷ xs) - 1) xs))) → o ≡ by_first x xs
  unfolding by_first
  is_first x xs word o here is =
      is ∙ ap (λ w. self_test_by (session_number (f w)) (options_of (map f (take (length (x ∷ xs) - 1) xs)))) here
      ∙ ap (λ ws. self_test_by (session_number (f x)) (options_of (map f ws))) (taken_first x xs)

  is_last : (x : X) (xs : List X) (word : X) (o : Option Command) → word ≡ slice_index_or (x ∷ xs) (length (x ∷ xs) - 1) word
      → o ≡ self_test_by (session_number (f word)) (options_of (map f (take (length (x ∷ xs) - 1) (x ∷ xs)))) → o ≡ by_last x xs
  unfolding by_last
  is_last x xs word o here is =
      let n : length (x ∷ xs) - 1 ≡ length (map f xs) = omega (arith, length-map xs f) in
      let there : slice_index_or (map f (x ∷ xs)) (length (x ∷ xs) - 1) (f x) ≡ f word =
      get_or-map f (x ∷ xs) (length (x ∷ xs) - 1) word (f x) (omega arith) ∙ ap f (sym here) in
      is ∙ ap (λ w. self_test_by (session_number w) (options_of (map f (take (length (x ∷ xs) - 1) (x ∷ xs))))) (sym there)
      ∙ ap (λ ws. self_test_by (session_number (slice_index_or (map f (x ∷ xs)) (length (x ∷ xs) - 1) (f x))) (options_of ws)) (sym (take-map f (length (x ∷ xs) - 1) (x ∷ xs)))
      ∙ ap (λ k. self_test_by (session_number (slice_index_or (map f (x ∷ xs)) k (f x))) (options_of (take k (map f (x ∷ xs))))) n

  both : (x : X) (xs : List X) → self_test_of (map f (x ∷ xs)) ≡ option_or (by_first x xs) (by_last x xs)
  unfolding self_test_of by_first by_last
  both x xs = refl

  pub first_number : (words : List X) (word : X) (o : Option Command) → 1 ≤ length words → word ≡ slice_index_or words 0 word
      → o ≡ self_test_by (session_number (f word)) (options_of (map f (take (length words - 1) (drop 1 words)))) → is_some o ≡ true → o ≡ self_test_of (map f words)
  first_number [] word o long here is some = absurd (omega arith)
  first_number (x ∷ xs) word o long here is some =
      let e = is_first x xs word o here is in
      found o (by_last x xs) some ∙ ap (λ p. option_or p (by_last x xs)) e ∙ sym (both x xs)

  pub last_number : (words : List X) (first word : X) (o p : Option Command) → 1 ≤ length words → first ≡ slice_index_or words 0 first
      → p ≡ self_test_by (session_number (f first)) (options_of (map f (take (length words - 1) (drop 1 words)))) → is_some p ≡ false
      → word ≡ slice_index_or words (length words - 1) word
      → o ≡ self_test_by (session_number (f word)) (options_of (map f (take (length words - 1) words))) → o ≡ self_test_of (map f words)
  last_number [] first word o p long begins before none ends is = absurd (omega arith)
  last_number (x ∷ xs) first word o p long begins before none ends is =
      let e = is_first x xs first p begins before in
      is_last x xs word o ends is ∙ missed p (by_last x xs) none ∙ ap (λ q. option_or q (by_last x xs)) e ∙ sym (both x xs)

  pub no_words : (words : List X) → length words < 1 → None ≡ self_test_of (map f words)
  unfolding self_test_of
  no_words [] none = refl
  no_words (x ∷ xs) none = absurd (omega arith)

pub returns-then-is_some-clause-value : goal.returns-then-is_some-clause-value
returns-then-is_some-clause-value c = first_number (string_bytes {Z = Global}) c.args.rest.now c.word-item.result c.in_ok-first.first c.in-len1-up.len_at_least c.word-item.is c.in_ok-first.ensures.value (search rules)

pub returns-in-len1-up-rest-clause-value : goal.returns-in-len1-up-rest-clause-value
returns-in-len1-up-rest-clause-value c = elim c.if-rest-lt1.branch [
  | in_default w ↦ absurd (omega (arith, w.in_default.len_below, c.in-len1-up-rest.len_at_least))
  | in-len1-up+in_ok-first+else-is_some w ↦ IfOk-weaker c.self_test_with-in-len1-up-rest.result _ _
      (λ o e. last_number (string_bytes {Z = Global}) c.args.rest.now w.word-item.result c.word-item-2.result o w.in_ok-first.first c.in-len1-up-rest.len_at_least w.word-item.is w.in_ok-first.ensures.value (search rules) c.word-item-2.is e)
      c.self_test_with-in-len1-up-rest.ensures.value
]

pub returns-clause-value : goal.returns-clause-value
returns-clause-value c = no_words (string_bytes {Z = Global}) c.args.rest.now c.in_default-rest.len_below
