-- What clap makes of a word's letters: an option, an option and `=` before a text, and all other words.
use Rattle.std.proofs.Common.{◌≡◌, ◌+◌, ◌==◌, ◌&&◌, refl, ap, sym, ◌∙◌, ℕ, suc, cond, List, [], ◌∷◌, ◌++◌, Bool, true, false, not, true≢false, length, take, drop, Option, Some, None, codes, arith}
use Rattle.std.proofs.lemmas.List.{take-append-drop}
use Rattle.std.proofs.lemmas.Slice.Eq.{bytes_eq-Decides}
use Rattle.std.proofs.lemmas.Bool.{eqb-true}
use Rattle.std.proofs.lemmas.Option.{none-some}
use Rattle.lemmas.proofs.Options.{same_some}
use Rattle.std.specs.Prelude.{nat_le, nat_lt, option_and_then}
use Rattle.std.specs.List.{position_or_len}
use Rattle.std.specs.Str.{bytes_eq}
use Rattle.clap.specs.Lexer.{has_byte, long_of, long_of_rest, name_and_value, short_of, short_of_rest, strip_byte}
use Rattle.text_forms.specs.Numbers.{has_leading_zero, number_between, value_of}
use Rattle.text_forms.specs.Words.{is_word}
use Rattle.command_words.specs.Meant.{packet_size}

-- the letters of a long word behind its two hyphens
abbrev pub letters : List ℕ → Option (List ℕ) → List ℕ
letters name None = name
letters name (Some value) = name ++ 61 ∷ value

one_more : (x : ℕ) (name : List ℕ) (value : Option (List ℕ)) → x ∷ letters name value ≡ letters (x ∷ name) value
one_more x name None = refl
one_more x name (Some value) = refl

one_taken : (x : ℕ) (xs : List ℕ) (n : ℕ) → take (1 + n) (x ∷ xs) ≡ x ∷ take n xs
one_taken x xs n =
    let e : 1 + n ≡ suc n = omega arith in
    rw e refl

one_later : (x : ℕ) (xs : List ℕ) (n : ℕ) → drop ((1 + n) + 1) (x ∷ xs) ≡ drop (n + 1) xs
one_later x xs n =
    let e : (1 + n) + 1 ≡ suc (n + 1) = omega arith in
    rw e refl

letter : (x : ℕ) (xs : List ℕ) (b : Bool) → (x == 61) ≡ b → xs ≡ letters (name_and_value xs).0 (name_and_value xs).1
    → x ∷ xs ≡ letters (name_and_value (x ∷ xs)).0 (name_and_value (x ∷ xs)).1
letter x xs true e rest = rw e (ap (λ y. y ∷ xs) (eqb-true x 61 e))
letter x xs false e rest =
    let n = position_or_len (λ y. y == 61) xs in
    rw e (ap (λ t. x ∷ t) rest ∙ (one_more x (name_and_value xs).0 (name_and_value xs).1
    ∙ (ap (λ v. letters (x ∷ take n xs) (cond (has_byte 61 xs) (Some v) None)) (sym (one_later x xs n))
    ∙ ap (λ t. letters t (cond (has_byte 61 xs) (Some (drop ((1 + n) + 1) (x ∷ xs))) None)) (sym (one_taken x xs n)))))

letters_of : (text : List ℕ) → text ≡ letters (name_and_value text).0 (name_and_value text).1
letters_of [] = refl
letters_of (x ∷ xs) = letter x xs (x == 61) refl (letters_of xs)

same_parts : (t : List ℕ) (name : List ℕ) (value : Option (List ℕ)) → long_of_rest t ≡ Some (name, value) → t ≡ letters name value
same_parts [] name value is = absurd (none-some (name, value) is)
same_parts (x ∷ xs) name value is =
    let parts : name_and_value (x ∷ xs) ≡ (name, value) = same_some (name_and_value (x ∷ xs)) (name, value) is in
    letters_of (x ∷ xs) ∙ ap (λ p. letters p.0 p.1) parts

byte_is : (c x : ℕ) (xs rest : List ℕ) (b : Bool) → (x == c) ≡ b → cond b (Some xs) None ≡ Some rest → x ∷ xs ≡ c ∷ rest
byte_is c x xs rest true e is = ap (λ y. y ∷ xs) (eqb-true x c e) ∙ ap (λ t. c ∷ t) (same_some xs rest is)
byte_is c x xs rest false e is = absurd (none-some rest is)

first_byte : (c : ℕ) (word rest : List ℕ) → strip_byte c word ≡ Some rest → word ≡ c ∷ rest
first_byte c [] rest is = absurd (none-some rest is)
first_byte c (x ∷ xs) rest is = byte_is c x xs rest (x == c) refl is

both_steps : {A B : Type 0} (f : A → Option B) (o : Option A) (b : B) → option_and_then f o ≡ Some b → (a : A) × (o ≡ Some a) × (f a ≡ Some b)
both_steps f None b is = absurd (none-some b is)
both_steps f (Some a) b is = (a, refl, is)

pub long_letters : (word name : List ℕ) (value : Option (List ℕ)) → long_of word ≡ Some (name, value) → word ≡ 45 ∷ 45 ∷ letters name value
long_letters word name value is =
    let behind = both_steps long_of_rest (option_and_then (strip_byte 45) (strip_byte 45 word)) (name, value) is in
    let front = both_steps (strip_byte 45) (strip_byte 45 word) behind.0 behind.1 in
    first_byte 45 word front.0 front.1
    ∙ ap (λ t. 45 ∷ t) (first_byte 45 front.0 behind.0 front.2 ∙ ap (λ t. 45 ∷ t) (same_parts behind.0 name value behind.2))

-- a short word begins with a hyphen, and has a letter behind it
short_letter : (t flags : List ℕ) → short_of_rest t ≡ Some flags → (f : ℕ) × (fs : List ℕ) × (flags ≡ f ∷ fs)
short_letter [] flags is = absurd (none-some flags is)
short_letter (x ∷ xs) flags is = go (x == 45) is
  where
    go : (b : Bool) → cond b None (Some (x ∷ xs)) ≡ Some flags → (f : ℕ) × (fs : List ℕ) × (flags ≡ f ∷ fs)
    go true is = absurd (none-some flags is)
    go false is = (x, xs, sym (same_some (x ∷ xs) flags is))

pub short_hyphen : (word flags : List ℕ) → short_of word ≡ Some flags → (t : List ℕ) × (word ≡ 45 ∷ t)
short_hyphen word flags is =
    let behind = both_steps short_of_rest (strip_byte 45 word) flags is in
    (behind.0, first_byte 45 word behind.0 behind.1)

pub short_flags : (word flags : List ℕ) → short_of word ≡ Some flags → (f : ℕ) × (fs : List ℕ) × (flags ≡ f ∷ fs)
short_flags word flags is =
    let behind = both_steps short_of_rest (strip_byte 45 word) flags is in
    short_letter behind.0 flags behind.2

no_number : (a b c : Bool) (n : Option ℕ) → cond ((a && (not b && false)) && c) n None ≡ None
no_number true true c n = refl
no_number true false c n = refl
no_number false b c n = refl

-- what begins with a hyphen is no number
pub hyphen_number : (t : List ℕ) → number_between 1 64 (45 ∷ t) ≡ None
hyphen_number t = no_number (nat_lt 0 (length (45 ∷ t))) (has_leading_zero (45 ∷ t)) (nat_le 1 (value_of (45 ∷ t)) && nat_le (value_of (45 ∷ t)) 64) (Some (value_of (45 ∷ t)))

-- .. and no packet's size
pub hyphen_size : (t : List ℕ) → packet_size (45 ∷ t) ≡ None
unfolding packet_size
hyphen_size t = refl

-- another word isn't the option of this name: these words are it, alone and before a text
module _ (name bare joined : List ℕ) (n : ℕ) (is_bare : is_word (45 ∷ 45 ∷ name) bare ≡ true)
    (is_joined : (v : List ℕ) → is_word (take n (45 ∷ 45 ∷ (name ++ 61 ∷ v))) joined ≡ true) where
  other_at : (word : List ℕ) (value : Option (List ℕ)) → word ≡ 45 ∷ 45 ∷ letters name value → is_word word bare ≡ false
      → is_word (take n word) joined ≡ false → ⊥
  other_at word None is alone before = true≢false (sym (ap (λ t. is_word t bare) is ∙ is_bare) ∙ alone)
  other_at word (Some v) is alone before = true≢false (sym (ap (λ t. is_word (take n t) joined) is ∙ is_joined v) ∙ before)

  pub other_name : (word other : List ℕ) (value : Option (List ℕ)) → long_of word ≡ Some (other, value) → is_word word bare ≡ false
      → is_word (take n word) joined ≡ false → bytes_eq name other ≡ false
  other_name word other value is alone before = go (bytes_eq name other) refl
    where
      go : (b : Bool) → bytes_eq name other ≡ b → b ≡ false
      go false e = refl
      go true e =
          let named : name ≡ other = (bytes_eq-Decides name other).0 e in
          absurd (other_at word value (long_letters word other value is ∙ ap (λ n. 45 ∷ 45 ∷ letters n value) (sym named)) alone before)

pub other_batch : (word other : List ℕ) (value : Option (List ℕ)) → long_of word ≡ Some (other, value) → is_word word (codes "--batch") ≡ false
    → is_word (take 8 word) (codes "--batch=") ≡ false → bytes_eq (codes "batch") other ≡ false
other_batch = other_name (codes "batch") (codes "--batch") (codes "--batch=") 8 refl (λ v. refl)

pub other_packet : (word other : List ℕ) (value : Option (List ℕ)) → long_of word ≡ Some (other, value) → is_word word (codes "--packet") ≡ false
    → is_word (take 9 word) (codes "--packet=") ≡ false → bytes_eq (codes "packet") other ≡ false
other_packet = other_name (codes "packet") (codes "--packet") (codes "--packet=") 9 refl (λ v. refl)

pub joined_is : (n : ℕ) (word joined : List ℕ) → is_word (take n word) joined ≡ true → word ≡ joined ++ drop n word
joined_is n word joined e = sym (take-append-drop n word) ∙ ap (λ t. t ++ drop n word) ((bytes_eq-Decides (take n word) joined).0 e)

pub word_is : (word text : List ℕ) → is_word word text ≡ true → word ≡ text
word_is word text e = (bytes_eq-Decides word text).0 e
