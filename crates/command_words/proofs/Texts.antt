-- What the words of the options give, word by word.
use Rattle.std.proofs.Common.{◌≡◌, ◌∙◌, ◌||◌, refl, sym, ap, ℕ, cond, List, [], ◌∷◌, ◌++◌, Bool, true, false, true≢false, take, drop, Option, Some, None, codes, ◌⊎◌, ⊎_elim, inl, inr}
use Rattle.std.specs.Prelude.{option_and_then, is_some}
use Rattle.std.specs.List.{list_any}
use Rattle.std.specs.Str.{bytes_eq}
use Rattle.std.proofs.lemmas.Slice.Eq.{bytes_eq-Decides}
use Rattle.std.proofs.lemmas.Option.{none-some}
use Rattle.lemmas.proofs.Options.{same_some}
use Rattle.command_words.specs.Meant.{Texts, batch_size, joined, options_by, packet_size, read_by, texts_by, with_batch, with_packet}
use Rattle.command_words.proofs.Spelled.{hyphen_number, hyphen_size, joined_is, word_is}
use Rattle.command_words.proofs.Walks.{Which, bare, batch, before, packet, with_text}
use Rattle.text_forms.specs.Words.{is_word}

-- behind an option that waits for its text
abbrev pub text_behind : Which → Texts → List (List ℕ) → Option Texts
text_behind n given [] = None
text_behind n given (text ∷ words) = option_and_then (λ g. texts_by g words) (with_text n text given)

-- the option alone
pub bare_texts : (n : Which) (given : Texts) (words : List (List ℕ)) → texts_by given (bare n ∷ words) ≡ text_behind n given words
unfolding texts_by joined
bare_texts batch given [] = refl
bare_texts packet given [] = refl
bare_texts batch given (text ∷ words) = refl
bare_texts packet given (text ∷ words) = refl

-- nothing behind it changes what is given
nothing_more : (o : Option Texts) → o ≡ option_and_then (λ g. texts_by g []) o
unfolding texts_by
nothing_more None = refl
nothing_more (Some g) = refl

-- the option with its text
pub joined_texts : (n : Which) (v : List ℕ) (given : Texts) (words : List (List ℕ)) → texts_by given ((before n ++ v) ∷ words) ≡ option_and_then (λ g. texts_by g words) (with_text n v given)
unfolding texts_by joined
joined_texts batch v given [] = nothing_more (with_batch v given)
joined_texts packet v given [] = nothing_more (with_packet v given)
joined_texts batch v given (text ∷ words) = refl
joined_texts packet v given (text ∷ words) = refl

-- a word that is no option
pub record IsOther (word : List ℕ) : Type 0 where
  pub batch : is_word word (codes "--batch") ≡ false
  pub batch_joined : is_word (take 8 word) (codes "--batch=") ≡ false
  pub packet : is_word word (codes "--packet") ≡ false
  pub packet_joined : is_word (take 9 word) (codes "--packet=") ≡ false

pub other_texts : (word : List ℕ) → IsOther word → (given : Texts) (words : List (List ℕ)) → texts_by given (word ∷ words) ≡ None
unfolding texts_by joined
other_texts word is given [] = rw (is.batch_joined, is.packet_joined) refl
other_texts word is given (text ∷ words) = rw (is.batch, is.packet, is.batch_joined, is.packet_joined) refl

-- the kinds of words: an option before its text, an option with its text, or no option
pub data Kind (word : List ℕ) : Type 0 where
  alone : (n : Which) → word ≡ bare n → Kind word
  with_its_text : (n : Which) (v : List ℕ) → word ≡ before n ++ v → Kind word
  neither : IsOther word → Kind word

pub kind_of_word : (word : List ℕ) → Kind word
kind_of_word word = by (is_word word (codes "--batch")) (is_word (take 8 word) (codes "--batch=")) (is_word word (codes "--packet")) (is_word (take 9 word) (codes "--packet=")) refl refl refl refl
  where
    by : (b b' p p' : Bool) → is_word word (codes "--batch") ≡ b → is_word (take 8 word) (codes "--batch=") ≡ b'
        → is_word word (codes "--packet") ≡ p → is_word (take 9 word) (codes "--packet=") ≡ p' → Kind word
    by true b' p p' e e' f f' = alone batch (word_is word (codes "--batch") e)
    by false true p p' e e' f f' = with_its_text batch (drop 8 word) (joined_is 8 word (codes "--batch=") e')
    by false false true p' e e' f f' = alone packet (word_is word (codes "--packet") f)
    by false false false true e e' f f' = with_its_text packet (drop 9 word) (joined_is 9 word (codes "--packet=") f')
    by false false false false e e' f f' = neither (record { batch = e; batch_joined = e'; packet = f; packet_joined = f' })

-- ------ a text that is refused stays

-- these texts come to nothing
abbrev pub Fails : Option Texts → Type 0
Fails o = option_and_then options_by o ≡ None

abbrev pub text_at : Which → Texts → Option (List ℕ)
text_at batch given = given.batch
text_at packet given = given.packet

-- a text that neither option takes
pub record IsRefused (text : List ℕ) : Type 0 where
  pub batch : batch_size text ≡ None
  pub packet : packet_size text ≡ None

pub hyphen_refused : (word t : List ℕ) → word ≡ 45 ∷ t → IsRefused word
hyphen_refused word t is = record { batch = ap (λ w. batch_size w) is ∙ hyphen_number t; packet = ap packet_size is ∙ hyphen_size t }

never : {X Y : Type 0} (f : X → Option Y) → ((x : X) → f x ≡ None) → (o : Option X) → option_and_then f o ≡ None
never f none None = refl
never f none (Some x) = none x

-- one more text of an option
added : {X : Type 0} (b : Bool) (x y : X) → cond b None (Some x) ≡ Some y → (b ≡ false) × (x ≡ y)
added true x y is = absurd (none-some y is)
added false x y is = (refl, same_some x y is)

module _ (text : List ℕ) (refused : IsRefused text) where
  options_fail : (n : Which) (given : Texts) → text_at n given ≡ Some text → options_by given ≡ None
  unfolding options_by
  options_fail batch given has = rw (has, refused.batch) refl
  options_fail packet given has = rw (has, refused.packet) (never _ (λ b. refl) (read_by batch_size given.batch))

  kept : (n m : Which) (v : List ℕ) (g h : Texts) → with_text m v g ≡ Some h → text_at n g ≡ Some text → text_at n h ≡ Some text
  unfolding with_batch with_packet
  kept batch batch v g h is has =
      let e = added (is_some g.batch) (record g { batch = Some v }) h is in
      absurd (true≢false (sym (ap (λ o. is_some o) has) ∙ e.0))
  kept packet packet v g h is has =
      let e = added (is_some g.packet) (record g { packet = Some v }) h is in
      absurd (true≢false (sym (ap (λ o. is_some o) has) ∙ e.0))
  kept batch packet v g h is has =
      let e = added (is_some g.packet) (record g { packet = Some v }) h is in
      sym (ap (λ (t : Texts). t.batch) e.1) ∙ has
  kept packet batch v g h is has =
      let e = added (is_some g.batch) (record g { batch = Some v }) h is in
      sym (ap (λ (t : Texts). t.packet) e.1) ∙ has

  after : (words : List (List ℕ)) (o : Option Texts) → ((h : Texts) → o ≡ Some h → Fails (texts_by h words)) → Fails (option_and_then (λ g. texts_by g words) o)
  after words None fails = refl
  after words (Some h) fails = fails h refl

  pub fails_behind : (n : Which) (words : List (List ℕ)) → ((g : Texts) → text_at n g ≡ Some text → Fails (texts_by g words)) × ((m : Which) (g : Texts) → text_at n g ≡ Some text → Fails (text_behind m g words))
  unfolding texts_by
  fails_behind n [] = (λ g has. options_fail n g has, λ m g has. refl)
  fails_behind n (word ∷ words) =
      let more = fails_behind n words in (
        λ g has. elim (kind_of_word word) [
          | alone m e ↦ ap (λ w. option_and_then options_by (texts_by g (w ∷ words))) e ∙ (ap (option_and_then options_by) (bare_texts m g words) ∙ more.1 m g has)
          | with_its_text m v e ↦ ap (λ w. option_and_then options_by (texts_by g (w ∷ words))) e ∙ (ap (option_and_then options_by) (joined_texts m v g words)
              ∙ after words (with_text m v g) (λ h is. more.0 h (kept n m v g h is has)))
          | neither is ↦ ap (option_and_then options_by) (other_texts word is g words)
        ],
        λ m g has. after words (with_text m word g) (λ h is. more.0 h (kept n m word g h is has)),
      )

-- behind an option stands such a text
has_it : (n : Which) (text : List ℕ) (g h : Texts) → with_text n text g ≡ Some h → text_at n h ≡ Some text
unfolding with_batch with_packet
has_it batch text g h is = sym (ap (λ (t : Texts). t.batch) (added (is_some g.batch) (record g { batch = Some text }) h is).1)
has_it packet text g h is = sym (ap (λ (t : Texts). t.packet) (added (is_some g.packet) (record g { packet = Some text }) h is).1)

pub refused_text : (n : Which) (text : List ℕ) → IsRefused text → (g : Texts) (words : List (List ℕ)) → Fails (text_behind n g (text ∷ words))
refused_text n text refused g words = by (with_text n text g) refl where
  by : (o : Option Texts) → with_text n text g ≡ o → Fails (option_and_then (λ h. texts_by h words) o)
  by None e = refl
  by (Some h) e = (fails_behind text refused n words).0 h (has_it n text g h e)

-- ------ the word `--`

abbrev pub has_dashes : List (List ℕ) → Bool
has_dashes words = list_any (λ word. bytes_eq word (codes "--")) words

either : (a b : Bool) → (a || b) ≡ true → (a ≡ true) ⊎ (b ≡ true)
either true b e = inl refl
either false b e = inr e

dashes_other : IsOther (codes "--")
dashes_other = record { batch = refl; batch_joined = refl; packet = refl; packet_joined = refl }

through : (words : List (List ℕ)) → ((g : Texts) → Fails (texts_by g words)) → (o : Option Texts) → Fails (option_and_then (λ g. texts_by g words) o)
through words fails None = refl
through words fails (Some h) = fails h

pub dashes_fail : (words : List (List ℕ)) → has_dashes words ≡ true → ((g : Texts) → Fails (texts_by g words)) × ((m : Which) (g : Texts) → Fails (text_behind m g words))
dashes_fail [] e = absurd (true≢false (sym e))
dashes_fail (word ∷ words) e = ⊎_elim
    (λ here. let is = (bytes_eq-Decides word (codes "--")).0 here in (
      λ g. ap (λ w. option_and_then options_by (texts_by g (w ∷ words))) is ∙ ap (option_and_then options_by) (other_texts (codes "--") dashes_other g words),
      λ m g. refused_text m word (hyphen_refused word (45 ∷ []) is) g words,
    ))
    (λ later. let more = dashes_fail words later in (
      λ g. elim (kind_of_word word) [
        | alone m e ↦ ap (λ w. option_and_then options_by (texts_by g (w ∷ words))) e ∙ (ap (option_and_then options_by) (bare_texts m g words) ∙ more.1 m g)
        | with_its_text m v e ↦ ap (λ w. option_and_then options_by (texts_by g (w ∷ words))) e ∙ (ap (option_and_then options_by) (joined_texts m v g words) ∙ through words more.0 (with_text m v g))
        | neither is ↦ ap (option_and_then options_by) (other_texts word is g words)
      ],
      λ m g. through words more.0 (with_text m word g),
    ))
    (either _ _ e)
