-- What clap makes of the options is what they mean.
use Rattle.std.proofs.Common.{rules, ◌∙◌, string_bytes, ◌≡◌, refl, sym, ap, ℕ, List, [], ◌∷◌, ◌++◌, true, false, Option, Some, None, codes, map}
use Rattle.std.proofs.lemmas.Result.{IfOk-weaker}
use Rattle.command_words.proofs.options.options_in.Goals as goal
use Rattle.std.specs.Prelude.{slice_get, option_and_then}
use Rattle.std.specs.List.{list_any}
use Rattle.std.specs.Str.{bytes_eq, chars}
use Rattle.std.proofs.lemmas.Bool.{or_parts}
use Rattle.clap.proofs.WalkLemmas.{list_any-map}
use Rattle.clap.specs.Lexer.{long_of, short_of}
use Rattle.clap.specs.Walk.{Row, Text, has_row, idle, option}
use Rattle.command_words.specs.Meant.{Texts, no_texts, options_by, options_of, texts_by}
use Rattle.command_words.specs.declared.options.Options.{Options}
use Rattle.command_words.specs.Inside.Reader.{answer}
use Rattle.command_words.proofs.Spelled.{long_letters, other_batch, other_packet, short_flags, short_hyphen}
use Rattle.command_words.proofs.Texts.{IsOther, IsRefused, alone, bare_texts, dashes_fail, has_dashes, hyphen_refused, joined_texts, kind_of_word, neither, other_texts, refused_text, text_behind, with_its_text}
use Rattle.command_words.proofs.Walks.{Gives, Stands, State, Which, again_bare, again_end, again_joined, answer_from, apart_stands, bare, before, begun, empty_refused, empty_taken, ended, flag_refused, from_first, full, gives_again, gives_new, joined_gives, long_refused, batch, begun_bare, begun_end, begun_joined, name_of, none, one, opened, other, packet, plain_refused, plain_taken, row, rows_of, standing, stands_again, stands_new, texts_of, two, walk_of, with_text}

-- what these texts ask for
abbrev asked : Option Texts → Option Options
asked o = option_and_then options_by o

-- a word that is no option is another long word, a flag, or a plain word
module _ (word : Text) (is : IsOther word) (G : Type 0)
    (long : (name : Text) (value : Option Text) → long_of word ≡ Some (name, value) → bytes_eq (codes "batch") name ≡ false → bytes_eq (codes "packet") name ≡ false → G)
    (flag : (f x : ℕ) (fs : List ℕ) → long_of word ≡ None → short_of word ≡ Some (f ∷ fs) → slice_get (chars (f ∷ fs)) 0 ≡ Some x → G)
    (empty : (f : ℕ) (fs : List ℕ) → long_of word ≡ None → short_of word ≡ Some (f ∷ fs) → slice_get (chars (f ∷ fs)) 0 ≡ None → G)
    (plain : long_of word ≡ None → short_of word ≡ None → G) where
  at_letters : (f : ℕ) (fs : List ℕ) (o : Option ℕ) → long_of word ≡ None → short_of word ≡ Some (f ∷ fs) → slice_get (chars (f ∷ fs)) 0 ≡ o → G
  at_letters f fs None l s e = empty f fs l s e
  at_letters f fs (Some x) l s e = flag f x fs l s e

  at_short : (o : Option Text) → long_of word ≡ None → short_of word ≡ o → G
  at_short None l s = plain l s
  at_short (Some flags) l s =
      let some = short_flags word flags s in
      at_letters some.0 some.1 (slice_get (chars (some.0 ∷ some.1)) 0) l (s ∙ ap (λ t. Some t) some.2) refl

  at_long : (o : Option (Text × Option Text)) → long_of word ≡ o → G
  at_long None l = at_short (short_of word) l refl
  at_long (Some r) l = long r.0 r.1 l (other_batch word r.0 r.1 l is.batch is.batch_joined) (other_packet word r.0 r.1 l is.packet is.packet_joined)

  by_letters : G
  by_letters = at_long (long_of word) refl

-- where nothing waits for a text, such a word is refused
other_refused : (word : Text) (ws : List Text) → bytes_eq word (45 ∷ 45 ∷ []) ≡ false → IsOther word → (rows : List Row) (pending : Option (Text × List Text))
    → answer_from (standing rows pending idle) (word ∷ ws) ≡ None
other_refused word ws dashes is rows pending = by_letters word is (answer_from (standing rows pending idle) (word ∷ ws) ≡ None)
    (λ name value l b p. long_refused word ws dashes rows pending idle name value l b p)
    (λ f x fs l s e. flag_refused word ws dashes rows pending idle f x fs l s e)
    (λ f fs l s e. empty_refused word ws dashes rows pending f fs l s e)
    (λ l s. plain_refused word ws dashes rows pending l s)

-- an option that was given before is refused whatever stands behind it
given_again : (rows : List Row) (n : Which) (v : Text) → has_row (name_of n) rows ≡ true → (ws : List Text) → has_dashes ws ≡ false → answer_from (full rows n v) ws ≡ None
given_again rows n v has [] dashes = again_end rows v n has
given_again rows n v has (word ∷ ws) dashes = elim (kind_of_word word) [
  | alone m e ↦ ap (λ w. answer_from (full rows n v) (w ∷ ws)) e ∙ again_bare rows v n m ws has
  | with_its_text m u e ↦ ap (λ w. answer_from (full rows n v) (w ∷ ws)) e ∙ again_joined rows v n m u ws has
  | neither is ↦ other_refused word ws (or_parts _ _ dashes).0 is rows (Some (name_of n, v ∷ []))
]

-- what the rest of the words comes to, where nothing waits and where an option waits for its text
AnswersAll : List Text → Type 0
AnswersAll words = ((s : State) → answer_from (walk_of s) words ≡ asked (texts_by (texts_of s) words))
    × ((s : State) (n : Which) → answer_from (begun (rows_of s) n) words ≡ asked (text_behind n (texts_of s) words))

module _ (ws : List Text) (fine : has_dashes ws ≡ false) (more : AnswersAll ws) where
  gives : (s : State) (n : Which) (v : Text) (a : Option Options) → Gives s n v ws a → a ≡ asked (option_and_then (λ g. texts_by g ws) (with_text n v (texts_of s)))
  unfolding AnswersAll
  gives s n v a (gives_new t e given) = e ∙ (more.0 t ∙ ap (λ o. asked (option_and_then (λ g. texts_by g ws) o)) (sym given))
  gives s n v a (gives_again given e) = e ∙ ap (λ o. asked (option_and_then (λ g. texts_by g ws) o)) (sym given)

  stands : (s : State) (n : Which) (v : Text) → Stands s n v → answer_from (full (rows_of s) n v) ws ≡ asked (text_behind n (texts_of s) (v ∷ ws))
  unfolding AnswersAll
  stands s n v (stands_new t e given) = ap (λ w. answer_from w ws) (sym e) ∙ (more.0 t ∙ ap (λ o. asked (option_and_then (λ g. texts_by g ws) o)) (sym given))
  stands s n v (stands_again given has) = given_again (rows_of s) n v has ws fine ∙ ap (λ o. asked (option_and_then (λ g. texts_by g ws) o)) (sym given)

  module _ (word : Text) (dashes : bytes_eq word (45 ∷ 45 ∷ []) ≡ false) where
    idle_refused : (s : State) → IsOther word → answer_from (walk_of s) (word ∷ ws) ≡ None
    idle_refused none is = other_refused word ws dashes is [] None
    idle_refused (one n true t) is = other_refused word ws dashes is [] (Some (name_of n, t ∷ []))
    idle_refused (one n false t) is = other_refused word ws dashes is (row n t ∷ []) None
    idle_refused (two n true t u) is = other_refused word ws dashes is (row n t ∷ []) (Some (name_of (other n), u ∷ []))
    idle_refused (two n false t u) is = other_refused word ws dashes is (row n t ∷ row (other n) u ∷ []) None

    bare_refused : (m : Which) → word ≡ bare m → IsRefused word
    bare_refused batch e = hyphen_refused word _ e
    bare_refused packet e = hyphen_refused word _ e

    before_refused : (m : Which) (v : Text) → word ≡ before m ++ v → IsRefused word
    before_refused batch v e = hyphen_refused word _ e
    before_refused packet v e = hyphen_refused word _ e

    -- an option, or a word that is refused
    word_next : (s : State) → answer_from (walk_of s) (word ∷ ws) ≡ asked (texts_by (texts_of s) (word ∷ ws))
    unfolding AnswersAll
    word_next s = elim (kind_of_word word) [
      | alone n e ↦ ap (λ w. answer_from (walk_of s) (w ∷ ws)) e ∙ (opened s n ws ∙ (more.1 s n ∙ (ap asked (sym (bare_texts n (texts_of s) ws)) ∙ ap (λ w. asked (texts_by (texts_of s) (w ∷ ws))) (sym e))))
      | with_its_text n v e ↦ ap (λ w. answer_from (walk_of s) (w ∷ ws)) e ∙ (gives s n v _ (joined_gives s n v ws) ∙ (ap asked (sym (joined_texts n v (texts_of s) ws)) ∙ ap (λ w. asked (texts_by (texts_of s) (w ∷ ws))) (sym e)))
      | neither is ↦ idle_refused s is ∙ ap asked (sym (other_texts word is (texts_of s) ws))
    ]

    -- a text, or a word that is refused
    text_next : (s : State) (n : Which) → answer_from (begun (rows_of s) n) (word ∷ ws) ≡ asked (text_behind n (texts_of s) (word ∷ ws))
    text_next s n = elim (kind_of_word word) [
      | alone m e ↦ ap (λ w. answer_from (begun (rows_of s) n) (w ∷ ws)) e ∙ (begun_bare (rows_of s) n m ws ∙ sym (refused_text n word (bare_refused m e) (texts_of s) ws))
      | with_its_text m v e ↦ ap (λ w. answer_from (begun (rows_of s) n) (w ∷ ws)) e ∙ (begun_joined (rows_of s) n m v ws ∙ sym (refused_text n word (before_refused m v e) (texts_of s) ws))
      | neither is ↦ by_letters word is (answer_from (begun (rows_of s) n) (word ∷ ws) ≡ asked (text_behind n (texts_of s) (word ∷ ws)))
          (λ name value l b p. long_refused word ws dashes (rows_of s) _ (option (name_of n)) name value l b p ∙ sym (refused_text n word (hyphen_refused word _ (long_letters word name value l)) (texts_of s) ws))
          (λ f x fs l c e. flag_refused word ws dashes (rows_of s) _ (option (name_of n)) f x fs l c e ∙ sym (refused_text n word (hyphen_refused word _ (short_hyphen word (f ∷ fs) c).1) (texts_of s) ws))
          (λ f fs l c e. empty_taken word ws dashes (rows_of s) f fs l c e n ∙ stands s n word (apart_stands s n word))
          (λ l c. plain_taken word ws dashes (rows_of s) n l c ∙ stands s n word (apart_stands s n word))
    ]

answers_all : (ws : List Text) → has_dashes ws ≡ false → AnswersAll ws
unfolding AnswersAll texts_by
answers_all [] e = (λ s. ended s, λ s n. begun_end (rows_of s) n)
answers_all (word ∷ ws) e =
    let p = or_parts _ _ e in
    let more = answers_all ws p.1 in
    (λ s. word_next ws p.1 more word p.0 s, λ s n. text_next ws p.1 more word p.0 s n)

-- the word `--` isn't among them
pub clapped : {X : Type 0} (f : X → List ℕ) (words : List X) → list_any (λ word. bytes_eq (f word) (codes "--")) words ≡ false
    → answer (map f words) ≡ options_of (map f words)
unfolding AnswersAll options_of
clapped f words e = from_first (map f words) ∙ (answers_all (map f words) (sym (list_any-map (λ word. bytes_eq word (codes "--")) f words) ∙ e)).0 none

-- it is
pub dashed : {X : Type 0} (f : X → List ℕ) (words : List X) → list_any (λ word. bytes_eq (f word) (codes "--")) words ≡ true → None ≡ options_of (map f words)
unfolding options_of
dashed f words e = sym ((dashes_fail (map f words) (sym (list_any-map (λ word. bytes_eq word (codes "--")) f words) ∙ e)).0 no_texts)

pub returns-then-has_end_of_options-clause-value : goal.returns-then-has_end_of_options-clause-value
returns-then-has_end_of_options-clause-value c = dashed string_bytes c.args.rest.now (search rules)

pub returns-clause-value : goal.returns-clause-value
returns-clause-value c = IfOk-weaker c.ask.result _ _ (λ options e. e ∙ clapped string_bytes c.args.rest.now (search rules)) c.ask.ensures.value
