-- How clap walks over the options.
use Rattle.std.proofs.Common.{◌≡◌, ◌∙◌, ap, refl, ℕ, List, [], ◌∷◌, ◌++◌, Bool, Option, Some, None, true, false, codes}
use Rattle.std.specs.Prelude.{fold, slice_get, is_some}
use Rattle.std.specs.Str.{bytes_eq, chars}
use Rattle.clap.specs.Faults.{check_fault, defaults_fault, entered_fault, flags_fault, settle_fault, turn_fault, walk_fault}
use Rattle.clap.specs.Kinds.{Kinds, or_else}
use Rattle.clap.specs.Lexer.{long_of, short_of}
use Rattle.clap.specs.Simple.{App, built, entered, names_of}
use Rattle.clap.specs.Walk.{Row, Rule, Text, Waiting, Walk, bundle_met, finished, first_of, has_row, idle, option, positional, reading_by, settled, walked}
use Rattle.clap.specs.declared.parser.matches.ValueSource.TheVariants.{CommandLine}
use Rattle.command_words.specs.Inside.Reader.{answer, reader, text_rule, unless}
use Rattle.command_words.specs.Meant.{Texts, options_by, with_batch, with_packet}
use Rattle.command_words.specs.declared.options.Options.{Options}

-- ------ from anywhere in the walk

abbrev pub app : App
app = built reader

abbrev pub rules : List Rule
rules = app.top.rules

-- where the walk ends from here over these words
abbrev pub end_of : Walk → List Text → Walk
end_of w words = fold (walked rules (names_of app)) w words

abbrev pub faults_of : Walk → List Text → Kinds
faults_of w words =
    let end = end_of w words in
    or_else (walk_fault app.top (names_of app) w words)
    (or_else (entered_fault app end.stopped)
    (or_else (settle_fault rules app.top.args_override_self end.held)
    (or_else (defaults_fault (settled rules end.held).rows rules)
    (check_fault app.top (finished rules end.held) (is_some (entered app end.stopped))))))

-- what it comes to
unfoldable pub answer_from : Walk → List Text → Option Options
answer_from w words = unless (faults_of w words) (options_by (record {
  batch = first_of (codes "batch") (finished rules (end_of w words).held);
  packet = first_of (codes "packet") (finished rules (end_of w words).held);
}))

-- between two words, where these rows are found, and the texts of this option are read
abbrev pub standing : List Row → Option (Text × List Text) → Waiting → Walk
standing rows pending waiting = record { held = record { rows = rows; pending = pending; skip = 0 }; waiting = waiting; position = 1; is_trailing = false; stopped = None }

pub from_first : (words : List Text) → answer words ≡ answer_from (standing [] None idle) words
unfolding answer_from
from_first words = refl

-- the same once a word was passed over with these faults
answer_by : Kinds → Walk → List Text → Option Options
answer_by kinds w words = unless (or_else (or_else kinds (walk_fault app.top (names_of app) w words))
    (or_else (entered_fault app (end_of w words).stopped)
    (or_else (settle_fault rules app.top.args_override_self (end_of w words).held)
    (or_else (defaults_fault (settled rules (end_of w words).held).rows rules)
    (check_fault app.top (finished rules (end_of w words).held) (is_some (entered app (end_of w words).stopped)))))))
    (options_by (record {
      batch = first_of (codes "batch") (finished rules (end_of w words).held);
      packet = first_of (codes "packet") (finished rules (end_of w words).held);
    }))

one_word : (w : Walk) (word : Text) (words : List Text) → answer_from w (word ∷ words) ≡ answer_by (turn_fault app.top (names_of app) w word) (walked rules (names_of app) w word) words
unfolding answer_from answer_by walk_fault
one_word w word words = refl

no_fault : (w : Walk) (words : List Text) → answer_by [] w words ≡ answer_from w words
unfolding answer_from answer_by
no_fault w words = refl

-- a word without a fault
next_word : (w v : Walk) (word : Text) (words : List Text) → turn_fault app.top (names_of app) w word ≡ [] → walked rules (names_of app) w word ≡ v → answer_from w (word ∷ words) ≡ answer_from v words
next_word w v word words none goes =
    one_word w word words ∙ (ap (λ k. answer_by k (walked rules (names_of app) w word) words) none ∙ (ap (λ u. answer_by [] u words) goes ∙ no_fault v words))

-- ------ words that are refused wherever they stand, and words that are texts

module _ (word : Text) (ws : List Text) (dashes : bytes_eq word (45 ∷ 45 ∷ []) ≡ false) where
  module _ (rows : List Row) (pending : Option (Text × List Text)) where
    pub long_refused : (waiting : Waiting) (name : Text) (value : Option Text) → long_of word ≡ Some (name, value) → bytes_eq (codes "batch") name ≡ false
        → bytes_eq (codes "packet") name ≡ false → answer_from (standing rows pending waiting) (word ∷ ws) ≡ None
    unfolding answer_from walked walk_fault defaults_fault
    long_refused idle name value l b p = rw (dashes, l, b, p) refl
    long_refused (option o) name value l b p = rw (dashes, l, b, p) refl
    long_refused positional name value l b p = rw (dashes, l, b, p) refl

    pub flag_refused : (waiting : Waiting) (f x : ℕ) (fs : List ℕ) → long_of word ≡ None → short_of word ≡ Some (f ∷ fs) → slice_get (chars (f ∷ fs)) 0 ≡ Some x
        → answer_from (standing rows pending waiting) (word ∷ ws) ≡ None
    unfolding answer_from walked bundle_met flags_fault walk_fault defaults_fault
    flag_refused idle f x fs l s e = rw (dashes, l, s, e) refl
    flag_refused (option o) f x fs l s e = rw (dashes, l, s, e) refl
    flag_refused positional f x fs l s e = rw (dashes, l, s, e) refl

    pub plain_refused : long_of word ≡ None → short_of word ≡ None → answer_from (standing rows pending idle) (word ∷ ws) ≡ None
    unfolding answer_from walked walk_fault defaults_fault
    plain_refused l s = rw (dashes, l, s) refl

    pub empty_refused : (f : ℕ) (fs : List ℕ) → long_of word ≡ None → short_of word ≡ Some (f ∷ fs) → slice_get (chars (f ∷ fs)) 0 ≡ None
        → answer_from (standing rows pending idle) (word ∷ ws) ≡ None
    unfolding answer_from walked bundle_met flags_fault walk_fault defaults_fault
    empty_refused f fs l s e = rw (dashes, l, s, e) refl

-- ------ one of the two options

pub data Which : Type 0 where
  batch : Which
  packet : Which

abbrev pub other : Which → Which
other batch = packet
other packet = batch

abbrev pub name_of : Which → Text
name_of batch = codes "batch"
name_of packet = codes "packet"

-- the option before its text, alone or in one word with it
abbrev pub bare : Which → Text
bare batch = codes "--batch"
bare packet = codes "--packet"

abbrev pub before : Which → Text
before batch = codes "--batch="
before packet = codes "--packet="

abbrev pub with_text : Which → Text → Texts → Option Texts
with_text batch = with_batch
with_text packet = with_packet

-- it waits for its text, or has it
abbrev pub begun : List Row → Which → Walk
begun rows n = standing rows (Some (name_of n, [])) (option (name_of n))

abbrev pub full : List Row → Which → Text → Walk
full rows n text = standing rows (Some (name_of n, text ∷ [])) idle

module _ (word : Text) (ws : List Text) (dashes : bytes_eq word (45 ∷ 45 ∷ []) ≡ false) (rows : List Row) where
  plain_fault : (n : Which) → long_of word ≡ None → short_of word ≡ None → turn_fault app.top (names_of app) (begun rows n) word ≡ []
  plain_fault batch l s = rw (dashes, l, s) refl
  plain_fault packet l s = rw (dashes, l, s) refl

  plain_goes : (n : Which) → long_of word ≡ None → short_of word ≡ None → walked rules (names_of app) (begun rows n) word ≡ full rows n word
  unfolding walked
  plain_goes batch l s = rw (dashes, l, s) refl
  plain_goes packet l s = rw (dashes, l, s) refl

  pub plain_taken : (n : Which) → long_of word ≡ None → short_of word ≡ None → answer_from (begun rows n) (word ∷ ws) ≡ answer_from (full rows n word) ws
  plain_taken n l s = next_word (begun rows n) (full rows n word) word ws (plain_fault n l s) (plain_goes n l s)

  module _ (f : ℕ) (fs : List ℕ) (l : long_of word ≡ None) (s : short_of word ≡ Some (f ∷ fs)) (e : slice_get (chars (f ∷ fs)) 0 ≡ None) where
    empty_fault : (n : Which) → turn_fault app.top (names_of app) (begun rows n) word ≡ []
    unfolding bundle_met flags_fault
    empty_fault batch = rw (dashes, l, s, e) refl
    empty_fault packet = rw (dashes, l, s, e) refl

    empty_goes : (n : Which) → walked rules (names_of app) (begun rows n) word ≡ full rows n word
    unfolding walked bundle_met
    empty_goes batch = rw (dashes, l, s, e) refl
    empty_goes packet = rw (dashes, l, s, e) refl

    pub empty_taken : (n : Which) → answer_from (begun rows n) (word ∷ ws) ≡ answer_from (full rows n word) ws
    empty_taken n = next_word (begun rows n) (full rows n word) word ws (empty_fault n) (empty_goes n)

-- an option without its text
module _ (rows : List Row) where
  pub begun_end : (n : Which) → answer_from (begun rows n) [] ≡ None
  unfolding answer_from walked walk_fault defaults_fault
  begun_end batch = refl
  begun_end packet = refl

  pub begun_bare : (n m : Which) (ws : List Text) → answer_from (begun rows n) (bare m ∷ ws) ≡ None
  unfolding answer_from walked walk_fault defaults_fault
  begun_bare batch batch ws = refl
  begun_bare batch packet ws = refl
  begun_bare packet batch ws = refl
  begun_bare packet packet ws = refl

  pub begun_joined : (n m : Which) (v : Text) (ws : List Text) → answer_from (begun rows n) ((before m ++ v) ∷ ws) ≡ None
  unfolding answer_from walked walk_fault defaults_fault
  begun_joined batch batch v ws = refl
  begun_joined batch packet v ws = refl
  begun_joined packet batch v ws = refl
  begun_joined packet packet v ws = refl

-- an option that was given before
module _ (rows : List Row) (v : Text) where
  pub again_end : (n : Which) → has_row (name_of n) rows ≡ true → answer_from (full rows n v) [] ≡ None
  unfolding answer_from walked walk_fault defaults_fault
  again_end batch h = rw h refl
  again_end packet h = rw h refl

  pub again_bare : (n m : Which) (ws : List Text) → has_row (name_of n) rows ≡ true → answer_from (full rows n v) (bare m ∷ ws) ≡ None
  unfolding answer_from walked walk_fault defaults_fault
  again_bare batch batch ws h = rw h refl
  again_bare batch packet ws h = rw h refl
  again_bare packet batch ws h = rw h refl
  again_bare packet packet ws h = rw h refl

  pub again_joined : (n m : Which) (u : Text) (ws : List Text) → has_row (name_of n) rows ≡ true → answer_from (full rows n v) ((before m ++ u) ∷ ws) ≡ None
  unfolding answer_from walked walk_fault defaults_fault
  again_joined batch batch u ws h = rw h refl
  again_joined batch packet u ws h = rw h refl
  again_joined packet batch u ws h = rw h refl
  again_joined packet packet u ws h = rw h refl

-- ------ what was given so far

-- neither option; one; or both, by which stood first. The last may still be read (true) or be found.
pub data State : Type 0 where
  none : State
  one : Which → Bool → Text → State
  two : Which → Bool → Text → Text → State

abbrev pub row : Which → Text → Row
row n text = record { id = name_of n; values = text ∷ []; count = None; source = Some CommandLine; reading = reading_by (text_rule (name_of n)) }

-- what is found once the last is read
abbrev pub rows_of : State → List Row
rows_of none = []
rows_of (one n last t) = row n t ∷ []
rows_of (two n last t u) = row n t ∷ row (other n) u ∷ []

abbrev pub walk_of : State → Walk
walk_of none = standing [] None idle
walk_of (one n true t) = full [] n t
walk_of (one n false t) = standing (row n t ∷ []) None idle
walk_of (two n true t u) = full (row n t ∷ []) (other n) u
walk_of (two n false t u) = standing (row n t ∷ row (other n) u ∷ []) None idle

abbrev pub texts : Which → (first second : Option Text) → Texts
texts batch first second = record { batch = first; packet = second }
texts packet first second = record { batch = second; packet = first }

abbrev pub texts_of : State → Texts
texts_of none = record { batch = None; packet = None }
texts_of (one n last t) = texts n (Some t) None
texts_of (two n last t u) = texts n (Some t) (Some u)

pub ended : (s : State) → answer_from (walk_of s) [] ≡ options_by (texts_of s)
unfolding answer_from walked walk_fault defaults_fault
ended none = refl
ended (one batch true t) = refl
ended (one batch false t) = refl
ended (one packet true t) = refl
ended (one packet false t) = refl
ended (two batch true t u) = refl
ended (two batch false t u) = refl
ended (two packet true t u) = refl
ended (two packet false t u) = refl

pub opened : (s : State) (n : Which) (ws : List Text) → answer_from (walk_of s) (bare n ∷ ws) ≡ answer_from (begun (rows_of s) n) ws
unfolding answer_from walked walk_fault defaults_fault
opened none batch ws = refl
opened none packet ws = refl
opened (one batch true t) batch ws = refl
opened (one batch true t) packet ws = refl
opened (one batch false t) batch ws = refl
opened (one batch false t) packet ws = refl
opened (one packet true t) batch ws = refl
opened (one packet true t) packet ws = refl
opened (one packet false t) batch ws = refl
opened (one packet false t) packet ws = refl
opened (two batch true t u) batch ws = refl
opened (two batch true t u) packet ws = refl
opened (two batch false t u) batch ws = refl
opened (two batch false t u) packet ws = refl
opened (two packet true t u) batch ws = refl
opened (two packet true t u) packet ws = refl
opened (two packet false t u) batch ws = refl
opened (two packet false t u) packet ws = refl

-- Where an option is given, it is a new one, and the walk goes on from what is then given; or it was given before, and the
-- words are refused.
pub data Gives (s : State) (n : Which) (v : Text) (ws : List Text) (answer : Option Options) : Type 0 where
  gives_new : (t : State) → answer ≡ answer_from (walk_of t) ws → with_text n v (texts_of s) ≡ Some (texts_of t) → Gives s n v ws answer
  gives_again : with_text n v (texts_of s) ≡ None → answer ≡ None → Gives s n v ws answer

-- in one word
pub joined_gives : (s : State) (n : Which) (v : Text) (ws : List Text) → Gives s n v ws (answer_from (walk_of s) ((before n ++ v) ∷ ws))
unfolding answer_from walked walk_fault defaults_fault with_batch with_packet
joined_gives none batch v ws = gives_new (one batch false v) refl refl
joined_gives none packet v ws = gives_new (one packet false v) refl refl
joined_gives (one batch true t) batch v ws = gives_again refl refl
joined_gives (one batch true t) packet v ws = gives_new (two batch false t v) refl refl
joined_gives (one batch false t) batch v ws = gives_again refl refl
joined_gives (one batch false t) packet v ws = gives_new (two batch false t v) refl refl
joined_gives (one packet true t) batch v ws = gives_new (two packet false t v) refl refl
joined_gives (one packet true t) packet v ws = gives_again refl refl
joined_gives (one packet false t) batch v ws = gives_new (two packet false t v) refl refl
joined_gives (one packet false t) packet v ws = gives_again refl refl
joined_gives (two batch true t u) batch v ws = gives_again refl refl
joined_gives (two batch true t u) packet v ws = gives_again refl refl
joined_gives (two batch false t u) batch v ws = gives_again refl refl
joined_gives (two batch false t u) packet v ws = gives_again refl refl
joined_gives (two packet true t u) batch v ws = gives_again refl refl
joined_gives (two packet true t u) packet v ws = gives_again refl refl
joined_gives (two packet false t u) batch v ws = gives_again refl refl
joined_gives (two packet false t u) packet v ws = gives_again refl refl

-- in two words: it is a new one, or was given before
pub data Stands (s : State) (n : Which) (v : Text) : Type 0 where
  stands_new : (t : State) → walk_of t ≡ full (rows_of s) n v → with_text n v (texts_of s) ≡ Some (texts_of t) → Stands s n v
  stands_again : with_text n v (texts_of s) ≡ None → has_row (name_of n) (rows_of s) ≡ true → Stands s n v

pub apart_stands : (s : State) (n : Which) (v : Text) → Stands s n v
unfolding with_batch with_packet
apart_stands none batch v = stands_new (one batch true v) refl refl
apart_stands none packet v = stands_new (one packet true v) refl refl
apart_stands (one batch last t) batch v = stands_again refl refl
apart_stands (one batch last t) packet v = stands_new (two batch true t v) refl refl
apart_stands (one packet last t) batch v = stands_new (two packet true t v) refl refl
apart_stands (one packet last t) packet v = stands_again refl refl
apart_stands (two batch last t u) batch v = stands_again refl refl
apart_stands (two batch last t u) packet v = stands_again refl refl
apart_stands (two packet last t u) batch v = stands_again refl refl
apart_stands (two packet last t u) packet v = stands_again refl refl
