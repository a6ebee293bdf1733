-- The command that words mean (this project's own rules).
use Rattle.std.specs.Prelude.{⊤, ℕ, ◌≤◌, ◌-◌, ◌^◌, List, [], ◌∷◌, length, take, drop, slice_index_or, Option, Some, None, is_some, unwrap_or, option_map, option_and_then, if◌then◌else◌, codes}
use Rattle.std.specs.Option.{option_or}
use Rattle.text_forms.specs.Numbers.{number_between}
use Rattle.text_forms.specs.Words.{is_word}
use Rattle.ts_packet.specs.declared.size.PacketSize.{PacketSize}
use Rattle.ts_packet.specs.declared.size.PacketSize.TheVariants.{Of188, Of204}
use Rattle.command_words.specs.declared.Command.{Command}
use Rattle.command_words.specs.declared.Command.TheVariants.{Steps, Run, Make, SelfTest, Check}
use Rattle.command_words.specs.declared.options.Options.{Options}

-- ------ the options

-- the texts of the options `--batch` and `--packet`, where these are given
pub record Texts : Type 0 where
  pub batch : Option (List ℕ)
  pub packet : Option (List ℕ)

-- neither is given
abbrev pub no_texts : Texts
no_texts = record { batch = None; packet = None }

-- with the text of one more; None where it was given before
unfoldable pub with_batch : (text : List ℕ) → Texts → Option Texts
with_batch text given = if is_some given.batch then None else Some (record given { batch = Some text })

unfoldable pub with_packet : (text : List ℕ) → Texts → Option Texts
with_packet text given = if is_some given.packet then None else Some (record given { packet = Some text })

-- an option and its text in one word: `--batch=B` or `--packet=P`
unfoldable pub joined : (word : List ℕ) → Texts → Option Texts
joined word given =
    if is_word (take 8 word) (codes "--batch=") then with_batch (drop 8 word) given
    else (if is_word (take 9 word) (codes "--packet=") then with_packet (drop 9 word) given
    else None)

-- The texts that these words give behind others: each option stands in one word, or in two, as `--batch` and B or
-- `--packet` and P.
unfoldable pub texts_by : Texts → List (List ℕ) → Option Texts
texts_by given [] = Some given
texts_by given (word ∷ []) = joined word given
texts_by given (word ∷ text ∷ words) =
    if is_word word (codes "--batch") then option_and_then (λ g. texts_by g words) (with_batch text given)
    else (if is_word word (codes "--packet") then option_and_then (λ g. texts_by g words) (with_packet text given)
    else option_and_then (λ g. texts_by g (text ∷ words)) (joined word given))

-- B: how many packets a batch has, 1 to 64
abbrev pub batch_size : List ℕ → Option ℕ
batch_size text = number_between 1 64 text

-- P: how many bytes a packet takes up in the stream, 188 or 204
unfoldable pub packet_size : List ℕ → Option PacketSize
packet_size text =
    if is_word text (codes "188") then Some Of188
    else (if is_word text (codes "204") then Some Of204 else None)

-- what is read of the text of an option: nothing where it isn't given, and None where its text is refused
abbrev pub read_by : {X : Type 0} → (List ℕ → Option X) → Option (List ℕ) → Option (Option X)
read_by read None = Some None
read_by read (Some text) = option_map (λ x. Some x) (read text)

-- what the options ask for, by their texts
unfoldable pub options_by : Texts → Option Options
options_by texts = option_and_then (λ b. option_map (λ p. record { batch = b; packet = p }) (read_by packet_size texts.packet))
    (read_by batch_size texts.batch)

-- .. and by their words, in either order, each option at most once
unfoldable pub options_of : List (List ℕ) → Option Options
options_of words = option_and_then options_by (texts_by no_texts words)

-- a batch has 64 packets where it isn't given
abbrev pub batch_of : Options → ℕ
batch_of options = unwrap_or options.batch 64

-- a packet takes up 188 bytes where it isn't given
abbrev pub packet_of : Options → PacketSize
packet_of options = unwrap_or options.packet Of188

-- ------ the commands

-- the number of a session
unfoldable pub session_number : List ℕ → Option ℕ
session_number word = number_between 0 (2 ^ 64 - 1) word

-- `steps`: with the options or without them
unfoldable pub steps_of : List (List ℕ) → Option Command
steps_of words = option_map (λ options. Steps (batch_of options) (packet_of options)) (options_of words)

-- `run`: the same
unfoldable pub run_of : List (List ℕ) → Option Command
run_of words = option_map (λ options. Run (batch_of options) (packet_of options)) (options_of words)

-- `make`: a number alone
unfoldable pub make_of : List (List ℕ) → Option Command
make_of (word ∷ []) = option_map (λ number. Make number) (session_number word)
make_of _ = None

-- a number, and the options, of which `--packet` is refused
unfoldable pub self_test_by : (number : Option ℕ) → Option Options → Option Command
self_test_by number options = option_and_then (λ n. option_and_then (λ o.
    if is_some o.packet then None else Some (SelfTest n (batch_of o))) options) number

-- `selftest`: a number first or last, and the option `--batch` or nothing
unfoldable pub self_test_of : List (List ℕ) → Option Command
self_test_of [] = None
self_test_of (word ∷ words) =
    option_or (self_test_by (session_number word) (options_of words))
    (self_test_by (session_number (slice_index_or (word ∷ words) (length words) word))
    (options_of (take (length words) (word ∷ words))))

-- `check`: the options, of which `--batch` is refused
unfoldable pub check_of : List (List ℕ) → Option Command
check_of words = option_and_then (λ o. if is_some o.batch then None else Some (Check (packet_of o))) (options_of words)

-- the command of a first word and the words behind it
unfoldable pub command_of : List ℕ → List (List ℕ) → Option Command
command_of first rest =
    if is_word first (codes "steps") then steps_of rest
    else (if is_word first (codes "run") then run_of rest
    else (if is_word first (codes "make") then make_of rest
    else (if is_word first (codes "selftest") then self_test_of rest
    else (if is_word first (codes "check") then check_of rest
    else None))))

-- the command of the words behind the program's name; None where they are refused
unfoldable pub meant : List (List ℕ) → Option Command
meant [] = None
meant (first ∷ rest) = command_of first rest

-- a batch has 1 to 64 packets
abbrev pub IsInRange : Command → Type 0
IsInRange (Steps batch packet) = (1 ≤ batch) × (batch ≤ 64)
IsInRange (Run batch packet) = (1 ≤ batch) × (batch ≤ 64)
IsInRange (Make number) = ⊤
IsInRange (SelfTest number batch) = (1 ≤ batch) × (batch ≤ 64)
IsInRange (Check packet) = ⊤
