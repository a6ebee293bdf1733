-- What clap is given to read: a command with the options `--batch` and `--packet`, and without help.
use Rattle.std.specs.Prelude.{ℕ, List, [], ◌∷◌, Option, Some, None, true, codes}
use Rattle.clap.specs.Kinds.{Kinds}
use Rattle.clap.specs.Words.{fault_of, first_of, matches_of, App, Rule, new_app, new_rule, with_rule}
use Rattle.clap.specs.Simple.{on_top}
use Rattle.clap.specs.declared.builder.action.ArgAction.TheVariants.{Set}
use Rattle.command_words.specs.Meant.{Texts, options_by}
use Rattle.command_words.specs.declared.options.Options.{Options}

-- an option of this name, which takes a text
abbrev pub text_rule : List ℕ → Rule
text_rule name = record (new_rule name) { long = Some name; action = Some Set }

-- the command, whose words begin with no program's name
abbrev pub reader : App
reader = with_rule (with_rule (on_top (λ s. record s { no_binary_name = true; disable_help_flag = true })
    (new_app (codes "dvbemu"))) (text_rule (codes "batch"))) (text_rule (codes "packet"))

-- nothing where clap finds a fault
abbrev pub unless : Kinds → Option Options → Option Options
unless [] options = options
unless (kind ∷ kinds) options = None

-- the texts of the options that clap finds
abbrev pub texts_in : List (List ℕ) → Texts
texts_in words = record {
  batch = first_of (codes "batch") (matches_of reader words);
  packet = first_of (codes "packet") (matches_of reader words);
}

-- what clap's answer to the words behind the first comes to
abbrev pub answer : List (List ℕ) → Option Options
answer words = unless (fault_of reader words) (options_by (texts_in words))
