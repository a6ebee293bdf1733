-- What clap's clauses come to.
use Rattle.std.proofs.Common.{rules, ◌∙◌, map, string_bytes, ◌≡◌, ◌≢◌, ⊎_elim, refl, sym, ap, ℕ, List, [], ◌∷◌, true, Option, None, codes}
use Rattle.command_words.proofs.options.ask.Goals as goal
use Rattle.clap.specs.Kinds.{HasKind, IsAmong, Kinds}
use Rattle.clap.specs.Words.{HasMatchesOf, app_of, fault_of, first_of, first_value, found_of, is_simple, is_simple_and_free, kind_of, matches_of, rows_of}
use Rattle.clap.specs.declared.builder.command.Command.{Command}
use Rattle.clap.specs.declared.error.Error.{Error}
use Rattle.clap.specs.declared.error.kind.ErrorKind.{ErrorKind}
use Rattle.clap.specs.declared.error.kind.ErrorKind.TheVariants.{OutOfMemory}
use Rattle.clap.specs.declared.parser.matches.ArgMatches.{ArgMatches}
use Rattle.clap.proofs.WalkLemmas.{first_value-rows}
use Rattle.command_words.specs.Meant.{Texts, options_by}
use Rattle.command_words.specs.declared.options.Options.{Options}
use Rattle.command_words.specs.Inside.Reader.{answer, reader, texts_in, unless}

simple : is_simple reader ≡ true
simple = refl

free : is_simple_and_free reader ≡ true
free = refl

module _ (command : Command) (words : List (List ℕ)) (is : app_of command ≡ reader) where
  pub by_matches : (m : ArgMatches) (batch packet : Option (List ℕ)) → HasMatchesOf (app_of command) words m
      → (is_simple_and_free (app_of command) ≡ true → fault_of (app_of command) words ≡ []) → batch ≡ first_value (found_of m) (codes "batch")
      → packet ≡ first_value (found_of m) (codes "packet") → options_by (record { batch = batch; packet = packet }) ≡ answer words
  by_matches m batch packet has kinds got_batch got_packet =
      let rows : rows_of (found_of m) ≡ matches_of reader words = (has (ap is_simple is ∙ simple)).0 ∙ ap (λ a. matches_of a words) is in
      let fault : fault_of reader words ≡ [] = sym (ap (λ a. fault_of a words) is) ∙ kinds (ap is_simple_and_free is ∙ free) in
      let b : batch ≡ first_of (codes "batch") (matches_of reader words) = got_batch ∙ (first_value-rows (found_of m) (codes "batch") ∙ ap (first_of (codes "batch")) rows) in
      let p : packet ≡ first_of (codes "packet") (matches_of reader words) = got_packet ∙ (first_value-rows (found_of m) (codes "packet") ∙ ap (first_of (codes "packet")) rows) in
      let texts : (let t : Texts = record { batch = batch; packet = packet } in t) ≡ texts_in words = rw (b, p) refl in
      ap options_by texts ∙ sym (ap (λ k. unless k (options_by (texts_in words))) fault)

  among : (kinds : Kinds) (k : ErrorKind) (options : Option Options) → IsAmong k kinds → None ≡ unless kinds options
  among [] k options is = absurd is
  among (x ∷ xs) k options is = refl

  pub by_fault : (e : Error) → (is_simple_and_free (app_of command) ≡ true → HasKind (fault_of (app_of command) words) e) → kind_of e ≢ OutOfMemory → None ≡ answer words
  by_fault e kinds other =
      ⊎_elim (λ m. absurd (other m))
      (λ a. among (fault_of (app_of command) words) (kind_of e) (options_by (texts_in words)) a
      ∙ ap (λ x. unless (fault_of x words) (options_by (texts_in words))) is)
      (kinds (ap is_simple_and_free is ∙ free))

pub returns-in-Ok-clause-value : goal.returns-in-Ok-clause-value
returns-in-Ok-clause-value c = c.options_by_texts.ensures.value
    ∙ by_matches c.in_ok-reader.reader (map string_bytes c.args.rest.now) c.in_ok-reader.ensures c.in-Ok.matches _ _ c.in-Ok.ensures.matches c.in-Ok.ensures.kinds c.get_str.ensures c.get_str-in-Ok.ensures

pub returns-else-eq-clause-value : goal.returns-else-eq-clause-value
returns-else-eq-clause-value c = by_fault c.in_ok-reader.reader (map string_bytes c.args.rest.now) c.in_ok-reader.ensures c.in-Err.error c.in-Err.ensures.kinds (search rules)
