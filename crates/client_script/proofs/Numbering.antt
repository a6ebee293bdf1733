-- The lines of a client name its writes in their order, each once.
use Rattle.client_script.proofs.Imports.{◌≡◌, ◌≢◌, ◌<◌, ◌≤◌, ◌+◌, ◌⊎◌, inl, inr, refl, sym, ap, subst, ◌∙◌, ℕ, Bool, true, false, nat_eq, List, [], ◌∷◌, ◌++◌, length, codes, arith, length-append, append-nil, cases_eq, cases_lt, eq-eqb, nat_tests, flat_map-append, map-id, length-set, get_or-set_same, get_or-set_other, get_or_past, get_or-replicate, map-range_with_len_more, Option, Some, None, Result, Ok, Err, if◌then◌else◌, slice_set, range_with_len, option_map, LARGEST_READ, Request, is_word, client_named, Reading, and_then, mapped, or_fault, next_as, word_in, words_of, want_of, verb_of, request_number_in, request_in, written_named, number_in, pid_in, count_in, target_of, name_of, section_in, pes_in, dvr_named, alone, is_passed_over, some_said, IsPlainVerb, IsPlain, AreNumbered, Parsed, Scripted, plain, no_writes, with_said, with_write, writes_of, named_in, named_among, whole_lines, is_stream, Client, NoCommand, NoTarget, Name, Bytes, ScriptFault, CommandName, SectionName, PesName, AddName, RemoveName, SizeName, ReadName, ReadWaitName, DrainName, IoctlName, Said, Asks, Writes, Verb, Once, ReadWait, Drain, Write, Want, Add, Remove, Size, Read, Target, Dvr, Line, Feed, Tick, Command, in_line, whole_in, N, ◌==◌, ioctl_in, verb_in, command_in, write_in, asked_in, line_in, line_of, meaning, lines_from, grammar}
use Rattle.dmx_abi.specs.declared.request.Request.TheVariants as request
use Rattle.client_script.specs.declared.wanted.WantedWord.TheVariants as wanted

-- ------ another line than `write` has another verb

-- what was read is of this kind
abbrev pub Gives : {A : Type 0} → (A → Type 0) → Reading A → Type 0
Gives P (Ok r) = P r.0
Gives P (Err fault) = Unit {0}

-- what follows from what was read
then_gives : {A B : Type 0} (P : A → Type 0) (Q : B → Type 0) (r : Reading A) (next : A → List (List ℕ) → Reading B) → Gives P r → ((x : A) (words : List (List ℕ)) → P x → Gives Q (next x words)) → Gives Q (and_then r next)
then_gives P Q (Ok r) next first each = each r.0 r.1 first
then_gives P Q (Err fault) next first each = tt

-- whatever that is
any_gives : {A B : Type 0} (Q : B → Type 0) (r : Reading A) (next : A → List (List ℕ) → Reading B) → ((x : A) (words : List (List ℕ)) → Gives Q (next x words)) → Gives Q (and_then r next)
any_gives Q (Ok r) next each = each r.0 r.1
any_gives Q (Err fault) next each = tt

pub under_a_name : {A B : Type 0} (Q : B → Type 0) (name : A → B) (r : Reading A) → ((x : A) → Q (name x)) → Gives Q (mapped name r)
under_a_name Q name (Ok r) each = each r.0
under_a_name Q name (Err fault) each = tt

pub if_gives : {A : Type 0} (Q : A → Type 0) (b : Bool) (r s : Reading A) → Gives Q r → Gives Q s → Gives Q (if b then r else s)
if_gives Q true r s first second = first
if_gives Q false r s first second = second

once_plain : (number : ℕ) (want : Option Want) (words : List (List ℕ)) → Gives IsPlainVerb (or_fault Name (wanted.Argument number) (option_map Once want) words)
once_plain number (Some want) words = tt
once_plain number None words = tt

asked_plain : (number : ℕ) (r : Request) (words : List (List ℕ)) → Gives IsPlainVerb (or_fault Name (wanted.Argument number) (verb_of r) words)
asked_plain number (request.SetPes pid input output pes_type flags) words = once_plain number (want_of (request.SetPes pid input output pes_type flags)) words
asked_plain number _ words = tt

ioctl_plain : (words : List (List ℕ)) → Gives IsPlainVerb (ioctl_in words)
unfolding ioctl_in
ioctl_plain words =
    any_gives {A = ℕ} IsPlainVerb (request_number_in words) (λ number words. and_then (request_in number words) (λ request words. or_fault Name (wanted.Argument number) (verb_of request) words)) (λ number words.
    any_gives {A = Request} IsPlainVerb (request_in number words) (λ request words. or_fault Name (wanted.Argument number) (verb_of request) words) (λ request words. asked_plain number request words))

verb_plain : (name : CommandName) (words : List (List ℕ)) → Gives IsPlainVerb (verb_in name words)
unfolding verb_in
verb_plain SectionName words = under_a_name {A = Want} IsPlainVerb Once (section_in words) (λ x. tt)
verb_plain PesName words = under_a_name {A = Want} IsPlainVerb Once (pes_in words) (λ x. tt)
verb_plain AddName words = under_a_name {A = ℕ} IsPlainVerb (λ pid. Once (Add pid)) (pid_in words) (λ x. tt)
verb_plain RemoveName words = under_a_name {A = ℕ} IsPlainVerb (λ pid. Once (Remove pid)) (pid_in words) (λ x. tt)
verb_plain SizeName words = under_a_name {A = ℕ} IsPlainVerb (λ n. Once (Size n)) (count_in N words) (λ x. tt)
verb_plain ReadName words = under_a_name {A = ℕ} IsPlainVerb (λ n. Once (Read n)) (number_in N 0 LARGEST_READ words) (λ x. tt)
verb_plain ReadWaitName words = under_a_name {A = ℕ} IsPlainVerb ReadWait (number_in N 0 LARGEST_READ words) (λ x. tt)
verb_plain DrainName words = under_a_name {A = ℕ} IsPlainVerb Drain (number_in N 0 LARGEST_READ words) (λ x. tt)
verb_plain IoctlName words = ioctl_plain words
verb_plain _ words = tt

module _ (line client : ℕ) where
  abbrev with_verb : CommandName → Target → List (List ℕ) → Reading Line
  with_verb name target words = and_then (verb_in name words) (λ verb words. Ok (Command line client target verb, words))

  abbrev with_target : CommandName → List (List ℕ) → Reading Line
  with_target name words = and_then (next_as NoTarget wanted.Target target_of words) (λ target words. with_verb name target words)

  pub command_plain : (name : Option CommandName) (words : List (List ℕ)) → Gives IsPlain (command_in line client name words)
  unfolding command_in
  command_plain name words =
      any_gives {A = CommandName} IsPlain (or_fault NoCommand wanted.Command name words) with_target (λ name words.
      any_gives {A = Target} IsPlain (next_as NoTarget wanted.Target target_of words) (with_verb name) (λ target words.
      then_gives {A = Verb} IsPlainVerb IsPlain (verb_in name words) (λ verb words. Ok (Command line client target verb, words)) (verb_plain name words) (λ verb words is. is)))

-- what a line says asks for a write by no other way
abbrev IsPlainSaid : Said → Type 0
IsPlainSaid (Asks line) = IsPlain line
IsPlainSaid (Writes line client bytes) = Unit {0}

write_plain : (line client : ℕ) (words : List (List ℕ)) → Gives IsPlainSaid (write_in line client words)
unfolding write_in
write_plain line client words =
    any_gives {A = Target} IsPlainSaid (next_as NoTarget wanted.Dvr dvr_named words) (λ target words. mapped (Writes line client) (next_as Bytes wanted.Written written_named words)) (λ target words.
    under_a_name {A = List ℕ} IsPlainSaid (Writes line client) (next_as Bytes wanted.Written written_named words) (λ bytes. tt))

asked_in-plain : (line client : ℕ) (words : List (List ℕ)) → Gives IsPlainSaid (asked_in line client words)
unfolding asked_in
asked_in-plain line client words =
    any_gives {A = List ℕ} IsPlainSaid (word_in wanted.Command words) (λ word words. if is_word word (codes "write") then write_in line client words else mapped Asks (command_in line client (name_of word) words)) (λ word words.
    if_gives IsPlainSaid (is_word word (codes "write")) (write_in line client words) (mapped Asks (command_in line client (name_of word) words)) (write_plain line client words)
    (then_gives {A = Line} IsPlain IsPlainSaid (command_in line client (name_of word) words) (λ asked words. Ok (Asks asked, words)) (command_plain line client (name_of word) words) (λ asked words is. is)))

-- ------ what lines mean

-- what the words of a line say, where it is of this kind what a client's words say, and what `feed` and `tick` say
module _ (P : Said → Type 0) (feeds : (n : ℕ) → P (Asks (Feed n))) (ticks : (n : ℕ) → P (Asks (Tick n))) (line : ℕ) where
  by_client : (o : Option ℕ) (words : List (List ℕ)) → ((client : ℕ) → Gives P (asked_in line client words)) → Gives P (and_then (or_fault Client wanted.First o words) (λ client words. asked_in line client words))
  by_client None words each = tt
  by_client (Some client) words each = each client

  pub line_gives : (words : List (List ℕ)) → ((first : List ℕ) (more : List (List ℕ)) (client : ℕ) → words ≡ first ∷ more → Gives P (asked_in line client more)) → Gives P (line_in line words)
  unfolding line_in word_in
  line_gives [] each = tt
  line_gives (first ∷ more) each =
      if_gives P (is_word first (codes "feed")) (mapped (λ n. Asks (Feed n)) (number_in N 1 4294967295 more))
      (if is_word first (codes "tick") then mapped (λ n. Asks (Tick n)) (count_in N more) else and_then (or_fault Client wanted.First (client_named first) more) (λ client words. asked_in line client words))
      (under_a_name {A = ℕ} P (λ n. Asks (Feed n)) (number_in N 1 4294967295 more) feeds)
      (if_gives P (is_word first (codes "tick")) (mapped (λ n. Asks (Tick n)) (count_in N more)) (and_then (or_fault Client wanted.First (client_named first) more) (λ client words. asked_in line client words))
      (under_a_name {A = ℕ} P (λ n. Asks (Tick n)) (count_in N more) ticks)
      (by_client (client_named first) more (λ client. each first more client refl)))

-- what a line means is of this kind
abbrev pub Means : (Said → Type 0) → Result (Option Said) ScriptFault → Type 0
Means P (Ok (Some said)) = P said
Means P _ = Unit {0}

-- what was read, where no word is left behind it
whole_gives : (P : Said → Type 0) (line : ℕ) (words : List (List ℕ)) → Gives P (line_in line words) → Gives P (whole_in line words)
whole_gives P line words is = then_gives {A = Said} P P (line_in line words) alone is (λ said words is. if_gives P (length words == 0) (Ok (said, words)) _ is tt)

said_means : (P : Said → Type 0) (line count : ℕ) (r : Reading Said) → Gives P r → Means P (some_said (in_line line count r))
said_means P line count (Ok r) is = is
said_means P line count (Err fault) is = tt

pub line_means : (P : Said → Type 0) (line : ℕ) (bytes : List ℕ) → Gives P (line_in line (words_of bytes)) → Means P (meaning line bytes)
unfolding meaning line_of
line_means P line bytes is = go (is_passed_over bytes) where
  all : List (List ℕ)
  all = words_of bytes

  go : (b : Bool) → Means P (if b then Ok None else some_said (in_line line (length all) (whole_in line all)))
  go true = tt
  go false = said_means P line (length all) (whole_in line all) (whole_gives P line all is)

-- a line asks for a write by no other way
meaning_plain : (line : ℕ) (bytes : List ℕ) → Means IsPlainSaid (meaning line bytes)
meaning_plain line bytes =
    line_means IsPlainSaid line bytes (line_gives IsPlainSaid (λ n. tt) (λ n. tt) line (words_of bytes) (λ first more client is. asked_in-plain line client more))

-- What holds of a script with the lines behind it, and goes on with each of them, holds of the whole script, with the lines that
-- are left behind its line `stream`.
module _ (Holds : Scripted → List (List ℕ) → Type 0) (missing : ScriptFault)
    (each : (line : ℕ) (bytes : List ℕ) (more : List (List ℕ)) (said : Option Said) (s : Scripted) → meaning line bytes ≡ Ok said → Holds s (bytes ∷ more) → Holds (with_said said s) more) where
  by_line : (line : ℕ) (s t : Scripted) (bytes : List ℕ) (more : List (List ℕ)) (b : Bool) (m : Result (Option Said) ScriptFault) → meaning line bytes ≡ m → Holds s (bytes ∷ more)
      → ((u : Scripted) → Holds u more → lines_from missing (line + 1) u more ≡ Ok t → (left : List (List ℕ)) × Holds t left)
      → ◌≡◌ {A = Parsed} (if b then Ok s else (elim m [ Err fault ↦ Err fault | Ok said ↦ lines_from missing (line + 1) (with_said said s) more ])) (Ok t) → (left : List (List ℕ)) × Holds t left
  by_line line s t bytes more true m means is later e =
      let same : s ≡ t = cc in
      (bytes ∷ more, subst (λ (u : Scripted). Holds u (bytes ∷ more)) same is)
  by_line line s t bytes more false (Err fault) means is later e = absurd (cc)
  by_line line s t bytes more false (Ok said) means is later e = later (with_said said s) (each line bytes more said s means is) e

  pub holds_at_end : (line : ℕ) (s t : Scripted) (lines : List (List ℕ)) → Holds s lines → lines_from missing line s lines ≡ Ok t → (left : List (List ℕ)) × Holds t left
  unfolding lines_from
  holds_at_end line s t [] is e = absurd (cc)
  holds_at_end line s t (bytes ∷ more) is e =
      by_line line s t bytes more (is_stream bytes) (meaning line bytes) refl is (λ u goes rest. holds_at_end (line + 1) u t more goes rest) e

-- ------ one line more

either_way : (b : Bool) (ns : List ℕ) → (if b then ns else ns) ≡ ns
either_way true ns = refl
either_way false ns = refl

names_none : (client : ℕ) (line : Line) → IsPlain line → named_in client line ≡ []
names_none client (Command line who target (Write write)) is = absurd is
names_none client (Command line who target verb) is = either_way (nat_eq who client) []
names_none client _ is = refl

named_more : (client : ℕ) (lines : List Line) (line : Line) → named_among client (lines ++ line ∷ []) ≡ named_among client lines ++ named_in client line
named_more client lines line = flat_map-append (named_in client) lines (line ∷ []) ∙ ap (λ ns. named_among client lines ++ ns) (append-nil (named_in client line))

one_more : (n : ℕ) → range_with_len 0 (n + 1) ≡ range_with_len 0 n ++ n ∷ []
one_more n = sym (map-id (range_with_len 0 (n + 1))) ∙ (map-range_with_len_more (λ (k : ℕ). k) 0 n n (omega arith) ∙ ap (λ ns. ns ++ n ∷ []) (map-id (range_with_len 0 n)))

-- the lines of this client name its writes in their order
abbrev IsNumbered : Scripted → (client : ℕ) → Type 0
IsNumbered s client = named_among client s.lines ≡ range_with_len 0 (length (writes_of client s.writes))

-- with another line than `write`
plain_more : (s : Scripted) (line : Line) (client : ℕ) → IsPlain line → IsNumbered s client → IsNumbered (record s { lines = s.lines ++ line ∷ [] }) client
plain_more s line client only is =
    named_more client s.lines line ∙ (ap (λ ns. named_among client s.lines ++ ns) (names_none client line only) ∙ (append-nil (named_among client s.lines) ∙ is))

-- with a write
write_more : (s : Scripted) (line who : ℕ) (bytes : List ℕ) (client : ℕ) → (client ≡ who → who < length s.writes) → IsNumbered s client → IsNumbered (with_write line who bytes s) client
write_more s line who bytes client there is = named_more client s.lines asked ∙ go (cases_eq client who) where
  more : List (List ℕ)
  more = writes_of who s.writes ++ bytes ∷ []

  asked : Line
  asked = Command line who Dvr (Write (length (writes_of who s.writes)))

  go : (client ≡ who) ⊎ (client ≢ who) → named_among client s.lines ++ named_in client asked ≡ range_with_len 0 (length (writes_of client (slice_set s.writes who more)))
  go (inl same) =
      let mine : ℕ = length (writes_of who s.writes) in
      let count : ℕ = length (writes_of client s.writes) in
      let here : nat_eq who client ≡ true = eq-eqb who client (sym same) in
      let names : named_in client asked ≡ mine ∷ [] = ap (λ (b : Bool). if b then mine ∷ [] else []) here in
      let now : writes_of client (slice_set s.writes who more) ≡ more = ap (λ c. writes_of c (slice_set s.writes who more)) same ∙ get_or-set_same s.writes who more [] (there same) in
      let long : length more ≡ count + 1 = length-append (writes_of who s.writes) (bytes ∷ []) ∙ ap (λ c. length (writes_of c s.writes) + 1) (sym same) in
      ap (λ ns. named_among client s.lines ++ ns) names ∙ (ap (λ ns. ns ++ mine ∷ []) is
      ∙ (ap (λ k. range_with_len 0 count ++ k ∷ []) (ap (λ c. length (writes_of c s.writes)) (sym same))
      ∙ sym (ap (λ ws. range_with_len 0 (length ws)) now ∙ (ap (λ k. range_with_len 0 k) long ∙ one_more count))))
  go (inr other) =
      let elsewhere : nat_eq who client ≡ false = grind (arith, nat_tests) in
      let names : named_in client asked ≡ [] = ap (λ (b : Bool). if b then length (writes_of who s.writes) ∷ [] else []) elsewhere in
      let stays : writes_of client (slice_set s.writes who more) ≡ writes_of client s.writes = get_or-set_other s.writes who client more [] other in
      ap (λ ns. named_among client s.lines ++ ns) names ∙ (append-nil (named_among client s.lines) ∙ (is ∙ ap (λ ws. range_with_len 0 (length ws)) (sym stays)))

-- of all clients
pub numbered_line : (s : Scripted) (line : Line) → IsPlain line → AreNumbered s → AreNumbered (record s { lines = s.lines ++ line ∷ [] })
numbered_line s line only are = λ client. plain_more s line client only (are client)

pub numbered_write : (s : Scripted) (line who : ℕ) (bytes : List ℕ) → who < length s.writes → AreNumbered s → AreNumbered (with_write line who bytes s)
numbered_write s line who bytes there are = λ client. write_more s line who bytes client (λ same. there) (are client)

-- of a script without lines
none_of : (client : ℕ) → (client < 8) ⊎ (8 ≤ client) → writes_of client no_writes ≡ []
none_of client (inl there) = get_or-replicate 8 client [] [] there
none_of client (inr past) = get_or_past no_writes client [] past

pub numbered_none : AreNumbered (plain [])
numbered_none = λ client. ap (λ (ws : List (List ℕ)). range_with_len 0 (length ws)) (sym (none_of client (cases_lt client 8)))

record InOrder (s : Scripted) : Type 0 where
  eight : length s.writes ≡ 8
  order : (client : ℕ) → client ≤ 7 → IsNumbered s client

in_order_more : (said : Option Said) (s : Scripted) → Means IsPlainSaid (Ok said) → InOrder s → InOrder (with_said said s)
in_order_more None s only is = is
in_order_more (Some (Asks line)) s only is = record { eight = is.eight; order = λ client few. plain_more s line client only (is.order client few) }
in_order_more (Some (Writes line who bytes)) s only is = record {
  eight = length-set s.writes who (writes_of who s.writes ++ bytes ∷ []) ∙ is.eight;
  order = λ client few. write_more s line who bytes client (λ same. omega (arith, is.eight, same, few)) (is.order client few);
}

pub named_in_order : (bytes : List ℕ) (s : Scripted) (client : ℕ) → client ≤ 7 → grammar bytes ≡ Ok s → named_among client s.lines ≡ range_with_len 0 (length (writes_of client s.writes))
unfolding grammar
named_in_order bytes s client few e = (holds_at_end (λ u lines. InOrder u) _ each 1 (plain []) s (whole_lines bytes) start e).1.order client few where
  start : InOrder (plain [])
  start = record { eight = refl; order = λ client few. numbered_none client }

  each : (line : ℕ) (bytes : List ℕ) (more : List (List ℕ)) (said : Option Said) (u : Scripted) → meaning line bytes ≡ Ok said → InOrder u → InOrder (with_said said u)
  each line bytes more said u means is = in_order_more said u (subst (Means IsPlainSaid) means (meaning_plain line bytes)) is
