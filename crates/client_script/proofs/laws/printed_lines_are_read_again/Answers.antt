-- A line that is spelled is read again.
use Rattle.client_script.proofs.laws.printed_lines_are_read_again.Goals as goal
use Rattle.client_script.proofs.Imports.{◌≡◌, ◌<◌, ◌≤◌, ◌^◌, ◌+◌, ◌/◌, ◌%◌, ◌⊎◌, inl, inr, refl, ap, ◌∙◌, ℕ, zero, suc, List, [], ◌∷◌, ◌++◌, false, length, codes, arith, append_assoc, append-nil, All-nil, All-cons, All-head, All-tail, slice_split_at, ◌==◌, Option, Some, None, Ok, if◌then◌else◌, cases_lt, get_or_past, All, flat_map, decimal, SectionFilter, Place, input_text, output_text, hex_bytes, hex_text, digit_text, is_word, hex_bytes-hex_text, place_named, filter_places, filter_words, IsFilter, number_between-decimal, client_named-client_text, input_named-input_text, output_named-output_text, places_named-filter_words, filter_with-filter_places, length-filter_words, Reading, mapped, words_of, is_passed_over, IsTargetInRange, IsVerbInRange, IsPlainVerb, IsInRange, IsWritten, spelling, said_again, with_all, Scripted, AreWritten, HasWrite, IsOnDvr, whole_lines, writes_of, written_by, with_said, is_stream, plain, ScriptFault, Asks, Writes, CommandName, OpenName, CloseName, SectionName, PesName, AddName, RemoveName, StartName, StopName, SizeName, ReadName, ReadWaitName, DrainName, PollName, IoctlName, Verb, Once, ReadWait, Drain, GetStc, Write, Open, Close, Section, Pes, Add, Remove, Start, Stop, Size, Read, Poll, Target, Node, Slot, Dvr, Line, Feed, Tick, Command, NumberName, Pid, Timeout, Flags, PesType, N, nat_tests, All-append, All-replicate, mod-lt, byte_at, bytes_low_first, big_bytes, little_bytes, little_number-reads_back, GET_STC, StcRequest, number_of, argument_of, places_in, filter_in, want_text, name_text, target_text, line_text, command_text, request_number, argument_named, request_number_in, request_in, ioctl_in, number_in, numbered_target, target_of, name_of, section_in, pes_in, verb_in, command_in, dvr_named, write_in, asked_in, line_in, line_of, meaning, lines_from, grammar, word_in, hex_digit, hex_byte, written_named, numbered, places_named}
use Rattle.client_script.proofs.Cuts.{first-line}
use Rattle.client_script.proofs.LineWords.{Written, behind, argument_words, first_word, more_words, line_text-words, words_of-behind, line_feed_nowhere, first-visible, more-visible}
use Rattle.std.proofs.Common.{replicate}

-- ------ The question for a system time counter that is spelled is read again
-- the number's eight digits
number_again : request_number (hex_text (big_bytes 4 GET_STC)) ≡ Some GET_STC
unfolding request_number hex_bytes hex_byte hex_digit
number_again = refl

-- bytes in hexadecimal digits aren't a dash
no_dash : (high low : ℕ) (text : List ℕ) → is_word (high ∷ low ∷ text) (codes "-") ≡ false
no_dash high low text = grind (arith, nat_tests)

-- and there are some of them
pub some_digits : (high low : ℕ) (text : List ℕ) → (length (high ∷ low ∷ text) == 0) ≡ false
some_digits high low text = grind (arith, nat_tests)

argument_again : (bytes : List ℕ) → 0 < length bytes → length bytes ≤ 60 → All (λ byte. byte < 256) bytes → argument_named (hex_text bytes) ≡ Some bytes
unfolding argument_named
argument_again [] some few all = absurd (omega arith)
argument_again (byte ∷ bytes) some few all =
    let dash : is_word (hex_text (byte ∷ bytes)) (codes "-") ≡ false = no_dash (digit_text (byte / 16)) (digit_text (byte % 16)) (hex_text bytes) in
    let text = hex_text (byte ∷ bytes) in
    ap (λ b. if b then None else (if is_word text (codes "-") then Some [] else hex_bytes 60 text)) (some_digits (digit_text (byte / 16)) (digit_text (byte % 16)) (hex_text bytes))
    ∙ ap (λ b. if b then Some [] else hex_bytes 60 text) dash ∙ hex_bytes-hex_text 60 (byte ∷ bytes) few all

-- four bytes of a number, and twelve of 0
byte_small : (i n : ℕ) → byte_at i n < 256
byte_small zero n = mod-lt n (omega arith)
byte_small (suc i) n = mod-lt (n / 256 ^ suc i) (omega arith)

bytes_small : (i n num : ℕ) → All (λ byte. byte < 256) (bytes_low_first i n num)
bytes_small i zero num = All-nil (λ byte. byte < 256)
bytes_small i (suc n) num = All-cons (λ byte. byte < 256) (byte_at i num) (bytes_low_first (suc i) n num) (byte_small i num) (bytes_small (suc i) n num)

argument_small : (num : ℕ) → All (λ byte. byte < 256) (argument_of (StcRequest num))
argument_small num =
    All-append (λ byte. byte < 256) (little_bytes 4 num) (replicate 12 0) (bytes_small 0 4 num) (All-replicate (λ byte. byte < 256) 12 0 (omega arith))

pub ioctl_in-words : (num : ℕ) → num ≤ 4294967295
    → ioctl_in (hex_text (big_bytes 4 (number_of (StcRequest num))) ∷ hex_text (argument_of (StcRequest num)) ∷ []) ≡ Ok (GetStc num, [])
unfolding ioctl_in request_number_in request_in word_in
ioctl_in-words num few =
    let argument = argument_again (argument_of (StcRequest num)) (omega arith) (omega arith) (argument_small num) in
    rw (number_again, argument) (ap (λ n. Ok (GetStc n, [])) (little_number-reads_back 4 num (replicate 12 0) (omega arith)))

number_in-decimal : (name : NumberName) (least most n : ℕ) (words : List (List ℕ)) → n < 2 ^ 64 → least ≤ n → n ≤ most → number_in name least most (decimal n ∷ words) ≡ Ok (n, words)
unfolding number_in word_in
number_in-decimal name least most n words small low high = rw (number_between-decimal least most n small low high) refl

-- ------ filters

named_on : (left least : ℕ) (word : List ℕ) (words : List (List ℕ)) (places : List Place)
    → ((p : Place) (later : List Place) → places_named (p.number + 1) words ≡ Some later → places_in left (p.number + 1) words ≡ Ok (later, []))
    → (r : Option Place) → place_named least word ≡ r → places_named least (word ∷ words) ≡ Some places → places_in (suc left) least (word ∷ words) ≡ Ok (places, [])
unfolding places_in places_named
named_on left least word words places each None e h =
    let none : None ≡ Some places = rw e at h in
    absurd (cc)
named_on left least word words places each (Some p) e h = with_later (places_named (p.number + 1) words) refl
  where
    with_later : (later : Option (List Place)) → places_named (p.number + 1) words ≡ later → places_in (suc left) least (word ∷ words) ≡ Ok (places, [])
    with_later None f = absurd (cc)
    with_later (Some later) f = rw (e, each p later f) (cc)

places_in-named : (left least : ℕ) (words : List (List ℕ)) (places : List Place) → length words ≤ left → places_named least words ≡ Some places → places_in left least words ≡ Ok (places, [])
unfolding places_in places_named
places_in-named zero least [] places fits h =
    let none : [] ≡ places = cc in
    rw none refl
places_in-named (suc left) least [] places fits h =
    let none : [] ≡ places = cc in
    rw none refl
places_in-named zero least (word ∷ words) places fits h = absurd (omega arith)
places_in-named (suc left) least (word ∷ words) places fits h =
    named_on left least word words places (λ p later f. places_in-named left (p.number + 1) words later (omega arith) f) (place_named least word) refl h

filter_in-filter_words : (f : SectionFilter) → IsFilter f → filter_in (filter_words f) ≡ Ok (f, [])
unfolding filter_in
filter_in-filter_words f is =
    let places : places_in 16 0 (filter_words f) ≡ Ok (filter_places f, []) = places_in-named 16 0 (filter_words f) (filter_places f) (length-filter_words f) (places_named-filter_words f is) in
    rw (places, filter_with-filter_places f is) refl

-- ------ commands

abbrev command_name : Verb → CommandName
command_name (Once Open) = OpenName
command_name (Once Close) = CloseName
command_name (Once (Section p)) = SectionName
command_name (Once (Pes p)) = PesName
command_name (Once (Add pid)) = AddName
command_name (Once (Remove pid)) = RemoveName
command_name (Once Start) = StartName
command_name (Once Stop) = StopName
command_name (Once (Size n)) = SizeName
command_name (Once (Read n)) = ReadName
command_name (ReadWait n) = ReadWaitName
command_name (Drain n) = DrainName
command_name (Once Poll) = PollName
command_name (GetStc num) = IoctlName
-- a write has no name among these
command_name (Write write) = OpenName

name_of-name_text : (verb : Verb) → IsPlainVerb verb → name_of (name_text verb) ≡ Some (command_name verb)
unfolding name_of name_text want_text
name_of-name_text (Write write) plain = absurd plain
name_of-name_text (Once Open) plain = refl
name_of-name_text _ plain = refl

not_write : (verb : Verb) → IsPlainVerb verb → is_word (name_text verb) (codes "write") ≡ false
unfolding name_text want_text
not_write (Write write) plain = absurd plain
not_write (Once Open) plain = refl
not_write _ plain = refl

target_of-target_text : (target : Target) → IsTargetInRange target → target_of (target_text target) ≡ Some target
unfolding target_of numbered_target target_text numbered
target_of-target_text (Node n) few = rw (number_between-decimal 0 31 n (omega arith) (omega arith) few) refl
target_of-target_text (Slot n) few = rw (number_between-decimal 0 31 n (omega arith) (omega arith) few) refl
target_of-target_text Dvr few = refl

verb_in-argument_words : (written : Written) (verb : Verb) → IsVerbInRange verb → IsPlainVerb verb → verb_in (command_name verb) (argument_words written verb) ≡ Ok (verb, [])
unfolding verb_in section_in pes_in word_in
verb_in-argument_words written (Once (Section p)) few plain =
    let pid = number_in-decimal Pid 0 65535 p.pid (decimal p.timeout ∷ decimal p.flags ∷ filter_words p.filter) (omega arith) (omega arith) few.0 in
    let timeout = number_in-decimal Timeout 0 4294967295 p.timeout (decimal p.flags ∷ filter_words p.filter) (omega arith) (omega arith) few.1 in
    let flags = number_in-decimal Flags 0 4294967295 p.flags (filter_words p.filter) (omega arith) (omega arith) few.2 in
    rw (pid, timeout, flags, filter_in-filter_words p.filter few.3) refl
verb_in-argument_words written (Once (Pes p)) few plain =
    let pid = number_in-decimal Pid 0 65535 p.pid (input_text p.input ∷ output_text p.output ∷ decimal p.pes_type ∷ decimal p.flags ∷ []) (omega arith) (omega arith) few.0 in
    let pes_type = number_in-decimal PesType 0 4294967295 p.pes_type (decimal p.flags ∷ []) (omega arith) (omega arith) few.1 in
    let flags = number_in-decimal Flags 0 4294967295 p.flags [] (omega arith) (omega arith) few.2 in
    rw (pid, input_named-input_text p.input, output_named-output_text p.output, pes_type, flags) refl
verb_in-argument_words written (Once (Add pid)) few plain = rw (number_in-decimal Pid 0 65535 pid [] (omega arith) (omega arith) few) refl
verb_in-argument_words written (Once (Remove pid)) few plain = rw (number_in-decimal Pid 0 65535 pid [] (omega arith) (omega arith) few) refl
verb_in-argument_words written (Once (Size n)) few plain = rw (number_in-decimal N 0 4294967295 n [] (omega arith) (omega arith) few) refl
verb_in-argument_words written (Once (Read n)) few plain = rw (number_in-decimal N 0 65536 n [] (omega arith) (omega arith) few) refl
verb_in-argument_words written (ReadWait n) few plain = rw (number_in-decimal N 0 65536 n [] (omega arith) (omega arith) few) refl
verb_in-argument_words written (Drain n) few plain = rw (number_in-decimal N 0 65536 n [] (omega arith) (omega arith) few) refl
verb_in-argument_words written (GetStc num) few plain = ioctl_in-words num few
verb_in-argument_words written (Write write) few plain = absurd plain
verb_in-argument_words written _ few plain = refl

command_in-words : (number client : ℕ) (written : Written) (target : Target) (verb : Verb) → IsTargetInRange target → IsVerbInRange verb → IsPlainVerb verb
    → command_in number client (name_of (name_text verb)) (target_text target ∷ argument_words written verb) ≡ Ok (Command number client target verb, [])
unfolding command_in word_in
command_in-words number client written target verb aim few plain = rw (name_of-name_text verb plain, target_of-target_text target aim, verb_in-argument_words written verb few plain) refl

-- the bytes of a write
written_named-hex_text : (bytes : List ℕ) → IsWritten bytes → written_named (hex_text bytes) ≡ Some bytes
unfolding written_named
written_named-hex_text [] is = absurd (omega (arith, is.some))
written_named-hex_text (byte ∷ bytes) is =
    ap (λ b. if b then None else hex_bytes 12032 (hex_text (byte ∷ bytes))) (some_digits (digit_text (byte / 16)) (digit_text (byte % 16)) (hex_text bytes))
    ∙ hex_bytes-hex_text 12032 (byte ∷ bytes) is.few is.each

-- a write that is there
pub written_there : (writes : List (List (List ℕ))) (client write : ℕ) → All AreWritten writes → write < length (writes_of client writes) → IsWritten (written_by client writes write)
written_there writes client write all lt = go (cases_lt client (length writes)) where
  go : (client < length writes) ⊎ (length writes ≤ client) → IsWritten (written_by client writes write)
  go (inl there) = (all client [] there).each write [] lt
  go (inr past) = absurd (let none : writes_of client writes ≡ [] = get_or_past writes client [] past in let len = ap length none in omega (arith, lt, len))

-- a line of a script can be printed
pub record CanPrint (writes : List (List (List ℕ))) (line : Line) : Type 0 where
  pub range : IsInRange line
  pub on_dvr : IsOnDvr line
  pub has : HasWrite writes line

write_in-words : (number client : ℕ) (target : Target) (bytes : List ℕ) → target ≡ Dvr → IsWritten bytes → write_in number client (target_text target ∷ hex_text bytes ∷ []) ≡ Ok (Writes number client bytes, [])
unfolding write_in dvr_named word_in target_text
write_in-words number client target bytes on is = rw (on, written_named-hex_text bytes is) refl

-- what a client's line asks is read again
asked_again : (number client : ℕ) (writes : List (List (List ℕ))) (target : Target) (verb : Verb) (line : ℕ) → All AreWritten writes → CanPrint writes (Command line client target verb)
    → asked_in number client (name_text verb ∷ target_text target ∷ argument_words (written_by client writes) verb) ≡ Ok (said_again number writes (Command line client target verb), [])
unfolding asked_in word_in name_text
asked_again number client writes target (Write write) line all can = write_in-words number client target (written_by client writes write) can.on_dvr (written_there writes client write all can.has)
asked_again number client writes target (Once want) line all can =
    rw (not_write (Once want) tt, command_in-words number client (written_by client writes) target (Once want) can.range.3 can.range.4 tt) refl
asked_again number client writes target (ReadWait n) line all can =
    rw (not_write (ReadWait n) tt, command_in-words number client (written_by client writes) target (ReadWait n) can.range.3 can.range.4 tt) refl
asked_again number client writes target (Drain n) line all can =
    rw (not_write (Drain n) tt, command_in-words number client (written_by client writes) target (Drain n) can.range.3 can.range.4 tt) refl
asked_again number client writes target (GetStc num) line all can =
    ap (λ (r : Reading Line). mapped Asks r) (command_in-words number client (written_by client writes) target (GetStc num) can.range.3 can.range.4 tt)

line_in-words : (number : ℕ) (writes : List (List (List ℕ))) (line : Line) → All AreWritten writes → CanPrint writes line
    → line_in number (first_word line ∷ more_words writes line) ≡ Ok (said_again number writes line, [])
unfolding line_in word_in
line_in-words number writes (Feed n) all can = rw (number_in-decimal N 1 4294967295 n [] (omega arith) can.range.0 can.range.1) refl
line_in-words number writes (Tick n) all can = rw (number_in-decimal N 0 4294967295 n [] (omega arith) (omega arith) can.range) refl
line_in-words number writes (Command line client target verb) all can =
    rw (client_named-client_text client can.range.2, asked_again number client writes target verb line all can) refl

-- ------ lines

not_passed_over : (writes : List (List (List ℕ))) (line : Line) → is_passed_over (line_text writes line) ≡ false
unfolding line_text command_text
not_passed_over writes (Feed n) = refl
not_passed_over writes (Tick n) = refl
not_passed_over writes (Command line client target verb) = refl

not_stream : (writes : List (List (List ℕ))) (line : Line) → is_stream (line_text writes line) ≡ false
unfolding line_text command_text
not_stream writes (Feed n) = refl
not_stream writes (Tick n) = refl
not_stream writes (Command line client target verb) = refl

module _ (writes : List (List (List ℕ))) (all : All AreWritten writes) where
  line_of-line_text : (number : ℕ) (line : Line) → CanPrint writes line → line_of number (line_text writes line) ≡ Ok (said_again number writes line)
  unfolding line_of
  line_of-line_text number line can =
      let words : words_of (first_word line ++ behind (more_words writes line)) ≡ first_word line ∷ more_words writes line = words_of-behind (first_word line) (more_words writes line) (first-visible line can.range) (more-visible writes line can.range) in
      rw (line_text-words writes line, words, line_in-words number writes line all can) refl

  meaning-line_text : (number : ℕ) (line : Line) → CanPrint writes line → meaning number (line_text writes line) ≡ Ok (Some (said_again number writes line))
  unfolding meaning
  meaning-line_text number line can = rw (not_passed_over writes line, line_of-line_text number line can) refl

  first_whole_line : (line : Line) (more : List ℕ) → CanPrint writes line → whole_lines (line_text writes line ++ 10 ∷ more) ≡ line_text writes line ∷ whole_lines more
  first_whole_line line more can =
      let nowhere : All (λ byte. (byte == 10) ≡ false) (line_text writes line) = rw (line_text-words writes line) (line_feed_nowhere (first_word line) (more_words writes line) (first-visible line can.range) (more-visible writes line can.range)) in
      first-line (line_text writes line ++ 10 ∷ more) (line_text writes line) more (slice_split_at (λ (byte : ℕ). byte == 10) (line_text writes line) 10 more nowhere refl)

  -- ------ scripts

  lines_from-spellings : (missing : ScriptFault) (number : ℕ) (s : Scripted) (lines : List Line) → All (CanPrint writes) lines
      → lines_from missing number s (whole_lines (flat_map (spelling writes) lines ++ codes "stream\n")) ≡ Ok (with_all number writes lines s)
  unfolding lines_from
  lines_from-spellings missing number s [] can = refl
  lines_from-spellings missing number s (line ∷ more) can =
      let first : CanPrint writes line = All-head (CanPrint writes) line more can in
      let text : flat_map (spelling writes) (line ∷ more) ++ codes "stream\n" ≡ line_text writes line ++ 10 ∷ (flat_map (spelling writes) more ++ codes "stream\n") = simp append_assoc in
      let whole = first_whole_line line (flat_map (spelling writes) more ++ codes "stream\n") first in
      let later = lines_from-spellings missing (number + 1) (with_said (Some (said_again number writes line)) s) more (All-tail (CanPrint writes) line more can) in
      rw (text, whole, not_stream writes line, meaning-line_text number line first) later

  -- lines that are spelled, and the line `stream` behind them, are read as what they say
  pub grammar-spellings : (lines : List Line) → All (CanPrint writes) lines → grammar (flat_map (spelling writes) lines ++ codes "stream\n") ≡ Ok (with_all 1 writes lines (plain []))
  unfolding grammar
  grammar-spellings lines can = lines_from-spellings _ 1 (plain []) lines can

  pub grammar-spelling : (line : Line) → CanPrint writes line → grammar (spelling writes line ++ codes "stream\n") ≡ Ok (with_said (Some (said_again 1 writes line)) (plain []))
  grammar-spelling line can =
      let one : flat_map (spelling writes) (line ∷ []) ≡ spelling writes line = append-nil (spelling writes line) in
      rw (← one) (grammar-spellings (line ∷ []) (All-cons (CanPrint writes) line [] can (All-nil (CanPrint writes))))

-- three facts of lines together
pub all_can : (writes : List (List (List ℕ))) (lines : List Line) → All IsInRange lines → All IsOnDvr lines → All (HasWrite writes) lines → All (CanPrint writes) lines
all_can writes lines range on has k d lt = record { range = range k d lt; on_dvr = on k d lt; has = has k d lt }

pub returns-clause-line : goal.returns-clause-line
returns-clause-line c s line all range on has = grammar-spelling s.writes all line (record { range = range; on_dvr = on; has = has })

pub returns-clause-script : goal.returns-clause-script
returns-clause-script c s lines all range on has = grammar-spellings s.writes all lines (all_can s.writes lines range on has)
