-- The words of a line's spelling.
use Rattle.client_script.proofs.Imports.{◌≡◌, ◌<◌, ◌≤◌, refl, ap, ◌∙◌, ℕ, List, [], ◌∷◌, ◌++◌, false, codes, arith, append-nil, nat_tests, All-nil, All-cons, All-head, All-tail, All-append, All-weaker, slice_split_none, slice_split_at, ◌==◌, All, flat_map, decimal, big_bytes, number_of, argument_of, StcRequest, input_text, output_text, hex_text, client_text, place_at, filter_words, filter_text-words, filter_words-each, IsVisible, AreVisible, decimal-visible, behind-visible, place_text-visible, hex_text-visible, visible_by_test, input_text-visible, output_text-visible, words_of, written_by, IsTargetInRange, IsVerbInRange, IsInRange, number_text, Verb, Once, ReadWait, Drain, GetStc, Write, Open, Section, Pes, Add, Remove, Size, Read, Target, Node, Slot, Dvr, Line, Feed, Tick, Command, want_text, name_text, target_text, section_text, pes_text, want_arguments_text, request_text, bytes_text, arguments_text, command_text, line_text}

-- words behind a first one, each behind a space
abbrev pub behind : List (List ℕ) → List ℕ
behind words = flat_map (λ word. codes " " ++ word) words

no_space : (byte : ℕ) → IsVisible byte → (byte == 32) ≡ false
no_space byte visible = grind (arith, nat_tests)

spaceless : (word : List ℕ) → AreVisible word → All (λ byte. (byte == 32) ≡ false) word
spaceless word visible = All-weaker IsVisible (λ byte. (byte == 32) ≡ false) no_space word visible

-- words with single spaces between them are those words
pub words_of-behind : (word : List ℕ) (more : List (List ℕ)) → AreVisible word → All AreVisible more → words_of (word ++ behind more) ≡ word ∷ more
words_of-behind word [] first rest = rw (append-nil word) (slice_split_none (λ (byte : ℕ). byte == 32) word (spaceless word first))
words_of-behind word (next ∷ later) first rest =
    slice_split_at (λ (byte : ℕ). byte == 32) word 32 (next ++ behind later) (spaceless word first) refl
    ∙ ap (λ (words : List (List ℕ)). word ∷ words) (words_of-behind next later (All-head AreVisible next later rest) (All-tail AreVisible next later rest))

-- ------ no byte of them is a line feed

line_feed_apart : (byte : ℕ) → 31 < byte → (byte == 10) ≡ false
line_feed_apart byte above = grind (arith, nat_tests)

above_31 : (word : List ℕ) → AreVisible word → All (λ byte. 31 < byte) word
above_31 word visible = All-weaker IsVisible (λ byte. 31 < byte) (λ byte above. omega arith) word visible

behind-above : (more : List (List ℕ)) → All AreVisible more → All (λ byte. 31 < byte) (behind more)
behind-above [] rest = All-nil (λ (byte : ℕ). 31 < byte)
behind-above (next ∷ later) rest =
    All-append (λ (byte : ℕ). 31 < byte) (codes " " ++ next) (behind later)
    (All-cons (λ (byte : ℕ). 31 < byte) 32 next (omega arith) (above_31 next (All-head AreVisible next later rest)))
    (behind-above later (All-tail AreVisible next later rest))

pub line_feed_nowhere : (word : List ℕ) (more : List (List ℕ)) → AreVisible word → All AreVisible more → All (λ byte. (byte == 10) ≡ false) (word ++ behind more)
line_feed_nowhere word more first rest =
    All-weaker (λ byte. 31 < byte) (λ byte. (byte == 10) ≡ false) line_feed_apart (word ++ behind more)
    (All-append (λ (byte : ℕ). 31 < byte) word (behind more) (above_31 word first) (behind-above more rest))

-- ------ the words of a line

-- the bytes of a client's writes, by their numbers
abbrev pub Written : Type 0
Written = ℕ → List ℕ

abbrev pub argument_words : Written → Verb → List (List ℕ)
argument_words written (Once (Section p)) = decimal p.pid ∷ decimal p.timeout ∷ decimal p.flags ∷ filter_words p.filter
argument_words written (Once (Pes p)) = decimal p.pid ∷ input_text p.input ∷ output_text p.output ∷ decimal p.pes_type ∷ decimal p.flags ∷ []
argument_words written (Once (Add pid)) = decimal pid ∷ []
argument_words written (Once (Remove pid)) = decimal pid ∷ []
argument_words written (Once (Size n)) = decimal n ∷ []
argument_words written (Once (Read n)) = decimal n ∷ []
argument_words written (ReadWait n) = decimal n ∷ []
argument_words written (Drain n) = decimal n ∷ []
argument_words written (GetStc num) = hex_text (big_bytes 4 (number_of (StcRequest num))) ∷ hex_text (argument_of (StcRequest num)) ∷ []
argument_words written (Write write) = hex_text (written write) ∷ []
argument_words written _ = []

one_number : (n : ℕ) → number_text n ≡ behind (decimal n ∷ [])
one_number n = rw (append-nil (decimal n)) refl

arguments_text-behind : (written : Written) (verb : Verb) → arguments_text written verb ≡ behind (argument_words written verb)
unfolding arguments_text want_arguments_text section_text pes_text request_text bytes_text
arguments_text-behind written (Once (Section p)) = rw (filter_text-words p.filter) refl
arguments_text-behind written (Once (Pes p)) = rw (append-nil (decimal p.flags)) refl
arguments_text-behind written (Once (Add pid)) = one_number pid
arguments_text-behind written (Once (Remove pid)) = one_number pid
arguments_text-behind written (Once (Size n)) = one_number n
arguments_text-behind written (Once (Read n)) = one_number n
arguments_text-behind written (ReadWait n) = one_number n
arguments_text-behind written (Drain n) = one_number n
arguments_text-behind written (GetStc num) = rw (append-nil (hex_text (argument_of (StcRequest num)))) refl
arguments_text-behind written (Write write) = rw (append-nil (hex_text (written write))) refl
arguments_text-behind written _ = refl

abbrev pub first_word : Line → List ℕ
first_word (Feed n) = codes "feed"
first_word (Tick n) = codes "tick"
first_word (Command line client target verb) = client_text client

abbrev pub more_words : (writes : List (List (List ℕ))) → Line → List (List ℕ)
more_words writes (Feed n) = decimal n ∷ []
more_words writes (Tick n) = decimal n ∷ []
more_words writes (Command line client target verb) = name_text verb ∷ target_text target ∷ argument_words (written_by client writes) verb

pub line_text-words : (writes : List (List (List ℕ))) (line : Line) → line_text writes line ≡ first_word line ++ behind (more_words writes line)
unfolding line_text command_text
line_text-words writes (Feed n) = ap (λ (text : List ℕ). codes "feed" ++ text) (one_number n)
line_text-words writes (Tick n) = ap (λ (text : List ℕ). codes "tick" ++ text) (one_number n)
line_text-words writes (Command line client target verb) = rw (arguments_text-behind (written_by client writes) verb) refl

-- ------ each is a word

name-visible : (verb : Verb) → AreVisible (name_text verb)
unfolding name_text want_text
name-visible (Once Open) = visible_by_test (codes "open") refl
name-visible verb = visible_by_test (name_text verb) refl

target-visible : (target : Target) → IsTargetInRange target → AreVisible (target_text target)
unfolding target_text
target-visible (Node n) few = behind-visible 110 (decimal n) (omega arith) (decimal-visible n (omega arith))
target-visible (Slot n) few = behind-visible 104 (decimal n) (omega arith) (decimal-visible n (omega arith))
target-visible Dvr few = visible_by_test (codes "dvr") refl

number-visible : (n : ℕ) → n ≤ 4294967295 → All AreVisible (decimal n ∷ [])
number-visible n few = All-cons AreVisible (decimal n) [] (decimal-visible n (omega arith)) (All-nil AreVisible)

arguments-visible : (written : Written) (verb : Verb) → IsVerbInRange verb → All AreVisible (argument_words written verb)
arguments-visible written (Once (Section p)) few =
    All-cons AreVisible (decimal p.pid) (decimal p.timeout ∷ decimal p.flags ∷ filter_words p.filter) (decimal-visible p.pid (omega arith))
    (All-cons AreVisible (decimal p.timeout) (decimal p.flags ∷ filter_words p.filter) (decimal-visible p.timeout (omega arith))
    (All-cons AreVisible (decimal p.flags) (filter_words p.filter) (decimal-visible p.flags (omega arith))
    (filter_words-each AreVisible p.filter (λ i small. place_text-visible (place_at p.filter i) (omega arith)))))
arguments-visible written (Once (Pes p)) few =
    All-cons AreVisible (decimal p.pid) (input_text p.input ∷ output_text p.output ∷ decimal p.pes_type ∷ decimal p.flags ∷ []) (decimal-visible p.pid (omega arith))
    (All-cons AreVisible (input_text p.input) (output_text p.output ∷ decimal p.pes_type ∷ decimal p.flags ∷ []) (input_text-visible p.input)
    (All-cons AreVisible (output_text p.output) (decimal p.pes_type ∷ decimal p.flags ∷ []) (output_text-visible p.output)
    (All-cons AreVisible (decimal p.pes_type) (decimal p.flags ∷ []) (decimal-visible p.pes_type (omega arith))
    (number-visible p.flags few.2))))
arguments-visible written (Once (Add pid)) few = number-visible pid (omega arith)
arguments-visible written (Once (Remove pid)) few = number-visible pid (omega arith)
arguments-visible written (Once (Size n)) few = number-visible n few
arguments-visible written (Once (Read n)) few = number-visible n (omega arith)
arguments-visible written (ReadWait n) few = number-visible n (omega arith)
arguments-visible written (Drain n) few = number-visible n (omega arith)
arguments-visible written (GetStc num) few =
    let number = hex_text (big_bytes 4 (number_of (StcRequest num))) in
    let argument = hex_text (argument_of (StcRequest num)) in
    All-cons AreVisible number (argument ∷ []) (hex_text-visible (big_bytes 4 (number_of (StcRequest num))))
    (All-cons AreVisible argument [] (hex_text-visible (argument_of (StcRequest num))) (All-nil AreVisible))
arguments-visible written (Write write) few = All-cons AreVisible (hex_text (written write)) [] (hex_text-visible (written write)) (All-nil AreVisible)
arguments-visible written _ few = All-nil AreVisible

pub first-visible : (line : Line) → IsInRange line → AreVisible (first_word line)
first-visible (Feed n) few = visible_by_test (codes "feed") refl
first-visible (Tick n) few = visible_by_test (codes "tick") refl
first-visible (Command line client target verb) few = behind-visible 99 (decimal client) (omega arith) (decimal-visible client (omega arith))

pub more-visible : (writes : List (List (List ℕ))) (line : Line) → IsInRange line → All AreVisible (more_words writes line)
more-visible writes (Feed n) few = number-visible n few.1
more-visible writes (Tick n) few = number-visible n few
more-visible writes (Command line client target verb) few =
    All-cons AreVisible (name_text verb) (target_text target ∷ argument_words (written_by client writes) verb) (name-visible verb)
    (All-cons AreVisible (target_text target) (argument_words (written_by client writes) verb) (target-visible target few.3) (arguments-visible (written_by client writes) verb few.4))
