-- Lines of a node are read again.
use Rattle.report_read.proofs.Imports.{◌≡◌, ◌<◌, refl, sym, ap, ◌∙◌, ℕ, List, [], ◌++◌, true, false, length, Some, None, codes, arith, append_assoc, append-nil, length-append, decimal_nonempty, ◌≢◌, All, flat_map, Reading, begins_number, many, IsNoLine, decimal, LogEntry, who_text, act_text, response_text, entry_text, IsEntryInRange, IsEntryOf, Input, SectionParams, PesParams, Act, OpenAct, CloseAct, SetFilterAct, SetPesAct, AddPidAct, RemovePidAct, StartAct, StopAct, SetSizeAct, ReadAct, PollAct, PassAct, passing, EndAct, AttachAct, DetachAct, input_text, output_text, filter_text, pids_text, IsActInRange, ◌^◌, ◌+◌, ◌-◌, ◌∷◌, Bool, nat_le, nat_tests, ◌==◌, Errno, PollError, KeepTap, AttachTap, DetachTap, pending_text, LARGEST_READ, Response, Done, Busy, Refused, NoMemory, Data, Again, Overflow, TimedOut, Ready, Passed, TapChange, hex_text, digit_text, flag_text, behind, choose, number_in, IsTapInRange, IsResponseInRange, front_in, entry_in, section_in, pes_in, pass_in, read_in, attach_in, other_act_in, plain_act_in, act_in, who_in, tap_in, done_in, data_in, overflow_in, timed_out_in, ready_in, other_response_in, refusal_in, response_in, errno_text, data_text, tap_text}
use Rattle.report_read.proofs.Many.{IsSpelled, Whatever, all_again}
use Rattle.report_read.proofs.SetsAgain.{number_begins, pids_again, filter_again, filter_ends}
use Rattle.report_text.specs.Entries.{caller_text}
use Rattle.report_read.proofs.WordsAgain.{number64_again, number16_again, number32_again, input_again, output_again, number_again, bytes_again, flag_again, pending_again}
use Rattle.dmx_calls.specs.declared.reply.Errno.TheVariants as errno

-- ------ Callers and replies are read again
-- ------ callers

who_by : (who : ℕ) (rest : List ℕ) → who < 4294967296 → begins_number rest ≡ false → (b : Bool) → (who == 0) ≡ b → who_in (who_text who ++ rest) ≡ Some (who, rest)
unfolding who_in who_text
who_by who rest fits stops true e =
    let feeder : who ≡ 0 = grind (arith, nat_tests) in
    rw feeder refl
who_by who rest fits stops false e =
    let some : 0 < who = grind (arith, nat_tests) in
    let n : number_in 0 4294967294 (decimal (who - 1) ++ rest) ≡ Some (who - 1, rest) = number_again 0 4294967294 (who - 1) rest (omega arith) (omega arith) (omega arith) stops in
    let back : who - 1 + 1 ≡ who = omega arith in
    rw (e, n) (ap (λ (w : ℕ). Some (w, rest)) back)

pub who_again : (who : ℕ) (rest : List ℕ) → who < 4294967296 → begins_number rest ≡ false → who_in (who_text who ++ rest) ≡ Some (who, rest)
who_again who rest fits stops = who_by who rest fits stops (who == 0) refl

-- ------ replies

-- what stands behind a reply
abbrev pub line_end : List ℕ → List ℕ
line_end rest = codes "\n" ++ rest

tap_again : (t : TapChange) (rest : List ℕ) → IsTapInRange t → tap_in (tap_text t ++ line_end rest) ≡ Some (t, line_end rest)
unfolding tap_in tap_text
tap_again KeepTap rest is = refl
tap_again (AttachTap pids) rest is = rw (pids_again pids (line_end rest) is (refl, refl)) refl
tap_again DetachTap rest is = refl

done_again : (from to : ℕ) (tap : TapChange) (rest : List ℕ) → IsResponseInRange (Done from to tap) → response_in (response_text (Done from to tap) ++ line_end rest) ≡ Some (Done from to tap, line_end rest)
unfolding response_in refusal_in other_response_in response_text done_in
done_again from to tap rest is =
    let a = number64_again from (codes ".." ++ (decimal to ++ (codes " tap=" ++ (tap_text tap ++ line_end rest)))) is.0 refl in
    let b = number64_again to (codes " tap=" ++ (tap_text tap ++ line_end rest)) is.1 refl in
    let c = tap_again tap rest is.2 in
    simp append_assoc (rw (a, b, c) refl)

dash_apart : (digit : ℕ) (text : List ℕ) → behind (45 ∷ []) (digit_text digit ∷ text) ≡ None
dash_apart digit text = grind (arith, nat_tests)

data_again : (bytes rest : List ℕ) → IsResponseInRange (Data bytes) → response_in (response_text (Data bytes) ++ line_end rest) ≡ Some (Data bytes, line_end rest)
unfolding response_in refusal_in other_response_in response_text data_in data_text
data_again [] rest is = refl
data_again (byte ∷ bytes) rest is =
    let read = bytes_again (byte ∷ bytes) rest is.0 in
    let few : nat_le (length (byte ∷ bytes)) LARGEST_READ ≡ true = grind (arith, nat_tests, is.1) in
    let whole : data_in (hex_text (byte ∷ bytes) ++ line_end rest) ≡ Some (Data (byte ∷ bytes), line_end rest) = rw (dash_apart _ _, choose, read, few) refl in
    whole

overflow_again : (from to item need room : ℕ) (rest : List ℕ) → IsResponseInRange (Overflow from to item need room) → response_in (response_text (Overflow from to item need room) ++ line_end rest) ≡ Some (Overflow from to item need room, line_end rest)
unfolding response_in refusal_in other_response_in response_text overflow_in
overflow_again from to item need room rest is =
    let a = number64_again from (codes ".." ++ (decimal to ++ (codes " item=" ++ (decimal item ++ (codes " need=" ++ (decimal need ++ (codes " room=" ++ (decimal room ++ line_end rest)))))))) is.0 refl in
    let b = number64_again to (codes " item=" ++ (decimal item ++ (codes " need=" ++ (decimal need ++ (codes " room=" ++ (decimal room ++ line_end rest)))))) is.1 refl in
    let c = number64_again item (codes " need=" ++ (decimal need ++ (codes " room=" ++ (decimal room ++ line_end rest)))) is.2 refl in
    let d = number64_again need (codes " room=" ++ (decimal room ++ line_end rest)) is.3 refl in
    let e = number64_again room (line_end rest) is.4 refl in
    simp append_assoc (rw (a, b, c, d, e) refl)

timed_out_again : (started now timeout : ℕ) (rest : List ℕ) → IsResponseInRange (TimedOut started now timeout) → response_in (response_text (TimedOut started now timeout) ++ line_end rest) ≡ Some (TimedOut started now timeout, line_end rest)
unfolding response_in refusal_in other_response_in response_text timed_out_in
timed_out_again started now timeout rest is =
    let a = number64_again started (codes " now=" ++ (decimal now ++ (codes " timeout=" ++ (decimal timeout ++ line_end rest)))) is.0 refl in
    let b = number64_again now (codes " timeout=" ++ (decimal timeout ++ line_end rest)) is.1 refl in
    let c = number32_again timeout (line_end rest) is.2 refl in
    simp append_assoc (rw (a, b, c) refl)

ready_again : (readable : Bool) (error : PollError) (at : ℕ) (ended : Bool) (rest : List ℕ) → at < 2 ^ 64 → response_in (response_text (Ready readable error at ended) ++ line_end rest) ≡ Some (Ready readable error at ended, line_end rest)
unfolding response_in refusal_in other_response_in response_text ready_in
ready_again readable error at ended rest is =
    let a = flag_again readable (codes " error=" ++ (pending_text error ++ (codes " at=" ++ (decimal at ++ (codes " ended=" ++ (flag_text ended ++ line_end rest)))))) in
    let b = pending_again error (codes " at=" ++ (decimal at ++ (codes " ended=" ++ (flag_text ended ++ line_end rest)))) in
    let c = number64_again at (codes " ended=" ++ (flag_text ended ++ line_end rest)) is refl in
    let d = flag_again ended (line_end rest) in
    simp append_assoc (rw (a, b, c, d) refl)

refused_again : (e : Errno) (rest : List ℕ) → response_in (response_text (Refused e) ++ line_end rest) ≡ Some (Refused e, line_end rest)
unfolding response_in refusal_in other_response_in response_text errno_text
refused_again errno.Ebadf rest = refl
refused_again errno.Ebusy rest = refl
refused_again errno.Einval rest = refl
refused_again errno.Enospc rest = refl

pub response_again : (r : Response) (rest : List ℕ) → IsResponseInRange r → response_in (response_text r ++ line_end rest) ≡ Some (r, line_end rest)
unfolding response_in refusal_in other_response_in response_text
response_again (Done from to tap) rest is = done_again from to tap rest is
response_again (Busy owner) rest is = rw (who_again owner (line_end rest) is refl) refl
response_again (Refused e) rest is = refused_again e rest
response_again NoMemory rest is = refl
response_again (Data bytes) rest is = data_again bytes rest is
response_again (Again ended) rest is = rw (flag_again ended (line_end rest)) refl
response_again (Overflow from to item need room) rest is = overflow_again from to item need room rest is
response_again (TimedOut started now timeout) rest is = timed_out_again started now timeout rest is
response_again (Ready readable error at ended) rest is = ready_again readable error at ended rest is
response_again Passed rest is = refl

-- ------ Calls are read again
-- what stands behind a call
abbrev pub then : List ℕ → List ℕ
then rest = codes " = " ++ rest

section_again : (p : SectionParams) (now : ℕ) (rest : List ℕ) → IsActInRange (SetFilterAct p now) → act_in (act_text (SetFilterAct p now) ++ then rest) ≡ Some (SetFilterAct p now, then rest)
unfolding act_in plain_act_in other_act_in section_in act_text
section_again p now rest is =
    let pid = number16_again p.pid (codes " timeout=" ++ (decimal p.timeout ++ (codes " flags=" ++ (decimal p.flags ++ (codes " at=" ++ (decimal now ++ (filter_text p.filter ++ then rest))))))) is.0 refl in
    let timeout = number32_again p.timeout (codes " flags=" ++ (decimal p.flags ++ (codes " at=" ++ (decimal now ++ (filter_text p.filter ++ then rest))))) is.1 refl in
    let flags = number32_again p.flags (codes " at=" ++ (decimal now ++ (filter_text p.filter ++ then rest))) is.2 refl in
    let at = number64_again now (filter_text p.filter ++ then rest) is.4 (filter_ends p.filter (then rest) refl) in
    let filter = filter_again p.filter (then rest) is.3 refl in
    simp append_assoc (rw (pid, timeout, flags, at, filter) refl)

pes_again : (p : PesParams) (now : ℕ) (rest : List ℕ) → IsActInRange (SetPesAct p now) → act_in (act_text (SetPesAct p now) ++ then rest) ≡ Some (SetPesAct p now, then rest)
unfolding act_in plain_act_in other_act_in pes_in act_text
pes_again p now rest is =
    let pid = number16_again p.pid (codes " input=" ++ (input_text p.input ++ (codes " output=" ++ (output_text p.output ++ (codes " type=" ++ (decimal p.pes_type ++ (codes " flags=" ++ (decimal p.flags ++ (codes " at=" ++ (decimal now ++ then rest)))))))))) is.0 refl in
    let from = input_again p.input (codes " output=" ++ (output_text p.output ++ (codes " type=" ++ (decimal p.pes_type ++ (codes " flags=" ++ (decimal p.flags ++ (codes " at=" ++ (decimal now ++ then rest)))))))) in
    let to = output_again p.output (codes " type=" ++ (decimal p.pes_type ++ (codes " flags=" ++ (decimal p.flags ++ (codes " at=" ++ (decimal now ++ then rest)))))) in
    let kind = number32_again p.pes_type (codes " flags=" ++ (decimal p.flags ++ (codes " at=" ++ (decimal now ++ then rest)))) is.1 refl in
    let flags = number32_again p.flags (codes " at=" ++ (decimal now ++ then rest)) is.2 refl in
    let at = number64_again now (then rest) is.3 refl in
    simp append_assoc (rw (pid, from, to, kind, flags, at) refl)

pass_again : (i : Input) (first count now : ℕ) (rest : List ℕ) → IsActInRange (passing i first count now) → act_in (act_text (passing i first count now) ++ then rest) ≡ Some (passing i first count now, then rest)
unfolding act_in plain_act_in other_act_in pass_in act_text
pass_again i first count now rest is =
    let from = input_again i (codes " first=" ++ (decimal first ++ (codes " count=" ++ (decimal count ++ (codes " at=" ++ (decimal now ++ then rest)))))) in
    let a = number64_again first (codes " count=" ++ (decimal count ++ (codes " at=" ++ (decimal now ++ then rest)))) is.0 refl in
    let b = number32_again count (codes " at=" ++ (decimal now ++ then rest)) is.1 refl in
    let c = number64_again now (then rest) is.2 refl in
    simp append_assoc (rw (from, a, b, c) refl)

read_again : (now count : ℕ) (rest : List ℕ) → IsActInRange (ReadAct now count) → act_in (act_text (ReadAct now count) ++ then rest) ≡ Some (ReadAct now count, then rest)
unfolding act_in plain_act_in other_act_in read_in act_text
read_again now count rest is =
    let b = number32_again count (codes " at=" ++ (decimal now ++ then rest)) is.0 refl in
    let c = number64_again now (then rest) is.1 refl in
    simp append_assoc (rw (b, c) refl)

attach_again : (node : ℕ) (pids : List ℕ) (rest : List ℕ) → IsActInRange (AttachAct node pids) → act_in (act_text (AttachAct node pids) ++ then rest) ≡ Some (AttachAct node pids, then rest)
unfolding act_in plain_act_in other_act_in attach_in act_text
attach_again node pids rest is =
    let b = number32_again node (codes " pids=" ++ (pids_text pids ++ then rest)) is.0 refl in
    let c = pids_again pids (then rest) is.1 (refl, refl) in
    simp append_assoc (rw (b, c) refl)

pub act_again : (a : Act) (rest : List ℕ) → IsActInRange a → act_in (act_text a ++ then rest) ≡ Some (a, then rest)
unfolding act_in plain_act_in other_act_in act_text
act_again OpenAct rest is = refl
act_again CloseAct rest is = refl
act_again (SetFilterAct p now) rest is = section_again p now rest is
act_again (SetPesAct p now) rest is = pes_again p now rest is
act_again (AddPidAct pid) rest is = rw (number16_again pid (then rest) is refl) refl
act_again (RemovePidAct pid) rest is = rw (number16_again pid (then rest) is refl) refl
act_again (StartAct now) rest is = rw (number64_again now (then rest) is refl) refl
act_again StopAct rest is = refl
act_again (SetSizeAct size) rest is = rw (number32_again size (then rest) is refl) refl
act_again (ReadAct now count) rest is = read_again now count rest is
act_again (PollAct now) rest is = rw (number64_again now (then rest) is refl) refl
act_again (PassAct i batch now) rest is = pass_again i batch.first batch.count now rest is
act_again EndAct rest is = refl
act_again (AttachAct node pids) rest is = attach_again node pids rest is
act_again (DetachAct node) rest is = rw (number32_again node (then rest) is refl) refl

pub entry_again : (e : LogEntry) (rest : List ℕ) → IsEntryInRange e → entry_in e.node (entry_text e ++ rest) ≡ Some (e, rest)
unfolding entry_in front_in caller_text
entry_again e rest is =
    let reply = response_again e.response rest is.response in
    let act = act_again e.act (response_text e.response ++ line_end rest) is.act in
    let step = number64_again e.step (codes " " ++ (act_text e.act ++ then (response_text e.response ++ line_end rest))) is.step refl in
    let who = who_again e.who (codes " " ++ (decimal e.step ++ (codes " " ++ (act_text e.act ++ then (response_text e.response ++ line_end rest))))) is.who refl in
    let place = number64_again e.place (codes " " ++ (who_text e.who ++ (codes " " ++ (decimal e.step ++ (codes " " ++ (act_text e.act ++ then (response_text e.response ++ line_end rest))))))) is.place refl in
    simp append_assoc (rw (place, who, step, act, reply) refl)

-- the value of a reading
value_of : {A : Type 0} → A → Reading A → A
value_of other None = other
value_of other (Some read) = read.0

pub one_value : {A : Type 0} (e f : A) (r : Reading A) (xs ys : List ℕ) → r ≡ Some (e, xs) → r ≡ Some (f, ys) → e ≡ f
unfolding value_of
one_value e f r xs ys a b = sym (ap (value_of e) a) ∙ ap (value_of e) b

-- the same where nothing stands behind it
pub whole_again : (e : LogEntry) → IsEntryInRange e → entry_in e.node (entry_text e) ≡ Some (e, [])
whole_again e is =
    let all : entry_in e.node (entry_text e ++ []) ≡ Some (e, []) = entry_again e [] is in
    rw append-nil at all

pub one_entry : (e f : LogEntry) → IsEntryInRange e → IsEntryInRange f → e.node ≡ f.node → entry_text e ≡ entry_text f → e ≡ f
one_entry e f is is' same text =
    let a : entry_in e.node (entry_text e) ≡ Some (e, []) = whole_again e is in
    let b : entry_in f.node (entry_text f) ≡ Some (f, []) = whole_again f is' in
    let c : entry_in e.node (entry_text e) ≡ Some (f, []) = rw (same, text) b in
    one_value e f (entry_in e.node (entry_text e)) [] [] a c

-- what can't be read is no line
pub not_read : (node : ℕ) (line : List ℕ) → entry_in node line ≡ None → IsNoLine node line
not_read node line e f (is, same) text =
    let a : entry_in f.node (entry_text f) ≡ Some (f, []) = whole_again f is in
    let b : entry_in f.node (entry_text f) ≡ None = rw (same, ← text) e in
    cc

-- what is read as an entry with another text is no line
pub not_same : (node : ℕ) (line rest : List ℕ) (g : LogEntry) → entry_in node line ≡ Some (g, rest) → entry_text g ≢ line → IsNoLine node line
not_same node line rest g e other f (is, same) text =
    let a : entry_in f.node (entry_text f) ≡ Some (f, []) = whole_again f is in
    let b : entry_in f.node (entry_text f) ≡ Some (g, rest) = rw (same, ← text) e in
    let c : f ≡ g = one_value f g (entry_in f.node (entry_text f)) [] rest a b in
    other (rw (← c) (rw text refl))

-- ------ the lines of a node

begun : (e : LogEntry) (rest : List ℕ) → IsEntryInRange e → begins_number (entry_text e ++ rest) ≡ true
unfolding caller_text
begun e rest is =
    let tail : List ℕ = codes " " ++ (who_text e.who ++ (codes " " ++ (decimal e.step ++ codes " "))) in
    simp append_assoc (number_begins e.place _ is.place)

some : (e : LogEntry) → IsEntryInRange e → 0 < length (entry_text e)
unfolding caller_text
some e is =
    let digits : 0 < length (decimal e.place) = decimal_nonempty e.place is.place in
    omega (arith, length-append {A = ℕ})

spelled : (node : ℕ) → IsSpelled begins_number (entry_in node) entry_text (IsEntryOf node) Whatever
spelled node = record {
  again = λ e rest is _. rw (← is.1) (entry_again e rest is.0);
  begun = λ e rest is. begun e rest is.0;
  ended = λ e rest is. tt;
  some = λ e is. some e is.0;
}

pub node_again : (node : ℕ) (es : List LogEntry) (rest : List ℕ) → All (IsEntryOf node) es → begins_number rest ≡ false
    → many begins_number (entry_in node) (length (flat_map entry_text es ++ rest)) (flat_map entry_text es ++ rest) ≡ Some (es, rest)
node_again node es rest all ends = all_again begins_number (entry_in node) entry_text (IsEntryOf node) Whatever es rest (spelled node) all ends tt
