-- The answer to what an input asks, and that the input determines it.
use Rattle.emu_top.proofs.Imports.{◌≡◌, ◌<◌, ◌≤◌, ◌-◌, ◌⊎◌, refl, sym, ap, subst, ◌∙◌, ℕ, Bool, true, false, List, ◌++◌, length, codes, inl, inr, arith, length-append, Consumes-trans, Option, Some, None, IfSome, MatchOption, Result, Ok, Err, IfErr, IsErrAnd, Consumes, SourceEnd, SinkEnd, cut, PacketSize, IsPacket, told_head, split, grammar, Scripted, Pulling, OfStream, are_packets, IsRightReport, right_are_of_runs, IsSession, Holds, Takes, Refuses, ReadsTo, Asks, IsAnswer, Judges, Declines, SettlesAnswer, asked, script_asked, Begins, IsCutOff, IsWholeOf, wrong_as, Answers, Checks, Tells, WritesFront, WritesWhole, outside, Stream, Status, Usage, Script, TooLong, ReadFault, WriteFault, NoMemory, Done, Wrong, ◌+◌, zero, suc, add-one, [], ◌∷◌, cases_lt, nat_tests, ⊤, nat_le, nat_lt, ◌&&◌, counts, PidRow, row_of, rows_below, rows-more, rows-same, rows-none, answer_text, and_parts}
use Rattle.std.specs.Prelude.{All}
use Rattle.ts_watch.specs.Head.{head_of}
use Rattle.report_check.specs.declared.fault.Fault.{Fault}
use Rattle.emu_top.proofs.Answering.{by_taken, keeps, split_more, steady}
use Rattle.emu_top.proofs.Asks.{asked_more, of_input}
use Rattle.report_read.specs.Report.{are_rows}

-- ------ The rows of a stream's head stand in their order
-- rows of PIDs below this number
abbrev AreBelow : ℕ → List (ℕ × PidRow) → Type 0
AreBelow pid [] = ⊤
AreBelow pid (row ∷ rows) = (row.0 < pid) × AreBelow pid rows

wider : (pid : ℕ) (rows : List (ℕ × PidRow)) → AreBelow pid rows → AreBelow (suc pid) rows
wider pid [] below = tt
wider pid (row ∷ rows) below = (omega (arith, below.0), wider pid rows below.1)

-- a row behind those of lower PIDs
is_below : (pid : ℕ) (row : PidRow) (rows : List (ℕ × PidRow)) → AreBelow pid rows → AreBelow (suc pid) (rows ++ (pid, row) ∷ [])
is_below pid row [] below = (omega arith, tt)
is_below pid row (r ∷ rows) below = (omega (arith, below.0), is_below pid row rows below.1)

in_order : (least pid : ℕ) (row : PidRow) (rows : List (ℕ × PidRow)) → least ≤ pid → pid < 8192 → 0 < row.packets → are_rows least rows ≡ true → AreBelow pid rows → are_rows least (rows ++ (pid, row) ∷ []) ≡ true
unfolding are_rows
in_order least pid row [] low most some ordered below =
    let above : nat_le least pid ≡ true = grind (arith, nat_tests) in
    let within : nat_le pid 8191 ≡ true = grind (arith, nat_tests) in
    let has : nat_lt 0 row.packets ≡ true = grind (arith, nat_tests) in
    rw (above, within, has) refl
in_order least pid row (r ∷ rows) low most some ordered below =
    let parts = and_parts (nat_le least r.0 && (nat_le r.0 8191 && nat_lt 0 r.1.packets)) (are_rows (suc r.0) rows) ordered in
    let next : suc r.0 ≤ pid = omega (arith, below.0) in
    let later = in_order (suc r.0) pid row rows next most some parts.1 below.1 in
    rw (parts.0, later) refl

-- rows in their order, of PIDs below this number
abbrev AreOrdered : ℕ → List (ℕ × PidRow) → Type 0
AreOrdered pid rows = (are_rows 0 rows ≡ true) × AreBelow pid rows

none_ordered : AreOrdered 0 []
unfolding are_rows
none_ordered = (refl, tt)

rows_ordered : (pid : ℕ) (packets : List (List ℕ)) → pid ≤ 8192 → AreOrdered pid (rows_below pid packets)
rows_ordered zero packets few = subst (AreOrdered 0) (sym (rows-none packets)) none_ordered
rows_ordered (suc pid) packets few =
    let before = rows_ordered pid packets (omega (arith, few)) in
    let next : rows_below (suc pid) packets ≡ rows_below (pid + 1) packets = ap (λ n. rows_below n packets) (sym (add-one pid)) in
    elim (cases_lt 0 (counts packets pid).packets) [
      | inl some ↦ subst (AreOrdered (suc pid)) (sym (next ∙ rows-more pid packets some)) (
        in_order 0 pid (row_of packets pid) (rows_below pid packets) (omega arith) (omega (arith, few)) some before.0 before.1,
        is_below pid (row_of packets pid) (rows_below pid packets) before.1,
      )
      | inr none ↦ subst (AreOrdered (suc pid)) (sym (next ∙ rows-same pid packets none)) (before.0, wider pid (rows_below pid packets) before.1)
    ]

pub head_rows : (size : PacketSize) (bytes : List ℕ) (failed : Bool) → are_rows 0 (head_of size bytes failed).rows ≡ true
unfolding head_of
head_rows size bytes failed = (rows_ordered 8192 (cut size bytes).packets (omega arith)).0

-- ------ a report and a session

session_of : (first taken : List ℕ) (size : PacketSize) (script : Scripted) (puller : Pulling) (h : Holds first size script puller) → IsSession (first ++ taken) script (h.ahead ++ taken)
session_of first taken size script puller h = record {
  says = ap (λ p. grammar p.script) (h.splits taken) ∙ h.says;
  behind = ap (λ p. p.stream) (h.splits taken);
}

asks : (report first taken : List ℕ) (x y : SourceEnd) (size : PacketSize) (script : Scripted) (puller : Pulling) (b : Begins report x y) (h : Holds first size script puller) → Asks (b.bytes ++ (first ++ taken)) report script (h.ahead ++ taken)
asks report first taken x y size script puller b h = record {
  session = first ++ taken;
  parts = b.parts (first ++ taken);
  whole = session_of first taken size script puller h;
}

taken_all : (report first taken : List ℕ) (x y z w : SourceEnd) (b : Begins report x y) → Takes y z first → Consumes z.left w.left taken → Consumes x.left w.left (b.bytes ++ (first ++ taken))
taken_all report first taken x y z w b t con = Consumes-trans _ _ _ _ _ b.taken (Consumes-trans _ _ _ _ _ t.taken con)

-- ------ why there is no answer

pub declined_by_session : (report : List ℕ) (x y z : SourceEnd) (status : Status) → Begins report x y → Refuses y z status → ((turns : ℕ) → status ≡ TooLong turns → ⊥) → Declines x z status
declined_by_session report x y z Usage b r few = absurd r
declined_by_session report x y z (Script fault) b r few =
    (r.0 ∙ b.steady, of_input x.left y.left b.bytes fault b.taken (λ rest is. ap script_asked (b.parts rest) ∙ subst (λ c. IfSome c (λ input. grammar (split input).script ≡ Err fault)) is r.1))
declined_by_session report x y z (TooLong turns) b r few = absurd (few turns refl)
declined_by_session report x y z ReadFault b f few = record {
  bytes = b.bytes ++ f.bytes;
  taken = Consumes-trans _ _ _ _ _ b.taken f.taken;
  ends = inr (inr (record { report = report; session = f.bytes; parts = b.parts f.bytes; script = inl f.missing }));
  rose = subst (λ n. n < z.faults) b.steady f.rose;
}
declined_by_session report x y z WriteFault b r few = absurd r
declined_by_session report x y z NoMemory b r few = tt
declined_by_session report x y z Done b r few = absurd r
declined_by_session report x y z (Wrong fault) b r few = absurd r

pub declined_by_stream : (report first : List ℕ) (x y z w : SourceEnd) (size : PacketSize) (script : Scripted) (puller : Pulling) (status : Status)
    → Begins report x y → Takes y z first → Holds first size script puller → IsCutOff z w puller status → Declines x w status
declined_by_stream report first x y z w size script puller Usage b t h c = absurd c
declined_by_stream report first x y z w size script puller (Script fault) b t h c = absurd c
declined_by_stream report first x y z w size script puller (TooLong turns) b t h (most, of) =
    let taken = of.0 in
    let few = of.2 h.ahead h.pulls in
    record {
      bytes = b.bytes ++ (first ++ taken);
      report = report;
      script = script;
      stream = h.ahead ++ taken;
      taken = taken_all report first taken x y z w b t of.1;
      asks = asks report first taken x y size script puller b h;
      most = most;
      reads = omega (arith, few, h.reads, length-append b.bytes (first ++ taken), length-append first taken);
    }
declined_by_stream report first x y z w size script puller ReadFault b t h ((taken, con), rose) = record {
  bytes = b.bytes ++ (first ++ taken);
  taken = taken_all report first taken x y z w b t con;
  ends = inr (inr (record {
    report = report;
    session = first ++ taken;
    parts = b.parts (first ++ taken);
    script = inr (script, (h.ahead ++ taken, session_of first taken size script puller h));
  }));
  rose = subst (λ n. n < w.faults) (t.steady ∙ b.steady) rose;
}
declined_by_stream report first x y z w size script puller WriteFault b t h c = absurd c
declined_by_stream report first x y z w size script puller NoMemory b t h c = tt
declined_by_stream report first x y z w size script puller Done b t h c = absurd c
declined_by_stream report first x y z w size script puller (Wrong fault) b t h c = absurd c

-- a status that is handed on
pub handed_on : {T : Type 0} (r : Result T Status) (status : Status) (P : Status → Type 0) → IsErrAnd r (λ e. e ≡ status) → P status → IfErr r P
handed_on (Ok x) status P is p = tt
handed_on (Err e) status P is p = subst P (sym is) p

-- ------ the answer

module _ (size : PacketSize) (bytes : List ℕ) (stream : Stream) (whole : IsWholeOf size bytes stream) where
  count_of : (head_of size bytes false).tally.packets ≡ length (cut size bytes).packets
  unfolding head_of
  count_of = refl

  pub counted : stream.head.tally.packets ≡ length stream.packets.items
  counted = ap (λ h. h.tally.packets) whole.head ∙ (count_of ∙ sym (ap length whole.packets))

  pub packets_are : All IsPacket stream.packets.items
  packets_are = subst (All IsPacket) (sym whole.packets) (are_packets size bytes)

  told_right : (script : Scripted) (report : List ℕ) → IsRightReport script stream.packets.items (told_head stream.head) report → IsRightReport script (cut size bytes).packets (head_of size bytes false) report
  told_right script report r = subst (λ h. IsRightReport script (cut size bytes).packets h report) whole.head (subst (λ packets. IsRightReport script packets (told_head stream.head) report) whole.packets r)

  right_told : (script : Scripted) (report : List ℕ) → IsRightReport script (cut size bytes).packets (head_of size bytes false) report → IsRightReport script stream.packets.items (told_head stream.head) report
  right_told script report r = subst (λ h. IsRightReport script stream.packets.items h report) (sym whole.head) (subst (λ packets. IsRightReport script packets (head_of size bytes false) report) (sym whole.packets) r)

  right_or_not : (script : Scripted) (report : List ℕ) (right : Bool) → (right ≡ true → IsRightReport script stream.packets.items (told_head stream.head) report)
      → (right ≡ false → IsRightReport script stream.packets.items (told_head stream.head) report → ⊥) → IsAnswer right size report script bytes
  right_or_not script report true right wrong =
      (right_are_of_runs script (cut size bytes).packets (head_of size bytes false) report (head_rows size bytes false) count_of).1 (told_right script report (right refl))
  right_or_not script report false right wrong =
      λ of. wrong refl (right_told script report ((right_are_of_runs script (cut size bytes).packets (head_of size bytes false) report (head_rows size bytes false) count_of).0 of))

pub judged_by : (report first : List ℕ) (x y z w : SourceEnd) (size : PacketSize) (script : Scripted) (puller : Pulling) (stream : Stream) (right : Bool)
    → Begins report x y → Takes y z first → Holds first size script puller → OfStream z w puller (λ ahead taken. IsWholeOf puller.cutting.size (ahead ++ taken) stream) → ReadsTo false z w
    → (right ≡ true → IsRightReport script stream.packets.items (told_head stream.head) report)
    → (right ≡ false → IsRightReport script stream.packets.items (told_head stream.head) report → ⊥) → Judges right size x w
judged_by report first x y z w size script puller stream right b t h of reads told untold =
    let taken = of.0 in
    let whole : IsWholeOf size (h.ahead ++ taken) stream = subst (λ s. IsWholeOf s (h.ahead ++ taken) stream) h.takes_up (of.2 h.ahead h.pulls) in
    record {
      bytes = b.bytes ++ (first ++ taken);
      report = report;
      script = script;
      stream = h.ahead ++ taken;
      taken = taken_all report first taken x y z w b t of.1;
      reads = (reads.0 ∙ (t.steady ∙ b.steady), reads.1);
      asks = asks report first taken x y size script puller b h;
      answer = right_or_not size (h.ahead ++ taken) stream whole script report right told untold;
    }

pub judged : (report first : List ℕ) (x y z w : SourceEnd) (size : PacketSize) (script : Scripted) (puller : Pulling) (stream : Stream) (fault : Option Fault)
    → Begins report x y → Takes y z first → Holds first size script puller → OfStream z w puller (λ ahead taken. IsWholeOf puller.cutting.size (ahead ++ taken) stream) → ReadsTo false z w
    → MatchOption fault (IsRightReport script stream.packets.items (told_head stream.head) report) (λ _. IsRightReport script stream.packets.items (told_head stream.head) report → ⊥)
    → MatchOption fault (Judges true size x w) (λ _. Judges false size x w)
judged report first x y z w size script puller stream None b t h of reads is = judged_by report first x y z w size script puller stream true b t h of reads (λ e. is) (λ e. absurd (cc))
judged report first x y z w size script puller stream (Some fault) b t h of reads is = judged_by report first x y z w size script puller stream false b t h of reads (λ e. absurd (cc)) (λ e. is)

-- ------ what is written

pub answers_none : (size : PacketSize) (x y : SourceEnd) (w : SinkEnd) (status : Status) → Declines x y status → Answers size (outside x w) (outside y w) status
answers_none size x y w Usage d = absurd d
answers_none size x y w (Script fault) d = (d, (keeps w.written, refl))
answers_none size x y w (TooLong turns) d = (d, (keeps w.written, refl))
answers_none size x y w ReadFault d = (d, (keeps w.written, refl))
answers_none size x y w WriteFault d = absurd d
answers_none size x y w NoMemory d = (d, (keeps w.written, refl))
answers_none size x y w Done d = absurd d
answers_none size x y w (Wrong fault) d = absurd d

-- the same text written from another source
whole_of : (s x y : SourceEnd) (w v : SinkEnd) (text : List ℕ) → WritesWhole (outside s w) (outside s v) text → WritesWhole (outside x w) (outside y v) text
whole_of s x y w v text whole = record { written = whole.written; writes = whole.writes }

part_of : (s x y : SourceEnd) (w v : SinkEnd) (text : List ℕ) → WritesFront (outside s w) (outside s v) text → WritesFront (outside x w) (outside y v) text
part_of s x y w v text front = record { count = front.count; part = front.part; written = front.written; rose = front.rose }

pub answers_yes : (size : PacketSize) (s x y : SourceEnd) (w v : SinkEnd) (text : List ℕ) (status : Status) → text ≡ codes "yes\n" → Judges true size x y → Tells (λ whole. whole ≡ text) (outside s w) (outside s v) status
    → Answers size (outside x w) (outside y v) status
unfolding answer_text
answers_yes size s x y w v text Usage is judged says = absurd says
answers_yes size s x y w v text (Script fault) is judged says = absurd says
answers_yes size s x y w v text (TooLong turns) is judged says = absurd says
answers_yes size s x y w v text ReadFault is judged says = absurd says
answers_yes size s x y w v text WriteFault is judged (whole, e, front) = record { right = true; judged = judged; front = part_of s x y w v _ (rw (← is, ← e) front) }
answers_yes size s x y w v text NoMemory is judged says = (tt, says)
answers_yes size s x y w v text Done is judged (whole, e, all) = record { judged = judged; whole = whole_of s x y w v _ (rw (← is, ← e) all) }
answers_yes size s x y w v text (Wrong fault) is judged says = absurd says

pub answers_no : (size : PacketSize) (s x y : SourceEnd) (w v : SinkEnd) (text : List ℕ) (fault : Fault) (status : Status) → text ≡ codes "no\n" → Judges false size x y → Tells (λ whole. whole ≡ text) (outside s w) (outside s v) status
    → Answers size (outside x w) (outside y v) (wrong_as fault status)
unfolding answer_text
answers_no size s x y w v text fault Usage is judged says = absurd says
answers_no size s x y w v text fault (Script odd) is judged says = absurd says
answers_no size s x y w v text fault (TooLong turns) is judged says = absurd says
answers_no size s x y w v text fault ReadFault is judged says = absurd says
answers_no size s x y w v text fault WriteFault is judged (whole, e, front) = record { right = false; judged = judged; front = part_of s x y w v _ (rw (← is, ← e) front) }
answers_no size s x y w v text fault NoMemory is judged says = (tt, says)
answers_no size s x y w v text fault Done is judged (whole, e, all) = record { judged = judged; whole = whole_of s x y w v _ (rw (← is, ← e) all) }
answers_no size s x y w v text fault (Wrong other) is judged says = absurd says

-- ------ what the input determines

says_of : (bytes rest report : List ℕ) (script : Scripted) (stream : List ℕ) → Asks bytes report script stream → script_asked (asked (bytes ++ rest)) ≡ Ok script
says_of bytes rest report script stream a =
    ap script_asked (asked_more bytes rest (record { report = report; session = a.session }) a.parts)
    ∙ (ap grammar (split_more a.session rest stream a.whole.behind).0 ∙ a.whole.says)

says_in : (input : List ℕ) (x y : SourceEnd) (bytes report : List ℕ) (script : Scripted) (stream : List ℕ) → x.left ≡ Some input → Consumes x.left y.left bytes → Asks bytes report script stream
    → (script_asked (asked input) ≡ Ok script) × (length bytes ≤ length input)
says_in input x y bytes report script stream has con a =
    let t = by_taken input y.left bytes (subst (λ c. Consumes c y.left bytes) has con) in
    (ap (λ xs. script_asked (asked xs)) t.1 ∙ says_of bytes t.0 report script stream a, omega (arith, ap length t.1, length-append bytes t.0))

determined : (size : PacketSize) (input : List ℕ) (x y : SourceEnd) (w v : SinkEnd) (status : Status) → x.left ≡ Some input
    → y.faults ≡ x.faults → v.faults ≡ w.faults → Answers size (outside x w) (outside y v) status → (status ≡ NoMemory) ⊎ SettlesAnswer (script_asked (asked input)) input status
determined size input x y w v Usage has nr nw says = absurd says.0
determined size input x y w v (Script fault) has nr nw says =
    let told : script_asked (asked input) ≡ Err fault = subst (λ c. IfSome c (λ whole. script_asked (asked whole) ≡ Err fault)) has says.0.1 in
    inr (rw told refl)
determined size input x y w v (TooLong turns) has nr nw says =
    let g = says.0 in
    let ok = says_in input x y g.bytes g.report g.script g.stream has g.taken g.asks in
    inr (rw ok.0 (λ short. absurd (omega (arith, g.most, g.reads, ok.1))))
determined size input x y w v ReadFault has nr nw says = absurd (steady x.faults y.faults nr says.0.rose)
determined size input x y w v WriteFault has nr nw says = absurd (steady w.faults v.faults nw says.front.rose)
determined size input x y w v NoMemory has nr nw says = inl refl
determined size input x y w v Done has nr nw says =
    let m = says.judged in
    inr (rw (says_in input x y m.bytes m.report m.script m.stream has m.taken m.asks).0 (λ short. tt))
determined size input x y w v (Wrong fault) has nr nw says =
    let m = says.judged in
    inr (rw (says_in input x y m.bytes m.report m.script m.stream has m.taken m.asks).0 (λ short. tt))

settled_by : (size : PacketSize) (content : Option (List ℕ)) (x y : SourceEnd) (w v : SinkEnd) (status : Status) → x.left ≡ content
    → y.faults ≡ x.faults → v.faults ≡ w.faults → Answers size (outside x w) (outside y v) status
    → IfSome content (λ input. (status ≡ NoMemory) ⊎ SettlesAnswer (script_asked (asked input)) input status)
settled_by size None x y w v status has nr nw says = tt
settled_by size (Some input) x y w v status has nr nw says = determined size input x y w v status has nr nw says

pub checks : (size : PacketSize) (x y : SourceEnd) (w v : SinkEnd) (status : Status) → Answers size (outside x w) (outside y v) status → Checks size (outside x w) (outside y v) status
checks size x y w v status says = record {
  says = says;
  settled = λ nr nw. settled_by size x.left x y w v status refl nr nw says;
}
