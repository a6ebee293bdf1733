-- What is to be written for a session, and why there is nothing.
use Rattle.emu_top.proofs.Imports.{◌≡◌, ◌<◌, ◌≤◌, ◌+◌, ◌^◌, ◌⊎◌, refl, sym, ap, subst, ◌∙◌, ℕ, Bool, true, false, List, [], ◌++◌, length, map, append-nil, arith, length-append, inl, inr, IsTrue, cases_lt, Consumes-trans, ◌↔◌, Option, Some, None, IfSome, Ok, Err, Consumes, IsAtEnd, SourceEnd, cut, PacketSize, told_head, ScriptFault, split, grammar, most_bytes, script_len, whole_lines, Scripted, front_of, split-found, split-missing, Stop, NoMemoryToRun, RunTooLong, most_calls, all_commands, bytes_written, IsTooLong, Pulling, OfStream, Left, writes_pass, histories_in, IsLeftBy, IsAccountedRun, are_runs, AreFitting, IsUnended, report_over, Output, IsSession, IsSerialOutput, Holds, IsFaultIn, Takes, Makes, Runs, FailsEarly, Refuses, ReadsTo, status_of_stop, Status, Usage, Script, TooLong, ReadFault, WriteFault, NoMemory, Done, Wrong}
use Rattle.emu_top.proofs.Ranged.{ranged, few_told}

-- ------ the output

reads_to : (b : Bool) (x y : SourceEnd) → (IsTrue b ↔ (x.faults < y.faults)) → x.faults ≤ y.faults → (b ≡ false → IsAtEnd y.left) → ReadsTo b x y
reads_to true x y rose later end = rose.0 refl
reads_to false x y rose later end = elim (cases_lt x.faults y.faults) [
  | inl lt ↦ absurd (let e : false ≡ true = rose.1 lt in cc)
  | inr le ↦ (omega arith, end refl)
]

-- the same from a moment on at which the count of faults was the same
reads_from : (b : Bool) (x y z : SourceEnd) → y.faults ≡ x.faults → ReadsTo b y z → ReadsTo b x z
reads_from true x y z e r = subst (λ n. n < z.faults) e r
reads_from false x y z e r = (r.0 ∙ e, r.1)

session_of : (bytes part stream : List ℕ) (script : Scripted) → split bytes ≡ record { script = part; stream = Some stream } → grammar part ≡ Ok script → IsSession bytes script stream
session_of bytes part stream script s says = record { says = ap (λ p. grammar p.script) s ∙ says; behind = ap (λ p. p.stream) s }

-- what the run of a session left
pub run_of : (batch : ℕ) (size : PacketSize) (script : Scripted) (puller : Pulling) (x y z : SourceEnd) (first : List ℕ) (ran : Left)
    → 1 ≤ batch → Takes x y first → Holds first size script puller
    → OfStream y z puller (λ ahead taken. IsLeftBy script batch puller.cutting.size (ahead ++ taken) ran)
    → (IsTrue ran.head.read_fault ↔ (y.faults < z.faults)) → y.faults ≤ z.faults → (ran.head.read_fault ≡ false → IsAtEnd z.left)
    → AreFitting (told_head ran.head) (map (λ those. those.items) ran.outcomes.items) ran.histories
    → Runs batch size x z ran
run_of batch size script puller x y z first ran one takes h of rose later end fit =
    let taken = of.0 in
    let r : IsLeftBy script batch size (h.ahead ++ taken) ran = subst (λ s. IsLeftBy script batch s (h.ahead ++ taken) ran) h.takes_up (of.2 h.ahead h.pulls) in
    let s = h.splits taken in
    let packets = (cut size (h.ahead ++ taken)).packets in
    let whole : IsAccountedRun script batch packets r.run = are_runs script batch packets r.run h.known.ranges one r.serial in
    record {
      bytes = first ++ taken;
      script = script;
      stream = h.ahead ++ taken;
      run = r.run;
      taken = Consumes-trans _ _ _ _ _ takes.taken of.1;
      reads = reads_from ran.head.read_fault x y z takes.steady (reads_to ran.head.read_fault y z rose later end);
      session = session_of (first ++ taken) h.part (h.ahead ++ taken) script s h.says;
      ran = record { serial = r.serial; whole = whole; played = writes_pass script batch packets (histories_in r.run) whole.run };
      histories = r.histories;
      outcomes = r.outcomes;
      head = r.head;
      range = ranged script batch packets _ _ _ _ _ _ r.head r.outcomes r.histories whole.run (few_told script r.run h.known.ranges) fit;
    }

-- its report
pub reported : (batch : ℕ) (size : PacketSize) (x y : SourceEnd) (ran : Left) → Runs batch size x y ran → Makes (IsSerialOutput batch size) x y ran.head.read_fault (report_over ran)
reported batch size x y ran r = record {
  bytes = r.bytes;
  script = r.script;
  stream = r.stream;
  taken = r.taken;
  reads = r.reads;
  session = r.session;
  output = record {
    run = r.run;
    ran = r.ran;
    range = r.range;
    report = rw (← r.head, ← r.outcomes, ← r.histories) refl;
  };
}

-- of whatever kind it is, the output for the bytes of a script and of the stream behind it
pub made_of : (out : Output) (size : PacketSize) (script : Scripted) (puller : Pulling) (x y z : SourceEnd) (first : List ℕ) (failed : Bool) (text : List ℕ)
    → Takes x y first → Holds first size script puller → OfStream y z puller (λ ahead taken. out script (ahead ++ taken) failed text)
    → (IsTrue failed ↔ (y.faults < z.faults)) → y.faults ≤ z.faults → (failed ≡ false → IsAtEnd z.left) → Makes out x z failed text
made_of out size script puller x y z first failed text takes h of rose later end =
    let taken = of.0 in
    record {
      bytes = first ++ taken;
      script = script;
      stream = h.ahead ++ taken;
      taken = Consumes-trans _ _ _ _ _ takes.taken of.1;
      reads = reads_from failed x y z takes.steady (reads_to failed y z rose later end);
      session = session_of (first ++ taken) h.part (h.ahead ++ taken) script (h.splits taken) h.says;
      output = of.2 h.ahead h.pulls;
    }

-- ------ a run that was given up

cause_of : (script : Scripted) (start turns : ℕ) (ahead taken first : List ℕ) → start ≤ length first → IsTooLong script start turns ahead taken
    → ((turns ≡ 4294967296) × (turns ≤ length (first ++ taken))) ⊎ ((turns ≡ 2 ^ 39) × (turns ≤ most_calls (all_commands script.lines) (length (ahead ++ taken) + bytes_written script)))
cause_of script start turns ahead taken first reads (inl (is, le)) = inl (is, omega (arith, length-append first taken))
cause_of script start turns ahead taken first reads (inr (is, le)) = inr (is, rw (length-append ahead taken, is) le)

pub given_up : (size : PacketSize) (script : Scripted) (puller : Pulling) (x y z : SourceEnd) (first : List ℕ) (stop : Stop)
    → ((turns : ℕ) → stop ≡ RunTooLong turns → OfStream y z puller (IsTooLong script puller.start turns))
    → Takes x y first → Holds first size script puller → Refuses x z (status_of_stop stop)
given_up size script puller x y z first NoMemoryToRun each takes h = tt
given_up size script puller x y z first (RunTooLong turns) each takes h =
    let of = each turns refl in
    let taken = of.0 in
    record {
      bytes = first ++ taken;
      script = script;
      stream = h.ahead ++ taken;
      taken = Consumes-trans _ _ _ _ _ takes.taken of.1;
      session = session_of (first ++ taken) h.part (h.ahead ++ taken) script (h.splits taken) h.says;
      known = h.known;
      cause = cause_of script puller.start turns h.ahead taken first h.reads (of.2 h.ahead h.pulls);
    }

-- ------ a script part that isn't read

pub fails_early : (x y : SourceEnd) → IsUnended x y → y.faults ≡ x.faults + 1 → FailsEarly x y
fails_early x y u is =
    let s : split (u.taken ++ []) ≡ record { script = u.taken; stream = None } = split-missing u.taken [] u.searched u.none (inr refl) in
    record {
      bytes = u.taken;
      taken = u.consumes;
      missing = ap (λ bytes. (split bytes).stream) (sym (append-nil u.taken)) ∙ ap (λ p. p.stream) s;
      rose = omega (arith, is);
    }

-- the script of an input is that of its first bytes
pub script_of : (part rest : List ℕ) (r : Option ℕ) → length part ≤ most_bytes → script_len (whole_lines part) ≡ r → (r ≡ None → (length part ≡ most_bytes) ⊎ (rest ≡ []))
    → grammar (split (part ++ rest)).script ≡ grammar part
script_of part rest None few e end = ap (λ p. grammar p.script) (split-missing part rest few e (end refl))
script_of part rest (Some n) few e end = ap (λ p. grammar p.script) (split-found part rest n few e) ∙ (front_of part n e).1

ended_so : (part rest : List ℕ) → (length part ≡ most_bytes) ⊎ IsAtEnd (Some rest) → (length part ≡ most_bytes) ⊎ (rest ≡ [])
ended_so part rest (inl is) = inl is
ended_so part rest (inr is) = inr is

has_fault : (content left : Option (List ℕ)) (part : List ℕ) (fault : ScriptFault) → length part ≤ most_bytes → Consumes content left part
    → (script_len (whole_lines part) ≡ None → (length part ≡ most_bytes) ⊎ IsAtEnd left) → grammar part ≡ Err fault → IfSome content (λ input. grammar (split input).script ≡ Err fault)
has_fault None left part fault few con end e = tt
has_fault (Some input) None part fault few con end e = absurd con
has_fault (Some input) (Some rest) part fault few con end e =
    let same = script_of part rest (script_len (whole_lines part)) few refl (λ none. ended_so part rest (end none)) in
    ap (λ bytes. grammar (split bytes).script) con ∙ (same ∙ e)

pub refused_by : (x y : SourceEnd) (part : List ℕ) (status : Status) → length part ≤ most_bytes → Takes x y part
    → (script_len (whole_lines part) ≡ None → (length part ≡ most_bytes) ⊎ IsAtEnd y.left) → IsFaultIn part status → Refuses x y status
refused_by x y part (Script fault) few takes end e = (takes.steady, has_fault x.left y.left part fault few takes.taken end e)
refused_by x y part NoMemory few takes end e = tt
refused_by x y part Usage few takes end e = absurd e
refused_by x y part (TooLong turns) few takes end e = absurd e
refused_by x y part ReadFault few takes end e = absurd e
refused_by x y part WriteFault few takes end e = absurd e
refused_by x y part Done few takes end e = absurd e
refused_by x y part (Wrong fault) few takes end e = absurd e
