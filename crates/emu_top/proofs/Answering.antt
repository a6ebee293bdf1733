-- What a status says, and that the input determines it.
use Rattle.emu_top.proofs.Imports.{◌≡◌, ◌<◌, ◌≤◌, ◌+◌, ◌-◌, ◌*◌, ◌^◌, ◌⊎◌, refl, sym, ap, subst, ◌∙◌, ℕ, Bool, true, false, List, [], ◌∷◌, ◌++◌, length, map, take, drop, append_assoc, arith, length-append, inl, inr, take-append-drop, length-drop, length-take, Option, Some, None, IfSome, Result, Ok, Err, IfOk, IfErr, Appends, Consumes, Keeps, SourceEnd, SinkEnd, Line, Feed, Tick, CommandLine, are_spelled, parted, grammar, most_bytes, script_len, whole_lines, IsScript, Scripted, split-found, most_calls, all_commands, bytes_written, Command, Steps, Run, Make, SelfTest, Check, meant, made, Outcome, told_head, Left, report_of, AddsPart, Output, IsSerialOutput, IsThreadOutput, IsSums, Makes, Refuses, report_over, HasReported, Answers, Outside, outside, NoWriteFails, HasWritten, Says, Determines, Does, Tells, Gives, Obeys, Serves, Status, Usage, Script, TooLong, ReadFault, WriteFault, NoMemory, Done, Wrong}
use Rattle.client_script.specs.Script.{split}

pub keeps : (w : Option (List ℕ)) → Keeps w w
keeps None = tt
keeps (Some xs) = refl

-- ------ a status without output

pub says_refused : (out : Output) (x y : SourceEnd) (w : SinkEnd) (status : Status) → Refuses x y status → Says out (outside x w) (outside y w) status
says_refused out x y w Usage r = r
says_refused out x y w (Script fault) r = (r, (keeps w.written, refl))
says_refused out x y w (TooLong turns) r = (r, (keeps w.written, refl))
says_refused out x y w ReadFault r = (refl, inr (r, keeps w.written))
says_refused out x y w WriteFault r = absurd r
says_refused out x y w NoMemory r = (keeps w.written, refl)
says_refused out x y w Done r = absurd r
says_refused out x y w (Wrong fault) r = absurd r

-- ------ a status with output

pub says_written : (out : Output) (x y : SourceEnd) (w v : SinkEnd) (failed : Bool) (text : List ℕ) (status : Status)
    → Makes out x y failed text → HasWritten failed text w v status → Says out (outside x w) (outside y v) status
says_written out x y w v failed text Usage m h = absurd h
says_written out x y w v failed text (Script fault) m h = absurd h
says_written out x y w v failed text (TooLong turns) m h = absurd h
says_written out x y w v failed text ReadFault m (is, written, steady) = (steady, inl (text, subst (λ b. Makes out x y b text) is m, written))
says_written out x y w v failed text WriteFault m (count, part, written, rose) =
    record { text = text; failed = failed; made = m; front = record { count = count; part = part; written = written; rose = rose } }
says_written out x y w v failed text NoMemory m h = absurd h
says_written out x y w v failed text Done m (is, written, steady) =
    record { text = text; made = subst (λ b. Makes out x y b text) is m; whole = record { written = written; writes = steady } }
says_written out x y w v failed text (Wrong fault) m h = absurd h

-- ------ what a report that is written says of the sink

module _ (left : Left) (became : List (List Outcome)) (same : became ≡ map (λ those. those.items) left.outcomes.items) (w v : SinkEnd) where
  over : report_of (told_head left.head) became left.histories ≡ report_over left
  over = ap (λ b. report_of (told_head left.head) b left.histories) same

  pub whole_done : left.head.read_fault ≡ false → Appends w.written v.written (report_of (told_head left.head) became left.histories) → v.faults ≡ w.faults
      → HasReported left w v Done
  whole_done sound whole steady = (sound, subst (Appends w.written v.written) over whole, steady)

  pub whole_read_fault : left.head.read_fault ≡ true → Appends w.written v.written (report_of (told_head left.head) became left.histories) → v.faults ≡ w.faults
      → HasReported left w v ReadFault
  whole_read_fault failed whole steady = (failed, subst (Appends w.written v.written) over whole, steady)

  pub part_failed : AddsPart w.written v.written [] (report_of (told_head left.head) became left.histories) → v.faults ≡ w.faults + 1 → HasReported left w v WriteFault
  part_failed p rose =
      let part : AddsPart w.written v.written [] (report_over left) = subst (AddsPart w.written v.written []) over p in
      (part.count, part.part, part.written, omega (arith, rose))

says_reported : (out : Output) (x y : SourceEnd) (w v : SinkEnd) (left : Left) (status : Status)
    → Makes out x y left.head.read_fault (report_over left) → HasReported left w v status → Says out (outside x w) (outside y v) status
says_reported out x y w v left Usage m h = absurd h
says_reported out x y w v left (Script fault) m h = absurd h
says_reported out x y w v left (TooLong turns) m h = absurd h
says_reported out x y w v left ReadFault m h = says_written out x y w v left.head.read_fault (report_over left) ReadFault m h
says_reported out x y w v left WriteFault m h = says_written out x y w v left.head.read_fault (report_over left) WriteFault m h
says_reported out x y w v left NoMemory m h = h
says_reported out x y w v left Done m h = says_written out x y w v left.head.read_fault (report_over left) Done m h
says_reported out x y w v left (Wrong fault) m h = absurd h

-- ------ a status, with output or without

pub says_ended : (out : Output) (x y : SourceEnd) (w v : SinkEnd) (left : Result Left Status) (status : Status)
    → IfOk left (λ left. Makes out x y left.head.read_fault (report_over left)) → IfErr left (λ why. Refuses x y why)
    → IfOk left (λ left. HasReported left w v status) → IfErr left (λ why. (status ≡ why) × (v ≡ w))
    → Says out (outside x w) (outside y v) status
says_ended out x y w v (Ok left) status made refused written kept = says_reported out x y w v left status made written
says_ended out x y w v (Err why) status made refused written kept = rw (kept.0, kept.1) (says_refused out x y w why refused)

-- a sink that is as it was tells what it told
pub kept_end : {K T : Type 0} (end : K → SinkEnd) (old new : K) (status : Status) (left : Result T Status) → IfErr left (λ why. (status ≡ why) × (new ≡ old))
    → IfErr left (λ why. (status ≡ why) × (end new ≡ end old))
kept_end end old new status (Ok left) kept = tt
kept_end end old new status (Err why) kept = (kept.0, ap end kept.1)

-- ------ what the bytes taken say of the whole input

split_by : (bytes rest : List ℕ) (r : Option ℕ) (stream : List ℕ) → script_len (whole_lines (take most_bytes bytes)) ≡ r → (parted bytes r).stream ≡ Some stream
    → ((split (bytes ++ rest)).script ≡ (split bytes).script) × (length (split bytes).script + length stream ≤ length bytes)
split_by bytes rest None stream e is = absurd (cc)
split_by bytes rest (Some n) stream e is =
    let front = take most_bytes bytes in
    let behind = drop most_bytes bytes in
    let few : length front ≤ most_bytes = omega (arith, length-take most_bytes bytes) in
    let whole : front ++ behind ≡ bytes = take-append-drop most_bytes bytes in
    let longer : front ++ (behind ++ rest) ≡ bytes ++ rest = sym (append_assoc front behind rest) ∙ ap (λ xs. xs ++ rest) whole in
    let one : (split (front ++ behind)).script ≡ take n front = ap (λ p. p.script) (split-found front behind n few e) in
    let two : (split (front ++ (behind ++ rest))).script ≡ take n front = ap (λ p. p.script) (split-found front (behind ++ rest) n few e) in
    let size : drop n bytes ≡ stream = cc in
    let mine : (split bytes).script ≡ take n front = ap (λ xs. (split xs).script) (sym whole) ∙ one in (
      ap (λ xs. (split xs).script) (sym longer) ∙ (two ∙ (sym one ∙ ap (λ xs. (split xs).script) whole)),
      subst (λ s. length (split bytes).script + length s ≤ length bytes) size
          (omega (arith, ap (λ xs. length xs) mine, length-take n front, length-take most_bytes bytes, length-drop n bytes)),
    )

pub split_more : (bytes rest stream : List ℕ) → (split bytes).stream ≡ Some stream
    → ((split (bytes ++ rest)).script ≡ (split bytes).script) × (length (split bytes).script + length stream ≤ length bytes)
unfolding split
split_more bytes rest stream is = split_by bytes rest (script_len (whole_lines (take most_bytes bytes))) stream refl is

script_of_all : (input bytes rest stream : List ℕ) (script : Scripted) → input ≡ bytes ++ rest → grammar (split bytes).script ≡ Ok script → (split bytes).stream ≡ Some stream → grammar (split input).script ≡ Ok script
script_of_all input bytes rest stream script is says behind = ap (λ xs. grammar (split xs).script) is ∙ (ap grammar (split_more bytes rest stream behind).0 ∙ says)

-- ------ no budget is met

few_commands : (lines : List Line) → all_commands lines ≤ length lines
few_commands [] = omega arith
few_commands (Feed n ∷ lines) = let h = few_commands lines in omega arith
few_commands (Tick n ∷ lines) = let h = few_commands lines in omega arith
few_commands (CommandLine line client target verb ∷ lines) = let h = few_commands lines in omega arith

pub not_too_long : (input bytes rest stream : List ℕ) (script : Scripted) (turns : ℕ) → input ≡ bytes ++ rest → length input < 4294967296
    → length stream + bytes_written script ≤ length bytes → IsScript script
    → ((turns ≡ 4294967296) × (turns ≤ length bytes)) ⊎ ((turns ≡ 2 ^ 39) × (turns ≤ most_calls (all_commands script.lines) (length stream + bytes_written script))) → ⊥
not_too_long input bytes rest stream script turns is short fits known (inl (e, le)) =
    let size : length input ≡ length bytes + length rest = ap length is ∙ length-append bytes rest in
    omega arith
not_too_long input bytes rest stream script turns is short fits known (inr (e, le)) =
    let size : length input ≡ length bytes + length rest = ap length is ∙ length-append bytes rest in
    let few = few_commands script.lines in
    let known_few = known.few in
    let big : 2 ^ 39 ≤ 33 * (all_commands script.lines + 2 * (length stream + bytes_written script) + 1) = rw (← e) le in
    omega arith

-- ------ the answer that the input determines

-- a count that didn't rise
pub steady : (before now : ℕ) → now ≡ before → before < now → ⊥
steady before now same rose = omega (arith, same, rose)

pub by_taken : (input : List ℕ) (left : Option (List ℕ)) (bytes : List ℕ) → Consumes (Some input) left bytes → (rest : List ℕ) × (input ≡ bytes ++ rest)
by_taken input None bytes con = absurd con
by_taken input (Some rest) bytes con = (rest, con)

determined : (out : Output) (input : List ℕ) (x y : SourceEnd) (w v : SinkEnd) (status : Status) → x.left ≡ Some input
    → y.faults ≡ x.faults → v.faults ≡ w.faults → Says out (outside x w) (outside y v) status → (status ≡ NoMemory) ⊎ Determines (grammar (split input).script) input status
determined out input x y w v Usage has nr nw says = absurd says
determined out input x y w v (Script fault) has nr nw says =
    let told : grammar (split input).script ≡ Err fault = subst (λ c. IfSome c (λ whole. grammar (split whole).script ≡ Err fault)) has says.0.1 in
    inr (rw told refl)
determined out input x y w v (TooLong turns) has nr nw says =
    let g = says.0 in
    let t = by_taken input y.left g.bytes (subst (λ c. Consumes c y.left g.bytes) has g.taken) in
    let ok = script_of_all input g.bytes t.0 g.stream g.script t.1 g.session.says g.session.behind in
    let parts = (split_more g.bytes t.0 g.stream g.session.behind).1 in
    let fits : length g.stream + bytes_written g.script ≤ length g.bytes = omega (arith, parts, are_spelled (split g.bytes).script g.script g.session.says) in
    inr (rw ok (λ short. absurd (not_too_long input g.bytes t.0 g.stream g.script turns t.1 short fits g.known g.cause)))
determined out input x y w v ReadFault has nr nw (steady_writes, inl (text, m, a)) = absurd (steady x.faults y.faults nr m.reads)
determined out input x y w v ReadFault has nr nw (steady_writes, inr (f, k)) = absurd (steady x.faults y.faults nr f.rose)
determined out input x y w v WriteFault has nr nw says = absurd (steady w.faults v.faults nw says.front.rose)
determined out input x y w v NoMemory has nr nw says = inl refl
determined out input x y w v Done has nr nw says =
    let m = says.made in
    let t = by_taken input y.left m.bytes (subst (λ c. Consumes c y.left m.bytes) has m.taken) in
    let ok = script_of_all input m.bytes t.0 m.stream m.script t.1 m.session.says m.session.behind in
    inr (rw ok (λ short. refl))
determined out input x y w v (Wrong fault) has nr nw says = absurd says

settled_by : (out : Output) (content : Option (List ℕ)) (x y : SourceEnd) (w v : SinkEnd) (status : Status) → x.left ≡ content
    → y.faults ≡ x.faults → v.faults ≡ w.faults → Says out (outside x w) (outside y v) status
    → IfSome content (λ input. (status ≡ NoMemory) ⊎ Determines (grammar (split input).script) input status)
settled_by out None x y w v status has nr nw says = tt
settled_by out (Some input) x y w v status has nr nw says = determined out input x y w v status has nr nw says

never_usage : (out : Output) (before after : Outside) (status : Status) → Says out before after status → status ≡ Usage → ⊥
never_usage out before after status says is = subst (λ s. Says out before after s) is says

pub does : (out : Output) (x y : SourceEnd) (w v : SinkEnd) (status : Status)
    → Says out (outside x w) (outside y v) status → Does out (outside x w) (outside y v) status
does out x y w v status says = record {
  says = says;
  settled = λ nr nw. settled_by out x.left x y w v status refl nr nw says;
}

-- ------ a text that is made from a number

never_usage_told : (IsText : List ℕ → Type 0) (before after : Outside) (status : Status) → Tells IsText before after status → status ≡ Usage → ⊥
never_usage_told IsText before after status says is = subst (λ s. Tells IsText before after s) is says

settled_told : (IsText : List ℕ → Type 0) (before after : Outside) (status : Status) → Tells IsText before after status
    → NoWriteFails before after → (status ≡ NoMemory) ⊎ (status ≡ Done)
settled_told IsText before after Usage says nw = absurd says
settled_told IsText before after (Script fault) says nw = absurd says
settled_told IsText before after (TooLong turns) says nw = absurd says
settled_told IsText before after ReadFault says nw = absurd says
settled_told IsText before after WriteFault (text, is, front) nw = absurd (steady before.sink.faults after.sink.faults nw front.rose)
settled_told IsText before after NoMemory says nw = inl refl
settled_told IsText before after Done says nw = inr refl
settled_told IsText before after (Wrong fault) says nw = absurd says

pub gives : (IsText : List ℕ → Type 0) (x : SourceEnd) (w v : SinkEnd) (status : Status)
    → Tells IsText (outside x w) (outside x v) status → Gives IsText (outside x w) (outside x v) status
gives IsText x w v status says = record {
  reads = (keeps x.left, refl);
  says = says;
  settled = settled_told IsText _ _ status says;
}

-- one text for another that is equal to it
pub told_as : (IsText : List ℕ → Type 0) (text : List ℕ) (before after : Outside) (status : Status) → IsText text → Tells (λ whole. whole ≡ text) before after status → Tells IsText before after status
told_as IsText text before after Usage is says = absurd says
told_as IsText text before after (Script fault) is says = absurd says
told_as IsText text before after (TooLong turns) is says = absurd says
told_as IsText text before after ReadFault is says = absurd says
told_as IsText text before after WriteFault is (whole, e, front) = (whole, subst IsText (sym e) is, front)
told_as IsText text before after NoMemory is says = says
told_as IsText text before after Done is (whole, e, all) = (whole, subst IsText (sym e) is, all)
told_as IsText text before after (Wrong fault) is says = absurd says

-- ------ the whole

not_usage : (c : Command) (may : ℕ → Bool) (before after : Outside) (status : Status) → Obeys c may before after status → status ≡ Usage → ⊥
not_usage (Steps batch packet) may before after status d is = never_usage (IsSerialOutput batch packet) before after status d.says is
not_usage (Run batch packet) may before after status d is = never_usage (IsThreadOutput batch packet may) before after status d.says is
not_usage (Make number) may before after status d is = never_usage_told (λ text. text ≡ made number) before after status d.says is
not_usage (SelfTest number batch) may before after status d is = never_usage_told (IsSums number batch) before after status d.says is
not_usage (Check packet) may before after status d is = let says : Answers packet before after Usage = subst (λ s. Answers packet before after s) is d.says in says.0

same_command : (c other : Command) (m : Option Command) → m ≡ Some c → m ≡ Some other → c ≡ other
same_command c other m a b = cc

-- words that are accepted
pub serves : (words : List (List ℕ)) (c : Command) (may : ℕ → Bool) (before after : Outside) (status : Status) → meant words ≡ Some c → Obeys c may before after status
    → after.source.faults ≤ before.source.faults + 1 → after.sink.faults ≤ before.sink.faults + 1 → Serves words may before after status
serves words c may before after status is o reads writes = record {
  usage = λ e. absurd (not_usage c may before after status o e);
  refused = λ none. absurd (let e : Some c ≡ None = sym is ∙ none in cc);
  obeys = λ other e. subst (λ x. Obeys x may before after status) (same_command c other (meant words) is e) o;
  reads_once = reads;
  writes_once = writes;
}

-- want of memory while the words are read
says_if : (left : Option (List ℕ)) (P : List ℕ → Type 0) → ((input : List ℕ) → P input) → IfSome left P
says_if None P each = tt
says_if (Some input) P each = each input

unmade : (IsText : List ℕ → Type 0) (at : Outside) → Gives IsText at at NoMemory
unmade IsText at = record { reads = (keeps at.source.left, refl); says = (keeps at.sink.written, refl); settled = λ nw. inl refl }

undone : (out : Output) (at : Outside) → Does out at at NoMemory
undone out at = record { says = (keeps at.sink.written, refl); settled = λ nr nw. says_if at.source.left _ (λ input. inl refl) }

unread : (c : Command) (may : ℕ → Bool) (at : Outside) → Obeys c may at at NoMemory
unread (Steps batch packet) may at = undone (IsSerialOutput batch packet) at
unread (Run batch packet) may at = undone (IsThreadOutput batch packet may) at
unread (Make number) may at = unmade (λ text. text ≡ made number) at
unread (SelfTest number batch) may at = unmade (IsSums number batch) at
unread (Check packet) may at = record { says = (tt, (keeps at.sink.written, refl)); settled = λ nr nw. says_if at.source.left _ (λ input. inl refl) }
