-- The session of a number: its script has no fault, and it is short.
use Rattle.emu_top.proofs.Imports.{◌≡◌, ◌∙◌, List, ℕ, subst, made, Of188, Refuses, Runs, ◌<◌, ◌≤◌, ◌+◌, ◌*◌, ◌%◌, refl, sym, ap, suc, zero, Bool, true, false, [], ◌∷◌, ◌++◌, length, take, drop, append-nil, arith, length-append, take_all, length-replicate, Option, None, Ok, Err, is_ok, replicate, Consumes, IsAtEnd, w16, w32, w64, to_be_bytes, SourceEnd, crc, told_head, head_of, split, script_len, whole_lines, Parsed, Scripted, are_spelled, split-found, summary_of, Left, Kind, packet_at, carrying, section, section_front, bytes_written, ReadsTo, IsSession, IsSums, Status, Usage, Script, TooLong, ReadFault, WriteFault, NoMemory, Done, Wrong, packets, payload}
use Rattle.std.proofs.Common.{Some}
use Rattle.emu_top.proofs.numbered.sums_of.Goals as goal
use Rattle.text_forms.specs.Numbers.{value_after}
use Rattle.text_forms.specs.Hex.{hex_digit, hex_byte}
use Rattle.text_forms.specs.Words.{input_named, output_named}
use Rattle.text_forms.specs.Names.{numbered}
use Rattle.filter_match.specs.Places.{with_place}
use Rattle.text_forms.specs.Places.{place_with, place_named}
use Rattle.client_script.specs.Words.{word_in}
use Rattle.client_script.specs.Places.{places_in, filter_in}
use Rattle.client_script.specs.Grammar.{number_in, numbered_target, target_of, name_of, section_in, pes_in, verb_in, command_in, asked_in, line_in, line_of, meaning}
use Rattle.client_script.specs.Script.{grammar, lines_from}
use Rattle.ts_make.specs.Script.{script}
use Rattle.emu_top.proofs.Answering.{by_taken, not_too_long, split_more, steady}

-- ------ its script

script_length : length script ≡ 656
unfolding script
script_length = refl

script_end : script_len (whole_lines script) ≡ Some 656
unfolding script
script_end = refl

says_if : (p : Parsed) → is_ok p ≡ true → (says : Scripted) × (p ≡ Ok says)
says_if (Ok says) e = (says, refl)
says_if (Err fault) e = absurd (cc)

has_script : is_ok (grammar script) ≡ true
unfolding script value_after hex_digit hex_byte word_in place_with place_named places_in with_place filter_in number_in input_named output_named numbered numbered_target target_of name_of section_in pes_in verb_in command_in asked_in line_in line_of meaning lines_from grammar
has_script = refl

parts : (number : ℕ) → split (made number) ≡ record { script = take 656 script; stream = Some (drop 656 script ++ packets number 65536) }
unfolding made
parts number = split-found script (packets number 65536) 656 (omega (arith, script_length)) script_end

says_of : (number : ℕ) → (says : Scripted) × (grammar (split (made number)).script ≡ Ok says)
says_of number =
    let says = says_if (grammar script) has_script in
    (says.0, ap (λ p. grammar p.script) (parts number) ∙ (ap grammar (take_all 656 script (omega (arith, script_length))) ∙ says.1))

-- ------ how long it is

payload_length : (place n : ℕ) → length (payload place n) ≡ n
unfolding payload
payload_length place zero = refl
payload_length place (suc n) =
    let rest = payload_length place n in
    let more = length-append (payload place n) ((place + n) % 256 ∷ []) in
    omega arith

section_length : (table_id place : ℕ) → length (section table_id place) ≡ 20
section_length table_id place =
    let front = section_front table_id place in
    let whole = length-append front (to_be_bytes w32 (crc front)) in
    let check : length (to_be_bytes w32 (crc front)) ≡ 4 = refl in
    let long = length-append (to_be_bytes w16 place) (0xc1 ∷ 0x00 ∷ 0x00 ∷ to_be_bytes w64 place) in
    let short : length (to_be_bytes w16 place) ≡ 2 = refl in
    let number : length (to_be_bytes w64 place) ≡ 8 = refl in
    omega arith

carried_length : (table : Option ℕ) (kind : Kind) (place word counter : ℕ) → length (carrying table kind place word counter) ≡ 188
carried_length (Some table_id) kind place word counter =
    let behind = length-append (section table_id place) (replicate 163 0xff) in
    let has = section_length table_id place in
    let stuffing = length-replicate {A = ℕ} 163 0xff in
    omega arith
carried_length None kind place word counter = let has = payload_length place 184 in omega arith

packets_length : (number n : ℕ) → length (packets number n) ≡ 188 * n
unfolding packets
packets_length number zero = refl
packets_length number (suc n) =
    let rest = packets_length number n in
    let more = length-append (packets number n) (packet_at number n) in
    let one : length (packet_at number n) ≡ 188 = carried_length _ _ n _ _ in
    omega arith

short : (number : ℕ) → length (made number) < 4294967296
unfolding made
short number =
    let whole = length-append script (packets number 65536) in
    let stream = packets_length number 65536 in
    omega (arith, script_length)

-- ------ its run

-- a source of which no read failed, and of which so much is left
abbrev pub unfailed : Option (List ℕ) → SourceEnd
unfailed left = record { left = left; faults = 0 }

-- nothing but want of memory is told in place of its run
pub refused : (number : ℕ) (left : Option (List ℕ)) (status : Status) → Refuses (unfailed (Some (made number))) (unfailed left) status → status ≡ NoMemory
refused number left Usage r = absurd r
refused number left (Script fault) r = absurd (let e : Ok (says_of number).0 ≡ Err fault = sym (says_of number).1 ∙ r.1 in cc)
refused number left (TooLong turns) g =
    let t = by_taken (made number) left g.bytes g.taken in
    let parts = (split_more g.bytes t.0 g.stream g.session.behind).1 in
    let fits : length g.stream + bytes_written g.script ≤ length g.bytes = omega (arith, parts, are_spelled (split g.bytes).script g.script g.session.says) in
    absurd (not_too_long (made number) g.bytes t.0 g.stream g.script turns t.1 (short number) fits g.known g.cause)
refused number left ReadFault r = absurd (steady 0 0 refl r.rose)
refused number left WriteFault r = absurd r
refused number left NoMemory r = refl
refused number left Done r = absurd r
refused number left (Wrong fault) r = absurd r

read_whole : (input : List ℕ) (left : Option (List ℕ)) (bytes : List ℕ) → Consumes (Some input) left bytes → IsAtEnd left → input ≡ bytes
read_whole input None bytes con end = absurd con
read_whole input (Some rest) bytes con end = con ∙ (ap (λ r. bytes ++ r) end ∙ append-nil bytes)

summed_by : (number batch : ℕ) (left : Option (List ℕ)) (ran : Left) (text : List ℕ) (failed : Bool) → ran.head.read_fault ≡ failed → Runs batch Of188 (unfailed (Some (made number))) (unfailed left) ran
    → text ≡ summary_of (told_head ran.head) ran.histories → IsSums number batch text
summed_by number batch left ran text true is r e = absurd (steady 0 0 refl (subst (λ b. ReadsTo b (unfailed (Some (made number))) (unfailed left)) is r.reads))
summed_by number batch left ran text false is r e =
    let reads : ReadsTo false (unfailed (Some (made number))) (unfailed left) = subst (λ b. ReadsTo b (unfailed (Some (made number))) (unfailed left)) is r.reads in
    let whole : made number ≡ r.bytes = read_whole (made number) left r.bytes r.taken reads.1 in
    record {
      script = r.script;
      stream = r.stream;
      run = r.run;
      session = subst (λ bytes. IsSession bytes r.script r.stream) (sym whole) r.session;
      ran = r.ran;
      sums = e ∙ (ap (λ h. summary_of h ran.histories) (r.head ∙ ap (head_of Of188 r.stream) is) ∙ ap (summary_of (head_of Of188 r.stream false)) r.histories);
    }

-- the sums of its run
pub summed : (number batch : ℕ) (left : Option (List ℕ)) (ran : Left) (text : List ℕ) → Runs batch Of188 (unfailed (Some (made number))) (unfailed left) ran
    → text ≡ summary_of (told_head ran.head) ran.histories → IsSums number batch text
summed number batch left ran text r e = summed_by number batch left ran text ran.head.read_fault refl r e

pub returns-in-Err-clause-refuses : goal.returns-in-Err-clause-refuses
returns-in-Err-clause-refuses c =
    let content : c.deref.result.now ≡ made c.args.number = c.deref.ensures.value ∙ c.in-Ok.ensures in
    refused c.args.number _ c.in-Err.status (subst (λ (bytes : List ℕ). Refuses (unfailed (Some bytes)) (unfailed (Some c.ran_of.new.source.rest.now)) c.in-Err.status) content c.in-Err.ensures.refuses)

pub returns-in-Ok-summary-clause-sums : goal.returns-in-Ok-summary-clause-sums
returns-in-Ok-summary-clause-sums c =
    let content : c.deref.result.now ≡ made c.args.number = c.deref.ensures.value ∙ c.in-Ok.ensures in
    summed c.args.number c.args.batch _ c.in-Ok-ran_of.ran c.in-Ok-summary.text.items
    (subst (λ (bytes : List ℕ). Runs c.args.batch Of188 (unfailed (Some bytes)) (unfailed (Some c.ran_of.new.source.rest.now)) c.in-Ok-ran_of.ran) content c.in-Ok-ran_of.ensures.runs) c.in-Ok-summary.ensures
