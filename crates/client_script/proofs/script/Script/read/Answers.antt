use Rattle.client_script.proofs.Imports.{◌≡◌, ◌∷◌, [], length, true, false, ap, ◌∙◌, rules, arith, Ok, Err, meaning, whole_lines, is_stream, with_said}
use Rattle.client_script.proofs.Cuts.{length-whole_lines}
use Rattle.client_script.proofs.Scripts.{missing_in, script_by-start, script_by-end, script_by-stream, script_by-fault, script_by-line}
use Rattle.client_script.proofs.Taking.{lines_more, writes_more, no_writes_below}
use Rattle.client_script.proofs.script.Script.read.Goals as goal

pub lines-init : goal.lines-init
lines-init c = rw c.empty-script.ensures record { script = script_by-start c.args.bytes.now; ends = omega (arith, length-whole_lines c.args.bytes.now); fits = omega arith; few = omega arith; writes = no_writes_below 1 (omega arith) }

pub returns-then-is_word : goal.returns-then-is_word
returns-then-is_word c =
    let some : whole_lines c.lines.rest.now ≡ c.in-Some.line.now ∷ whole_lines c.in-Some.behind.now = search rules in
    let same : is_stream c.in-Some.line.now ≡ true = search rules in
    c.lines.invariant.script ∙ script_by-stream (missing_in c.args.bytes.now) c.lines.script c.lines.number c.lines.rest.now c.in-Some.line.now _ some same

pub returns-in-Err : goal.returns-in-Err
returns-in-Err c =
    let some : whole_lines c.lines.rest.now ≡ c.in-Some.line.now ∷ whole_lines c.in-Some.behind.now = search rules in
    let other : is_stream c.in-Some.line.now ≡ false = search rules in
    let means : meaning c.lines.number c.in-Some.line.now ≡ Err c.in-Err.fault = search rules in
    c.lines.invariant.script ∙ script_by-fault (missing_in c.args.bytes.now) c.lines.script c.lines.number c.lines.rest.now c.in-Some.line.now _ c.in-Err.fault some other means

pub lines-preserved : goal.lines-preserved
lines-preserved c =
    let some : whole_lines c.lines.rest.now ≡ c.in-Some.line.now ∷ whole_lines c.in-Some.behind.now = search rules in
    let other : is_stream c.in-Some.line.now ≡ false = search rules in
    let means : meaning c.lines.number c.in-Some.line.now ≡ Ok c.in-Ok.said = search rules in
    let added : c.add.new.self ≡ with_said c.in-Ok.said c.lines.script = search rules in
    rw added record {
      script = c.lines.invariant.script ∙ script_by-line (missing_in c.args.bytes.now) c.lines.script c.lines.number c.lines.rest.now c.in-Some.line.now c.in-Some.behind.now c.in-Ok.said some other means;
      ends = (let n = ap length some in omega arith);
      fits = search rules;
      few = lines_more c.in-Ok.said c.lines.script c.lines.number c.lines.invariant.few;
      writes = writes_more c.in-Ok.said c.lines.script c.lines.number c.lines.invariant.writes;
    }

pub returns : goal.returns
returns c =
    let none : whole_lines c.lines.rest.now ≡ [] = search rules in
    let n : length (whole_lines c.lines.rest.now) ≡ 0 = ap length none in
    let last : (missing_in c.args.bytes.now).line ≡ c.lines.number = omega arith in
    rw (← last) (c.lines.invariant.script ∙ script_by-end (missing_in c.args.bytes.now) c.lines.script c.lines.number c.lines.rest.now none)
