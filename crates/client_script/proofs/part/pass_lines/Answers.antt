use Rattle.client_script.proofs.Imports.{◌≡◌, true, false, rules, arith, All-nil, ◌==◌, is_stream, FallsInto}
use Rattle.client_script.proofs.Searching.{found-line, passed-line, behind-line, front-line}
use Rattle.client_script.proofs.part.pass_lines.Goals as goal

pub returns-then-is_word-clause-found : goal.returns-then-is_word-clause-found
returns-then-is_word-clause-found c =
    let falls : FallsInto c.lines.rest.now c.in-Some.line.now c.in-Some.behind.now = search rules in
    let is : is_stream c.in-Some.line.now ≡ true = search rules in
    λ e. found-line c.lines.passed c.args.bytes.now c.lines.rest.now c.in-Some.line.now c.in-Some.behind.now c.lines.invariant.behind c.lines.invariant.passes falls is

pub returns-then-is_word-clause-front : goal.returns-then-is_word-clause-front
returns-then-is_word-clause-front c =
    let falls : FallsInto c.lines.rest.now c.in-Some.line.now c.in-Some.behind.now = search rules in
    front-line c.lines.passed c.args.bytes.now c.lines.rest.now c.in-Some.line.now c.in-Some.behind.now c.lines.invariant.behind c.lines.invariant.front falls

pub lines-preserved : goal.lines-preserved
lines-preserved c =
    let falls : FallsInto c.lines.rest.now c.in-Some.line.now c.in-Some.behind.now = search rules in
    let other : is_stream c.in-Some.line.now ≡ false = search rules in
    record {
      behind = behind-line c.lines.passed c.args.bytes.now c.lines.rest.now c.in-Some.line.now c.in-Some.behind.now c.lines.invariant.behind falls;
      front = front-line c.lines.passed c.args.bytes.now c.lines.rest.now c.in-Some.line.now c.in-Some.behind.now c.lines.invariant.behind c.lines.invariant.front falls;
      within = omega arith;
      none = All-nil (λ byte. (byte == 10) ≡ false);
      passes = passed-line c.lines.passed c.args.bytes.now c.lines.rest.now c.in-Some.line.now c.in-Some.behind.now c.lines.invariant.behind c.lines.invariant.passes falls other;
    }
