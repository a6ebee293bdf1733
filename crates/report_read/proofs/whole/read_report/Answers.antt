use Rattle.report_read.proofs.Imports.{◌≡◌, ◌<◌, ◌≤◌, rules, length, Some, length-map, text_of, told_in, ArePartsInRange, told_of}
use Rattle.report_read.proofs.WholeAgain.{no_clients}
use Rattle.report_read.proofs.whole.read_report.Goals as goal

pub returns-then-not-are_few : goal.returns-then-not-are_few
returns-then-not-are_few c =
    let read : told_in c.args.bytes.now ≡ Some (told_of c.in-Some.told, c.read_told.new.bytes) = search rules in
    let far : 4294967295 < length c.in-Some.told.outcomes.items = search rules in
    no_clients c.args.bytes.now c.read_told.new.bytes (told_of c.in-Some.told) read (rw (length-map c.in-Some.told.outcomes.items (λ o. o.items)) far)

pub returns : goal.returns
returns c =
    let parts : ArePartsInRange (told_of c.in-Some.told) = rw c.in-Some.is at c.in_ok-told.ensures.range in
    let few : length c.in-Some.told.outcomes.items ≤ 4294967295 = search rules in
    let text : c.args.bytes.now ≡ text_of (told_of c.in-Some.told) = search rules in
    record {
      range = record { parts = parts; clients = rw (length-map c.in-Some.told.outcomes.items (λ o. o.items)) few };
      order = record { rows = search rules; nodes = search rules };
      text = text;
    }
