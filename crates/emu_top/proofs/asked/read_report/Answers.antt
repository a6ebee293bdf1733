use Rattle.emu_top.proofs.Imports.{◌≡◌, ◌+◌, ap, length, rules, AsksFor}
use Rattle.std.proofs.Common.{Err}
use Rattle.emu_top.proofs.Asks.{begins, fails_in_report}
use Rattle.emu_top.proofs.asked.read_report.Goals as goal

pub returns-in-Err-Failed-read_bytes-clause-declines : goal.returns-in-Err-Failed-read_bytes-clause-declines
returns-in-Err-Failed-read_bytes-clause-declines g c =
    let asks : AsksFor c.in-Ok-Some.size (g.S.Source.end c.args.source.now) (g.S.Source.end c.read_size.new.source) = search rules in
    let f = c.in-Err-Failed-read_bytes.ensures.failed (ap Err c.in-Err-Failed-read_bytes.field-0-is) in
    let is : (g.S.Source.end c.read_bytes.new.source).faults ≡ (g.S.Source.end c.read_size.new.source).faults + 1 = search rules in
    fails_in_report _ _ _ c.in-Ok-Some.size f.0 asks f.1 f.2 is

pub returns-clause-begins : goal.returns-clause-begins
returns-clause-begins g c =
    let asks : AsksFor c.in-Ok-Some.size (g.S.Source.end c.args.source.now) (g.S.Source.end c.read_size.new.source) = search rules in
    let steady : (g.S.Source.end c.read_bytes.new.source).faults ≡ (g.S.Source.end c.read_size.new.source).faults = search rules in
    let all : length c.in-Ok.report.items ≡ c.in-Ok-Some.size = search rules in
    begins _ _ _ c.in-Ok-Some.size c.in-Ok.report.items asks c.in-Ok.ensures.bytes steady all
