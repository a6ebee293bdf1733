use Rattle.emu_top.proofs.Imports.{◌≡◌, ◌≤◌, ◌++◌, ◌+◌, ◌∙◌, ap, take, drop, length, rules, arith, length-append, length-take-le, take-append-le, common_steps, Consumes-trans, script_len, whole_lines}
use Rattle.std.proofs.Common.{None}
use Rattle.emu_top.proofs.Fronts.{ahead_of}
use Rattle.emu_top.proofs.part.read_front.Goals as goal

pub reading-preserved : goal.reading-preserved
reading-preserved g c =
    let into = c.read.new.into in
    let found = take c.in-Ok.count into in
    let within : c.in-Ok.count ≤ length into = search rules in
    let same : take c.in-Ok.count (into ++ drop c.min-want.result c.reading.chunk) ≡ found = take-append-le c.in-Ok.count into (drop c.min-want.result c.reading.chunk) within in
    let is : c.add.new.self ≡ c.reading.part ++ found = c.in-Ok-add.ensures.added ∙ ap (λ f. c.reading.part ++ f) same in
    let none : script_len (whole_lines c.reading.part) ≡ None = search rules in
    let long : length (c.reading.part ++ found) ≡ length c.reading.part + length found = length-append c.reading.part found in
    let some : 1 ≤ c.in-Ok.count = grind (arith, common_steps, c.in-Ok.count-test) in
    let size : length found ≡ c.in-Ok.count = length-take-le c.in-Ok.count into within in
    let room : length c.reading.part + c.in-Ok.count ≤ 1048576 = grind (arith, common_steps, within, c.min-want.ensures, c.bytes-in-reading.ensures) in
    let most : c.in-Ok.count ≤ 65536 = grind (arith, common_steps, within, c.min-want.ensures) in
    rw is (record {
      within = omega arith;
      bytes = Consumes-trans _ _ _ _ _ c.reading.invariant.bytes c.in-Ok.ensures.bytes.0;
      steady = search rules;
      counted = omega (arith, c.reading.invariant.counted);
      ahead = ahead_of c.reading.part found none (omega arith);
    })
