use Rattle.text_forms.proofs.Imports.{◌≡◌, ◌≤◌, length, ap, arith, length-decimal-le, decimal}
use Rattle.text_forms.proofs.places.put_place.Goals as goal

pub put-requires-2 : goal.put-requires-2
put-requires-2 c =
    let digits : length c.format.result.now ≡ length (decimal c.args.place.number) = ap length c.format.ensures.text in
    let short : length (decimal c.args.place.number) ≤ 2 = length-decimal-le 2 c.args.place.number (omega arith) (omega arith) (omega arith) in
    omega arith

pub returns-clause-len : goal.returns-clause-len
returns-clause-len c =
    let digits : length c.format.result.now ≡ length (decimal c.args.place.number) = ap length c.format.ensures.text in
    let short : length (decimal c.args.place.number) ≤ 2 = length-decimal-le 2 c.args.place.number (omega arith) (omega arith) (omega arith) in
    omega arith
