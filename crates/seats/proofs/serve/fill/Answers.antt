-- Lists of which a part is written.
use Rattle.seats.proofs.Imports.{◌≡◌, ◌≤◌, ◌+◌, ◌-◌, ◌++◌, ◌∙◌, ℕ, length, take, rules, subst, arith, places, Consumes, Consumes-trans, put_mid, List, ap, length-take-le, take-append-le, take-append-add, post_of}
use Rattle.seats.proofs.Wiring.{ends_short, fails_short, keeps_all}
use Rattle.seats.proofs.serve.fill.Goals as goal

-- the front of a list behind whose first d members these were written
pub take_put : {A : Type 0} (d k n : ℕ) (xs ys : List A) → d ≤ length xs → n ≤ length ys → take (d + n) (put_mid d k xs ys) ≡ take d xs ++ take n ys
take_put d k n xs ys low few =
    let size = length-take-le d xs low in
    subst (λ (m : ℕ). take (m + n) (put_mid d k xs ys) ≡ take d xs ++ take n ys) size
    (take-append-add (take d xs) (ys ++ post_of d k xs) n ∙ ap (λ l. take d xs ++ l) (take-append-le n ys (post_of d k xs) few))

pub reading-preserved : goal.reading-preserved
reading-preserved g c =
    let into = c.reading.into in let piece = c.read.new.into in let d = c.reading.done in let n = c.in-Ok.count in
    let within = c.reading.invariant.within in
    let size : length piece ≡ length into - d = search (rules, places) in
    let few : n ≤ length piece = search rules in
    let front : take (d + n) (put_mid d (length into - d) into piece) ≡ take d into ++ take n piece = take_put d (length into - d) n into piece within few in
    let long : length (put_mid d (length into - d) into piece) ≡ length into = search (rules, places) in
    record {
      within = omega (arith, long, size, few, within);
      long = long ∙ c.reading.invariant.long;
      bytes = rw front (Consumes-trans _ _ _ _ _ c.reading.invariant.bytes c.in-Ok.ensures.bytes.0);
      steady = c.in-Ok.ensures.cause.ok ∙ c.reading.invariant.steady;
    }

pub returns-in-Ok-eq0-clause-short : goal.returns-in-Ok-eq0-clause-short
returns-in-Ok-eq0-clause-short g c stopped =
    let into = c.reading.into in let piece = c.read.new.into in let d = c.reading.done in
    let v = c.reading.invariant in let long = v.long in let test = c.reading-test.true in
    let size : length piece ≡ length into - d = search (rules, places) in
    let none : c.in-Ok-eq0.field-0 ≡ 0 = c.in-Ok-eq0.field-0-test in let bytes = c.in-Ok-eq0.ensures.bytes in
    ends_short (length c.args.into.now) d (g.S.Source.end c.args.source.now) (g.S.Source.end c.reading.source) (g.S.Source.end c.read.new.self) into v.within (omega (arith, test, long)) v.bytes v.steady
    (keeps_all _ _ (subst (λ (n : ℕ). Consumes (g.S.Source.end c.reading.source).left (g.S.Source.end c.read.new.self).left (take n piece)) none bytes.0)) (bytes.1 none (omega (arith, size, test))) c.in-Ok-eq0.ensures.cause.ok

pub returns-in-Err-clause-short : goal.returns-in-Err-clause-short
returns-in-Err-clause-short g c stopped =
    let v = c.reading.invariant in let long = v.long in let test = c.reading-test.true in
    fails_short (length c.args.into.now) c.reading.done (g.S.Source.end c.args.source.now) (g.S.Source.end c.reading.source) (g.S.Source.end c.read.new.self) c.reading.into v.within (omega (arith, test, long)) v.bytes v.steady
    c.in-Err.ensures.bytes c.in-Err.ensures.cause.failed
