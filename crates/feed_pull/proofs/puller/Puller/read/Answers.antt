use Rattle.feed_pull.proofs.Imports.{arith, ◌≡◌, [], refl, sym, ◌∙◌, nil_from_length, Consumes-nil}
use Rattle.feed_pull.proofs.PullLemmas.{Goes-same, Goes-read}
use Rattle.feed_pull.proofs.puller.Puller.read.Goals as goal

pub returns-then-self-eq-MOST_READS-clause-gathers : goal.returns-then-self-eq-MOST_READS-clause-gathers
returns-then-self-eq-MOST_READS-clause-gathers g c = rw (← c.self.view_is) (record { more = []; consumes = Consumes-nil _; goes = Goes-same _ _ c.self.invariant.rest refl refl refl refl refl refl refl refl })

pub returns-in-Err-clause-gathers : goal.returns-in-Err-clause-gathers
returns-in-Err-clause-gathers g c =
    let none = c.in-Err.ensures.failed in
    let was = rw (← c.self.view_is) at c.requires.empty in
    rw (← c.self.view_is) (record { more = []; consumes = rw none at c.in-Err.ensures.bytes; goes = Goes-same _ _ c.self.invariant.rest refl refl (none ∙ sym was) refl refl refl refl refl })

pub returns-in-Ok-eq0-clause-gathers : goal.returns-in-Ok-eq0-clause-gathers
returns-in-Ok-eq0-clause-gathers g c =
    let none : c.read.new.self ≡ [] = nil_from_length c.read.new.self (omega (arith, c.in-Ok-eq0.ensures.count, c.in-Ok-eq0.field-0-is)) in
    let was = rw (← c.self.view_is) at c.requires.empty in
    rw (← c.self.view_is) (record { more = []; consumes = rw none at c.in-Ok-eq0.ensures.bytes; goes = Goes-same _ _ c.self.invariant.rest refl refl (none ∙ sym was) refl refl refl refl refl })

pub returns-in-Ok-clause-gathers : goal.returns-in-Ok-clause-gathers
returns-in-Ok-clause-gathers g c =
    let was = rw (← c.self.view_is) at c.requires.empty in
    rw (← c.self.view_is) (record { more = c.read.new.self; consumes = c.in-Ok.ensures.bytes; goes = Goes-read _ _ c.self.invariant.rest was c.self.invariant.found refl refl c.in-Ok.ensures.fits refl refl (omega (arith, c.in-Ok.ensures.count)) (omega (arith, c.len.ensures.value)) refl })
