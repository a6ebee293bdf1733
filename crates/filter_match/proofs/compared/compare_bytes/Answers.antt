use Rattle.filter_match.proofs.Imports.{◌∙◌, refl, equals_at, differs_at}
use Rattle.filter_match.proofs.Bytes.{all-none, any-none, all-more, any-more, differences-is, equals-is, differs-is}
use Rattle.filter_match.proofs.compared.compare_bytes.Goals as goal

pub bytes-init : goal.bytes-init
bytes-init c = record { equals = all-none _; differs = any-none _ }

pub bytes-preserved : goal.bytes-preserved
bytes-preserved c =
    let f = c.args.filter.now in
    let s = c.args.section.now in
    let i = c.bytes.i in
    let is = differences-is f s i c.byte_at-byte.result (rw (← c.place_of.ensures) c.byte_at-byte.ensures) in
    record {
      equals = all-more (equals_at f s) i ∙ rw (c.bytes.invariant.equals, ← equals-is f s i _ is) refl;
      differs = any-more (differs_at f s) i ∙ rw (c.bytes.invariant.differs, ← differs-is f s i _ is) refl;
    }
