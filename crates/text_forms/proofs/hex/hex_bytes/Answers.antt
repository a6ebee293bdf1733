use Rattle.std.proofs.Common.{true, false}
use Rattle.text_forms.proofs.HexWords.{too_many_read, all_read, some_left}
use Rattle.text_forms.proofs.hex.hex_bytes.Goals as goal

pub returns-then-is_full-clause-value : goal.returns-then-is_full-clause-value
returns-then-is_full-clause-value g c =
    too_many_read g.row.MOST _ c.pairs.bytes.items c.pairs.rest.now c.is_full.result c.pairs.invariant.so_far c.is_full.ensures.value c.if-is_full.true
    (some_left c.pairs.rest.now c.is_empty.result c.is_empty.ensures c.pairs-test.true)

pub returns-clause-value : goal.returns-clause-value
returns-clause-value g c = all_read g.row.MOST _ c.pairs.bytes.items c.pairs.rest.now c.is_empty.result c.pairs.invariant.so_far c.is_empty.ensures c.pairs-test.false
