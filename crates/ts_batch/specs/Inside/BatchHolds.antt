-- What holds of a batch's fields.
use Rattle.ts_batch.specs.declared.Batch.TheInside.{Inside}
use Rattle.ts_batch.specs.Batch.{IsBatch}
use Rattle.ts_batch.specs.Inside.IsIndex.{IsIndex}

pub record BatchHolds (b : Inside) : Type 0 where
  pub batch : IsBatch (record { first = b.first; packets = b.packets.items })
  pub index : IsIndex b.packets.items b.index
