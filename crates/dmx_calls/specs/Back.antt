-- What an answer hands back of its call.
use Rattle.std.specs.Prelude.{◌≡◌, Option, Some, None, option_map}
use Rattle.ts_batch.specs.Batch.{Packets}
use Rattle.dmx_calls.specs.Calls.{Call}
use Rattle.dmx_calls.specs.declared.call.Call.TheVariants.{Pass}
use Rattle.dmx_calls.specs.declared.reply.Answer.{Answer}

-- the batch of a Pass
abbrev pub HandsBackBatch : Call → Option Packets → Type 0
HandsBackBatch (Pass input batch now) back = back ≡ Some batch.value
HandsBackBatch _ back = back ≡ None

abbrev pub GivesBack : Call → Answer → Type 0
GivesBack call answer = HandsBackBatch call (option_map (λ batch. batch.value) answer.batch)
