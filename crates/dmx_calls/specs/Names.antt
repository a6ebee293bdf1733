-- The words by which scripts and reports name what calls and replies are made of (this project's own).
use Rattle.std.specs.Prelude.{ℕ, List, codes}
use Rattle.dmx_calls.specs.declared.params.Input.{Input}
use Rattle.dmx_calls.specs.declared.params.Input.TheVariants as input
use Rattle.dmx_calls.specs.declared.params.Output.{Output}
use Rattle.dmx_calls.specs.declared.params.Output.TheVariants as output
use Rattle.dmx_calls.specs.declared.reply.Errno.{Errno}
use Rattle.dmx_calls.specs.declared.reply.Errno.TheVariants as errno
use Rattle.dmx_calls.specs.declared.reply.PollError.{PollError}
use Rattle.dmx_calls.specs.declared.reply.PollError.TheVariants as pending

-- where packets come from
unfoldable pub input_text : Input → List ℕ
input_text input.Frontend = codes "frontend"
input_text input.Dvr = codes "dvr"

-- where items go
unfoldable pub output_text : Output → List ℕ
output_text output.Decoder = codes "decoder"
output_text output.Tap = codes "tap"
output_text output.TsTap = codes "ts_tap"
output_text output.TsdemuxTap = codes "tsdemux_tap"

-- a refusal, by the name of its Linux error
unfoldable pub errno_text : Errno → List ℕ
errno_text errno.Ebadf = codes "EBADF"
errno_text errno.Ebusy = codes "EBUSY"
errno_text errno.Einval = codes "EINVAL"
errno_text errno.Enospc = codes "ENOSPC"

-- what a Poll finds pending
unfoldable pub pending_text : PollError → List ℕ
pending_text pending.Quiet = codes "none"
pending_text pending.Overflow = codes "overflow"
pending_text pending.TimedOut = codes "timedout"
