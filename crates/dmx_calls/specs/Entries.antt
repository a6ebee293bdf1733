-- The entries that calls of a node make.
use Rattle.std.specs.Prelude.{ℕ}
use Rattle.dmx_calls.specs.declared.reply.Answer.{Answer}
use Rattle.dmx_calls.specs.Invocation.{packets_of_call}
use Rattle.dmx_calls.specs.History.{Entry, entry_of}
use Rattle.dmx_calls.specs.Calls.{Call, invocation_of, response_of}

-- the entry that a caller's number, a call and its answer make
abbrev pub told : (who : ℕ) → Call → Answer → Entry
told who call answer = entry_of who (invocation_of call) (response_of answer.reply)

-- the number of the entry's caller
abbrev pub caller_of : Entry → ℕ
caller_of e = e.who

-- how many packets a call has, which is the most steps that a node takes for it
abbrev pub packets_of : Call → ℕ
packets_of call = packets_of_call (invocation_of call)
