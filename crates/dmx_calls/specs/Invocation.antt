-- Invocations: the calls of a history, as plain data.
use Rattle.std.specs.Prelude.{ℕ, List, [], length}
use Rattle.dmx_calls.specs.declared.params.Input.{Input}
use Rattle.dmx_calls.specs.declared.params.SectionParams.{SectionParams}
use Rattle.dmx_calls.specs.declared.params.PesParams.{PesParams}

-- A call on a demux node or on the dvr node. `now` is the moment at which it is made, in milliseconds. A Read is seen
-- by its count, and a Pass by the packets of its batch with the number of the first.
pub data Invocation : Type 0 where
  Open : Invocation
  Close : Invocation
  SetFilter : SectionParams → (now : ℕ) → Invocation
  SetPes : PesParams → (now : ℕ) → Invocation
  AddPid : (pid : ℕ) → Invocation
  RemovePid : (pid : ℕ) → Invocation
  Start : (now : ℕ) → Invocation
  Stop : Invocation
  SetSize : (size : ℕ) → Invocation
  Read : (now count : ℕ) → Invocation
  Poll : (now : ℕ) → Invocation
  Pass : Input → (first : ℕ) → (packets : List (List ℕ)) → (now : ℕ) → Invocation
  End : Invocation
  Attach : (node : ℕ) → (pids : List ℕ) → Invocation
  Detach : (node : ℕ) → Invocation

-- the packets that a call brings
abbrev pub brought : Invocation → List (List ℕ)
brought (Pass input first packets now) = packets
brought _ = []

-- how many there are
abbrev pub packets_of_call : Invocation → ℕ
packets_of_call call = length (brought call)
