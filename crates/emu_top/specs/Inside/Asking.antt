-- What was read of what `check` is asked.
use Rattle.std.specs.Prelude.{◌≡◌, ⊤, ℕ, ◌+◌, ◌<◌, ◌≤◌, false, List, ◌++◌, length, Some, Ok}
use Rattle.emu_top.specs.Imports.{Consumes, OfStream, PacketSize, Pulling, SourceEnd, cut, head_of, told_head}
use Rattle.report_check.specs.declared.fault.Fault.{Fault}
use Rattle.emu_top.specs.Checking.{asked, asked_in}
use Rattle.emu_top.specs.declared.status.Status.{Status}
use Rattle.emu_top.specs.declared.status.Status.TheVariants.{TooLong, ReadFault, NoMemory, Ok as Done, Wrong}
use Rattle.emu_top.specs.declared.stream.Stream.{Stream}

-- whatever follows the bytes that were taken, a report of so many bytes begins there
pub record AsksFor (size : ℕ) (before after : SourceEnd) : Type 0 where
  pub bytes : List ℕ
  pub taken : Consumes before.left after.left bytes
  pub steady : after.faults ≡ before.faults
  pub parts : (more : List ℕ) → asked (bytes ++ more) ≡ asked_in more (Some size)

-- whatever follows the bytes that were taken, they hold this report, and the session begins there
pub record Begins (report : List ℕ) (before after : SourceEnd) : Type 0 where
  pub bytes : List ℕ
  pub taken : Consumes before.left after.left bytes
  pub steady : after.faults ≡ before.faults
  pub parts : (more : List ℕ) → asked (bytes ++ more) ≡ Ok (record { report = report; session = more })

-- these are the packets and the head of a stream of these bytes, all of which was read
pub record IsWholeOf (size : PacketSize) (bytes : List ℕ) (stream : Stream) : Type 0 where
  pub packets : stream.packets.items ≡ (cut size bytes).packets
  pub head : told_head stream.head ≡ head_of size bytes false

-- why the stream of a puller isn't read to its end
abbrev pub IsCutOff : (before after : SourceEnd) → Pulling → Status → Type 0
IsCutOff before after puller ReadFault =
    ((taken : List ℕ) × Consumes before.left after.left taken) × (before.faults < after.faults)
IsCutOff before after puller (TooLong turns) =
    (turns ≡ 4294967296) × OfStream before after puller (λ ahead taken. turns ≤ puller.start + length taken)
IsCutOff before after puller NoMemory = ⊤
IsCutOff before after puller _ = ⊥

-- the status where this is wrong with a report, by the status of writing the answer
abbrev pub wrong_as : Fault → Status → Status
wrong_as fault Done = Wrong fault
wrong_as fault status = status
