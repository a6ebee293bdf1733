-- The exit status of the program, and the names of statuses (this project's own).
use Rattle.std.specs.Prelude.{ℕ, List, codes}
use Rattle.emu_top.specs.declared.status.Status.{Status}
use Rattle.emu_top.specs.declared.status.Status.TheVariants.{Ok, Usage, Script, TooLong, ReadFault, WriteFault, NoMemory, Wrong}

abbrev pub exit_status : Status → ℕ
exit_status Ok = 0
exit_status Usage = 2
exit_status (Script fault) = 3
exit_status (TooLong turns) = 4
exit_status ReadFault = 5
exit_status WriteFault = 6
exit_status NoMemory = 7
exit_status (Wrong fault) = 0

-- the name of a status, as the program tells it on standard error
unfoldable pub status_text : Status → List ℕ
status_text Ok = codes "ok"
status_text Usage = codes "usage"
status_text (Script fault) = codes "script"
status_text (TooLong turns) = codes "too long"
status_text ReadFault = codes "read failed"
status_text WriteFault = codes "write failed"
status_text NoMemory = codes "out of memory"
status_text (Wrong fault) = codes "report"
