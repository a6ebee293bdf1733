-- When a script part is not read.
use Rattle.std.specs.Prelude.{◌≡◌, ℕ, ◌+◌, ◌≤◌, List, length, None, Result, OnOk, IsErrOf}
use Rattle.emu_top.specs.Imports.{Consumes, SourceEnd, most_bytes, script_len, whole_lines}
use Rattle.emu_top.specs.declared.part.PartError.{PartError}
use Rattle.emu_top.specs.declared.part.PartError.TheVariants.{Failed, NoMemory}

-- the count rose by one at `Failed`, and else stays as it was
pub record HasReadCause {T : Type 0} (before now : ℕ) (result : Result T PartError) : Type 0 where
  pub later : before ≤ now
  pub ok : OnOk result (now ≡ before)
  pub no_memory : IsErrOf result NoMemory → now ≡ before
  pub failed : IsErrOf result Failed → now ≡ before + 1

-- the bytes that were taken are searched, and don't hold the line `stream`
pub record IsUnended (before after : SourceEnd) : Type 0 where
  pub taken : List ℕ
  pub consumes : Consumes before.left after.left taken
  pub searched : length taken ≤ most_bytes
  pub none : script_len (whole_lines taken) ≡ None
