-- What a seat tells, as bytes.
use Rattle.std.specs.Prelude.{ℕ, List, [], ◌++◌, length, slice_get, Option, Some, None}
use Rattle.seats.specs.Imports.{response_of}
use Rattle.seats.specs.Tells.{head_of, data_of}
use Rattle.seats.specs.declared.serve_frames.tell.Tell.{Tell}
use Rattle.seats.specs.declared.made.Made.{Made}

-- the bytes of a reply: its head, and behind that those that were read
abbrev pub reply_bytes : Tell → (bytes : List ℕ) → List ℕ
reply_bytes t bytes = head_of t (length bytes) ++ bytes

-- the bytes that were read by a call, if there is one
abbrev pub data_read : Option Made → List ℕ
data_read None = []
data_read (Some m) = data_of (response_of m.reply)

-- the call in this place of the last ones, if one is told
abbrev pub call_at : List Made → (at : Option ℕ) → Option Made
call_at made None = None
call_at made (Some i) = slice_get made i
