-- The bytes that a client writes to the dvr device by one line (this project's own).
use Rattle.std.specs.Prelude.{ℕ, ◌≤◌, ◌<◌, ◌==◌, List, length, Option, None, if◌then◌else◌}
use Rattle.client_script.specs.Imports.{All, hex_bytes}

-- the most bytes of a write: those of 64 packets
abbrev pub most_written : ℕ
most_written = 12032

-- HEX: 1 to 12,032 bytes in two hexadecimal digits each
unfoldable pub written_named : List ℕ → Option (List ℕ)
written_named word = if length word == 0 then None else hex_bytes most_written word

-- what is known of the bytes of a write
pub record IsWritten (bytes : List ℕ) : Type 0 where
  pub some : 1 ≤ length bytes
  pub few : length bytes ≤ most_written
  pub each : All (λ byte. byte < 256) bytes
