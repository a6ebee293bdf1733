-- The text of a reply (this project's own).
use Rattle.std.specs.Prelude.{ℕ, Bool, true, false, List, [], ◌∷◌, ◌++◌, codes}
use Rattle.report_text.specs.Imports.{Again, Busy, Data, Done, NoMemory, Overflow, Passed, Ready, Refused, Response, TapChange, TimedOut, decimal, errno_text, hex_text, pending_text, who_text}
use Rattle.dmx_calls.specs.declared.reply.Tap.TheVariants.{Keep as KeepTap, Attach as AttachTap, Detach as DetachTap}
use Rattle.report_text.specs.Acts.{pids_text}

unfoldable pub flag_text : Bool → List ℕ
flag_text true = codes "1"
flag_text false = codes "0"

-- the bytes of a read in hexadecimal digits, or `-` where there are none
unfoldable pub data_text : List ℕ → List ℕ
data_text [] = codes "-"
data_text (byte ∷ bytes) = hex_text (byte ∷ bytes)

-- what the dvr node is to be told
unfoldable pub tap_text : TapChange → List ℕ
tap_text KeepTap = codes "keep"
tap_text (AttachTap pids) = codes "attach:" ++ pids_text pids
tap_text DetachTap = codes "detach"

-- a reply
unfoldable pub response_text : Response → List ℕ
response_text (Done from to tap) =
    codes "done drop=" ++ (decimal from ++ (codes ".." ++ (decimal to ++ (codes " tap=" ++ tap_text tap))))
response_text (Busy owner) = codes "busy owner=" ++ who_text owner
response_text (Refused errno) = errno_text errno
response_text NoMemory = codes "ENOMEM"
response_text (Data bytes) = codes "data " ++ data_text bytes
response_text (Again ended) = codes "again ended=" ++ flag_text ended
response_text (Overflow from to item need room) =
    codes "overflow " ++ (decimal from ++ (codes ".." ++ (decimal to ++ (codes " item=" ++ (decimal item
    ++ (codes " need=" ++ (decimal need ++ (codes " room=" ++ decimal room))))))))
response_text (TimedOut started now timeout) =
    codes "timedout started=" ++ (decimal started
    ++ (codes " now=" ++ (decimal now ++ (codes " timeout=" ++ decimal timeout))))
response_text (Ready readable error at ended) =
    codes "ready readable=" ++ (flag_text readable ++ (codes " error=" ++ (pending_text error
    ++ (codes " at=" ++ (decimal at ++ (codes " ended=" ++ flag_text ended))))))
response_text Passed = codes "passed"
