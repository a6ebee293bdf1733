-- The one spelling of a line (this project's own). Numbers are decimal, but for those of requests. What a request asks by
-- a call is spelled as the command that makes the call.
use Rattle.std.specs.Prelude.{ℕ, ◌+◌, List, [], ◌∷◌, ◌++◌, Some, codes}
use Rattle.client_script.specs.Imports.{GetStc as StcRequest, PesParams, Request, SectionParams, argument_of, big_bytes, client_text, decimal, demux_text, filter_text, hex_text, input_text, number_of, output_text, slot_text}
use Rattle.client_script.specs.Script.{Scripted, with_said, written_by}
use Rattle.client_script.specs.declared.said.Said.{Said}
use Rattle.client_script.specs.declared.said.Said.TheVariants.{Asks, Writes}
use Rattle.client_script.specs.declared.line.Verb.{Verb}
use Rattle.client_script.specs.declared.line.Verb.TheVariants.{Once, ReadWait, Drain, GetStc, Write}
use Rattle.client_script.specs.declared.line.Want.{Want}
use Rattle.client_script.specs.declared.line.Want.TheVariants.{Open, Close, Section, Pes, Add, Remove, Start, Stop, Size, Read, Poll}
use Rattle.client_script.specs.declared.line.Target.{Target}
use Rattle.client_script.specs.declared.line.Target.TheVariants.{Node, Slot, Dvr}
use Rattle.client_script.specs.declared.line.Line.{Line}
use Rattle.client_script.specs.declared.line.Line.TheVariants.{Feed, Tick, Command}

-- ------ names

-- the name of a command that makes one call
unfoldable pub want_text : Want → List ℕ
want_text Open = codes "open"
want_text Close = codes "close"
want_text (Section p) = codes "section"
want_text (Pes p) = codes "pes"
want_text (Add pid) = codes "add"
want_text (Remove pid) = codes "remove"
want_text Start = codes "start"
want_text Stop = codes "stop"
want_text (Size n) = codes "size"
want_text (Read n) = codes "read"
want_text Poll = codes "poll"

-- a command's name
unfoldable pub name_text : Verb → List ℕ
name_text (Once want) = want_text want
name_text (ReadWait n) = codes "readw"
name_text (Drain n) = codes "drain"
name_text (GetStc num) = codes "ioctl"
name_text (Write write) = codes "write"

-- a target
unfoldable pub target_text : Target → List ℕ
target_text (Node n) = demux_text n
target_text (Slot n) = slot_text n
target_text Dvr = codes "dvr"

-- ------ what stands behind a target

-- a number behind a space
abbrev pub number_text : ℕ → List ℕ
number_text n = codes " " ++ decimal n

-- ` PID TIMEOUT FLAGS`, and each place whose bytes aren't all 0
unfoldable pub section_text : SectionParams → List ℕ
section_text p = number_text p.pid ++ (number_text p.timeout ++ (number_text p.flags ++ filter_text p.filter))

-- ` PID INPUT OUTPUT TYPE FLAGS`
unfoldable pub pes_text : PesParams → List ℕ
pes_text p =
    number_text p.pid ++ (codes " " ++ (input_text p.input ++ (codes " " ++ (output_text p.output
    ++ (number_text p.pes_type ++ number_text p.flags)))))

-- what one call wants behind the target
unfoldable pub want_arguments_text : Want → List ℕ
want_arguments_text (Section p) = section_text p
want_arguments_text (Pes p) = pes_text p
want_arguments_text (Add pid) = number_text pid
want_arguments_text (Remove pid) = number_text pid
want_arguments_text (Size n) = number_text n
want_arguments_text (Read n) = number_text n
want_arguments_text _ = []

-- ` REQ ARG`: the number of a request and its argument, in hexadecimal digits
unfoldable pub request_text : Request → List ℕ
request_text r =
    codes " " ++ (hex_text (big_bytes 4 (number_of r)) ++ (codes " " ++ hex_text (argument_of r)))

-- ` HEX`: bytes in hexadecimal digits
unfoldable pub bytes_text : List ℕ → List ℕ
bytes_text bytes = codes " " ++ hex_text bytes

-- what a command wants behind its target, where these are the bytes of its client's writes
unfoldable pub arguments_text : (written : ℕ → List ℕ) → Verb → List ℕ
arguments_text written (Once want) = want_arguments_text want
arguments_text written (ReadWait n) = number_text n
arguments_text written (Drain n) = number_text n
arguments_text written (GetStc num) = request_text (StcRequest num)
arguments_text written (Write write) = bytes_text (written write)

-- ------ lines

-- a client's command
unfoldable pub command_text : (written : ℕ → List ℕ) → (client : ℕ) → Target → Verb → List ℕ
command_text written client target verb =
    client_text client ++ (codes " " ++ (name_text verb ++ (codes " " ++ (target_text target ++ arguments_text written verb))))

-- a line, without its line feed, where these are the writes of the clients
unfoldable pub line_text : (writes : List (List (List ℕ))) → Line → List ℕ
line_text writes (Feed n) = codes "feed" ++ number_text n
line_text writes (Tick n) = codes "tick" ++ number_text n
line_text writes (Command line client target verb) = command_text (written_by client writes) client target verb

-- The one spelling of a line, with its line feed.
abbrev pub spelling : (writes : List (List (List ℕ))) → Line → List ℕ
spelling writes line = line_text writes line ++ 10 ∷ []

-- ------ lines and their numbers

-- a line as the one of this number; those of the feeder and the clock have none
abbrev pub with_number : ℕ → Line → Line
with_number number (Feed n) = Feed n
with_number number (Tick n) = Tick n
with_number number (Command line client target verb) = Command number client target verb

-- what a line says, as the one of this number, where these are the writes of the clients
abbrev pub said_again : (number : ℕ) → (writes : List (List (List ℕ))) → Line → Said
said_again number writes (Command line client target (Write write)) = Writes number client (written_by client writes write)
said_again number writes line = Asks (with_number number line)

-- a script with what these lines say, of which the first has this number
abbrev pub with_all : (number : ℕ) → (writes : List (List (List ℕ))) → List Line → Scripted → Scripted
with_all number writes [] s = s
with_all number writes (line ∷ lines) s =
    with_all (number + 1) writes lines (with_said (Some (said_again number writes line)) s)
