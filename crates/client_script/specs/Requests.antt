-- The requests of programs as commands: the words of a line `ioctl`, and what is asked by them. The numbers and the
-- structures of requests are dmx_abi's, those of inputs and outputs linux/dvb/dmx.h's; how words spell them is this
-- project's own.
use Rattle.std.specs.Prelude.{ℕ, ◌==◌, List, [], Option, Some, None, length, if◌then◌else◌, codes}
use Rattle.client_script.specs.Imports.{Decoder, Dvr, Frontend, Input, Output, Request, Tap, TsTap, TsdemuxTap, argument_len, big_number, decoded, hex_bytes, is_word, option_map, result_ok}
use Rattle.dmx_abi.specs.declared.request.Request.TheVariants as request
use Rattle.client_script.specs.Words.{Reading, and_then, or_fault, next_as}
use Rattle.client_script.specs.declared.fault.FaultKind.TheVariants.{Number, Name, Bytes}
use Rattle.client_script.specs.declared.wanted.WantedWord.TheVariants.{Request as RequestNumber, Argument}
use Rattle.client_script.specs.declared.line.Verb.{Verb}
use Rattle.client_script.specs.declared.line.Verb.TheVariants.{Once, GetStc}
use Rattle.client_script.specs.declared.line.Want.{Want}
use Rattle.client_script.specs.declared.line.Want.TheVariants as want

-- ------ what a request asks

-- enum dmx_input
abbrev pub input_of : ℕ → Option Input
input_of number = if number == 0 then Some Frontend else (if number == 1 then Some Dvr else None)

-- enum dmx_output
abbrev pub output_of : ℕ → Option Output
output_of number =
    if number == 0 then Some Decoder
    else (if number == 1 then Some Tap
    else (if number == 2 then Some TsTap
    else (if number == 3 then Some TsdemuxTap else None)))

-- a PES filter, where its input and its output are any
abbrev pub pes_of : (pid : ℕ) → Option Input → Option Output → (pes_type flags : ℕ) → Option Want
pes_of pid (Some input) (Some output) pes_type flags =
    Some (want.Pes (record { pid = pid; input = input; output = output; pes_type = pes_type; flags = flags }))
pes_of pid _ _ pes_type flags = None

-- The call that a request asks of a node; None where its input or its output is none, and for a system time counter,
-- which no node has.
abbrev pub want_of : Request → Option Want
want_of (request.SetFilter pid filter mask mode timeout flags) =
    Some (want.Section (record {
      pid = pid;
      filter = record { filter = filter; mask = mask; mode = mode };
      timeout = timeout;
      flags = flags;
    }))
want_of (request.SetPes pid input output pes_type flags) =
    pes_of pid (input_of input) (output_of output) pes_type flags
want_of (request.SetSize size) = Some (want.Size size)
want_of request.Start = Some want.Start
want_of request.Stop = Some want.Stop
want_of (request.AddPid pid) = Some (want.Add pid)
want_of (request.RemovePid pid) = Some (want.Remove pid)
want_of (request.GetStc num) = None

-- What a command asks by a request; None where its input or its output is none.
abbrev pub verb_of : Request → Option Verb
verb_of (request.GetStc num) = Some (GetStc num)
verb_of r = option_map Once (want_of r)

-- ------ words

-- REQ: a number in eight hexadecimal digits, the highest first
unfoldable pub request_number : List ℕ → Option ℕ
request_number word = if length word == 8 then option_map (big_number 4) (hex_bytes 4 word) else None

-- ARG: `-` for no bytes, or 1 to 60 bytes in two hexadecimal digits each
unfoldable pub argument_named : List ℕ → Option (List ℕ)
argument_named word =
    if length word == 0 then None else (if is_word word (codes "-") then Some [] else hex_bytes 60 word)

-- the number, where a request has it
abbrev pub known_number : ℕ → Option ℕ
known_number number = option_map (λ len. number) (argument_len number)

-- the number of a request; one that no request has is a fault of the name
unfoldable pub request_number_in : List (List ℕ) → Reading ℕ
request_number_in words =
    and_then (next_as Number RequestNumber request_number words) (λ number words.
    or_fault Name RequestNumber (known_number number) words)

-- the request of this number with the argument in the next word
unfoldable pub request_in : (number : ℕ) → List (List ℕ) → Reading Request
request_in number words =
    and_then (next_as Bytes (Argument number) argument_named words) (λ argument words.
    or_fault Bytes (Argument number) (result_ok (decoded number argument)) words)

-- `REQ ARG`
unfoldable pub ioctl_in : List (List ℕ) → Reading Verb
ioctl_in words =
    and_then (request_number_in words) (λ number words.
    and_then (request_in number words) (λ request words.
    or_fault Name (Argument number) (verb_of request) words))
