-- The requests of the demux device as a program makes them: a request number and the bytes of its argument. Source:
-- the headings DMX_START to DMX_REMOVE_PID of the Linux media API (Digital TV demux), and linux/dvb/dmx.h on the usual
-- ABI of 64 bits, whose numbers have their lowest byte first.
use Rattle.std.specs.Prelude.{◌≡◌, ◌≢◌, ℕ, ◌+◌, ◌*◌, ◌^◌, ◌==◌, List, [], length, take, drop, Option, Some, None, if◌then◌else◌}
use Rattle.byteorder.specs.Endian.{little_number}
use Rattle.dmx_abi.specs.declared.numbers.TheConstants.{START, STOP, SET_FILTER, SET_PES_FILTER, SET_BUFFER_SIZE, GET_STC, ADD_PID, REMOVE_PID}
use Rattle.dmx_abi.specs.declared.request.Request.{Request}
use Rattle.dmx_abi.specs.declared.request.Request.TheVariants as request
use Rattle.dmx_abi.specs.declared.request.AbiFault.{AbiFault}
use Rattle.dmx_abi.specs.declared.request.AbiFault.TheVariants.{Unknown, Length}

-- The number in so many bytes of an argument, from this byte on, the lowest first.
abbrev pub field : (at bytes : ℕ) → List ℕ → ℕ
field at bytes argument = little_number bytes (drop at argument)

-- The 16 bytes of an argument from this byte on.
abbrev pub sixteen : (at : ℕ) → List ℕ → List ℕ
sixteen at argument = take 16 (drop at argument)

-- What a number and an argument ask for. The bytes that no field has may be any: those at 50 and 51 of SET_FILTER,
-- those at 2 and 3 of SET_PES_FILTER, and `base` and `stc` from byte 4 of GET_STC on, which the device answers. The
-- argument of SET_BUFFER_SIZE is the size itself; that it has four bytes here is this project's rule.
abbrev pub Spells : (number : ℕ) → (argument : List ℕ) → Request → Type 0
Spells number argument request.Start = (number ≡ START) × (argument ≡ [])
Spells number argument request.Stop = (number ≡ STOP) × (argument ≡ [])
-- struct dmx_sct_filter_params, with struct dmx_filter at byte 2
Spells number argument (request.SetFilter pid filter mask mode timeout flags) =
    (number ≡ SET_FILTER) × (length argument ≡ 60) × (pid ≡ field 0 2 argument) × (filter ≡ sixteen 2 argument)
    × (mask ≡ sixteen 18 argument) × (mode ≡ sixteen 34 argument) × (timeout ≡ field 52 4 argument)
    × (flags ≡ field 56 4 argument)
-- struct dmx_pes_filter_params
Spells number argument (request.SetPes pid input output pes_type flags) =
    (number ≡ SET_PES_FILTER) × (length argument ≡ 20) × (pid ≡ field 0 2 argument) × (input ≡ field 4 4 argument)
    × (output ≡ field 8 4 argument) × (pes_type ≡ field 12 4 argument) × (flags ≡ field 16 4 argument)
Spells number argument (request.SetSize size) =
    (number ≡ SET_BUFFER_SIZE) × (length argument ≡ 4) × (size ≡ field 0 4 argument)
Spells number argument (request.AddPid pid) =
    (number ≡ ADD_PID) × (length argument ≡ 2) × (pid ≡ field 0 2 argument)
Spells number argument (request.RemovePid pid) =
    (number ≡ REMOVE_PID) × (length argument ≡ 2) × (pid ≡ field 0 2 argument)
-- struct dmx_stc
Spells number argument (request.GetStc num) =
    (number ≡ GET_STC) × (length argument ≡ 16) × (num ≡ field 0 4 argument)

-- How many bytes the argument of this number's request has; None where no request has the number.
abbrev pub argument_len : (number : ℕ) → Option ℕ
argument_len number =
    if number == START then Some 0
    else (if number == STOP then Some 0
    else (if number == SET_FILTER then Some 60
    else (if number == SET_PES_FILTER then Some 20
    else (if number == SET_BUFFER_SIZE then Some 4
    else (if number == GET_STC then Some 16
    else (if number == ADD_PID then Some 2
    else (if number == REMOVE_PID then Some 2 else None)))))))

-- Why a number and an argument ask for nothing: no request has the number, or its request has an argument of another
-- length.
abbrev pub IsFault : (number : ℕ) → (argument : List ℕ) → AbiFault → Type 0
IsFault number argument (Unknown told) = (argument_len number ≡ None) × (told ≡ number)
IsFault number argument (Length want found) =
    (argument_len number ≡ Some want) × (found ≡ length argument) × (found ≢ want)

-- A request number is made of four parts (asm-generic/ioctl.h): which ways the structure goes (1 from the program, 2
-- to the program, 3 both), how many bytes it has, the letter `o` of the DVB devices, and the place of the request in
-- their list.
abbrev pub request_number : (ways len place : ℕ) → ℕ
request_number ways len place = ways * 2 ^ 30 + len * 2 ^ 16 + 0x6f * 2 ^ 8 + place

-- The numbers of the requests, part by part, as linux/dvb/dmx.h has them.
abbrev pub AreNumbers : Type 0
AreNumbers =
    (START ≡ request_number 0 0 41) × (STOP ≡ request_number 0 0 42) × (SET_FILTER ≡ request_number 1 60 43)
    × (SET_PES_FILTER ≡ request_number 1 20 44) × (SET_BUFFER_SIZE ≡ request_number 0 0 45)
    × (GET_STC ≡ request_number 3 16 50) × (ADD_PID ≡ request_number 1 2 51) × (REMOVE_PID ≡ request_number 1 2 52)
