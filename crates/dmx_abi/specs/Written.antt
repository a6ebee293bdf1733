-- The number and the argument that are written of a request.
use Rattle.std.specs.Prelude.{◌≡◌, ℕ, ◌^◌, ◌<◌, List, [], ◌++◌, length, replicate}
use Rattle.byteorder.specs.Endian.{little_bytes}
use Rattle.dmx_abi.specs.declared.numbers.TheConstants.{START, STOP, SET_FILTER, SET_PES_FILTER, SET_BUFFER_SIZE, GET_STC, ADD_PID, REMOVE_PID}
use Rattle.dmx_abi.specs.declared.request.Request.{Request}
use Rattle.dmx_abi.specs.declared.request.Request.TheVariants as request

-- the number of a request
abbrev pub number_of : Request → ℕ
number_of request.Start = START
number_of request.Stop = STOP
number_of (request.SetFilter pid filter mask mode timeout flags) = SET_FILTER
number_of (request.SetPes pid input output pes_type flags) = SET_PES_FILTER
number_of (request.SetSize size) = SET_BUFFER_SIZE
number_of (request.AddPid pid) = ADD_PID
number_of (request.RemovePid pid) = REMOVE_PID
number_of (request.GetStc num) = GET_STC

-- its argument, field behind field, with 0 in the bytes that no field has
abbrev pub argument_of : Request → List ℕ
argument_of request.Start = []
argument_of request.Stop = []
argument_of (request.SetFilter pid filter mask mode timeout flags) =
    little_bytes 2 pid ++ (filter ++ (mask ++ (mode ++ (replicate 2 0
    ++ (little_bytes 4 timeout ++ little_bytes 4 flags)))))
argument_of (request.SetPes pid input output pes_type flags) =
    little_bytes 2 pid ++ (replicate 2 0 ++ (little_bytes 4 input ++ (little_bytes 4 output
    ++ (little_bytes 4 pes_type ++ little_bytes 4 flags))))
argument_of (request.SetSize size) = little_bytes 4 size
argument_of (request.AddPid pid) = little_bytes 2 pid
argument_of (request.RemovePid pid) = little_bytes 2 pid
argument_of (request.GetStc num) = little_bytes 4 num ++ replicate 12 0

-- Each number fits its field, and filter, mask and mode have 16 bytes. The types of the fields say so.
abbrev pub Fits : Request → Type 0
Fits (request.SetFilter pid filter mask mode timeout flags) =
    (pid < 2 ^ 16) × (length filter ≡ 16) × (length mask ≡ 16) × (length mode ≡ 16) × (timeout < 2 ^ 32)
    × (flags < 2 ^ 32)
Fits (request.SetPes pid input output pes_type flags) =
    (pid < 2 ^ 16) × (input < 2 ^ 32) × (output < 2 ^ 32) × (pes_type < 2 ^ 32) × (flags < 2 ^ 32)
Fits (request.SetSize size) = size < 2 ^ 32
Fits (request.AddPid pid) = pid < 2 ^ 16
Fits (request.RemovePid pid) = pid < 2 ^ 16
Fits (request.GetStc num) = num < 2 ^ 32
Fits request.Start = Unit {0}
Fits request.Stop = Unit {0}
