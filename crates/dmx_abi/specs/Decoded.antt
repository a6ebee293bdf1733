-- The same from left to right, for definitions that are functions: what a number and an argument are read as.
use Rattle.std.specs.Prelude.{ℕ, ◌==◌, List, length, Option, Some, None, Result, Ok, Err, if◌then◌else◌}
use Rattle.dmx_abi.specs.declared.numbers.TheConstants.{START, STOP, SET_FILTER, SET_PES_FILTER, SET_BUFFER_SIZE, GET_STC, ADD_PID}
use Rattle.dmx_abi.specs.declared.request.Request.{Request}
use Rattle.dmx_abi.specs.declared.request.Request.TheVariants as request
use Rattle.dmx_abi.specs.declared.request.AbiFault.{AbiFault}
use Rattle.dmx_abi.specs.declared.request.AbiFault.TheVariants.{Unknown, Length}
use Rattle.dmx_abi.specs.Layout.{field, sixteen, argument_len}

-- what a number of the table and an argument of its length ask for
abbrev pub requested : (number : ℕ) → (argument : List ℕ) → Request
requested number argument =
    if number == START then request.Start
    else (if number == STOP then request.Stop
    else (if number == SET_FILTER then request.SetFilter (field 0 2 argument) (sixteen 2 argument) (sixteen 18 argument)
    (sixteen 34 argument) (field 52 4 argument) (field 56 4 argument)
    else (if number == SET_PES_FILTER then request.SetPes (field 0 2 argument) (field 4 4 argument) (field 8 4 argument)
    (field 12 4 argument) (field 16 4 argument)
    else (if number == SET_BUFFER_SIZE then request.SetSize (field 0 4 argument)
    else (if number == GET_STC then request.GetStc (field 0 4 argument)
    else (if number == ADD_PID then request.AddPid (field 0 2 argument)
    else request.RemovePid (field 0 2 argument)))))))

-- the same, where the argument of this number's request should have this length
abbrev pub decoded_by : Option ℕ → (number : ℕ) → (argument : List ℕ) → Result Request AbiFault
decoded_by None number argument = Err (Unknown number)
decoded_by (Some want) number argument =
    if length argument == want then Ok (requested number argument) else Err (Length want (length argument))

-- the request that a number and an argument ask for, or why they ask for nothing
abbrev pub decoded : (number : ℕ) → (argument : List ℕ) → Result Request AbiFault
decoded number argument = decoded_by (argument_len number) number argument
