-- What is proved of the definitions.
use Rattle.std.specs.Prelude.{◌≡◌, ℕ, List}
use Rattle.dmx_abi.specs.declared.request.Request.{Request}
use Rattle.dmx_abi.specs.Layout.{Spells}
use Rattle.dmx_abi.specs.Written.{number_of, argument_of, Fits}

-- a number and an argument ask for one request at most
abbrev pub SpellsOne : Type 0
SpellsOne =
    (number : ℕ) (argument : List ℕ) (one other : Request)
    → Spells number argument one → Spells number argument other → one ≡ other

-- what is written of a request asks for it
abbrev pub WrittenSpells : Type 0
WrittenSpells = (request : Request) → Fits request → Spells (number_of request) (argument_of request) request
