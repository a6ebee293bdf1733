use Rattle.client_script.proofs.Imports.{◌<◌, take, All}
use Rattle.client_script.proofs.requests.look.Given as goal

abbrev pub invariant-bytes : goal.invariant-bytes
invariant-bytes l = All (λ byte. byte < 256) (take l.byte-index l.bytes)
