use Rattle.client_script.proofs.Imports.{◌≡◌, ◌≤◌, take, clients_among}
use Rattle.client_script.proofs.script.Script.clients.Given as goal

abbrev pub invariant-lines : goal.invariant-lines
invariant-lines l = record {
  count : l.most ≡ clients_among (take l.line-index l.line-items);
  bound : l.most ≤ 8;
}
