use Rattle.serve_top.proofs.Imports.{[], refl}
use Rattle.serve_top.proofs.journals.left_by.Goals as goal

pub returns : goal.returns
returns g c = record {
  locks = refl;
  feeder = refl;
  clients = c.in_ok-clients.ensures.clients;
  head = λ taken given p. c.in_ok-head.ensures.head [] taken given p;
  journals = c.in_ok-clients.ensures.journals;
}
