use Rattle.workers.proofs.Imports.{◌++◌, refl, sym, ap, ◌∙◌, head_of}
use Rattle.workers.proofs.run.left_by.Goals as goal

pub returns : goal.returns
returns c =
    let d = c.in_ok-clients.ensures in
    let h = c.in_ok-head.ensures in
    record {
      feeder = refl;
      feeding = refl;
      head = λ ahead taken given p. h.head ahead taken given p ∙ ap (head_of c.args.feeder.puller.cutting.size (ahead ++ taken)) (sym h.fault);
      fault = h.fault;
      clients = d.clients;
      logs = d.logs;
      outcomes = d.outcomes;
      each = d.each;
    }
