use Rattle.adapter.proofs.Imports.{subst, sym, List, ◌++◌, ◌∷◌, [], TableId, View, Entry, AreAllRows, AreHistories}
use Rattle.adapter.proofs.Everybody.{all_rows, rows_end}
use Rattle.adapter.proofs.adapter.Adapter.lengths.Goals as goal

pub measure-requires : goal.measure-requires
measure-requires c = let cs = c.args.clients.items ++ c.args.feeder ∷ [] in
    record { all = subst (λ (rows : List (List (TableId × View Entry))). AreAllRows c.args.self.now rows) (rows_end c.args.clients.items c.args.feeder c.into_passes.result c.into_passes.ensures) (all_rows c.args.self.now cs c.requires.all) }

pub returns : goal.returns
returns c = subst (λ (rows : List (List (TableId × View Entry))). AreHistories rows c.measure.result) (sym (rows_end c.args.clients.items c.args.feeder c.into_passes.result c.into_passes.ensures)) c.measure.ensures
