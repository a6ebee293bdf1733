use Rattle.client_script.proofs.Imports.{sym, take_rest}
use Rattle.client_script.proofs.Cuts.{cut-some, cut-none}
use Rattle.client_script.proofs.pieces.cut_at.Goals as goal

pub returns-in-Some-clause-pieces : goal.returns-in-Some-clause-pieces
returns-in-Some-clause-pieces c = rw take_rest (cut-some _ _ _ (sym c.in-Some.ensures.place))

pub returns-in-None-clause-pieces : goal.returns-in-None-clause-pieces
returns-in-None-clause-pieces c = cut-none _ _ (sym c.in-None.ensures.place)
