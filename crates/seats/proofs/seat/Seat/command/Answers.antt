use Rattle.seats.proofs.Imports.{rules, arith, List, length, sym, subst, ap, Vec, Global, Caller, HasLeft, Made, Outcome, WasDone}
use Rattle.dmx_calls.specs.declared.log.Entry.{Entry}
use Rattle.seats.proofs.Doing.{command_kept}
use Rattle.seats.proofs.Going.{goes_trans, log_same}
use Rattle.seats.proofs.Keeping.{keeps_one, paid}
use Rattle.seats.proofs.seat.Seat.command.Goals as goal

pub returns-clause-fit : goal.returns-clause-fit
returns-clause-fit g c = c.keep.ensures.fit c.args.adapter.now c.call-at.ensures.fit

pub returns-clause-goes : goal.returns-clause-goes
returns-clause-goes g c = goes_trans c.args.self.now c.call-at.new.self c.keep.new.self c.call-at.ensures.goes c.keep.ensures.goes

pub returns-clause-left : goal.returns-clause-left
returns-clause-left g c other i l = subst (λ (k : Caller). HasLeft i k) (sym c.keep.ensures.rest.0) (c.call-at.ensures.left other i l)

pub returns-clause-closed : goal.returns-clause-closed
returns-clause-closed g c closing = subst (λ (k : Caller). HasLeft c.args.node k) (sym c.keep.ensures.rest.0) (c.call-at.ensures.closed closing)

pub returns-clause-did : goal.returns-clause-did
returns-clause-did g c =
    let r = c.keep.ensures.rest in
    command_kept c.args.node _ c.call-at.result c.args.self.now c.call-at.new.self c.keep.new.self c.call-at.ensures.did (ap (λ (v : Vec Made Global). v.items) r.3) (ap (λ (v : Vec Entry Global). v.items) r.2) r.1

pub returns-clause-kept : goal.returns-clause-kept
returns-clause-kept g c =
    let r = c.keep.ensures.rest in
    keeps_one WasDone c.args.self.now c.call-at.new.self c.keep.new.self c.count-from.result (search rules) c.call-at.ensures.goes.handed (ap (λ (v : Vec Outcome Global). v.items) c.call-at.ensures.rest) c.keep.ensures.told r.5
    (log_same c.call-at.new.self c.keep.new.self (ap (λ (v : Vec Entry Global). v.items) r.2) (ap (λ (v : Vec Made Global). v.items) r.3) r.1)

pub keep-requires-clause-paid : goal.keep-requires-clause-paid
keep-requires-clause-paid g c =
    let e = c.call-at.ensures in let b = e.at in let log = ap (λ (l : List Entry). length l) e.did.has.log in
    paid c.args.adapter.now c.args.self.now c.call-at.new.self 1 c.requires.fit e.goes.handed e.rest (omega (arith, b.0, b.1, log)) (omega arith)
