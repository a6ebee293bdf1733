use Rattle.seats.proofs.Imports.{rules, List, length, ◌+◌, arith, ◌≡◌, true, refl, ap, sym, ◌∙◌, Vec, Global, response_of, Made, is_busy, Outcome, WasDone, WasEmfile}
use Rattle.dmx_calls.specs.declared.log.Entry.{Entry}
use Rattle.seats.proofs.Doing.{tried_none, tried_more, opened, full}
use Rattle.seats.proofs.Going.{goes_self, goes_trans, log_same}
use Rattle.seats.proofs.Keeping.{keeps_one, paid}
use Rattle.seats.proofs.seat.Seat.open_demux.Goals as goal

pub nodes-init : goal.nodes-init
nodes-init g c = record { fit = c.requires.fit; goes = goes_self c.args.self.now; tried = tried_none c.args.self.now; made = search rules; left = search rules; more = search rules; room = refl; told = refl }

pub nodes-preserved : goal.nodes-preserved
nodes-preserved g c =
    let i = c.nodes.invariant in let e = c.call-at.ensures in
    let busy : is_busy (response_of c.index.result.now.reply) ≡ true = sym c.is_busy.ensures ∙ c.if-is_busy.true in
    record {
      fit = e.fit;
      goes = goes_trans c.args.self.now c.nodes.self c.call-at.new.self i.goes e.goes;
      tried = tried_more c.nodes.node c.call-at.result c.args.self.now c.nodes.self c.call-at.new.self i.tried e.did c.index.result.now c.index.ensures c.nodes-test.true _ refl busy;
      made = let a = i.made in let b = e.few.0 in omega (arith, a, b);
      left = let a = i.left in let b = e.few.1 in omega (arith, a, b);
      more = let a = i.more in let b = e.at in let log = ap (λ (l : List Entry). length l) e.did.has.log in omega (arith, a, b.0, b.1, log);
      room = search rules;
      told = search rules;
    }

pub returns-in-nodes-clause-fit : goal.returns-in-nodes-clause-fit
returns-in-nodes-clause-fit g c = c.keep.ensures.fit c.args.adapter.now c.call-at.ensures.fit

pub returns-in-nodes-clause-goes : goal.returns-in-nodes-clause-goes
returns-in-nodes-clause-goes g c =
    goes_trans c.args.self.now c.call-at.new.self c.keep.new.self
    (goes_trans c.args.self.now c.nodes.self c.call-at.new.self c.nodes.invariant.goes c.call-at.ensures.goes) c.keep.ensures.goes

pub returns-in-nodes-clause-did : goal.returns-in-nodes-clause-did
returns-in-nodes-clause-did g c now =
    let r = c.keep.ensures.rest in
    let made = ap (λ (v : Vec Made Global). v.items) r.3 in
    let log = log_same c.call-at.new.self c.keep.new.self (ap (λ (v : Vec Entry Global). v.items) r.2) made r.1 in
    opened c.nodes.node c.call-at.result c.args.self.now c.nodes.self c.call-at.new.self c.nodes.invariant.tried c.call-at.ensures.did c.index.result.now c.index.ensures c.nodes-test.true
    now c.keep.new.self c.told_open.result.tell c.told_open.result.at (sym c.is_busy.ensures ∙ c.if-is_busy.false) log made
    (keeps_one WasDone c.args.self.now c.call-at.new.self c.keep.new.self c.count-from.result (search rules) (c.call-at.ensures.goes.handed ∙ c.nodes.invariant.goes.handed) (ap (λ (v : Vec Outcome Global). v.items) (c.call-at.ensures.rest ∙ c.nodes.invariant.told)) c.keep.ensures.told r.5 log)
    c.told_open.ensures.at c.told_open.ensures.told

pub returns-clause-fit : goal.returns-clause-fit
returns-clause-fit g c = c.keep-2.ensures.fit c.args.adapter.now c.nodes.invariant.fit

pub returns-clause-goes : goal.returns-clause-goes
returns-clause-goes g c = goes_trans c.args.self.now c.nodes.self c.keep-2.new.self c.nodes.invariant.goes c.keep-2.ensures.goes

pub returns-clause-did : goal.returns-clause-did
returns-clause-did g c now =
    let r = c.keep-2.ensures.rest in
    let log = log_same c.nodes.self c.keep-2.new.self (ap (λ (v : Vec Entry Global). v.items) r.2) (ap (λ (v : Vec Made Global). v.items) r.3) r.1 in
    full now c.nodes.node c.args.self.now c.nodes.self c.keep-2.new.self _ _ c.nodes.invariant.tried (search rules) log
    (keeps_one WasEmfile c.args.self.now c.nodes.self c.keep-2.new.self c.count-from.result (search rules) c.nodes.invariant.goes.handed (ap (λ (v : Vec Outcome Global). v.items) c.nodes.invariant.told) c.keep-2.ensures.told r.5 log) c.refused.ensures

pub keep-requires-clause-paid : goal.keep-requires-clause-paid
keep-requires-clause-paid g c =
    let e = c.call-at.ensures in let i = c.nodes.invariant in let a = i.more in let b = e.at in let log = ap (λ (l : List Entry). length l) e.did.has.log in
    paid c.args.adapter.now c.args.self.now c.call-at.new.self (c.nodes.node + 1) c.requires.fit (e.goes.handed ∙ i.goes.handed) (e.rest ∙ i.told) (omega (arith, a, b.0, b.1, log)) (omega arith)
