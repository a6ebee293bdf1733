use Rattle.seats.proofs.Imports.{rules, ◌≡◌, length, None, ap, option_map, invocation_of, act_of}
use Rattle.dmx_calls.specs.Calls.{Call}
use Rattle.seats.proofs.Doing.{does_one, does_two}
use Rattle.seats.proofs.Going.{goes_trans}
use Rattle.seats.proofs.seat.Seat.call.Goals as goal

pub returns-in-Some-clause-goes : goal.returns-in-Some-clause-goes
returns-in-Some-clause-goes g c = goes_trans c.args.self.now c.make.new.self c.make-in-Some.new.self c.make.ensures.goes c.make-in-Some.ensures.goes

pub returns-in-Some-clause-did : goal.returns-in-Some-clause-did
returns-in-Some-clause-did g c =
    let place : c.len-at.result ≡ length c.args.self.now.made.items = search rules in
    does_two c.args.node _ _ c.len-at.result c.args.self.now c.make.new.self c.make.ensures.did place
    _ _ c.make-in-Some.new.self c.make-in-Some.ensures.did (ap (option_map (λ (k : Call). act_of (invocation_of k))) c.in-Some.is)

pub returns-in_default-clause-did : goal.returns-in_default-clause-did
returns-in_default-clause-did g c =
    let place : c.len-at.result ≡ length c.args.self.now.made.items = search rules in
    let none : c.make.result ≡ None = search rules in
    does_one c.args.node _ _ c.len-at.result c.args.self.now c.make.new.self c.make.ensures.did place (ap (option_map (λ (k : Call). act_of (invocation_of k))) none)
