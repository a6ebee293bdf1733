use Rattle.seats.proofs.Imports.{rules, ◌≡◌, Bool, get_or, false, true, Some, refl, ap, sym, ◌∙◌, slice_get-get_or, get_or_from_slice_get}
use Rattle.seats.proofs.Closing.{closes_none, closes_one}
use Rattle.seats.proofs.Doing.{closing_none, closing_one}
use Rattle.seats.proofs.Going.{goes_self}
use Rattle.seats.proofs.seat.Seat.let_go.Goals as goal

pub returns-then-not-self-node-clause-goes : goal.returns-then-not-self-node-clause-goes
returns-then-not-self-node-clause-goes g c = goes_self c.args.self.now

pub returns-then-not-self-node-clause-did : goal.returns-then-not-self-node-clause-did
returns-then-not-self-node-clause-did g c = closing_none c.args.node c.args.self.now

pub returns-clause-did : goal.returns-clause-did
returns-clause-did g c = closing_one c.args.node c.command.result c.args.self.now c.command.new.self c.command.ensures.did c.command.ensures.kept

pub returns-then-not-self-node-clause-held : goal.returns-then-not-self-node-clause-held
returns-then-not-self-node-clause-held g c = closes_none c.args.self.now c.args.self.now refl

pub command-requires-clause-room : goal.command-requires-clause-room
command-requires-clause-room g c =
    let s = c.args.self.now in let is : get_or s.held c.args.node false ≡ true = search rules in
    c.requires.room (slice_get-get_or s.held c.args.node false (search rules) ∙ ap (λ (b : Bool). Some b) is)

pub returns-clause-held : goal.returns-clause-held
returns-clause-held g c =
    let s = c.args.self.now in let is : get_or s.held c.args.node false ≡ true = search rules in
    closes_one c.args.node c.command.result s c.command.new.self c.command.ensures.did c.requires.node (slice_get-get_or s.held c.args.node false (search rules) ∙ ap (λ (b : Bool). Some b) is)

pub returns-then-not-self-node-clause-fewer : goal.returns-then-not-self-node-clause-fewer
returns-then-not-self-node-clause-fewer g c i held = held

pub returns-then-not-self-node-clause-free : goal.returns-then-not-self-node-clause-free
returns-then-not-self-node-clause-free g c held =
    let s = c.args.self.now in let is : get_or s.held c.args.node false ≡ false = search rules in
    let both : true ≡ false = sym (get_or_from_slice_get s.held c.args.node true false held) ∙ is in cc both
