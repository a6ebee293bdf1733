use Rattle.client_script.proofs.Imports.{◌≡◌, drop, sym, take_rest, Some, None, position}
use Rattle.std.proofs.Common.{◌==◌}
use Rattle.client_script.proofs.Searching.{first_feed-some, first_feed-none}
use Rattle.client_script.proofs.part.first_line.Goals as goal

pub returns-in-Some : goal.returns-in-Some
returns-in-Some c =
    let found : position (λ byte. byte == 10) (drop c.args.known c.args.bytes.now) ≡ Some c.in-Some.place = rw take_rest at (sym c.in-Some.ensures.place) in
    rw take_rest (first_feed-some c.args.known c.in-Some.place c.args.bytes.now c.requires.within c.requires.known found)

pub returns-in-None : goal.returns-in-None
returns-in-None c =
    let none : position (λ byte. byte == 10) (drop c.args.known c.args.bytes.now) ≡ None = rw take_rest at (sym c.in-None.ensures.place) in
    first_feed-none c.args.known c.args.bytes.now c.requires.known none
