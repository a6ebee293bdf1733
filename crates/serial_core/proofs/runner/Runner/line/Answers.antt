use Rattle.serial_core.proofs.Imports.{◌≡◌, sym, ap, ◌∙◌, ◌+◌, ◌-◌, ◌<◌, ◌≤◌, length, get_or, Err, arith, TooLong, sum_by-set, get_or-le-sum_by, Core, Run, fed, calls_by, IsDoneBy, ComesBy}
use Rattle.serial_core.proofs.Moving.{moves_by, err_and}
use Rattle.serial_core.proofs.Lining.{feed_done, tick_done, moves_ticked, command_done, overruns, calls_few, calls_most}
use Rattle.serial_core.proofs.runner.Runner.line.Goals as goal

pub feed-requires-clause-made : goal.feed-requires-clause-made
feed-requires-clause-made g c = omega (arith, c.requires.made, calls_most c.args.cores.now c.requires.clients c.requires.calls)

pub command-requires-clause-made : goal.command-requires-clause-made
command-requires-clause-made g c =
    let cores = c.args.cores.now in
    let core = c.index-cores-client.result in
    let client = c.in-Command.client in
    let there : client + 1 ≤ length cores = rw c.in-Command.is at c.requires.client in
    let same : core.step ≡ (get_or cores client core).step = ap (λ (x : Core). x.step) c.index-cores-client.is in
    let few = calls_few cores client core (omega (arith, there)) c.requires.clients c.requires.calls c.index-cores-client.is in
    omega (arith, c.requires.made, few, same)

pub returns-in_ok-feed-in-Feed-clause-moves : goal.returns-in_ok-feed-in-Feed-clause-moves
returns-in_ok-feed-in-Feed-clause-moves g c =
    rw c.in-Feed.is (moves_by _ _ _ _ _ _ (λ (r s : Run) (a : s ≡ fed c.args.batch c.in-Feed.count r). feed_done c.args.batch c.in-Feed.count c.args.cores.now r s a) c.in_ok-feed-in-Feed.ensures.moves)

pub returns-in_ok-feed-in-Feed-clause-made : goal.returns-in_ok-feed-in-Feed-clause-made
returns-in_ok-feed-in-Feed-clause-made g c = c.in_ok-feed-in-Feed.ensures.made (calls_by c.args.cores.now) c.requires.made

pub returns-in-Tick-clause-moves : goal.returns-in-Tick-clause-moves
returns-in-Tick-clause-moves g c =
    rw c.in-Tick.is (moves_ticked _ c.in-Tick.time c.args.self.now c.tick.new.self _ (c.tick.ensures.sound c.requires.ready.sound) c.tick.ensures.puller c.tick.ensures.at (λ r. tick_done c.args.batch c.in-Tick.time c.args.cores.now r))

pub returns-in-Tick-clause-made : goal.returns-in-Tick-clause-made
returns-in-Tick-clause-made g c = c.tick.ensures.made (calls_by c.args.cores.now) c.requires.made

pub returns-in_ok-command-in-Command-clause-moves : goal.returns-in_ok-command-in-Command-clause-moves
returns-in_ok-command-in-Command-clause-moves g c =
    let cores = c.args.cores.now in
    let client = c.in-Command.client in
    let core = c.index-cores-client.result in
    let there : client + 1 ≤ length cores = rw c.in-Command.is at c.requires.client in
    rw c.in-Command.is
    (moves_by _ _ _ _ _ _
    (λ (r s : Run) (a : IsDoneBy c.args.batch client c.in-Command.line (get_or cores client core) c.command.new.core r s).
    command_done c.args.batch c.in-Command.line client c.in-Command.target c.in-Command.verb cores (get_or cores client core) c.command.new.core r s (omega (arith, there)) (ap (get_or cores client) c.index-cores-client.is) a)
    c.in_ok-command-in-Command.ensures.moves)

pub returns-in_ok-command-in-Command-clause-made : goal.returns-in_ok-command-in-Command-clause-made
returns-in_ok-command-in-Command-clause-made g c =
    let cores = c.args.cores.now in
    let client = c.in-Command.client in
    let core = c.index-cores-client.result in
    let there : client + 1 ≤ length cores = rw c.in-Command.is at c.requires.client in
    let lt : client < length cores = omega (arith, there) in
    let own = get_or-le-sum_by (λ (x : Core). x.step) cores client core lt in
    let sum = sum_by-set (λ (x : Core). x.step) cores client c.command.new.core core lt in
    let m = c.in_ok-command-in-Command.ensures.made (calls_by cores - (get_or cores client core).step) (omega (arith, c.requires.made, own)) in
    omega (arith, m, own, sum)

pub returns-in_err-command-in-Command-clause-too_long : goal.returns-in_err-command-in-Command-clause-too_long
returns-in_err-command-in-Command-clause-too_long g c turns is =
    let cores = c.args.cores.now in
    let client = c.in-Command.client in
    let core = c.index-cores-client.result in
    let there : client + 1 ≤ length cores = rw c.in-Command.is at c.requires.client in
    let same = err_and _ _ (TooLong turns) is c.from_residual-in_err-command-in-Command.ensures.1 in
    let k = c.command.ensures.too_long turns (c.in_err-command-in-Command.was ∙ ap Err (sym same)) in
    rw c.in-Command.is (
      k.0,
      moves_by _ _ _ _ _ _
          (λ (r s : Run) (a : ComesBy c.args.batch client c.in-Command.line (get_or cores client core) c.command.new.core r s).
          overruns c.args.batch c.in-Command.line client c.in-Command.target c.in-Command.verb cores (get_or cores client core) c.command.new.core r s (omega (arith, there)) (ap (get_or cores client) c.index-cores-client.is) k.1 a)
          k.2,
    )
