-- Wherever a command stands, there are replies by which it is through.
use Rattle.std.proofs.Common.{◌≡◌, refl, ℕ, zero, suc, ◌+◌, ◌≤◌, Bool, true, false, List, [], ◌∷◌, ◌++◌, arith}
use Rattle.std.proofs.lemmas.Bool.Decides.{nat_tests}
use Rattle.std.specs.Prelude.{if◌then◌else◌, nat_lt}
use Rattle.client_core.specs.Commands.{stands, through}
use Rattle.client_core.specs.Steps.{after, doing, first}
use Rattle.client_core.specs.declared.event.Event.{Event}
use Rattle.client_core.specs.declared.task.Ending.{Ending}
use Rattle.client_core.specs.declared.task.Ending.TheVariants.{Made}
use Rattle.client_core.specs.declared.task.Next.{Next}
use Rattle.client_core.specs.declared.task.Next.TheVariants.{Still, Through}
use Rattle.client_core.specs.declared.task.Task.{Task}
use Rattle.client_core.specs.declared.task.Task.TheVariants as task
use Rattle.dmx_calls.specs.Response.{Refused, Response}
use Rattle.dmx_calls.specs.declared.limits.TheConstants.{DEMUX_NODES}
use Rattle.dmx_calls.specs.declared.reply.Errno.TheVariants.{Ebadf}
use Rattle.client_laws.specs.Laws.{CommandsCanEnd}

-- some replies end it from this step on
abbrev CanEnd : Next → (step : ℕ) → Type 0
CanEnd n step = (more : List Response) × (ending : Ending) × (next : ℕ) × (doing n step more ≡ through ending next [])

-- by one reply more
one_more : (t : Task) (step : ℕ) → CanEnd (after t (Refused Ebadf)) (step + 1) → CanEnd (Still t) step
one_more t step later = (Refused Ebadf ∷ later.0, later.1, later.2, later.3)

-- a batch passes at most so many nodes more
play_ends : (k write node step : ℕ) → 31 ≤ node + k → CanEnd (Still (task.Play write node)) step
play_ends zero write node step few = one_more (task.Play write node) step (go (nat_lt (node + 1) DEMUX_NODES) refl) where
  go : (b : Bool) → nat_lt (node + 1) DEMUX_NODES ≡ b → CanEnd (if b then Still (task.Play write (node + 1)) else Through Made) (step + 1)
  go true more = absurd (grind (arith, nat_tests, more, few))
  go false none = ([], Made, step + 1, refl)
play_ends (suc k) write node step few =
    one_more (task.Play write node) step (go (nat_lt (node + 1) DEMUX_NODES) (play_ends k write (node + 1) (step + 1) (omega (arith, few)))) where
      go : (b : Bool) → CanEnd (Still (task.Play write (node + 1))) (step + 1) → CanEnd (if b then Still (task.Play write (node + 1)) else Through Made) (step + 1)
      go true later = later
      go false later = ([], Made, step + 1, refl)

task_ends : (t : Task) (step : ℕ) → CanEnd (Still t) step
task_ends (task.Call node want) step = (Refused Ebadf ∷ [], Made, step + 1, refl)
task_ends (task.ReadWait node count) step = (Refused Ebadf ∷ [], Made, step + 1, refl)
task_ends (task.Drain node count) step = (Refused Ebadf ∷ [], Made, step + 1, refl)
task_ends (task.OpenFrom slot node) step = (Refused Ebadf ∷ [], Made, step + 1, refl)
task_ends (task.Attach ending node pids) step = (Refused Ebadf ∷ [], ending, step + 1, refl)
task_ends (task.Detach ending node) step = (Refused Ebadf ∷ [], ending, step + 1, refl)
task_ends (task.Write node write has) step = (Refused Ebadf ∷ [], Made, step + 1, refl)
task_ends (task.Play write node) step = play_ends 31 write node step (omega arith)

-- whatever replies came before
steps_end : (n : Next) (step : ℕ) (rs : List Response) (e : Event) → doing n step rs ≡ stands e
    → (more : List Response) × (ending : Ending) × (next : ℕ) × (doing n step (rs ++ more) ≡ through ending next [])
steps_end (Through ending) step rs e is = absurd (cc is)
steps_end (Still t) step [] e is = task_ends t step
steps_end (Still t) step (r ∷ rs) e is = steps_end (after t r) (step + 1) rs e is

pub commands_can_end : CommandsCanEnd
commands_can_end slots t v has step rs e is = steps_end (first slots t v has) step rs e is
