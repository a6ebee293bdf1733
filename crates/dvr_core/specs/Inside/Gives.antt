-- What a reply must be, by what the node knows.
use Rattle.std.specs.Prelude.{ℕ}
use Rattle.dvr_core.specs.Imports.{Dvr, GivesBy, Invocation, Passed, Response}
use Rattle.dvr_core.specs.Inside.Step.{Knows, moved}

-- The answer looks at what is known before the call, and at what is known with it, whatever its reply; want of memory may come
-- in its place.
abbrev pub Gives : Knows → (who : ℕ) → Invocation → Response → Type 0
Gives k who call r = GivesBy Dvr k.facts (moved k who call Passed).facts who call r
