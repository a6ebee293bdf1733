-- Which packets of a call the dvr node looks at.
use Rattle.std.specs.Prelude.{ℕ, List, Option, count_by}
use Rattle.dvr_core.specs.Imports.{Invocation, Pass, Tap}
use Rattle.dvr_core.specs.Tapped.{some_names}

-- how many packets of a call some tap names; only a Pass has any
abbrev pub named_packets : List (Option Tap) → Invocation → ℕ
named_packets taps (Pass input first packets now) = count_by (some_names taps) packets
named_packets taps _ = 0
