-- Which packets of a call a node looks at.
use Rattle.std.specs.Prelude.{ℕ, count_by}
use Rattle.node_core.specs.Imports.{Facts, Invocation, Pass, is_named}

-- how many packets of a call the node's PIDs name; only a Pass has any
abbrev pub named_packets : Facts → Invocation → ℕ
named_packets f (Pass input first packets now) = count_by (is_named f.pids) packets
named_packets f _ = 0
