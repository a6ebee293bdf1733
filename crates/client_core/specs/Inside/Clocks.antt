-- The clocks that a client core keeps: one for each of the 33 nodes, or none where the client asks for none.
use Rattle.std.specs.Prelude.{ℕ, ◌≡◌, ◌<◌, ◌≤◌, List, length, Option, None, slice_get, slice_index_or, if◌then◌else◌, All}
use Rattle.client_core.specs.Imports.{bytes_counted, option_and_then}
use Rattle.client_core.specs.Clock.{Clock, unset, HasFollowed}
use Rattle.client_core.specs.Stc.{Exchange, bytes_read, filter_type, is_counter}
use Rattle.client_core.specs.Outcomes.{Counters}

-- what is kept of a node: the clock of what was read there, and the type of the filter
pub record NodeClock : Type 0 where
  pub clock : Clock
  pub filter_type : Option ℕ

-- no call was made
abbrev pub uncalled : NodeClock
uncalled = record { clock = unset; filter_type = None }

-- the counter of this number
abbrev pub counter_of : (num : ℕ) → NodeClock → Option ℕ
counter_of num c = if is_counter num c.filter_type then c.clock.last else None

-- of a node of which nothing is kept no counter is known
abbrev pub counter_in : List NodeClock → Counters
counter_in clocks node num = option_and_then (counter_of num) (slice_get clocks node)

-- it has followed just these exchanges on the node
pub record HasFollowedNode (node : ℕ) (xs : List Exchange) (c : NodeClock) : Type 0 where
  pub followed : HasFollowed (bytes_read node xs) c.clock
  pub set : c.filter_type ≡ filter_type node xs

-- each node's clock has followed these exchanges
pub record HaveFollowed (xs : List Exchange) (clocks : List NodeClock) : Type 0 where
  pub each : (node : ℕ) → node < length clocks → HasFollowedNode node xs (slice_index_or clocks node uncalled)

-- none has followed more bytes
abbrev pub AreFew : (most : ℕ) → List NodeClock → Type 0
AreFew most clocks = All (λ c. bytes_counted c.clock.cutting ≤ most) clocks
