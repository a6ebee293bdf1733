-- Sets of PIDs, seen as ascending lists without repeats. DMX_ADD_PID and DMX_REMOVE_PID of the Linux media API (Digital
-- TV demux) give a filter several PIDs; the order is this project's.
use Rattle.std.specs.Prelude.{ℕ, ◌<◌, ◌^◌, Bool, not, ◌||◌, nat_eq, nat_lt, List, ◌∷◌, ◌++◌, length, slice_index}
use Rattle.std.specs.List.{list_any, filter}
use Rattle.pid_set.specs.declared.set.TheConstants.{ALL_PACKETS}

-- the PID is in the set
abbrev pub has_pid : ℕ → List ℕ → Bool
has_pid pid pids = list_any (nat_eq pid) pids

-- the set names the packets of a PID: that PID is in it, or PID 0x2000, which names every packet
abbrev pub names_pid : List ℕ → ℕ → Bool
names_pid pids pid = has_pid ALL_PACKETS pids || has_pid pid pids

-- the set with this PID: the PIDs below it, itself, the PIDs above it
unfoldable pub with_pid : ℕ → List ℕ → List ℕ
with_pid pid pids = filter (λ p. nat_lt p pid) pids ++ pid ∷ filter (λ p. nat_lt pid p) pids

-- the set without this PID: all others
unfoldable pub without_pid : ℕ → List ℕ → List ℕ
without_pid pid pids = filter (λ p. not (nat_eq pid p)) pids

-- each member is below those after it
abbrev pub IsAscending : List ℕ → Type 0
IsAscending pids = (i j : ℕ) → i < j → j < length pids → slice_index pids i < slice_index pids j

-- what a set holds: ascending numbers of 16 bits
pub record ArePids (pids : List ℕ) : Type 0 where
  pub ascending : IsAscending pids
  pub fits : (i : ℕ) → slice_index pids i < 2 ^ 16
