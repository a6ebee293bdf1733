-- What makes the lists sets: the members after adding and removing a PID.
use Rattle.std.specs.Prelude.{◌≡◌, ℕ, true, false, not, ◌&&◌, ◌||◌, nat_eq, List}
use Rattle.pid_set.specs.Pids.{has_pid, with_pid, without_pid, IsAscending}

-- With a PID the list stays ascending, its members are that PID and those before, and where the
-- PID was a member it is the same list.
pub record IsAdded (pid : ℕ) (pids : List ℕ) : Type 0 where
  pub ascending : IsAscending (with_pid pid pids)
  pub members : (p : ℕ) → has_pid p (with_pid pid pids) ≡ (nat_eq p pid || has_pid p pids)
  pub same : has_pid pid pids ≡ true → with_pid pid pids ≡ pids

-- Without a PID the list stays ascending, its members are those before but that PID, and where the
-- PID was no member it is the same list.
pub record IsRemoved (pid : ℕ) (pids : List ℕ) : Type 0 where
  pub ascending : IsAscending (without_pid pid pids)
  pub members : (p : ℕ) → has_pid p (without_pid pid pids) ≡ (not (nat_eq p pid) && has_pid p pids)
  pub same : has_pid pid pids ≡ false → without_pid pid pids ≡ pids
