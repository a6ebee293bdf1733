-- A set of PIDs names a packet where one of the PIDs does.
use Rattle.ts_batch.proofs.Imports.{◌≡◌, ℕ, Bool, true, false, ◌||◌, nat_eq, List, [], ◌∷◌, refl, list_any, nat_eq_turned, pid_of, ALL_PACKETS, names_pid, names}

both-or : (a b c d : Bool) → ((a || b) || (c || d)) ≡ ((a || c) || (b || d))
both-or true b c d = refl
both-or false true true d = refl
both-or false true false d = refl
both-or false false c d = refl

pub named-by : (packet pids : List ℕ) → list_any (λ pid. names pid packet) pids ≡ names_pid pids (pid_of packet)
named-by packet [] = refl
named-by packet (pid ∷ pids) =
    rw (named-by packet pids, nat_eq_turned pid ALL_PACKETS)
    (both-or (nat_eq ALL_PACKETS pid) (nat_eq (pid_of packet) pid) (list_any (nat_eq ALL_PACKETS) pids) (list_any (nat_eq (pid_of packet)) pids))
