-- A script has all clients that its lines name.
use Rattle.script_run.proofs.Imports.{ℕ, ◌≤◌, List, [], ◌∷◌, fold, max, arith, All, All-nil, All-cons, All-head, All-tail, clients_of, clients_in, Scripted, IsInRange, Line, Feed, Tick, Command}

most_first : (m : ℕ) (lines : List Line) → m ≤ fold (λ most line. max most (clients_of line)) m lines
most_first m [] = omega arith
most_first m (line ∷ lines) = let k = most_first (max m (clients_of line)) lines in omega (arith, k)

each_client : (m : ℕ) (lines : List Line) → All (λ line. clients_of line ≤ fold (λ most line. max most (clients_of line)) m lines) lines
each_client m [] = All-nil _
each_client m (line ∷ lines) =
    All-cons (λ l. clients_of l ≤ fold (λ most x. max most (clients_of x)) (max m (clients_of line)) lines) line lines (let k = most_first (max m (clients_of line)) lines in omega (arith, k)) (each_client (max m (clients_of line)) lines)

pub clients_within : (script : Scripted) → All (λ line. clients_of line ≤ clients_in script) script.lines
clients_within script = each_client 0 script.lines

-- ------ there are eight at most

few_in : (line : Line) → IsInRange line → clients_of line ≤ 8
few_in (Feed k) is = omega arith
few_in (Tick k) is = omega arith
few_in (Command line client target verb) is = omega (arith, is.2)

few_clients : (lines : List Line) (m : ℕ) → m ≤ 8 → All IsInRange lines → fold (λ most line. max most (clients_of line)) m lines ≤ 8
few_clients [] m le ranges = le
few_clients (line ∷ lines) m le ranges = few_clients lines (max m (clients_of line)) (omega (arith, le, few_in line (All-head IsInRange line lines ranges))) (All-tail IsInRange line lines ranges)

pub few_in_all : (script : Scripted) → All IsInRange script.lines → clients_in script ≤ 8
few_in_all script ranges = few_clients script.lines 0 (omega arith) ranges
