-- The nodes of a run and their logs by number, and what each call adds to them.
use Rattle.serial_core.proofs.Imports.{◌≡◌, ◌≢◌, refl, sym, ap, subst, ◌∙◌, ℕ, Bool, true, false, nat_eq, ◌+◌, ◌<◌, ◌≤◌, List, [], ◌∷◌, ◌++◌, Some, length, ◌⊎◌, inl, inr, arith, slice_get, option_map, length-map, get_or-map, get_or-set_same, get_or-set_other, slice_get-map, slice_get-get_or, slice_get_within, nat_tests, DEMUX_NODES, Invocation, LogEntry, act_of, Event, Batches, call_of, same_some, Told, Node, uncalled, answer_by, answered, log_in, log_of, Run, fed_to_all, node_at, called, histories_in}

-- ------ the node of a number

-- a call of the feeder
pub fed_at : (node : ℕ) (c : Invocation) (r : Run) → length r.nodes ≡ DEMUX_NODES + 1 → node ≤ DEMUX_NODES → node_at node (fed_to_all c r) ≡ answered 0 r.turns c (node_at node r)
fed_at node c r long le = get_or-map (answered 0 r.turns c) r.nodes node (uncalled node) (uncalled node) (omega (arith, le, long))

-- a call of a client
abbrev pub IsCalledAt : (client : ℕ) → Batches → Event → Run → (node : ℕ) → Type 0
IsCalledAt client batches e r node =
    (node ≡ e.node) × (node_at node (called client batches e r) ≡ answered (client + 1) e.step (call_of batches e.want r.moment) (node_at node r))
    ⊎ (node ≢ e.node) × (node_at node (called client batches e r) ≡ node_at node r)

pub called_at : (client : ℕ) (batches : Batches) (e : Event) (r : Run) (node : ℕ) → length r.nodes ≡ DEMUX_NODES + 1 → e.node ≤ DEMUX_NODES → IsCalledAt client batches e r node
called_at client batches e r node long there = go (nat_eq node e.node) refl where
  go : (b : Bool) → nat_eq node e.node ≡ b → IsCalledAt client batches e r node
  go true same =
      let eq : node ≡ e.node = grind (arith, nat_tests, same) in
      let lt : e.node < length r.nodes = omega (arith, there, long) in
      inl (eq, subst (λ n. node_at n (called client batches e r) ≡ answered (client + 1) e.step (call_of batches e.want r.moment) (node_at n r)) (sym eq) (get_or-set_same r.nodes e.node (answered (client + 1) e.step (call_of batches e.want r.moment) (node_at e.node r)) (uncalled e.node) lt))
  go false other =
      let ne : node ≢ e.node = λ same. grind (arith, nat_tests, other, same) in
      inr (ne, get_or-set_other r.nodes e.node node (answered (client + 1) e.step (call_of batches e.want r.moment) (node_at e.node r)) (uncalled node) ne)

-- ------ their entries

abbrev pub entries_of : Node → List LogEntry
entries_of n = (log_of n).entries

abbrev pub entries_at : (node : ℕ) → Run → List LogEntry
entries_at node r = entries_of (node_at node r)

pub log_number : (number : ℕ) (calls : List Told) → (log_in number calls).node ≡ number
log_number number [] = refl
log_number number (told ∷ calls) = log_number number calls

-- the entry of a call
abbrev pub entry_for : (who step : ℕ) → Invocation → Node → LogEntry
entry_for who step c n = record { node = n.number; place = length (entries_of n); step = step; who = who; act = act_of c; response = answer_by who c n }

pub entries_answered : (who step : ℕ) (c : Invocation) (n : Node) → entries_of (answered who step c n) ≡ entries_of n ++ entry_for who step c n ∷ []
entries_answered who step c n =
    ap (λ k. entries_of n ++ record { node = k; place = length (entries_of n); step = step; who = who; act = act_of c; response = answer_by who c n } ∷ []) (log_number n.number n.calls)

-- the 33 logs
pub histories_get : (r : Run) (node : ℕ) → length r.nodes ≡ DEMUX_NODES + 1 → node ≤ DEMUX_NODES → slice_get (histories_in r) node ≡ Some (entries_at node r)
histories_get r node long le = slice_get-map entries_of r.nodes node ∙ ap (option_map entries_of) (slice_get-get_or r.nodes node (uncalled node) (omega (arith, le, long)))

pub histories_is : (r : Run) (node : ℕ) (h : List LogEntry) → length r.nodes ≡ DEMUX_NODES + 1 → slice_get (histories_in r) node ≡ Some h → (node ≤ DEMUX_NODES) × (entries_at node r ≡ h)
histories_is r node h long is =
    let le : node ≤ DEMUX_NODES = omega (arith, slice_get_within (histories_in r) node h is, length-map r.nodes entries_of, long) in
    (le, same_some (entries_at node r) h (sym (histories_get r node long le) ∙ is))
