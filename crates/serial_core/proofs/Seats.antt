-- What one call does to a node with its entries.
use Rattle.serial_core.proofs.Imports.{◌≡◌, refl, sym, ap, subst, ◌∙◌, ℕ, ◌+◌, List, [], ◌∷◌, ◌++◌, length, map, length-append, add-one, arith, map-append, NodeKind, Invocation, Close, SetFilter, SetPes, AddPid, RemovePid, Start, Stop, SetSize, Read, Poll, Pass, End, Attach, Detach, Passed, History, entry_of, Rules, rules_at, Facts, facts, dmx_answer, with_call, Act, LogEntry, act_of, feeder_entry, woven, AreInPlace, in_place-append, woven-call, woven-fed, CodeEntry, told_entry, SerialNode, AnyCore, Demux, Dvr, Node, Told, history_in, history_of, uncalled, answer_by, answered, log_in, log_of, IsFeeding, IsSeat, StandsAt, entries_in, answer}
use Rattle.dmx_calls.specs.declared.node.NodeKind.TheVariants as kind
use Rattle.dmx_calls.specs.Invocation.{Open}
use Rattle.serial_core.proofs.Logs.{log_number}

-- ------ the feeder's calls are answered Passed

passed_by : (k : NodeKind) (f g : Facts) (who : ℕ) (c : Invocation) → IsFeeding c → dmx_answer k f g who c ≡ Passed
passed_by kind.Demux f g who (Pass input first packets now) is = refl
passed_by kind.Dvr f g who (Pass input first packets now) is = refl
passed_by kind.Demux f g who End is = refl
passed_by kind.Dvr f g who End is = refl
passed_by k f g who Open is = absurd is
passed_by k f g who Close is = absurd is
passed_by k f g who (SetFilter params now) is = absurd is
passed_by k f g who (SetPes params now) is = absurd is
passed_by k f g who (AddPid pid) is = absurd is
passed_by k f g who (RemovePid pid) is = absurd is
passed_by k f g who (Start now) is = absurd is
passed_by k f g who Stop is = absurd is
passed_by k f g who (SetSize size) is = absurd is
passed_by k f g who (Read now count) is = absurd is
passed_by k f g who (Poll now) is = absurd is
passed_by k f g who (Attach node pids) is = absurd is
passed_by k f g who (Detach node) is = absurd is

pub is_passed : (node : Rules) (h : History) (who : ℕ) (c : Invocation) → IsFeeding c → answer node h who c ≡ Passed
unfolding answer
is_passed node h who c is = passed_by node.kind (facts node h) (facts node (with_call h who c)) who c is

-- ------ the log of a node

log_length : (number : ℕ) (calls : List Told) → length (log_in number calls).entries ≡ length (history_in calls)
log_length number [] = refl
log_length number (told ∷ calls) =
    length-append (log_in number calls).entries _ ∙ (ap (λ n. n + 1) (log_length number calls) ∙ add-one (length (history_in calls)))

log_in_place : (number : ℕ) (calls : List Told) → AreInPlace 0 (log_in number calls).entries
log_in_place number [] = tt
log_in_place number (told ∷ calls) =
    in_place-append 0 (log_in number calls).entries _ (log_in_place number calls) (let e : length (log_in number calls).entries ≡ 0 + length (log_in number calls).entries = omega arith in e, tt)

same_entry : (a b : LogEntry) → a.node ≡ b.node → a.place ≡ b.place → a.step ≡ b.step → a.who ≡ b.who → a.act ≡ b.act → a.response ≡ b.response → a ≡ b
same_entry a b node place step who act response =
    let moved : a ≡ record { node = b.node; place = b.place; step = b.step; who = b.who; act = b.act; response = b.response } = rw (sym node, sym place, sym step, sym who, sym act, sym response) refl in
    moved

-- a core has as many entries as each history that it stands for
pub entries_count : (core : AnyCore) (number : ℕ) (h : History) → StandsAt core number h → entries_in core ≡ length h
entries_count (Demux core) number h at = at.1.count
entries_count (Dvr core) number h at = at.1.count

-- a node before the first call
pub seat_fresh : (seat : SerialNode) (number : ℕ) → StandsAt seat.core number [] → seat.node ≡ number → seat.entries.items ≡ [] → IsSeat [] seat (uncalled number)
seat_fresh seat number core node entries = record {
  core = core;
  number = node;
  log = ap (λ es. woven number [] (map told_entry es)) entries;
}

-- a call of the feeder
pub seat_fed : (acts : List Act) (old new : SerialNode) (n : Node) (c : Invocation) → IsFeeding c → new.node ≡ old.node → new.entries ≡ old.entries
    → StandsAt new.core n.number (entry_of 0 c (answer_by 0 c n) ∷ history_of n) → IsSeat acts old n
    → IsSeat (acts ++ act_of c ∷ []) new (answered 0 (length acts) c n)
seat_fed acts old new n c feeding node entries core at =
    let all : List LogEntry = (log_of n).entries in
    let next : woven n.number (acts ++ act_of c ∷ []) (map told_entry old.entries.items) ≡ all ++ feeder_entry n.number (length all) (length acts) (act_of c) ∷ [] =
    woven-fed n.number acts (map told_entry old.entries.items) (act_of c) (subst (λ es. AreInPlace 0 es) (sym at.log) (log_in_place n.number n.calls))
    ∙ ap (λ es. es ++ feeder_entry n.number (length es) (length acts) (act_of c) ∷ []) at.log in
    let said : feeder_entry n.number (length all) (length acts) (act_of c)
    ≡ record { node = (log_of n).node; place = length all; step = length acts; who = 0; act = act_of c; response = answer_by 0 c n } =
    same_entry _ _ (sym (log_number n.number n.calls)) refl refl refl refl (sym (is_passed (rules_at n.number) (history_of n) 0 c feeding)) in
    record {
      core = core;
      number = node ∙ at.number;
      log = ap (λ es. woven n.number (acts ++ act_of c ∷ []) (map told_entry es.items)) entries ∙ (next ∙ ap (λ e. all ++ e ∷ []) said);
    }

-- a call of a client
pub seat_called : (acts : List Act) (old new : SerialNode) (n : Node) (who step : ℕ) (c : Invocation) (e : CodeEntry)
    → new.node ≡ old.node → new.entries.items ≡ old.entries.items ++ e ∷ []
    → e.node ≡ old.node → e.place ≡ length (history_of n) → e.step ≡ step → e.who ≡ who → (told_entry e).act ≡ act_of c → (told_entry e).response ≡ answer_by who c n
    → StandsAt new.core n.number (entry_of who c (answer_by who c n) ∷ history_of n) → IsSeat acts old n
    → IsSeat acts new (answered who step c n)
seat_called acts old new n who step c e node entries on place steps by act response core at =
    let all : List LogEntry = (log_of n).entries in
    let here : (told_entry e).place ≡ length all = place ∙ sym (log_length n.number n.calls) in
    let next : woven n.number acts (map told_entry old.entries.items ++ told_entry e ∷ []) ≡ all ++ told_entry e ∷ [] =
    woven-call n.number acts (map told_entry old.entries.items) (told_entry e) (here ∙ ap length (sym at.log)) ∙ ap (λ es. es ++ told_entry e ∷ []) at.log in
    let said : told_entry e ≡ record { node = (log_of n).node; place = length all; step = step; who = who; act = act_of c; response = answer_by who c n } =
    same_entry _ _ (on ∙ (at.number ∙ sym (log_number n.number n.calls))) here steps by act response in
    let own : map told_entry new.entries.items ≡ map told_entry old.entries.items ++ told_entry e ∷ [] = ap (map told_entry) entries ∙ map-append told_entry old.entries.items (e ∷ []) in
    record {
      core = core;
      number = node ∙ at.number;
      log = ap (woven n.number acts) own ∙ (next ∙ ap (λ x. all ++ x ∷ []) said);
    }
