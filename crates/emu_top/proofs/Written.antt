-- What is written for a session is the report of a run of it.
use Rattle.emu_top.proofs.Imports.{◌≡◌, ◌<◌, ◌≤◌, ◌+◌, refl, sym, ap, ◌∙◌, ℕ, zero, suc, List, length, map, arith, length-map, Some, slice_get, range_with_len, LogEntry, clients_in, Scripted, outcomes, IsRun, replies_of, IsAccountedRun, histories_in, outcomes_in, IsRunOf, SerialOutputsAreOfRuns, ThreadOutputsAreOfRuns}
use Rattle.serial_core.specs.SerialRun.{Run}

-- a run in smaller batches
wider : (script : Scripted) (most : ℕ) (packets : List (List ℕ)) (hs : List (List LogEntry)) → most ≤ 64 → IsRun script most packets hs → IsRun script 64 packets hs
wider script most packets hs few run = record {
  nodes = run.nodes;
  places = run.places;
  legal = run.legal;
  fed = record {
    batches = run.fed.batches;
    each_size = λ i d lt. let s = run.fed.each_size i d lt in (s.0, omega (arith, s.1, few));
    whole = run.fed.whole;
    on_each = run.fed.on_each;
  };
  clients_done = run.clients_done;
}

-- the numbers from one on
pub length_range : (from n : ℕ) → length (range_with_len from n) ≡ n
length_range from zero = refl
length_range from (suc n) = ap suc (length_range (from + 1) n)

place_in : {A : Type 0} (f : ℕ → A) (from n c : ℕ) → c < n → slice_get (map f (range_with_len from n)) c ≡ Some (f (c + from))
place_in f from zero c lt = absurd (omega (arith, lt))
place_in f from (suc n) zero lt = ap (λ i. Some (f i)) (omega arith)
place_in f from (suc n) (suc c) lt = place_in f (from + 1) n c (omega (arith, lt)) ∙ ap (λ i. Some (f i)) (omega arith)

serial_run : (script : Scripted) (batch : ℕ) (packets : List (List ℕ)) (r : Run) → batch ≤ 64 → IsAccountedRun script batch packets r → IsRunOf script packets (outcomes_in script r) (histories_in r)
unfolding wider
serial_run script batch packets r few a = record {
  run = wider script batch packets (histories_in r) few a.run;
  clients = length-map (range_with_len 0 (clients_in script)) (λ client. outcomes client script (replies_of client r)) ∙ length_range 0 (clients_in script);
  outcomes = λ c is.
      place_in (λ client. outcomes client script (replies_of client r)) 0 (clients_in script) c is
      ∙ (ap (λ i. Some (outcomes i script (replies_of i r))) (omega arith) ∙ ap (λ replies. Some (outcomes c script replies)) (sym (a.replies c is)));
}

pub serial_outputs : SerialOutputsAreOfRuns
serial_outputs batch size script stream text few o = record {
  histories = histories_in o.run;
  outcomes = outcomes_in script o.run;
  run = serial_run script batch _ o.run few o.ran.whole;
  range = o.range;
  text = o.report;
}

pub thread_outputs : ThreadOutputsAreOfRuns
unfolding wider
thread_outputs batch size may script stream text few o = record {
  histories = o.histories;
  outcomes = o.outcomes;
  run = record { run = wider script batch _ o.histories few o.whole.run; clients = o.whole.clients; outcomes = o.whole.outcomes };
  range = o.range;
  text = o.report;
}
