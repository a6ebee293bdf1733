-- What the threads of a run leave are the histories of a run of the script.
use Rattle.workers.proofs.Imports.{◌≡◌, ℕ, Bool, true, ◌<◌, ◌≤◌, List, [], ◌∷◌, ◌++◌, length, map, sum, take, slice_get, Some, None, ap, sym, ◌∙◌, subst, refl, arith, slice_get_within, TableId, View, Fed, DEMUX_NODES, Outcome, Entry, LogEntry, clients_in, Scripted, next_event, outcomes, Batch, replies, sources, AreFull, IsWholeRun, Others, IsSoFar, IsOver, runs_end, are_accounted, Caller, HaveHistories, at_place, batch_of, HasWorked, AreWorked, IsLoggedIn, WorkersHaveCalled, steps_from}
use Rattle.workers.proofs.Members.{steps_tile}
use Rattle.workers.proofs.FullBatches.{total_is}
use Rattle.workers.proofs.Owning.{Moment, at_end, acts_by, made_by}
use Rattle.workers.proofs.Completing.{whole, whole_full}
use Rattle.workers.proofs.Naming.{named_call}
use Rattle.workers.proofs.Merged.{AreWoven, have_whole, there, node_low}
use Rattle.workers.proofs.SoFar.{has_logged, IsOfScript, log_at, moment_at, done, fed, so_far}

-- what became of a client
became : (script : Scripted) (among : ℕ → Bool) (most : ℕ) (may : ℕ → Bool) (stream : List (List ℕ)) (feeder : Caller) (fs : List Fed) (others : List Caller) (books : List (List LogEntry)) (told : List (List Outcome))
    → AreWorked script among most may stream feeder fs others books told → (c : ℕ) (client : Caller) (log : List LogEntry) → slice_get others c ≡ Some client → slice_get books c ≡ Some log
    → (out : List Outcome) × (slice_get told c ≡ Some out) × HasWorked script c may client log out
became script among most may stream feeder fs others books told w c client log at book =
    let out = at_place told c (omega (arith, slice_get_within books c log book, w.logs, w.outcomes)) in
    (out.0, out.1, w.each c client log out.0 at book out.1)

-- what the threads leave was called so
pub have_called : WorkersHaveCalled
have_called script among most may stream feeder fs others books told w = record {
  fed = w.fed.fed.made;
  logs = w.logs ∙ sym w.clients;
  each = λ c client log at book. has_logged script stream c may client log (became script among most may stream feeder fs others books told w c client log at book).2.called;
  named = named_in;
} where
  named_in : (e : LogEntry) → IsLoggedIn books e → among e.node ≡ true
  named_in e (c, log, i, book, at) =
      let client = at_place others c (omega (arith, slice_get_within books c log book, w.logs, w.clients)) in
      w.named e.node (named_call script c (replies (take i log)) e ((became script among most may stream feeder fs others books told w c client.0 log client.1 book).2.called.events i e at))

module _ (script : Scripted) (among : ℕ → Bool) (most : ℕ) (may : ℕ → Bool) (stream : List (List ℕ)) (feeder : Caller) (fs : List Fed) (others : List Caller) (books : List (List LogEntry)) (told : List (List Outcome))
    (w : AreWorked script among most may stream feeder fs others books told) (full_row : (node : ℕ) → node ≤ DEMUX_NODES → (p : TableId × View Entry) × (slice_get feeder.passes node ≡ Some p))
    (had : HaveHistories (others ++ feeder ∷ [])) (low : (e : LogEntry) → IsLoggedIn books e → e.node ≤ DEMUX_NODES) where
  abbrev pub m : Moment
  m = at_end among (sources script stream) feeder fs others books (have_called script among most may stream feeder fs others books told w)

  have : HaveHistories (others ++ whole among (made_by true stream fs) feeder ∷ [])
  have = have_whole among (sources script stream) feeder fs others books (have_called script among most may stream feeder fs others books told w) had

  full : (node : ℕ) → node ≤ DEMUX_NODES → (p : TableId × View Entry) × (slice_get (whole among (made_by true stream fs) feeder).passes node ≡ Some p)
  full = whole_full among (made_by true stream fs) feeder full_row

  of_script : IsOfScript script stream most may true fs m
  of_script = record {
    packets = refl;
    acts = refl;
    tiles = w.fed.fed.tiles;
    count = w.logs;
    calls = λ c client log at book. (became script among most may stream feeder fs others books told w c client log at book).2.called;
  }

  module _ (hs : List (List LogEntry)) (woven : AreWoven m hs) where
    now : IsSoFar Others script most stream hs
    now = so_far script stream most may true fs m of_script have low hs woven

    -- what became of the client of a log
    out_of : (c : ℕ) (log : List LogEntry) → slice_get books c ≡ Some log → (out : List Outcome) × (slice_get told c ≡ Some out) × (next_event c script (replies log) ≡ None) × (out ≡ outcomes c script (replies log))
    out_of c log book =
        let client = at_place others c (omega (arith, slice_get_within books c log book, w.logs, w.clients)) in
        let b = became script among most may stream feeder fs others books told w c client.0 log client.1 book in
        (b.0, b.1, b.2.ends, b.2.outcomes)

    whole_is : sum (map (λ (b : Batch). b.size) (map batch_of fs)) ≡ length stream
    whole_is = let t = total_is most 0 (length stream) fs w.fed.fed.tiles in omega (arith, t)

    over : IsOver now
    unfolding now so_far done fed
    over = record {
      whole = whole_is;
      ended = λ node h at.
          (there m have low hs woven node h at).2.steps ∙ ap (λ o. steps_from 0 (acts_by m o)) (full node (node_low m have low hs woven node h at)).1
          ∙ steps_tile most 0 (length stream) 0 fs w.fed.fed.tiles;
      through = λ c is. let log = log_at script stream most may true fs m of_script have low hs woven c is in (out_of c log.0 log.1).2;
    }

    pub whole_run : IsWholeRun script most may stream told hs
    unfolding now so_far done fed
    whole_run =
        let ends = runs_end Others script most stream hs now over in
        record {
          run = ends.0;
          accounted = are_accounted script most stream hs ends.0;
          full = subst (AreFull most) (sym ends.1) w.fed.full;
          moments = moment_at script stream most may true fs m of_script have low hs woven w.fed.fed.moments;
          clients = w.outcomes;
          outcomes = λ c is. told_of c is (ends.2 c is);
        } where
          told_of : (c : ℕ) (is : c < clients_in script) → ((runs_end Others script most stream hs now over).0.clients_done c is).made ≡ (now.clients c is).made
              → slice_get told c ≡ Some (outcomes c script (replies ((runs_end Others script most stream hs now over).0.clients_done c is).made))
          told_of c is same =
              let log = log_at script stream most may true fs m of_script have low hs woven c is in
              let o = out_of c log.0 log.1 in
              o.1 ∙ ap (λ z. Some z) (o.3 ∙ ap (λ made. outcomes c script (replies made)) (sym same))
