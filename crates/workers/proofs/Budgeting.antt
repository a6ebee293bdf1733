-- A client of a run by threads keeps to its budget, at each moment.
use Rattle.workers.proofs.Imports.{◌≡◌, refl, sym, subst, ◌∙◌, ℕ, ◌+◌, ◌*◌, ◌<◌, ◌≤◌, Bool, true, false, List, [], ◌∷◌, ◌++◌, length, take, slice_get, Some, inl, inr, arith, if◌then◌else◌, slice_get_within, has_at, Fed, DEMUX_NODES, Entry, LogEntry, clients_in, Scripted, all_commands, bytes_written, most_calls, Others, calls_are_paid, Caller, ended, at_place, one_value, HaveHistories, TableId, View, replies, sources, IsRunning, CallsAreWithinBudget, FewBytesAreFewCalls, ManyCallsAreTooLong, HasMade, fed_entries, HasLogged, IsLoggedIn}
use Rattle.std.specs.Prelude.{◌⊎◌}
use Rattle.workers.proofs.Calls.{has_all}
use Rattle.workers.proofs.Feeders.{behind_of, acts_of, fed_is}
use Rattle.workers.proofs.Owning.{Moment, idle_there, made_by}
use Rattle.workers.proofs.Completing.{feeders_calls, whole, whole_have, whole_made}
use Rattle.workers.proofs.Naming.{named_call}
use Rattle.workers.proofs.Merged.{are_woven}
use Rattle.workers.proofs.SoFar.{has_logged, IsOfScript, log_at, done, so_far}

-- whether the end has passed
over_or_not : (behind : List Entry) → (behind ≡ []) ⊎ (behind ≡ ended ∷ []) → (over : Bool) × (behind ≡ behind_of over)
over_or_not behind (inl is) = (false, is)
over_or_not behind (inr is) = (true, is)

module _ (script : Scripted) (among : ℕ → Bool) (most : ℕ) (may : ℕ → Bool) (packets : List (List ℕ)) (behind : List Entry) (feeder : Caller) (fs : List Fed) (others : List Caller) (books : List (List LogEntry))
    (r : IsRunning script among most may packets behind feeder fs others books) where
  abbrev over : Bool
  over = (over_or_not behind r.end).0

  made : (node : ℕ) (p : TableId × View Entry) → slice_get feeder.passes node ≡ Some p → HasMade (if among node then made_by over packets fs else []) p
  made node p at = subst (λ l. HasMade (if among node then fed_entries packets fs ++ l else []) p) (over_or_not behind r.end).1 (r.fed.made node p at)

  named_in : (e : LogEntry) → IsLoggedIn books e → among e.node ≡ true
  named_in e (c, log, i, book, at) =
      let client = at_place others c (omega (arith, slice_get_within books c log book, r.logs, r.clients)) in
      r.named e.node (named_call script c (replies (take i log)) e ((r.called c client.0 log client.1 book).events i e at))

  logged_each : (c : ℕ) (client : Caller) (log : List LogEntry) → slice_get others c ≡ Some client → slice_get books c ≡ Some log → HasLogged (sources script packets) c client log
  logged_each c client log at book = has_logged script packets c may client log (r.called c client log at book)

  histories : HaveHistories (others ++ whole among (made_by over packets fs) feeder ∷ [])
  histories = whole_have among (made_by over packets fs) feeder others (feeders_calls over packets fs) made (idle_there among others books (r.logs ∙ sym r.clients) (sources script packets) logged_each named_in) r.histories

  abbrev m : Moment
  m = record {
    packets = sources script packets;
    acts = acts_of over fs;
    feeder = whole among (made_by over packets fs) feeder;
    others = others;
    books = books;
    fed = λ node p at. subst (λ es. HasMade es p) (fed_is over (sources script packets) fs) (whole_made among (made_by over packets fs) feeder made node p at);
    logs = r.logs ∙ sym r.clients;
    each = logged_each;
  }

  of_script : IsOfScript script packets most may over fs m
  of_script = record { packets = refl; acts = refl; tiles = r.fed.tiles; count = r.logs; calls = r.called }

  low : (e : LogEntry) → IsLoggedIn books e → e.node ≤ DEMUX_NODES
  low e (c, log, i, book, at) = has_all (λ (e : LogEntry). e.node ≤ DEMUX_NODES) log (r.nodes c log book) e (has_at log e i at)

  within : (c : ℕ) (log : List LogEntry) → slice_get books c ≡ Some log → length log ≤ most_calls (all_commands script.lines) (188 * length packets + bytes_written script)
  unfolding so_far done
  within c log book =
      let hs = are_woven m histories in
      let is : c < clients_in script = omega (arith, slice_get_within books c log book, r.logs) in
      let here = log_at script packets most may over fs m of_script histories low hs.0 hs.1 c is in
      let bound = calls_are_paid Others script most packets hs.0 (so_far script packets most may over fs m of_script histories low hs.0 hs.1) r.numbered r.are_packets c is in
      subst (λ l. length l ≤ most_calls (all_commands script.lines) (188 * length packets + bytes_written script)) (one_value books c here.0 log here.1 book) bound

pub calls_within : CallsAreWithinBudget
calls_within script among most may packets behind feeder fs others books r c log book = within script among most may packets behind feeder fs others books r c log book

pub few_calls : FewBytesAreFewCalls
few_calls script among most may packets behind feeder feeding others books r few c log book =
    omega (arith, few, calls_within script among most may packets behind feeder feeding others books r c log book)

pub many_calls : ManyCallsAreTooLong
many_calls script among most may packets behind feeder feeding others books r start ahead taken fits c log book is =
    inr (is, omega (arith, is, fits, calls_within script among most may packets behind feeder feeding others books r c log book))
