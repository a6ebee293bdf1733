-- The workers at their end.
use Rattle.workers.proofs.Imports.{◌≡◌, ◌≢◌, ◌⊎◌, inl, inr, ⊎_elim, ℕ, Bool, ◌+◌, List, [], ◌∷◌, ◌++◌, length, map, Vec, Global, Option, Some, None, refl, ap, sym, ◌∙◌, subst, arith, length-append, slice_index_or, option_map, All, slice_get-map, slice_get-get_or, get_or_from_slice_get, slice_get_within, length-map, TableId, cut, told_entry, LogEntry, ToldEntry, Fed, Outcome, clients_in, Scripted, replies, MOST_CALLS, Stop, NoMemory, TooLong, SourceEnd, Pulling, Pulls, Pulls-done, Caller, IsSameCaller, AreFreshCallers, AreAllCallers, ended, still_all, at_place, at_end, at_last, at_before, one_value, AreOnNodes, ClientWorker, FeederWorker, LeftByThreads, log_of, IsWorking, HasCome, AreFreshWorkers, HaveCome, AreOutcomesOf, is_named, HasFed, HasFedAll, HasPassedAll, GoesFirst, StopsBy, IsLeftByWorkers, HasWorked, AreWorked}
use Rattle.std.specs.Prelude.{slice_get}
use Rattle.workers.proofs.Lists.{mapped}
use Rattle.workers.proofs.Working.{next_is}
use Rattle.workers.proofs.Beginning.{begun_works}

-- ------ why a run stops

pub stops_none : (feeder : Option Stop) → StopsBy feeder [] feeder
stops_none feeder = record { none = λ is. (is, λ k w at. absurd (cc at)); memory = λ found. (found, λ k w at. absurd (cc at)); one = inl refl }

pub stops_more : (feeder : Option Stop) (ws : List ClientWorker) (w : ClientWorker) (a b : Option Stop) → StopsBy feeder ws a → GoesFirst a w.stop b → StopsBy feeder (ws ++ w ∷ []) b
stops_more feeder ws w a b s g = record {
  none = λ is. let k = g.none is in let before = s.none k.0 in (before.0, λ i v at. ⊎_elim (λ old. before.1 i v old) (λ last. subst (λ (z : ClientWorker). z.stop ≡ None) last.1 k.1) (at_end ws w v i at));
  memory = λ found. let k = g.memory found in let before = s.memory k.0 in (before.0, λ i v at. ⊎_elim (λ old. before.1 i v old) (λ last. subst (λ (z : ClientWorker). z.stop ≢ Some NoMemory) last.1 k.1) (at_end ws w v i at));
  one = ⊎_elim (λ e. ⊎_elim (λ f. inl (e ∙ f)) (λ m. inr (m.0, m.1, at_before ws (w ∷ []) m.0 m.1 m.2, e ∙ m.3)) s.one) (λ e. inr (length ws, w, at_last ws w, e)) g.one;
}

pub no_stop : (stop : Option Stop) → stop ≡ None → stop ≢ Some NoMemory
no_stop stop is e = absurd (cc (sym is ∙ e))

-- ------ one client

module _ (may : ℕ → Bool) (locks : List TableId) where
  pub come_at : (old new : List ClientWorker) → HaveCome may locks old new → (k : ℕ) (w : ClientWorker) → slice_get new k ≡ Some w → (v : ClientWorker) × (slice_get old k ≡ Some v) × HasCome may locks v w
  come_at old new h k w at =
      let low = slice_get_within new k w at in let long = h.long in let v = at_place old k (omega arith) in
      let come = h.each k w (omega arith) in
      (v.0, v.1, subst (λ (z : ClientWorker). HasCome may locks z w) (get_or_from_slice_get old k v.0 w v.1) (subst (λ (z : ClientWorker). HasCome may locks (slice_index_or old k w) z) (get_or_from_slice_get new k w w at) come))

  worked_one : (script : Scripted) (c : ℕ) (v w : ClientWorker) (told : List Outcome) → IsWorking script c may v → HasCome may locks v w → w.stop ≡ None → AreOutcomesOf w.core told → HasWorked script c may w.client (log_of w) told
  worked_one script c v w told is come none outcomes =
      let g = come.goes_on (no_stop w.stop none) script c is in record {
        called = g.called;
        ends = next_is script c (replies (log_of w)) w.core g.after ∙ come.ends none;
        outcomes = outcomes c script (replies (log_of w)) g.after;
      }

-- ------ the feeder

-- all packets of the stream that was taken have passed
pub worked_feeder : {B : Type 0} (among : ℕ → Bool) (most : ℕ) (may : ℕ → Bool) (behind : SourceEnd → ℕ → Bool) (took : List Fed → B → B → Type 0) (x y : SourceEnd) (first : Pulling) (was now : B) (f : FeederWorker) (k : HasPassedAll among most may behind took x y first was now f) (ahead : List ℕ) → Pulls ahead [] [] first
    → HasFedAll among most may (cut first.cutting.size (ahead ++ k.draws.carries.more)).packets f.feeder k.feeding
worked_feeder among most may behind took x y first was end f k ahead pulls =
    let more = k.draws.carries.more in
    let now : Pulls ahead more k.packets f.puller = k.draws.carries.pulls ahead [] [] pulls in
    let all : (cut first.cutting.size (ahead ++ more)).packets ≡ k.packets = ap (λ size. (cut size (ahead ++ more)).packets) (sym k.draws.carries.size) ∙ (Pulls-done ahead more k.packets f.puller now k.done).packets in
    record {
      fed = subst (λ (ps : List (List ℕ)). HasFed among most may ps (ended ∷ []) f.feeder k.feeding) (sym all) k.fed;
      full = k.full ahead [] [] pulls;
    }

-- ------ all of them

books_are : (logs : List (Vec ToldEntry Global)) (ws : List ClientWorker) → map (λ (log : Vec ToldEntry Global). log.items) logs ≡ map (λ (w : ClientWorker). w.log.items) ws → map (λ (log : Vec ToldEntry Global). map told_entry log.items) logs ≡ map log_of ws
books_are logs ws e = out logs ∙ (ap (map (map told_entry)) e ∙ back ws) where
  out : (xs : List (Vec ToldEntry Global)) → map (λ (log : Vec ToldEntry Global). map told_entry log.items) xs ≡ map (map told_entry) (map (λ (log : Vec ToldEntry Global). log.items) xs)
  out [] = refl
  out (x ∷ xs) = ap (λ l. map told_entry x.items ∷ l) (out xs)

  back : (ws : List ClientWorker) → map (map told_entry) (map (λ (w : ClientWorker). w.log.items) ws) ≡ map log_of ws
  back [] = refl
  back (w ∷ ws) = ap (λ l. log_of w ∷ l) (back ws)

module _ (script : Scripted) (locks : List TableId) (n : ℕ) (feeder : Caller) (clients : List Caller) (fresh : AreFreshCallers locks n feeder clients) (all : AreAllCallers locks (clients ++ feeder ∷ []))
    (may : ℕ → Bool) (old new : List ClientWorker) (b : AreFreshWorkers script clients old) (h : HaveCome may locks old new) where
  pub many : length new ≡ n
  many = h.long ∙ (sym (length-map old (λ (v : ClientWorker). v.client)) ∙ (ap length b.are ∙ fresh.long))

  -- they are the same callers
  pub still_callers : (g : Caller) → IsSameCaller feeder g → AreAllCallers locks (map (λ (w : ClientWorker). w.client) new ++ g ∷ [])
  still_callers g same = still_all locks (clients ++ feeder ∷ []) (now ++ g ∷ []) all (size, each) where
    now : List Caller
    now = map (λ (w : ClientWorker). w.client) new

    count : length now ≡ length clients
    count = length-map new (λ (v : ClientWorker). v.client) ∙ (many ∙ sym fresh.long)

    size : length (now ++ g ∷ []) ≡ length (clients ++ feeder ∷ [])
    size = length-append now (g ∷ []) ∙ (ap (λ (k : ℕ). k + 1) count ∙ sym (length-append clients (feeder ∷ [])))

    client_same : (k : ℕ) (c d : Caller) → slice_get clients k ≡ Some c → slice_get now k ≡ Some d → IsSameCaller c d
    client_same k c d at there =
        let v = mapped (λ (x : ClientWorker). x.client) new k d there in
        let u = come_at may locks old new h k v.0 v.1 in
        let one : u.0.client ≡ c = one_value clients k u.0.client c (ap (λ (l : List Caller). slice_get l k) (sym b.are) ∙ (slice_get-map (λ (x : ClientWorker). x.client) old k ∙ ap (option_map (λ (x : ClientWorker). x.client)) u.1)) at in
        subst (λ (x : Caller). IsSameCaller x d) one (subst (IsSameCaller u.0.client) v.2 u.2.same)

    each : (k : ℕ) (c d : Caller) → slice_get (clients ++ feeder ∷ []) k ≡ Some c → slice_get (now ++ g ∷ []) k ≡ Some d → IsSameCaller c d
    each k c d at there = ⊎_elim
        (λ before. ⊎_elim (λ after. client_same k c d before after) (λ last. let low = slice_get_within clients k c before in let e = last.0 in absurd (omega (arith, count))) (at_end now g d k there))
        (λ here. ⊎_elim (λ after. let low = slice_get_within now k d after in let e = here.0 in absurd (omega (arith, count)))
        (λ last. subst (λ (x : Caller). IsSameCaller x d) here.1 (subst (IsSameCaller feeder) last.1 same)) (at_end now g d k there))
        (at_end clients feeder c k at)

  module _ (f : FeederWorker) (feeding : List Fed) (w : LeftByThreads) (left : IsLeftByWorkers f feeding new w) (none : (k : ℕ) (v : ClientWorker) → slice_get new k ≡ Some v → v.stop ≡ None) where
    -- each client has done its commands
    pub worked_each : (c : ℕ) (client : Caller) (log : List LogEntry) (told : List Outcome) → slice_get w.clients.items c ≡ Some client → slice_get (map (λ (log : Vec ToldEntry Global). map told_entry log.items) w.logs.items) c ≡ Some log → slice_get (map (λ (those : Vec Outcome Global). those.items) w.outcomes.items) c ≡ Some told
        → HasWorked script c may client log told
    worked_each c client log told at_client at_log at_told =
        let v = mapped (λ (x : ClientWorker). x.client) new c client (ap (λ (l : List Caller). slice_get l c) (sym left.clients) ∙ at_client) in
        let u = come_at may locks old new h c v.0 v.1 in
        let one : log_of v.0 ≡ log = one_value (map log_of new) c (log_of v.0) log (slice_get-map log_of new c ∙ ap (option_map log_of) v.1) (ap (λ (l : List (List LogEntry)). slice_get l c) (sym (books_are w.logs.items new left.logs)) ∙ at_log) in
        subst (λ (x : Caller). HasWorked script c may x log told) v.2 (subst (λ (x : List LogEntry). HasWorked script c may v.0.client x told) one
        (worked_one may locks script c u.0 v.0 told (begun_works script locks n feeder clients fresh all old b c u.0 u.1 may) u.2 (none c v.0 v.1) (left.each c v.0 told v.1 at_told)))

    pub all_worked : (most : ℕ) (stream : List (List ℕ)) → n ≡ clients_in script → HasFedAll (is_named script.lines) most may stream f.feeder feeding
        → AreWorked script (is_named script.lines) most may stream w.feeder w.feeding.items w.clients.items (map (λ (log : Vec ToldEntry Global). map told_entry log.items) w.logs.items) (map (λ (those : Vec Outcome Global). those.items) w.outcomes.items)
    all_worked most stream is fed = record {
      fed = subst (λ (es : List Fed). HasFedAll (is_named script.lines) most may stream w.feeder es) (sym left.feeding) (subst (λ (x : Caller). HasFedAll (is_named script.lines) most may stream x feeding) (sym left.feeder) fed);
      named = λ node is. is;
      clients = ap length left.clients ∙ (length-map new (λ (v : ClientWorker). v.client) ∙ (many ∙ is));
      logs = ap length (books_are w.logs.items new left.logs) ∙ (length-map new log_of ∙ (many ∙ is));
      outcomes = length-map w.outcomes.items (λ (those : Vec Outcome Global). those.items) ∙ (left.outcomes ∙ (many ∙ is));
      each = worked_each;
    }

    pub all_same : IsSameCaller feeder f.feeder → AreAllCallers locks (w.clients.items ++ w.feeder ∷ [])
    all_same same = subst (λ (x : Caller). AreAllCallers locks (w.clients.items ++ x ∷ [])) (sym left.feeder) (subst (λ (l : List Caller). AreAllCallers locks (l ++ f.feeder ∷ [])) (sym left.clients) (still_callers f.feeder same))

    -- each entry is on a node
    pub all_on_nodes : All (λ (log : Vec ToldEntry Global). AreOnNodes log.items) w.logs.items
    all_on_nodes k d low =
        let x = slice_index_or w.logs.items k d in
        let at : slice_get w.logs.items k ≡ Some x = slice_get-get_or w.logs.items k d low in
        let v = mapped (λ (z : ClientWorker). z.log.items) new k x.items (ap (λ (l : List (List ToldEntry)). slice_get l k) (sym left.logs) ∙ (slice_get-map (λ (log : Vec ToldEntry Global). log.items) w.logs.items k ∙ ap (option_map (λ (log : Vec ToldEntry Global). log.items)) at)) in
        let u = come_at may locks old new h k v.0 v.1 in
        subst AreOnNodes v.2 (u.2.fit (no_stop v.0.stop (none k v.0 v.1))).nodes

-- the feeder has made too many reads, or a client too many calls
pub one_of_both : (may : ℕ → Bool) (locks : List TableId) (old new : List ClientWorker) → HaveCome may locks old new → (feeder stop : Option Stop) (turns : ℕ) → StopsBy feeder new stop → stop ≡ Some (TooLong turns)
    → (feeder ≡ Some (TooLong turns)) ⊎ ((turns ≡ MOST_CALLS) × ((k : ℕ) × (w : ClientWorker) × (slice_get new k ≡ Some w) × (w.core.step ≡ MOST_CALLS)))
one_of_both may locks old new h feeder stop turns s is = ⊎_elim (λ first. inl (sym first ∙ is))
    (λ one. let u = come_at may locks old new h one.0 one.1 one.2 in let k = u.2.too_long turns (sym one.3 ∙ is) in inr (k.0, (one.0, one.1, one.2, k.1))) s.one
