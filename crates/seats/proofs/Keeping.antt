-- What a seat keeps of the commands that it has done.
use Rattle.seats.proofs.Imports.{IsFit, Vec, Global, TableId, ◌<◌, ◌≤◌, HandedOver, calls_made, commands_done, ◌≡◌, ℕ, ◌+◌, List, [], ◌∷◌, ◌++◌, length, ap, refl, sym, ◌∙◌, arith, length-append, append-nil, append_assoc, append_cancel_left, LogEntry, Outcome, OutcomeKind, kind_by, Seat, KeepsOne, log_of, DoneCommand, no_counters, calls_in, outcome_at, outcomes_by, AreKept}
use Rattle.seats.proofs.Going.{log_long, made_more}

-- ------ lists of outcomes

pub outcomes_both : (n s : ℕ) (ds es : List DoneCommand) → outcomes_by n s (ds ++ es) ≡ outcomes_by n s ds ++ outcomes_by (n + length ds) (s + length (calls_in ds)) es
outcomes_both n s [] es =
    let a : n ≡ n + 0 = omega arith in let b : s ≡ s + 0 = omega arith in
    ap (λ k. outcomes_by k s es) a ∙ ap (λ k. outcomes_by (n + 0) k es) b
outcomes_both n s (d ∷ ds) es =
    let size = length-append d.calls (calls_in ds) in
    let a : (n + 1) + length ds ≡ n + length (d ∷ ds) = omega arith in
    let b : (s + length d.calls) + length (calls_in ds) ≡ s + length (calls_in (d ∷ ds)) = omega (arith, size) in
    ap (λ (os : List Outcome). outcome_at n s (s + length d.calls) (kind_by no_counters d.ending) ∷ os)
    (outcomes_both (n + 1) (s + length d.calls) ds es
    ∙ (ap (λ k. outcomes_by (n + 1) (s + length d.calls) ds ++ outcomes_by k ((s + length d.calls) + length (calls_in ds)) es) a
    ∙ ap (λ k. outcomes_by (n + 1) (s + length d.calls) ds ++ outcomes_by (n + length (d ∷ ds)) k es) b))

pub outcomes_long : (n s : ℕ) (ds : List DoneCommand) → length (outcomes_by n s ds) ≡ length ds
outcomes_long n s [] = refl
outcomes_long n s (d ∷ ds) = let more = outcomes_long (n + 1) (s + length d.calls) ds in omega (arith, more)

-- one after another
pub kept_trans : (n m step then : ℕ) (ds es : List DoneCommand) (was mid now : List Outcome) → AreKept n step ds was mid → AreKept m then es mid now → m ≡ n + length ds → then ≡ step + length (calls_in ds)
    → AreKept n step (ds ++ es) was now
kept_trans n m step then ds es was mid now a b long is =
    b ∙ (ap (λ (l : List Outcome). l ++ outcomes_by m then es) a
    ∙ (ap (λ k. (was ++ outcomes_by n step ds) ++ outcomes_by k then es) long
    ∙ (ap (λ k. (was ++ outcomes_by n step ds) ++ outcomes_by (n + length ds) k es) is
    ∙ (append_assoc was (outcomes_by n step ds) (outcomes_by (n + length ds) (step + length (calls_in ds)) es)
    ∙ ap (λ (l : List Outcome). was ++ l) (sym (outcomes_both n step ds es))))))

-- none
pub kept_none : (n step : ℕ) (was now : List Outcome) → now ≡ was → AreKept n step [] was now
kept_none n step was now is = is ∙ sym (append-nil was)

-- ------ a seat

-- the calls by which its log has grown are these
pub the_calls : (old new : Seat) (calls others : List LogEntry) → log_of new ≡ log_of old ++ calls → log_of new ≡ log_of old ++ others → calls ≡ others
the_calls old new calls others a b = append_cancel_left (log_of old) calls others (sym a ∙ b)

-- behind these commands
pub done_more : (a b : Seat) (ds : List DoneCommand) → b.handed ≡ a.handed → AreKept (commands_done a) (calls_made a) ds a.outcomes.items b.outcomes.items → commands_done b ≡ commands_done a + length ds
done_more a b ds same kept =
    let h = ap (λ (k : HandedOver). k.commands) same in let m = ap length kept in
    let t = length-append a.outcomes.items (outcomes_by (commands_done a) (calls_made a) ds) in let u = outcomes_long (commands_done a) (calls_made a) ds in omega (arith, h, m, t, u)

-- one command, of which it keeps how it ended
pub keeps_one : (kind : OutcomeKind) (old mid new : Seat) (from : ℕ) → from ≡ old.handed.calls + (length old.log.items + length old.made.items) → mid.handed ≡ old.handed → mid.outcomes.items ≡ old.outcomes.items
    → new.outcomes.items ≡ mid.outcomes.items ++ outcome_at (mid.handed.commands + length mid.outcomes.items) from (mid.handed.calls + (length mid.log.items + length mid.made.items)) kind ∷ []
    → new.handed ≡ mid.handed → log_of new ≡ log_of mid → KeepsOne kind old new
keeps_one kind old mid new from begins was same told now log =
    let a = log_long old in let b = log_long mid in let c = ap length log in let d = ap (λ (k : HandedOver). k.commands) was in let e = ap length same in let h = ap (λ (k : HandedOver). k.calls) now in
    let to = mid.handed.calls + (length mid.log.items + length mid.made.items) in let n = mid.handed.commands + length mid.outcomes.items in
    let count : n ≡ commands_done old = omega (arith, d, e) in
    let f : from ≡ calls_made old = omega (arith, begins, a) in
    let t : to ≡ calls_made new = omega (arith, b, c, h) in (
      now ∙ was,
      told ∙ (ap (λ (os : List Outcome). os ++ outcome_at n from to kind ∷ []) same
          ∙ (ap (λ k. old.outcomes.items ++ outcome_at k from to kind ∷ []) count
          ∙ (ap (λ k. old.outcomes.items ++ outcome_at (commands_done old) k to kind ∷ []) f
          ∙ ap (λ k. old.outcomes.items ++ outcome_at (commands_done old) (calls_made old) k kind ∷ []) t))),
    )

pub kept_one : (kind : OutcomeKind) (old new : Seat) (d : DoneCommand) → KeepsOne kind old new → log_of new ≡ log_of old ++ d.calls → kind_by no_counters d.ending ≡ kind
    → AreKept (commands_done old) (calls_made old) (d ∷ []) old.outcomes.items new.outcomes.items
kept_one kind old new d k log ended =
    k.1 ∙ (ap (λ n. old.outcomes.items ++ outcome_at (commands_done old) (calls_made old) n kind ∷ []) (made_more old new d.calls k.0 log)
    ∙ ap (λ n. old.outcomes.items ++ outcome_at (commands_done old) (calls_made old) (calls_made old + length d.calls) n ∷ []) (sym ended))

-- where calls were made, it may keep that one command more was done
pub paid : (locks : List TableId) (old new : Seat) (n : ℕ) → IsFit locks old → new.handed ≡ old.handed → new.outcomes ≡ old.outcomes → length old.log.items + length old.made.items + n ≤ length new.log.items + length new.made.items → 0 < n
    → new.handed.commands + length new.outcomes.items + 1 ≤ new.handed.calls + (length new.log.items + length new.made.items)
paid locks old new n fit same told more some =
    let d = fit.done in let a = ap (λ (k : HandedOver). k.commands) same in let b = ap (λ (k : HandedOver). k.calls) same in let o = ap (λ (v : Vec Outcome Global). length v.items) told in
    omega (arith, d, a, b, o, more, some)
