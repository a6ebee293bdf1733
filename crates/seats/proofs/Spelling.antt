-- What was answered on a line is what the commands that it spells do.
use Rattle.seats.proofs.Imports.{false, ◌≡◌, ℕ, zero, suc, ◌+◌, Bool, List, [], ◌∷◌, ◌++◌, map, take, Option, Some, None, IsTrue, All, refl, ap, sym, ◌∙◌, subst, arith, slice_get, option_map, map-append, slice_get_within, DEMUX_NODES, LogEntry, act_of, Response, Scripted, Target, Slot, Want, Open, Close, ClientCommand, commands_of, own_call, plays_of, Standing, Ended, Progress, progress_from, no_slots, waits_on, waits_after, outcome_by, counters_after, last_counts, AreAsked, IsEvent, replies, IsGiven, ask_of, Ask, OpenDemux, Call, Leave, RefusedAsk, Tell, AreClosings, IsAnsweredBy, IsPlayed, LinesArePlayed, DoneCommand, done_command, calls_in, target_of, commands_by, outcomes_by, Turn, IsTurn, spelled, take_next, add-one, ⊎_elim, Once, Still, Task, CallTask, OpenFrom, Slots, first, first_free, IsOneCommand, IsFirstTold, IsOpenTold, spelled_by, progress}
use Rattle.lemmas.proofs.Lists.{at_place}
use Rattle.seats.proofs.DoneCommands.{IsPlain, done_fitted, first_on_target, given_call}
use Rattle.seats.proofs.Progress.{AreFitted, fitted_both, outcomes_are, Stands, stands_before}

-- ------ what was answered

fitted_one : (may : ℕ → Bool) (now : ℕ) (target : Target) (want : Want) (told : List LogEntry → Type 0) (ds : List DoneCommand) (t : Task)
    → ((slots : Slots) → first slots target (Once want) false ≡ Still t) → IsPlain may now (Still t) → IsOneCommand now target want told ds → AreFitted may ds
fitted_one may now target want told ds t same plain one =
    subst (AreFitted may) (sym one.2) (done_fitted may now (done_command target want one.0 one.1) t same plain one.3, tt)

-- one call on a node
fitted_call : (may : ℕ → Bool) (now node : ℕ) (want : Want) (told : List LogEntry → Type 0) (ds : List DoneCommand) → IsGiven may (act_of (own_call want now))
    → IsOneCommand now (target_of node) want told ds → AreFitted may ds
fitted_call may now node want told ds given one = fitted_one may now (target_of node) want told ds (CallTask node want) (λ slots. first_on_target slots node want) given one

pub fitted_closings : (may : ℕ → Bool) (n : ℕ) (ds : List DoneCommand) → AreClosings n ds → AreFitted may ds
fitted_closings may zero ds none = subst (AreFitted may) (sym none) tt
fitted_closings may (suc n) ds (before, mine, is, some, last) =
    subst (AreFitted may) (sym is) (fitted_both may before mine (fitted_closings may n before some)
    (⊎_elim (λ none. subst (AreFitted may) (sym none) tt) (λ one. fitted_call may 0 n Close (λ calls. Unit {0}) mine tt (one 0)) last))

module _ (may : ℕ → Bool) where
  by_table : (ask : Ask) (now : ℕ) (ds : List DoneCommand) (t : Tell) (bytes : List ℕ) → IsTrue (may now) → IsAnsweredBy ask now ds t bytes → AreFitted may ds
  by_table OpenDemux now ds t bytes given one = fitted_one may now (Slot 0) Open (λ calls. IsOpenTold (first_free calls) t bytes) ds (OpenFrom 0 0) (λ slots. refl) tt one
  by_table (Call node want) now ds t bytes given one = fitted_call may now node want (λ calls. IsFirstTold calls t bytes) ds (given_call may want now given) one
  by_table Leave now ds t bytes given (all, told) = fitted_closings may (DEMUX_NODES + 1) ds all
  by_table (RefusedAsk code) now ds t bytes given (none, told) = subst (AreFitted may) (sym none) tt

  pub turns_fitted : (ts : List Turn) → All (IsTurn may) ts → AreFitted may (spelled_by ts)
  turns_fitted [] are = tt
  turns_fitted (t ∷ ts) are =
      let one : IsTurn may t = are 0 t (omega arith) in
      fitted_both may t.commands (spelled_by ts)
      (⊎_elim (λ by. by_table (ask_of t.request) t.now t.commands t.told t.bytes one.moment by) (λ none. subst (AreFitted may) (sym none.1) tt) one.is)
      (turns_fitted ts (λ k u less. are (suc k) u (omega (arith, less))))

  pub spelled_fitted : (turns : List Turn) (leaving : List DoneCommand) → All (IsTurn may) turns → AreClosings (DEMUX_NODES + 1) leaving → AreFitted may (spelled turns leaving)
  spelled_fitted turns leaving are closed = fitted_both may (spelled_by turns) leaving (turns_fitted turns are) (fitted_closings may (DEMUX_NODES + 1) leaving closed)

-- ------ a client of a script

module _ (may : ℕ → Bool) (client : ℕ) (script : Scripted) (ds : List DoneCommand) (done : AreFitted may ds) (are : commands_of client script ≡ commands_by 0 ds) where
  how_far : (rs : List Response) → progress client script rs ≡ progress_from no_slots 0 (commands_by 0 ds) rs
  unfolding progress
  how_far rs = ap (λ (cs : List ClientCommand). progress_from no_slots 0 cs rs) are

  there : (i : ℕ) (e : LogEntry) → slice_get (calls_in ds) i ≡ Some e → Stands may (progress client script (replies (take i (calls_in ds)))) (calls_in ds) i e
  there i e at = subst (λ (p : Progress). Stands may p (calls_in ds) i e) (sym (how_far (replies (take i (calls_in ds))))) (stands_before may no_slots 0 0 ds done i e at)

  event_at : AreAsked script client (calls_in ds)
  event_at i e at = let s = there i e at in subst (λ (o : Option Standing). IsEvent (plays_of client script) (option_map (λ s. s.event) o) e) (sym s.is) (s.event (plays_of client script))

  once : (i : ℕ) (e : LogEntry) → slice_get (calls_in ds) (i + 1) ≡ Some e → waits_on client script (replies (take (i + 1) (calls_in ds))) ≡ None
  once i e at =
      let s = there (i + 1) e at in
      let before = at_place (calls_in ds) i (let low = slice_get_within (calls_in ds) (i + 1) e at in omega (arith, low)) in
      let front : replies (take (i + 1) (calls_in ds)) ≡ replies (take i (calls_in ds)) ++ before.0.response ∷ [] = ap (λ n. replies (take n (calls_in ds))) (add-one i) ∙ (ap replies (take_next (calls_in ds) i before.0 before.1) ∙ map-append (λ (e : LogEntry). e.response) (take i (calls_in ds)) (before.0 ∷ [])) in
      ap (λ (o : Option Standing). waits_after o (replies (take (i + 1) (calls_in ds)))) s.is
      ∙ (ap (λ (rs : List Response). waits_after (Some s.at) rs) front
      ∙ (last_counts (Some s.at) (replies (take i (calls_in ds))) before.0.response
      ∙ s.calm i before.0 (omega arith) before.1))

  pub played : IsPlayed may client script (calls_in ds) (outcomes_by 0 0 ds)
  played =
      let rs = replies (calls_in ds) in
      let o = outcomes_are may no_slots 0 0 ds done (λ (e : Ended). counters_after client script (take e.from rs)) in
      record {
        events = event_at;
        ends = ap (λ (p : Progress). option_map (λ s. s.event) p.standing) (how_far rs) ∙ ap (λ (o : Option Standing). option_map (λ s. s.event) o) o.1;
        outcomes = sym (ap (λ (p : Progress). map (λ e. outcome_by (counters_after client script (take e.from rs)) e) p.ended) (how_far rs) ∙ o.0);
        moments = λ i e at. (there i e at).given;
        once = once;
      }

pub lines_are_played : LinesArePlayed
lines_are_played may turns leaving are closed client script is = played may client script (spelled turns leaving) (spelled_fitted may turns leaving are closed) is
