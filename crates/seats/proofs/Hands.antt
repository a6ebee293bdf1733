-- Seats that hand their calls over, request by request.
use Rattle.seats.proofs.Imports.{Result, Ok, Err, OnOk, OnErr, ◌≡◌, ◌+◌, ◌≤◌, ℕ, Bool, true, false, List, [], ◌∷◌, ◌++◌, length, refl, ap, sym, ◌∙◌, subst, arith, length-append, append-nil, append_assoc, All-nil, All-append, SourceEnd, SinkEnd, Caller, LogEntry, Outcome, DEMUX_NODES, AreOnNodes, AreMarked, AreClosings, GivesBack, GoesOn, HandedOver, HasAnsweredAll, HasDone, HasGone, HasTurned, AreTold, IsTold, MakesCalls, MakesLast, MakesTurn, MakesTurns, Seat, Turn, DoneCommand, AreKept, calls_in, calls_made, calls_of, commands_done, log_of, outcomes_by, spelled, spelled_by}
use Rattle.seats.proofs.Doing.{calls_both}
use Rattle.seats.proofs.Going.{calls_trans}
use Rattle.seats.proofs.Keeping.{outcomes_both, outcomes_long, the_calls}
use Rattle.seats.proofs.Turning.{makes_both, spelled_more, calls_more, calls_one}

-- ------ a seat

-- the calls that it has made: those that it has handed over, and those that it keeps
abbrev pub all_calls : (handed : List LogEntry) → Seat → List LogEntry
all_calls handed s = handed ++ log_of s

-- what became of all of its commands
abbrev pub all_told : (said : List Outcome) → Seat → List Outcome
all_told said s = said ++ s.outcomes.items

-- so many it has handed over
abbrev pub HasHanded : (handed : List LogEntry) → (said : List Outcome) → Seat → Type 0
HasHanded handed said s = (s.handed.calls ≡ length handed) × (s.handed.commands ≡ length said)

module _ (handed : List LogEntry) (said : List Outcome) (s : Seat) (has : HasHanded handed said s) where
  all_long : length (all_calls handed s) ≡ calls_made s
  all_long = let a = length-append handed (log_of s) in let b = has.0 in omega (arith, a, b)

  told_long : length (all_told said s) ≡ commands_done s
  told_long = let a = length-append said s.outcomes.items in let b = has.1 in omega (arith, a, b)

  -- some calls more
  all_goes : (first : Caller) (new : Seat) → MakesCalls 0 first (all_calls handed s) s.client → GoesOn s new → MakesCalls 0 first (all_calls handed new) new.client
  all_goes first new made goes =
      subst (λ (l : List LogEntry). MakesCalls 0 first l new.client) (append_assoc handed (log_of s) goes.calls ∙ ap (λ (l : List LogEntry). handed ++ l) (sym goes.log))
      (calls_trans 0 (calls_made s) first s.client new.client (all_calls handed s) goes.calls (let long = all_long in omega (arith, long)) made goes.made)

  -- some commands more
  told_more : (new : Seat) (base ds : List DoneCommand) → all_told said s ≡ outcomes_by 0 0 base → length (calls_in base) ≡ calls_made s → AreKept (commands_done s) (calls_made s) ds s.outcomes.items new.outcomes.items
      → all_told said new ≡ outcomes_by 0 0 (base ++ ds)
  told_more new base ds is calls kept =
      let a = told_long in let b = ap length is in let c = outcomes_long 0 0 base in
      let count : commands_done s ≡ 0 + length base = omega (arith, a, b, c) in
      let place : calls_made s ≡ 0 + length (calls_in base) = omega (arith, calls) in
      ap (λ (l : List Outcome). said ++ l) kept
      ∙ (sym (append_assoc said s.outcomes.items (outcomes_by (commands_done s) (calls_made s) ds))
      ∙ (ap (λ (l : List Outcome). l ++ outcomes_by (commands_done s) (calls_made s) ds) is
      ∙ (ap (λ k. outcomes_by 0 0 base ++ outcomes_by k (calls_made s) ds) count
      ∙ (ap (λ k. outcomes_by 0 0 base ++ outcomes_by (0 + length base) k ds) place ∙ sym (outcomes_both 0 0 base ds)))))

  -- a turn more, and the last
  made_turn : (t : Turn) (d : Caller) → AreMarked (all_calls handed s) s.held → MakesTurn s t d → MakesTurns (all_calls handed s) s.client (t ∷ []) d
  made_turn t d marked one = (d, subst (λ k. MakesCalls k s.client (calls_in t.commands) d) (sym all_long) one.made, λ leaving. one.gone leaving handed marked, refl)

  made_last : (ts : List Turn) (d : Caller) → AreMarked (all_calls handed s) s.held → MakesLast s ts d → MakesTurns (all_calls handed s) s.client ts d
  made_last [] d marked one = one
  made_last (t ∷ []) d marked one = made_turn t d marked one
  made_last (t ∷ u ∷ ts) d marked one = absurd one

module _ {T : Type 0} (source : T → SourceEnd) (sink : T → SinkEnd) (may : ℕ → Bool) (behind : SourceEnd → ℕ → Bool) where
  told_last : (line at next : T) (ts : List Turn) (t : Turn) → AreTold source sink may behind line ts at → IsTold source sink may behind t at next → AreTold source sink may behind line (ts ++ t ∷ []) next
  told_last line at next [] t is one = (next, subst (λ (l : T). IsTold source sink may behind t l next) is one, refl)
  told_last line at next (u ∷ us) t is one = (is.0, is.1, told_last is.0 at next us t is.2 one)

-- ------ request by request

module _ {T J : Type 0} (source : T → SourceEnd) (sink : T → SinkEnd) (may : ℕ → Bool) (behind : SourceEnd → ℕ → Bool) (took : List LogEntry → List Outcome → J → J → Type 0) where
  -- From this line, this journal and this caller on it has answered requests, and handed its calls and commands over, or keeps them.
  pub record Hands (line : T) (was : J) (first : Caller) (at : T) (now : J) (s : Seat) : Type 0 where
    pub handed : List LogEntry
    pub said : List Outcome
    pub has : HasHanded handed said s
    pub given : took handed said was now
    pub made : MakesCalls 0 first (all_calls handed s) s.client
    pub nodes : AreOnNodes handed
    pub turns : List Turn
    pub told : AreTold source sink may behind line turns at
    pub calls : all_calls handed s ≡ calls_of turns
    pub became : all_told said s ≡ outcomes_by 0 0 (spelled_by turns)
    pub done : MakesTurns [] first turns s.client
    pub marked : AreMarked (all_calls handed s) s.held

  pub hands_none : (line : T) (was : J) (s : Seat) → HasHanded [] [] s → took [] [] was was → log_of s ≡ [] → s.outcomes.items ≡ [] → AreMarked (log_of s) s.held → Hands line was s.client line was s
  hands_none line was s has nothing none mute marked = record {
    handed = [];
    said = [];
    has = has;
    given = nothing;
    made = subst (λ (l : List LogEntry). MakesCalls 0 s.client l s.client) (sym none) refl;
    nodes = All-nil (λ (e : LogEntry). e.node ≤ DEMUX_NODES);
    turns = [];
    told = refl;
    calls = none;
    became = mute;
    done = refl;
    marked = marked;
  }

  module _ (line : T) (was : J) (first : Caller) (at : T) (now : J) (s : Seat) (h : Hands line was first at now s) where
    own_long : length (calls_in (spelled_by h.turns)) ≡ calls_made s
    own_long = ap length (sym h.calls) ∙ all_long h.handed h.said s h.has

    has_still : (new : Seat) → new.handed ≡ s.handed → HasHanded h.handed h.said new
    has_still new same = (ap (λ (k : HandedOver). k.calls) same ∙ h.has.0, ap (λ (k : HandedOver). k.commands) same ∙ h.has.1)

    -- some calls more, which are those of these turns
    calls_then : (new : Seat) (calls : List LogEntry) (ts : List Turn) → log_of new ≡ log_of s ++ calls → calls ≡ calls_of ts → all_calls h.handed new ≡ calls_of (h.turns ++ ts)
    calls_then new calls ts log are =
        ap (λ (l : List LogEntry). h.handed ++ l) log ∙ (sym (append_assoc h.handed (log_of s) calls) ∙ (ap (λ (l : List LogEntry). l ++ calls) h.calls
        ∙ (ap (λ (l : List LogEntry). calls_of h.turns ++ l) are ∙ sym (calls_more h.turns ts))))

    -- one request more
    pub hands_turned : (next : T) (new : Seat) (on : Bool) → HasTurned source sink may behind on at next s new → on ≡ true → GoesOn s new → Hands line was first next now new
    hands_turned next new false one is goes = absurd (cc is)
    hands_turned next new true one is goes =
        let t = one.0 in record {
          handed = h.handed;
          said = h.said;
          has = has_still new goes.handed;
          given = h.given;
          made = all_goes h.handed h.said s h.has first new h.made goes;
          nodes = h.nodes;
          turns = h.turns ++ t ∷ [];
          told = told_last source sink may behind line at next h.turns t h.told one.1;
          calls = calls_then new (calls_in t.commands) (t ∷ []) one.2 (sym (calls_one t));
          became = told_more h.handed h.said s h.has new (spelled_by h.turns) t.commands h.became own_long one.3
              ∙ ap (outcomes_by 0 0) (ap (λ (ds : List DoneCommand). spelled_by h.turns ++ ds) (sym (append-nil t.commands)) ∙ sym (spelled_more h.turns (t ∷ [])));
          done = makes_both [] first s.client new.client h.turns (t ∷ []) h.done (subst (λ (l : List LogEntry). MakesTurns l s.client (t ∷ []) new.client) h.calls (made_turn h.handed h.said s h.has t new.client h.marked one.4));
          marked = goes.marks h.handed h.marked;
        }

    -- where it is given what a seat keeps, it was given all
    pub given_more : (later : J) (last : Seat) → ((xs ys : List LogEntry) (os ps : List Outcome) → took xs os was now → took ys ps now later → took (xs ++ ys) (os ++ ps) was later)
        → took (log_of last) last.outcomes.items now later → took (all_calls h.handed last) (all_told h.said last) was later
    given_more later last both more = both h.handed (log_of last) h.said last.outcomes.items h.given more

    -- what it keeps is handed over
    hands_over : (later : J) (new : Seat) → ((xs ys : List LogEntry) (os ps : List Outcome) → took xs os was now → took ys ps now later → took (xs ++ ys) (os ++ ps) was later)
        → took (log_of s) s.outcomes.items now later → (calls_made new ≡ calls_made s) × (commands_done new ≡ commands_done s) → (log_of new ≡ []) × (new.outcomes.items ≡ [])
        → new.client ≡ s.client → new.held ≡ s.held → AreOnNodes (log_of s) → Hands line was first at later new
    hands_over later new both more count none same held nodes =
        let calls = ap (λ (l : List LogEntry). all_calls h.handed s ++ l) none.0 ∙ append-nil (all_calls h.handed s) in
        let told = ap (λ (l : List Outcome). all_told h.said s ++ l) none.1 ∙ append-nil (all_told h.said s) in
        let a = ap length none.0 in let b = ap length none.1 in let c = all_long h.handed h.said s h.has in let d = told_long h.handed h.said s h.has in let e = count.0 in let f = count.1 in
        record {
          handed = all_calls h.handed s;
          said = all_told h.said s;
          has = (omega (arith, a, c, e), omega (arith, b, d, f));
          given = given_more later s both more;
          made = subst (λ (l : List LogEntry). MakesCalls 0 first l new.client) (sym calls) (subst (λ (c : Caller). MakesCalls 0 first (all_calls h.handed s) c) (sym same) h.made);
          nodes = All-append (λ (e : LogEntry). e.node ≤ DEMUX_NODES) h.handed (log_of s) h.nodes nodes;
          turns = h.turns;
          told = h.told;
          calls = calls ∙ h.calls;
          became = told ∙ h.became;
          done = subst (MakesTurns [] first h.turns) (sym same) h.done;
          marked = subst (λ (l : List LogEntry). AreMarked l new.held) (sym calls) (subst (AreMarked (all_calls h.handed s)) (sym held) h.marked);
        }

    -- nothing is handed over, for want of memory
    hands_kept : (later : J) (new : Seat) → ((xs ys : List LogEntry) (os ps : List Outcome) → took xs os was now → took ys ps now later → took (xs ++ ys) (os ++ ps) was later)
        → took [] [] now later → log_of new ≡ log_of s → new.outcomes.items ≡ s.outcomes.items → new.handed ≡ s.handed → new.client ≡ s.client → new.held ≡ s.held → Hands line was first at later new
    hands_kept later new both steady log mute had same held =
        let all : all_calls h.handed new ≡ all_calls h.handed s = ap (λ (l : List LogEntry). h.handed ++ l) log in
        record {
          handed = h.handed;
          said = h.said;
          has = has_still new had;
          given = subst (λ (l : List LogEntry). took l h.said was later) (append-nil h.handed) (subst (λ (os : List Outcome). took (h.handed ++ []) os was later) (append-nil h.said) (both h.handed [] h.said [] h.given steady));
          made = subst (λ (l : List LogEntry). MakesCalls 0 first l new.client) (sym all) (subst (λ (c : Caller). MakesCalls 0 first (all_calls h.handed s) c) (sym same) h.made);
          nodes = h.nodes;
          turns = h.turns;
          told = h.told;
          calls = all ∙ h.calls;
          became = ap (λ (l : List Outcome). h.said ++ l) mute ∙ h.became;
          done = subst (MakesTurns [] first h.turns) (sym same) h.done;
          marked = subst (λ (l : List LogEntry). AreMarked l new.held) (sym all) (subst (AreMarked (all_calls h.handed s)) (sym held) h.marked);
        }

    -- it is handed over, or kept
    pub hands_next : (later : J) (new : Seat) → ((xs ys : List LogEntry) (os ps : List Outcome) → took xs os was now → took ys ps now later → took (xs ++ ys) (os ++ ps) was later)
        → {V E : Type 0} (r : Result V E) → OnOk r (took (log_of s) s.outcomes.items now later) → OnOk r ((log_of new ≡ []) × (new.outcomes.items ≡ []))
        → OnErr r (took [] [] now later × (log_of new ≡ log_of s) × (new.outcomes.items ≡ s.outcomes.items) × (new.handed ≡ s.handed)) → (calls_made new ≡ calls_made s) × (commands_done new ≡ commands_done s)
        → new.client ≡ s.client → new.held ≡ s.held → AreOnNodes (log_of s) → Hands line was first at later new
    hands_next later new both (Ok v) more none kept count same held nodes = hands_over later new both more count none same held nodes
    hands_next later new both (Err e) more none kept count same held nodes = hands_kept later new both kept.0 kept.1 kept.2 kept.3 same held

    pub made_to : (new last : Seat) → GoesOn s new → GoesOn new last → MakesCalls 0 first (all_calls h.handed last) last.client
    made_to new last goes leaves = all_goes h.handed h.said new (has_still new goes.handed) first last (all_goes h.handed h.said s h.has first new h.made goes) leaves

    pub nodes_to : (last : Seat) → AreOnNodes (log_of last) → AreOnNodes (all_calls h.handed last)
    nodes_to last nodes = All-append (λ (e : LogEntry). e.node ≤ DEMUX_NODES) h.handed (log_of last) h.nodes nodes

    -- the line has ended, and all nodes were closed
    module _ (next : T) (new last : Seat) (on : Bool) (turned : HasTurned source sink may behind on at next s new) (is : on ≡ false) (then : GoesOn s new) (d : HasDone (AreClosings (DEMUX_NODES + 1)) new last) (goes : GoesOn new last)
        (left : HasGone new last) where
      one : HasTurned source sink may behind false at next s new
      one = subst (λ b. HasTurned source sink may behind b at next s new) is turned

      abbrev gone : List LogEntry
      gone = calls_in d.commands

      abbrev lasts : List Turn
      lasts = one.0

      new_has : HasHanded h.handed h.said new
      new_has = has_still new then.handed

      whole : all_calls h.handed new ≡ calls_of (h.turns ++ lasts)
      whole = calls_then new (calls_of lasts) lasts one.2 refl

      long : length (calls_of (h.turns ++ lasts)) ≡ calls_made new
      long = ap length (sym whole) ∙ all_long h.handed h.said new new_has

      became : all_told h.said last ≡ outcomes_by 0 0 (spelled (h.turns ++ lasts) d.commands)
      became = told_more h.handed h.said new new_has last (spelled_by (h.turns ++ lasts)) d.commands
          (told_more h.handed h.said s h.has new (spelled_by h.turns) (spelled_by lasts) h.became own_long one.3 ∙ ap (outcomes_by 0 0) (sym (spelled_more h.turns lasts))) long d.kept

      calls_are : all_calls h.handed last ≡ calls_in (spelled (h.turns ++ lasts) d.commands)
      calls_are = ap (λ (l : List LogEntry). h.handed ++ l) d.log ∙ (sym (append_assoc h.handed (log_of new) gone) ∙ (ap (λ (l : List LogEntry). l ++ gone) whole ∙ sym (calls_both (spelled_by (h.turns ++ lasts)) d.commands)))

      pub answered_to : HasAnsweredAll source sink may behind line next first last.client [] (all_calls h.handed last) [] (all_told h.said last)
      answered_to = record {
        turns = h.turns;
        after = at;
        told = h.told;
        last = lasts;
        is = one.1;
        leaving = d.commands;
        closed = d.is;
        log = calls_are;
        kept = became;
        then = new.client;
        made = makes_both [] first s.client new.client h.turns lasts h.done (subst (λ (l : List LogEntry). MakesTurns l s.client lasts new.client) h.calls (made_last h.handed h.said s h.has lasts new.client h.marked one.4));
        leaves = subst (λ k. MakesCalls k new.client gone last.client) (sym long) (subst (λ (l : List LogEntry). MakesCalls (calls_made new) new.client l last.client) (the_calls new last goes.calls gone goes.log d.log) goes.made);
        back = subst (λ (l : List LogEntry). GivesBack l gone last.client) whole (record { held = left.held h.handed gone (then.marks h.handed h.marked) d.log; left = left.left });
      }
