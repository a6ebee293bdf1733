-- A feeder that has called some of the nodes, seen as one that has called all of them: where nobody makes a call, its calls
-- alone are a legal history.
use Rattle.workers.proofs.Imports.{◌≡◌, inl, inr, ⊎_elim, ℕ, zero, suc, ◌+◌, ◌<◌, ◌≤◌, Bool, true, false, List, [], ◌∷◌, ◌++◌, length, map, reverse, slice_get, Option, Some, None, refl, ap, sym, ◌∙◌, subst, arith, length-append, append_assoc, append-nil, if◌then◌else◌, option_map, AllByRecursion, option_to_list, reverse-append, some, IsPrefix, get_elem?, TableId, View, Once, up_from, HasJust, at_below, Has, Fed, DEMUX_NODES, Invocation, Pass, End, Passed, Entry, History, caller_of, Rules, rules_at, May, IsLegalFor, column, all_calls, Caller, IsHistory, HaveHistories, rows_of, IsLegalAt, at_place, at_either, at_before, in_column, of_column, rows_end, StandAt, HasMade, fed_entries, IsTheHistory}
use Rattle.dmx_calls.specs.Answer.{answer}
use Rattle.workers.proofs.Feeders.{got, got_back, has_own, behind_of}

-- ------ the feeder's calls alone are legal

abbrev pub GoesBy : Invocation → Type 0
GoesBy (Pass input first packets now) = Unit {0}
GoesBy End = Unit {0}
GoesBy _ = ⊥

-- a Pass or an End of the feeder, answered Passed
pub record IsOfFeeder (x : Entry) : Type 0 where
  pub who : x.who ≡ 0
  pub response : x.response ≡ Passed
  pub goes_by : GoesBy x.invocation

may_pass : (node : Rules) (h : History) (who : ℕ) (call : Invocation) → GoesBy call → May node h who call Passed
unfolding answer
may_pass node h who (Pass input first packets now) by = inl refl
may_pass node h who End by = inl refl
may_pass node h who _ by = absurd by

legal_behind : (node : Rules) (xs : List Entry) (h : History) → IsLegalFor node h → AllByRecursion IsOfFeeder xs → IsLegalFor node (reverse xs ++ h)
legal_behind node [] h legal all = legal
legal_behind node (x ∷ xs) h legal all =
    subst (IsLegalFor node) (sym (append_assoc (reverse xs) (x ∷ []) h) ∙ ap (λ (l : List Entry). l ++ h) (sym (reverse-append (x ∷ []) xs)))
    (legal_behind node xs (x ∷ h) (legal, subst (May node h x.who x.invocation) (sym all.0.response) (may_pass node h x.who x.invocation all.0.goes_by)) all.1)

legal_alone : (node : ℕ) (xs : List Entry) → AllByRecursion IsOfFeeder xs → IsLegalAt node xs
legal_alone node xs all = subst (IsLegalFor (rules_at node)) (append-nil (reverse xs)) (legal_behind (rules_at node) xs [] tt all)

pub feeders_calls : (over : Bool) (stream : List (List ℕ)) (feeding : List Fed) → AllByRecursion IsOfFeeder (fed_entries stream feeding ++ behind_of over)
feeders_calls true stream [] = (record { who = refl; response = refl; goes_by = tt }, tt)
feeders_calls false stream [] = tt
feeders_calls over stream (f ∷ fs) = (record { who = refl; response = refl; goes_by = tt }, feeders_calls over stream fs)

of_all : (xs : List Entry) → AllByRecursion IsOfFeeder xs → (p : ℕ) (x : Entry) → get_elem? xs p ≡ some x → x.who ≡ 0
of_all xs all p x at = at_slice xs all p (got xs p x at) where
  at_slice : (xs : List Entry) → AllByRecursion IsOfFeeder xs → (p : ℕ) → slice_get xs p ≡ Some x → x.who ≡ 0
  at_slice [] all p at = absurd (cc at)
  at_slice (y ∷ xs) all zero at = let same : y ≡ x = cc at in subst (λ (z : Entry). z.who ≡ 0) same all.0.who
  at_slice (y ∷ xs) all (suc p) at = at_slice xs all.1 p at

-- ------ numbers in a row

row_has : (k n p : ℕ) → Has (up_from k n) p → (k ≤ p) × (p < k + n)
row_has k zero p has = absurd has
row_has k (suc n) p has = ⊎_elim (λ (e : k ≡ p). (omega arith, omega arith)) (λ more. let r = row_has (suc k) n p more in let low = r.0 in let high = r.1 in (omega arith, omega arith)) has

has_row : (k n i : ℕ) → i < n → Has (up_from k n) (k + i)
has_row k zero i below = absurd (omega arith)
has_row k (suc n) zero below = inl (omega arith)
has_row k (suc n) (suc i) below = inr (let e : suc k + i ≡ k + suc i = omega arith in subst (Has (up_from (suc k) n)) e (has_row (suc k) n i (omega arith)))

row_at : (k n i p : ℕ) → slice_get (up_from k n) i ≡ Some p → p ≡ k + i
row_at k zero i p at = absurd (cc at)
row_at k (suc n) zero p at = let same : k ≡ p = cc at in omega arith
row_at k (suc n) (suc i) p at = let e = row_at (suc k) n i p at in omega arith

abbrev at_zero : List ℕ → List (ℕ × ℕ)
at_zero places = map (λ place. (0, place)) places

zero_has : (ps : List ℕ) (p : ℕ) → Has ps p → Has {A = ℕ × ℕ} (at_zero ps) (0, p)
zero_has [] p has = absurd has
zero_has (q ∷ ps) p has = ⊎_elim (λ e. inl (ap (λ (n : ℕ). (0, n)) e)) (λ more. inr (zero_has ps p more)) has

once_row : (k n : ℕ) → Once {A = ℕ × ℕ} (at_zero (up_from k n))
once_row k zero = tt
once_row k (suc n) = (λ has. let r = row_has (suc k) n k (has_own (up_from (suc k) n) 0 k has).1 in let low = r.0 in absurd (omega arith), once_row (suc k) n)

there_in : (done rest : List Entry) (x : Entry) → get_elem? (done ++ x ∷ rest) (length done) ≡ some x
there_in [] rest x = refl
there_in (y ∷ done) rest x = there_in done rest x

stand_in : (done rest : List Entry) → StandAt (done ++ rest) rest (up_from (length done) (length rest))
stand_in done [] = tt
stand_in done (x ∷ rest) = (
  there_in done rest x,
  subst (λ (l : List Entry). StandAt l rest (up_from (suc (length done)) (length rest))) (append_assoc done (x ∷ []) rest)
      (let e : length (done ++ x ∷ []) ≡ suc (length done) = omega (arith, length-append done (x ∷ [])) in
      subst (λ n. StandAt ((done ++ x ∷ []) ++ rest) rest (up_from n (length rest))) e (stand_in (done ++ x ∷ []) rest)),
)

-- ------ columns and calls

column_end : (node : ℕ) (rows : List (List (TableId × View Entry))) (row : List (TableId × View Entry)) → column node (rows ++ row ∷ []) ≡ column node rows ++ option_to_list (slice_get row node)
column_end node [] row = append-nil (option_to_list (slice_get row node))
column_end node (r ∷ rows) row = ap (λ (l : List (TableId × View Entry)). option_to_list (slice_get r node) ++ l) (column_end node rows row) ∙ sym (append_assoc (option_to_list (slice_get r node)) (column node rows) (option_to_list (slice_get row node)))

calls_append : (xs ys : List (TableId × View Entry)) → all_calls (xs ++ ys) ≡ all_calls ys ++ all_calls xs
calls_append [] ys = sym (append-nil (all_calls ys))
calls_append (x ∷ xs) ys = ap (λ (l : List (ℕ × ℕ)). l ++ x.1.own) (calls_append xs ys) ∙ append_assoc (all_calls ys) (all_calls xs) x.1.own

no_calls : (node : ℕ) (cs : List Caller) → ((k : ℕ) (c : Caller) (p : TableId × View Entry) → slice_get cs k ≡ Some c → slice_get c.passes node ≡ Some p → p.1.own ≡ []) → all_calls (column node (rows_of cs)) ≡ []
no_calls node [] idle = refl
no_calls node (c ∷ cs) idle = by_pass (slice_get c.passes node) refl (no_calls node cs (λ k d p at is. idle (suc k) d p at is)) where
  by_pass : (o : Option (TableId × View Entry)) → slice_get c.passes node ≡ o → all_calls (column node (rows_of cs)) ≡ [] → all_calls (option_to_list o ++ column node (rows_of cs)) ≡ []
  by_pass None is none = none
  by_pass (Some p) is none = ap (λ (l : List (ℕ × ℕ)). l ++ p.1.own) none ∙ idle 0 c p refl is

-- a history of no calls is empty
nothing_there : (h : List Entry) → HasJust caller_of [] h → h ≡ []
nothing_there [] just = refl
nothing_there (x ∷ h) just = absurd (just.only 0 x refl)

-- what begins an empty history is empty
begins_none : (xs : List Entry) → IsPrefix xs [] → xs ≡ []
begins_none [] b = refl
begins_none (x ∷ xs) b = absurd (cc (b.1))

-- a pass that has made no entry has made no call
pub made_nothing : (p : TableId × View Entry) → HasMade [] p → p.1.own ≡ []
made_nothing p m = m.own ∙ no_places m.places m.stand where
  no_places : (ps : List ℕ) → StandAt p.1.seen [] ps → at_zero ps ≡ []
  no_places [] s = refl
  no_places (q ∷ ps) s = absurd s

-- ------ the feeder

module _ (among : ℕ → Bool) (entries : List Entry) (feeder : Caller) where
  -- a pass that has made these entries, and nobody else any
  abbrev alone : TableId × View Entry → TableId × View Entry
  alone p = (p.0, record p.1 { seen = entries; own = at_zero (up_from 0 (length entries)) })

  abbrev seen_as : Bool → TableId × View Entry → TableId × View Entry
  seen_as b p = if b then p else alone p

  abbrev completed : ℕ → List (TableId × View Entry) → List (TableId × View Entry)
  completed node [] = []
  completed node (p ∷ ps) = seen_as (among node) p ∷ completed (suc node) ps

  completed_at : (k : ℕ) (ps : List (TableId × View Entry)) (i : ℕ) → slice_get (completed k ps) i ≡ option_map (seen_as (among (k + i))) (slice_get ps i)
  completed_at k [] i = refl
  completed_at k (p ∷ ps) zero = let e : k ≡ k + 0 = omega arith in ap (λ n. Some (seen_as (among n) p)) e
  completed_at k (p ∷ ps) (suc i) = let e : suc k + i ≡ k + suc i = omega arith in completed_at (suc k) ps i ∙ ap (λ n. option_map (seen_as (among n)) (slice_get ps i)) e

  -- the same feeder, as if it had called every node
  abbrev pub whole : Caller
  whole = record { who = feeder.who; left = feeder.left; passes = completed 0 feeder.passes }

  whole_at : (node : ℕ) → slice_get whole.passes node ≡ option_map (seen_as (among node)) (slice_get feeder.passes node)
  whole_at node = let e : 0 + node ≡ node = omega arith in completed_at 0 feeder.passes node ∙ ap (λ n. option_map (seen_as (among n)) (slice_get feeder.passes node)) e

  alone_made : (p : TableId × View Entry) → p.1.number ≡ 0 → HasMade entries (alone p)
  alone_made p number = record {
    places = up_from 0 (length entries);
    number = number;
    own = refl;
    stand = stand_in [] entries;
    rise = λ i j a b less first second. let x = row_at 0 (length entries) i a first in let y = row_at 0 (length entries) j b second in omega arith;
  }

  pub whole_made : ((node : ℕ) (p : TableId × View Entry) → slice_get feeder.passes node ≡ Some p → HasMade (if among node then entries else []) p)
      → (node : ℕ) (q : TableId × View Entry) → slice_get whole.passes node ≡ Some q → HasMade entries q
  whole_made made node q at = by_pass (slice_get feeder.passes node) refl (sym (whole_at node) ∙ at) where
    by_pass : (o : Option (TableId × View Entry)) → slice_get feeder.passes node ≡ o → option_map (seen_as (among node)) o ≡ Some q → HasMade entries q
    by_pass None is e = absurd (cc e)
    by_pass (Some p) is e = let now : Some (seen_as (among node) p) ≡ Some q = e in by_test (among node) (made node p is) (cc now) where
      by_test : (b : Bool) → HasMade (if b then entries else []) p → seen_as b p ≡ q → HasMade entries q
      by_test true m same = subst (HasMade entries) same m
      by_test false m same = subst (HasMade entries) same (alone_made p m.number)

  pub whole_full : ((node : ℕ) → node ≤ DEMUX_NODES → (p : TableId × View Entry) × (slice_get feeder.passes node ≡ Some p)) → (node : ℕ) → node ≤ DEMUX_NODES → (p : TableId × View Entry) × (slice_get whole.passes node ≡ Some p)
  whole_full full node low = let p = full node low in (seen_as (among node) p.0, whole_at node ∙ ap (option_map (seen_as (among node))) p.1)

-- the passes of a node, those of this caller last
column_of : (node : ℕ) (others : List Caller) (c : Caller) → column node (rows_of (others ++ c ∷ [])) ≡ column node (rows_of others) ++ option_to_list (slice_get c.passes node)
column_of node others c = ap (column node) (rows_end others c c.passes refl) ∙ column_end node (rows_of others) c.passes

module _ (among : ℕ → Bool) (entries : List Entry) (feeder : Caller) (others : List Caller) (all : AllByRecursion IsOfFeeder entries)
    (made : (node : ℕ) (p : TableId × View Entry) → slice_get feeder.passes node ≡ Some p → HasMade (if among node then entries else []) p)
    (idle : (node : ℕ) → among node ≡ false → (k : ℕ) (c : Caller) (p : TableId × View Entry) → slice_get others k ≡ Some c → slice_get c.passes node ≡ Some p → p.1.own ≡ [])
    (have : HaveHistories (others ++ feeder ∷ [])) where
  abbrev now : Caller
  now = whole among entries feeder

  -- the passes of a node that the feeder has called are the same
  pub same_column : (node : ℕ) → among node ≡ true → column node (rows_of (others ++ now ∷ [])) ≡ column node (rows_of (others ++ feeder ∷ []))
  same_column node called =
      column_of node others now ∙ ap (λ o. column node (rows_of others) ++ option_to_list o) (whole_at among entries feeder node ∙ ap (λ b. option_map (seen_as among entries feeder b) (slice_get feeder.passes node)) called ∙ same (slice_get feeder.passes node))
      ∙ sym (column_of node others feeder) where
        same : (o : Option (TableId × View Entry)) → option_map (seen_as among entries feeder true) o ≡ o
        same None = refl
        same (Some p) = refl

  -- ------ a node that nobody has called

  module _ (node : ℕ) (off : among node ≡ false) where
    feeder_idle : (p : TableId × View Entry) → slice_get feeder.passes node ≡ Some p → p.1.own ≡ []
    feeder_idle p at = made_nothing p (subst (λ b. HasMade (if b then entries else []) p) off (made node p at))

    nobody : all_calls (column node (rows_of (others ++ feeder ∷ []))) ≡ []
    nobody = no_calls node (others ++ feeder ∷ []) (λ k c p at is. ⊎_elim (λ old. idle node off k c p old is) (λ same. feeder_idle p (subst (λ (z : Caller). slice_get z.passes node ≡ Some p) (sym same) is)) (at_either others feeder c k at))

    -- its lock has the empty history, and no other
    empty_only : (h : List Entry) → IsHistory node (column node (rows_of (others ++ feeder ∷ []))) h → h ≡ []
    empty_only h is = nothing_there h (subst (λ calls. HasJust caller_of calls h) nobody is.just)

    pub nothing : node ≤ DEMUX_NODES → IsTheHistory node (column node (rows_of (others ++ feeder ∷ []))) []
    nothing low = let h = have node low in (subst (IsHistory node (column node (rows_of (others ++ feeder ∷ [])))) (empty_only h.0 h.1) h.1, λ other is. empty_only other is)

    -- nobody but the feeder has seen any of it
    others_none : node ≤ DEMUX_NODES → (k : ℕ) (c : Caller) (p : TableId × View Entry) → slice_get others k ≡ Some c → slice_get c.passes node ≡ Some p → p.1.seen ≡ []
    others_none low k c p at is =
        let n = nothing low in
        let j = of_column node (others ++ feeder ∷ []) k c p (at_before others (feeder ∷ []) k c at) is in
        begins_none p.1.seen (n.0.begins j.0 p j.1)

    whole_calls : (p : TableId × View Entry) → slice_get feeder.passes node ≡ Some p → all_calls (column node (rows_of (others ++ now ∷ []))) ≡ at_zero (up_from 0 (length entries))
    whole_calls p at =
        ap all_calls (column_of node others now ∙ ap (λ o. column node (rows_of others) ++ option_to_list o) (whole_at among entries feeder node ∙ ap (λ b. option_map (seen_as among entries feeder b) (slice_get feeder.passes node)) off ∙ ap (option_map (alone among entries feeder)) at))
        ∙ (calls_append (column node (rows_of others)) (alone among entries feeder p ∷ [])
        ∙ (ap (λ (l : List (ℕ × ℕ)). at_zero (up_from 0 (length entries)) ++ l) (no_calls node others (λ k c q here is. idle node off k c q here is)) ∙ append-nil (at_zero (up_from 0 (length entries)))))

    just_alone : HasJust caller_of (at_zero (up_from 0 (length entries))) entries
    just_alone = record {
      there = λ w p has. let o = has_own (up_from 0 (length entries)) w p has in let r = row_has 0 (length entries) p o.1 in
          let low = r.1 in let x = at_place entries p (omega arith) in let at = got_back entries p x.0 x.1 in (x.0, at, of_all entries all p x.0 at ∙ sym o.0);
      once = once_row 0 (length entries);
      only = λ p x at. let low = at_below entries p x at in let e : 0 + p ≡ p = omega arith in
          subst (λ n. Has {A = ℕ × ℕ} (at_zero (up_from 0 (length entries))) (n, p)) (sym (of_all entries all p x at))
          (zero_has (up_from 0 (length entries)) p (subst (Has (up_from 0 (length entries))) e (has_row 0 (length entries) p low)));
    }

    alone_history : node ≤ DEMUX_NODES → (p : TableId × View Entry) → slice_get feeder.passes node ≡ Some p → IsHistory node (column node (rows_of (others ++ now ∷ []))) entries
    alone_history low p at = record {
      legal = legal_alone node entries all;
      just = subst (λ calls. HasJust caller_of calls entries) (sym (whole_calls p at)) just_alone;
      begins = λ j q is. let c = in_column node (others ++ now ∷ []) j q is in
          ⊎_elim
          (λ old. subst (λ (xs : List Entry). IsPrefix xs entries) (sym (others_none low c.0 c.1 q old c.3)) (entries, refl))
          (λ same. let here : slice_get now.passes node ≡ Some q = subst (λ (z : Caller). slice_get z.passes node ≡ Some q) (sym same) c.3 in
          let there : Some (alone among entries feeder p) ≡ Some q = sym (whole_at among entries feeder node ∙ ap (λ b. option_map (seen_as among entries feeder b) (slice_get feeder.passes node)) off ∙ ap (option_map (alone among entries feeder)) at) ∙ here in
          let is_q : alone among entries feeder p ≡ q = cc there in
          subst (λ (z : TableId × View Entry). IsPrefix z.1.seen entries) is_q ([], append-nil entries))
          (at_either others now c.1 c.0 c.2);
    }

    -- where the feeder has no pass of it either
    none_there : slice_get feeder.passes node ≡ None → column node (rows_of (others ++ now ∷ [])) ≡ column node (rows_of (others ++ feeder ∷ []))
    none_there none =
        column_of node others now ∙ ap (λ o. column node (rows_of others) ++ option_to_list o) (whole_at among entries feeder node ∙ ap (option_map (seen_as among entries feeder (among node))) none ∙ sym none)
        ∙ sym (column_of node others feeder)

  -- the calls of all, and those that the feeder would have made, stand in histories
  pub whole_have : HaveHistories (others ++ now ∷ [])
  whole_have node low = by_test (among node) refl where
    by_pass : among node ≡ false → (o : Option (TableId × View Entry)) → slice_get feeder.passes node ≡ o → (h : List Entry) × IsHistory node (column node (rows_of (others ++ now ∷ []))) h
    by_pass off None none = ([], subst (λ ps. IsHistory node ps []) (sym (none_there node off none)) (nothing node off low).0)
    by_pass off (Some p) at = (entries, alone_history node off low p at)

    by_test : (b : Bool) → among node ≡ b → (h : List Entry) × IsHistory node (column node (rows_of (others ++ now ∷ []))) h
    by_test true called = let h = have node low in (h.0, subst (λ ps. IsHistory node ps h.0) (sym (same_column node called)) h.1)
    by_test false off = by_pass off (slice_get feeder.passes node) refl
