-- The same for a Read.
use Rattle.node_core.proofs.Imports.{ℕ, ◌+◌, ◌-◌, ◌<◌, ◌≤◌, ◌≡◌, refl, sym, ◌∙◌, ap, subst, Bool, true, false, List, [], ◌∷◌, ◌++◌, Option, Some, None, length, take, drop, arith, length-take, length-drop, add_comm, zero-add, drop-drop, sub-add_cancel, if◌then◌else◌, nat_lt, All, concat, nat_tests, append-nil, drop-append-le, concat-append, take-append_seam, drop_of_length-le, dec_le, all_front, IsSection, SectionParams, Read, Response, Data, Again, Overflow, TimedOut, Passed, is_accepted, Entry, History, entry_of, Since, tenure, Params, Empty, Section, Pes, params, pids, capture, timeout_of, demux, Misfit, keeps, edge_of, answered, over, Ledger, unread_of, rest_of_item, rest_of, ledger_at, is_section, ReadTerms, read_terms, most_bytes, read_response, Stays, demux_keeps, rest_of-end, edge_then, IsCut, cut_of, read_each, expired_then, facts_goes, ledger_still, ledger_told, stays_read, pids_stay, Selecting, expiring, front_length, rest_behind, with_response, HasSelected, Coherent, IsSound, placed_in, around_edge, rest_before, rest_none, rest_read, All-filter, All-take, sections, are_whole, Frontend, Event, packets_of, selects, is_oneshot, offered, section_items, joined, total, edge}
use Rattle.dmx_calls.specs.Facts.{facts}
use Rattle.dmx_calls.specs.Items.{items}
use Rattle.node_core.proofs.Expiries.{never, expiring_is}
use Rattle.node_core.proofs.Takings.{selected_goes, selected_quiet}
use Rattle.node_core.proofs.Moves.{known, Moves, coherent}
use Rattle.std.specs.List.{filter}

-- ------ The items of a section filter are whole sections

all_if : (b : Bool) (xs : List (List ℕ)) → All IsSection xs → All IsSection (if b then take 1 xs else xs)
all_if true xs all = All-take IsSection 1 xs all
all_if false xs all = all

whole_items : (p : SectionParams) (evs : List Event) → All IsSection (section_items p evs)
unfolding section_items
whole_items p evs =
    all_if (is_oneshot p) (filter (selects p) (sections (packets_of Frontend evs) p.pid))
    (All-filter (selects p) IsSection (sections (packets_of Frontend evs) p.pid) (are_whole (packets_of Frontend evs) p.pid))

pub items_whole : (h : History) (p : SectionParams) → params h ≡ Section p → All IsSection (items h)
unfolding items
items_whole h p set = rw set (whole_items p (offered h))

-- on a section filter no bytes behind the section are read
abbrev pub StaysWithin : Params → (read rest : ℕ) → Type 0
StaysWithin (Section p) read rest = read ≤ rest
StaysWithin _ read rest = Unit {0}

-- what a Read answers in a capture; Passed stands for any response by which it is accepted
pub data ReadGives (h : History) : Response → Type 0 where
  gives_bytes : (bytes : List ℕ) → StaysWithin (params h) (length bytes) (ledger_at demux h).rest → ReadGives h (Data bytes)
  gives_again : (ended : Bool) → ReadGives h (Again ended)
  gives_over : (item need room : ℕ) → ReadGives h (Overflow (answered demux h) (total demux h) item need room)
  gives_timeout : (started now timeout : ℕ) → ReadGives h (TimedOut started now timeout)
  gives_nothing : ReadGives h Passed

-- ------ what is left of the section

-- what is left up to the end of the first items is what is left of them
module _ (p : SectionParams) (xs ys : List (List ℕ)) (to : ℕ) (end : to ≡ length (concat xs)) where
  rest_of_first : (n : ℕ) → rest_of (Section p) to (xs ++ ys) n ≡ rest_of_item xs n
  rest_of_first n = by_test (nat_lt n to) refl where
    by_test : (b : Bool) → nat_lt n to ≡ b → (if b then rest_of_item (xs ++ ys) n else 0) ≡ rest_of_item xs n
    by_test true before = let lt : n < to = grind (arith, nat_tests) in rest_before xs ys n (omega (arith, lt, end))
    by_test false past = let le : to ≤ n = grind (arith, nat_tests) in sym (rest_none xs n (omega (arith, le, end)))

  unread_of_first : (n : ℕ) → unread_of to n (concat (xs ++ ys)) ≡ drop n (concat xs)
  unread_of_first n = by_place (dec_le n to) where
    by_place : Dec (n ≤ to) → unread_of to n (concat (xs ++ ys)) ≡ drop n (concat xs)
    by_place (yes le) =
        let whole : to - n ≡ length (drop n (concat xs)) = omega (arith, end, length-drop n (concat xs)) in
        rw (concat-append xs ys, drop-append-le n (concat xs) (concat ys) (omega (arith, le, end)), whole) (take-append_seam (drop n (concat xs)) (concat ys))
    by_place (no far) =
        let none : to - n ≡ 0 = omega (arith, far) in rw none (sym (drop_of_length-le (concat xs) (omega (arith, far, end))))

  -- so many bytes are read, none of them behind the section at the front
  rest_after_first : (n r : ℕ) → r ≤ rest_of (Section p) to (xs ++ ys) n → All IsSection xs
      → rest_of (Section p) to (xs ++ ys) (r + n)
      ≡ (if nat_lt r (rest_of (Section p) to (xs ++ ys) n) then rest_of (Section p) to (xs ++ ys) n - r else front_length (drop r (unread_of to n (concat (xs ++ ys)))))
  rest_after_first n r fits whole =
      let behind : drop r (drop n (concat xs)) ≡ drop (r + n) (concat xs) = drop-drop r n (concat xs) ∙ ap (λ m. drop m (concat xs)) (add_comm n r) in
      rw (rest_of_first n, rest_of_first (r + n), unread_of_first n, behind) (rest_read xs n r (rw (← rest_of_first n) fits) whole)

-- the same up to the edge, which moves only where nothing is unread
rest_after : (set : Params) (k : Bool) (o : Option Misfit) (xs : List (List ℕ)) (n r : ℕ) → IsCut o xs
    → StaysWithin set r (rest_of set (edge_of k o (length (concat xs)) n) xs n) → ((p : SectionParams) → set ≡ Section p → All IsSection xs)
    → rest_of set (edge_of k o (length (concat xs)) (r + n)) xs (r + n)
    ≡ (if is_section set
    then (if nat_lt r (rest_of set (edge_of k o (length (concat xs)) n) xs n)
    then rest_of set (edge_of k o (length (concat xs)) n) xs n - r
    else front_length (drop r (unread_of (edge_of k o (length (concat xs)) n) n (concat xs))))
    else rest_of set (edge_of k o (length (concat xs)) n) xs n)
rest_after Empty k o xs n r cut fits whole = refl
rest_after (Pes p) k o xs n r cut fits whole = refl
rest_after (Section p) k None xs n r cut fits whole =
    let all : xs ++ [] ≡ xs = append-nil xs in
    let P : List (List ℕ) → Type 0 = λ ys. r ≤ rest_of (Section p) (length (concat xs)) ys n → rest_of (Section p) (length (concat xs)) ys (r + n)
    ≡ (if nat_lt r (rest_of (Section p) (length (concat xs)) ys n) then rest_of (Section p) (length (concat xs)) ys n - r else front_length (drop r (unread_of (length (concat xs)) n (concat ys)))) in
    subst P all (λ within. rest_after_first p xs [] (length (concat xs)) refl n r within (whole p refl)) fits
rest_after (Section p) true (Some x) xs n r cut fits whole =
    let P : List (List ℕ) → Type 0 = λ ys. r ≤ rest_of (Section p) x.place ys n → rest_of (Section p) x.place ys (r + n)
    ≡ (if nat_lt r (rest_of (Section p) x.place ys n) then rest_of (Section p) x.place ys n - r else front_length (drop r (unread_of x.place n (concat ys)))) in
    let first : All IsSection cut.before = all_front IsSection cut.before cut.behind (subst (All IsSection) cut.whole (whole p refl)) in
    subst P (sym cut.whole) (λ within. rest_after_first p cut.before cut.behind x.place cut.end n r within first) fits
rest_after (Section p) false (Some x) xs n r cut fits whole =
    let none : rest_of (Section p) n xs n ≡ 0 = rest_of-end (Section p) n xs in
    let zero : r ≡ 0 = omega (arith, fits, none) in
    let self : n - n ≡ 0 = omega arith in
    rw (none, zero, self, rest_of-end (Section p) (0 + n) xs) refl

rest_is : (h : History) (r : ℕ) → StaysWithin (params h) r (ledger_at demux h).rest
    → rest_of (params h) (edge_then (params h) (ledger_at demux h) r) (items h) (r + answered demux h) ≡ rest_behind (is_section (params h)) r (ledger_at demux h)
unfolding joined total edge
rest_is h r fits = rest_after (params h) (keeps (params h)) (over demux h) (items h) (answered demux h) r (cut_of demux demux_keeps h) fits (λ p set. items_whole h p set)

-- ------ the ledger after a Read

module _ (h : History) (k : Selecting) (t s : Since) (who now count : ℕ) (held : tenure h ≡ Some t) (runs : capture h ≡ Some s) (sound : IsSound (known h k)) where
  abbrev expired_at : Option ℕ
  expired_at = expired_then (params h) (ledger_at demux h) false (Some now)

  -- by the ledger in which the filter may have expired
  stepped : (r : Response) (l : Ledger) → l ≡ with_response (is_section (params h)) r (record (ledger_at demux h) { expired = expired_at })
      → l ≡ with_response (is_section (params h)) r (expiring (timeout_of (params h)) now (ledger_at demux h))
  stepped r l is = is ∙ ap (with_response (is_section (params h)) r) (expiring_is (params h) (ledger_at demux h) now (never h))

  c : Coherent (ledger_at demux h)
  c = coherent h k s sound runs

  ledger_read : (r : Response) → (ok : is_accepted r ≡ true) → ReadGives h r
      → ledger_at demux (entry_of who (Read now count) r ∷ h) ≡ with_response (is_section (params h)) r (expiring (timeout_of (params h)) now (ledger_at demux h))
  unfolding edge
  ledger_read _ ok (gives_bytes bytes fits) =
      stepped (Data bytes) _ (ledger_still (entry_of who (Read now count) (Data bytes)) h t s (stays_read h who (Data bytes) ok now count) held runs refl (around_edge demux h c).0 (placed_in demux h c) (λ input. refl)
      ∙ ap (λ rest. record (ledger_at demux h) {
        expired = expired_at;
        answered = length bytes + answered demux h;
        unread = drop (length bytes) (ledger_at demux h).unread;
        rest = rest;
      }) (rest_is h (length bytes) fits))
  ledger_read _ ok (gives_again ended) =
      stepped (Again ended) _ (ledger_still (entry_of who (Read now count) (Again ended)) h t s (stays_read h who (Again ended) ok now count) held runs refl (around_edge demux h c).0 (placed_in demux h c) (λ input. refl)
      ∙ rw (zero-add (answered demux h)) refl)
  ledger_read _ ok (gives_over item need room) =
      let r : Response = Overflow (answered demux h) (total demux h) item need room in
      stepped r _ (ledger_told (entry_of who (Read now count) r) h t s (stays_read h who r ok now count) held runs refl (λ input. refl) (sub-add_cancel c.answered))
  ledger_read _ ok (gives_timeout a b d) =
      stepped (TimedOut a b d) _ (ledger_still (entry_of who (Read now count) (TimedOut a b d)) h t s (stays_read h who (TimedOut a b d) ok now count) held runs refl (around_edge demux h c).0 (placed_in demux h c) (λ input. refl)
      ∙ rw (zero-add (answered demux h)) refl)
  ledger_read _ ok gives_nothing =
      stepped Passed _ (ledger_still (entry_of who (Read now count) Passed) h t s (stays_read h who Passed ok now count) held runs refl (around_edge demux h c).0 (placed_in demux h c) (λ input. refl)
      ∙ rw (zero-add (answered demux h)) refl)

pub read_moves : (h : History) (k : Selecting) (t : Since) (who now count : ℕ) → tenure h ≡ Some t → IsSound (known h k) → HasSelected h k
    → (r : Response) → is_accepted r ≡ true → ((s : Since) → capture h ≡ Some s → ReadGives h r) → Moves h k who (Read now count) r
unfolding facts
read_moves h k t who now count held sound has r ok gives =
    let e : Entry = entry_of who (Read now count) r in
    let stays : Stays e h = stays_read h who r ok now count in
    record {
      told = facts_goes e h t stays held (pids h) (pids_stay e h t stays held refl) (λ l. with_response (is_section (params h)) r (expiring (timeout_of (params h)) now l))
          (λ s runs. ledger_read h k t s who now count held runs sound r ok (gives s runs));
      selected = selected_goes e h t stays held k k has (λ s runs. selected_quiet e h t s stays held runs k (λ input. refl));
    }

-- ------ the answer to a Read

stays_within : (set : Params) (l : Ledger) (count : ℕ) (us : List ℕ) → StaysWithin set (length (take (most_bytes (is_section set) l count) us)) l.rest
stays_within Empty l count us = tt
stays_within (Pes p) l count us = tt
stays_within (Section p) l count us = omega (arith, length-take (most_bytes true l count) us)

none_within : (set : Params) (rest : ℕ) → StaysWithin set 0 rest
none_within Empty rest = tt
none_within (Pes p) rest = tt
none_within (Section p) rest = omega arith

-- in a capture, whatever its expiry is
pub read_gives : (h : History) (expired : Option ℕ) (count : ℕ) → ReadGives h (read_response (facts demux h) (Some (ledger_at demux h)) expired count)
unfolding facts
read_gives h expired count =
    let l : Ledger = ledger_at demux h in
    let t : ReadTerms = read_terms (facts demux h) in
    read_each (ReadGives h) t l expired count
    (λ x is none. gives_over x.item x.need x.room)
    (λ moment is. gives_timeout l.started moment t.timeout)
    (gives_bytes [] (none_within (params h) l.rest))
    (gives_again t.has_ended)
    (gives_bytes (take (most_bytes t.by_section l count) l.unread) (stays_within (params h) l count l.unread))
