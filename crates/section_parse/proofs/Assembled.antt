-- What an assembler keeps stands for the packets pushed, packet by packet and section by section.
use Rattle.section_parse.proofs.Imports.{◌≡◌, ℕ, ◌+◌, ◌*◌, ◌≤◌, ◌&&◌, subst, suc, Bool, true, false, List, [], ◌∷◌, ◌++◌, length, drop, Option, Some, None, refl, sym, ◌∙◌, arith, append_assoc, length-append, length-drop, append-nil, length-take, sum_by-append, fold-append, All, fold, sum_by, unit_start, carried, is_usable, pointer_field, is_pointed, pointed, Assembly, Assembled, cleared, without_first, all_given, sections_of_open, longer, opened, repeats_last, joins_last, taken, after_packet, length_of, bytes_kept, sections_from, sections_to_come, without_repeats_after, clean, runs, sections, kept}
use Rattle.section_parse.proofs.Reading.{open-left, open-bytes}
use Rattle.section_parse.proofs.Steps.{to_come-taken, first-step, repeat-step, break-step, unit-step, more-step, kept-unusable, kept-repeat, kept-break, kept-unit, kept-more}

-- the packet p keeps what is to come, where all before it was given
pub record Goes (a : Assembly) (p : List ℕ) (c : Assembly) : Type 0 where
  pub pid : c.pid ≡ a.pid
  pub to_come : (more : List (List ℕ)) → sections_to_come a (p ∷ more) ≡ sections_to_come c more
  pub settled : sections_of_open c.open_now ≡ []
  pub bytes : length (carried p) ≤ 184 → bytes_kept c ≤ bytes_kept a + 184

taken-bytes : (pid n : ℕ) (p : List ℕ) (closing o : Option (List ℕ)) → length_of closing + length_of o ≤ n → bytes_kept (taken pid p closing o) ≤ n
taken-bytes pid n p closing o h =
    omega (arith, sum_by-append length (sections_of_open closing) (sections_of_open o), open-bytes closing, open-bytes o)

longer-bytes : (o : Option (List ℕ)) (xs : List ℕ) → length_of (longer o xs) ≤ length_of o + length xs
longer-bytes None xs = omega arith
longer-bytes (Some s) xs = omega (arith, length-append s xs)

opened-bytes : (p : List ℕ) → length_of (opened p) ≤ length (carried p)
opened-bytes p = go (unit_start p && is_pointed p) refl
  where
    go : (b : Bool) → (unit_start p && is_pointed p) ≡ b → length_of (opened p) ≤ length (carried p)
    go true e = rw e (omega (arith, length-drop (1 + pointer_field p) (carried p)))
    go false e = rw e (omega arith)

-- the pointed bytes and those behind them
both-bytes : (p : List ℕ) → length (pointed p) + length_of (opened p) ≤ length (carried p)
both-bytes p = go (is_pointed p) refl (unit_start p) refl
  where
    go : (b : Bool) → is_pointed p ≡ b → (u : Bool) → unit_start p ≡ u → length (pointed p) + length_of (opened p) ≤ length (carried p)
    go true e true f = rw (e, f) (omega (arith, length-drop (1 + pointer_field p) (carried p), length-take (pointer_field p) (drop 1 (carried p)), length-drop 1 (carried p)))
    go true e false f = rw (e, f) (omega (arith, length-take (pointer_field p) (drop 1 (carried p)), length-drop 1 (carried p)))
    go false e true f = rw (e, f) (omega arith)
    go false e false f = rw (e, f) (omega arith)

-- a clean packet
goes-break : (pid : ℕ) (before o : Option (List ℕ)) (p : List ℕ) → sections_of_open o ≡ [] → is_usable pid p ≡ true → repeats_last before p ≡ false → joins_last before p ≡ false
    → Goes (record { pid = pid; before = before; ready = []; open_now = o }) p (taken pid p None (opened p))
goes-break pid None o p s u r j = record { pid = refl; to_come = λ more. first-step pid o p more u ∙ to_come-taken pid p None (opened p) more; settled = open-left (opened p); bytes = λ few. taken-bytes pid _ p None (opened p) (omega (arith, opened-bytes p)) }
goes-break pid (Some b) o p s u r j = record { pid = refl; to_come = λ more. break-step pid b o p more s u r j ∙ to_come-taken pid p None (opened p) more; settled = open-left (opened p); bytes = λ few. taken-bytes pid _ p None (opened p) (omega (arith, opened-bytes p)) }

goes-unit : (pid : ℕ) (before o : Option (List ℕ)) (p : List ℕ) → is_usable pid p ≡ true → repeats_last before p ≡ false → joins_last before p ≡ true → unit_start p ≡ true
    → Goes (record { pid = pid; before = before; ready = []; open_now = o }) p (taken pid p (longer o (pointed p)) (opened p))
goes-unit pid None o p u r j t = absurd cc
goes-unit pid (Some b) o p u r j t = record { pid = refl; to_come = λ more. unit-step pid b o p more u r j t ∙ to_come-taken pid p (longer o (pointed p)) (opened p) more; settled = open-left (opened p); bytes = λ few. taken-bytes pid _ p (longer o (pointed p)) (opened p) (omega (arith, both-bytes p, longer-bytes o (pointed p))) }

goes-more : (pid : ℕ) (before o : Option (List ℕ)) (p : List ℕ) → is_usable pid p ≡ true → repeats_last before p ≡ false → joins_last before p ≡ true → unit_start p ≡ false
    → Goes (record { pid = pid; before = before; ready = []; open_now = o }) p (taken pid p None (longer o (carried p)))
goes-more pid None o p u r j t = absurd cc
goes-more pid (Some b) o p u r j t = record { pid = refl; to_come = λ more. more-step pid b o p more u r j t ∙ to_come-taken pid p None (longer o (carried p)) more; settled = open-left (longer o (carried p)); bytes = λ few. taken-bytes pid _ p None (longer o (carried p)) (omega (arith, longer-bytes o (carried p))) }

-- a packet that is passed over
goes-unusable : (pid : ℕ) (before o : Option (List ℕ)) (p : List ℕ) → sections_of_open o ≡ [] → is_usable pid p ≡ false
    → Goes (record { pid = pid; before = before; ready = []; open_now = o }) p (record { pid = pid; before = before; ready = []; open_now = o })
goes-unusable pid before o p s u = record { pid = refl; to_come = λ more. rw u refl; settled = s; bytes = λ few. omega arith }

goes-repeat : (pid : ℕ) (before o : Option (List ℕ)) (p : List ℕ) → sections_of_open o ≡ [] → is_usable pid p ≡ true → repeats_last before p ≡ true
    → Goes (record { pid = pid; before = before; ready = []; open_now = o }) p (record { pid = pid; before = before; ready = []; open_now = o })
goes-repeat pid None o p s u r = absurd cc
goes-repeat pid (Some b) o p s u r = record { pid = refl; to_come = λ more. repeat-step pid b o p more u r; settled = s; bytes = λ few. omega arith }

-- any packet
goes-by : (pid : ℕ) (before o : Option (List ℕ)) (p : List ℕ) (u r j t : Bool) → sections_of_open o ≡ [] → is_usable pid p ≡ u → repeats_last before p ≡ r → joins_last before p ≡ j → unit_start p ≡ t
    → Goes (record { pid = pid; before = before; ready = []; open_now = o }) p (after_packet (record { pid = pid; before = before; ready = []; open_now = o }) p)
goes-by pid before o p false r j t s e f g h = rw (kept-unusable (record { pid = pid; before = before; ready = []; open_now = o }) p e) (goes-unusable pid before o p s e)
goes-by pid before o p true true j t s e f g h = rw (kept-repeat (record { pid = pid; before = before; ready = []; open_now = o }) p f) (goes-repeat pid before o p s e f)
goes-by pid before o p true false false t s e f g h = rw (kept-break (record { pid = pid; before = before; ready = []; open_now = o }) p e f g) (goes-break pid before o p s e f g)
goes-by pid before o p true false true true s e f g h = rw (kept-unit (record { pid = pid; before = before; ready = []; open_now = o }) p e f g h) (goes-unit pid before o p e f g h)
goes-by pid before o p true false true false s e f g h = rw (kept-more (record { pid = pid; before = before; ready = []; open_now = o }) p e f g h) (goes-more pid before o p e f g h)

pub goes : (a : Assembly) (p : List ℕ) → a.ready ≡ [] → sections_of_open a.open_now ≡ [] → Goes a p (after_packet a p)
goes a p d s =
    let P : List (List ℕ) → Type 0 = λ r. Goes (record { pid = a.pid; before = a.before; ready = r; open_now = a.open_now }) p (after_packet (record { pid = a.pid; before = a.before; ready = r; open_now = a.open_now }) p) in
    subst P (sym d) (goes-by a.pid a.before a.open_now p (is_usable a.pid p) (repeats_last a.before p) (joins_last a.before p) (unit_start p) s refl refl refl refl)

-- nothing is to come where nothing comes
from-end : (before o : Option (List ℕ)) → sections_of_open o ≡ [] → sections_from before o (without_repeats_after before []) ≡ []
unfolding without_repeats_after runs
from-end None o s = refl
from-end (Some b) o s = s

pub Assembled-from : (packets given : List (List ℕ)) (a : Assembly) → ((more : List (List ℕ)) → sections (packets ++ more) a.pid ≡ given ++ sections_to_come a more) → sections_of_open a.open_now ≡ []
    → Assembled packets given a
Assembled-from packets given a goes_on s =
    let k : sections (packets ++ []) a.pid ≡ given ++ sections_to_come a [] = goes_on [] in
    let e : sections (packets ++ []) a.pid ≡ given ++ a.ready = rw (from-end a.before a.open_now s, append-nil a.ready) at k in
    record { so_far = rw (append-nil packets) at e; goes_on = goes_on; settled = s }

pub Assembled-cleared : (pid : ℕ) → Assembled [] [] (cleared pid)
unfolding sections clean
Assembled-cleared pid = Assembled-from [] [] (cleared pid) (λ more. refl) refl

pub Assembled-push : (packets given : List (List ℕ)) (p : List ℕ) (a : Assembly) → a.ready ≡ [] → Assembled packets given a → Assembled (packets ++ p ∷ []) given (after_packet a p)
Assembled-push packets given p a d h =
    let g = goes a p d h.settled in
    Assembled-from (packets ++ p ∷ []) given (after_packet a p) (λ more. rw (append_assoc packets (p ∷ []) more, ← g.to_come more, g.pid) (h.goes_on (p ∷ more))) g.settled

pub Assembled-next : (packets given : List (List ℕ)) (s : List ℕ) (rest : List (List ℕ)) (a : Assembly) → a.ready ≡ s ∷ rest → Assembled packets given a → Assembled packets (given ++ s ∷ []) (without_first a)
Assembled-next packets given s rest a e h =
    Assembled-from packets (given ++ s ∷ []) (without_first a) (λ more. let k = h.goes_on more in rw (append_assoc given (s ∷ []) (sections_to_come (without_first a) more), e) (rw e at k)) h.settled

pub Assembled-all_given : (packets given : List (List ℕ)) (a : Assembly) → Assembled packets given a → Assembled packets (given ++ a.ready) (all_given a)
Assembled-all_given packets given a h =
    Assembled-from packets (given ++ a.ready) (all_given a) (λ more. rw (append_assoc given a.ready (sections_to_come (all_given a) more)) (h.goes_on more)) h.settled

-- what is kept after packets from a value on
pub record Keeps (pid : ℕ) (packets given : List (List ℕ)) (a : Assembly) : Type 0 where
  pub same : a.pid ≡ pid
  pub drained : a.ready ≡ []
  pub stands : Assembled packets given a

abbrev pub AreFew : List (List ℕ) → Type 0
AreFew packets = All (λ p. length (carried p) ≤ 184) packets

abbrev pub next_kept : Assembly → List ℕ → Assembly
next_kept a p = all_given (after_packet a p)

pub record KeepsOn (pid : ℕ) (packets more given : List (List ℕ)) (a : Assembly) : Type 0 where
  pub found : List (List ℕ)
  pub keeps : Keeps pid (packets ++ more) found (fold next_kept a more)
  pub bytes : AreFew more → sum_by length found + bytes_kept (fold next_kept a more) ≤ sum_by length given + bytes_kept a + 184 * length more

few-first : (p : List ℕ) (ps : List (List ℕ)) → AreFew (p ∷ ps) → length (carried p) ≤ 184
few-first p ps h = h 0 [] (omega arith)

few-rest : (p : List ℕ) (ps : List (List ℕ)) → AreFew (p ∷ ps) → AreFew ps
few-rest p ps h = λ k d below. h (suc k) d (omega (arith, below))

pub keeps-on : (pid : ℕ) (more packets given : List (List ℕ)) (a : Assembly) → Keeps pid packets given a → KeepsOn pid packets more given a
keeps-on pid [] packets given a h = record { found = given; keeps = rw (append-nil packets) h; bytes = λ few. omega arith }
keeps-on pid (p ∷ ps) packets given a h =
    let g = goes a p h.drained h.stands.settled in
    let c = after_packet a p in
    let one : Keeps pid (packets ++ p ∷ []) (given ++ c.ready) (next_kept a p) = record { same = g.pid ∙ h.same; drained = refl; stands = Assembled-all_given (packets ++ p ∷ []) given c (Assembled-push packets given p a h.drained h.stands) } in
    let on = keeps-on pid ps (packets ++ p ∷ []) (given ++ c.ready) (next_kept a p) one in
    let k = on.keeps in
    record {
      found = on.found;
      keeps = rw (append_assoc packets (p ∷ []) ps) at k;
      bytes = λ few. omega (arith, on.bytes (few-rest p ps few), g.bytes (few-first p ps few), sum_by-append length given c.ready);
    }

-- what is kept after packets stands for them, with all their sections given
pub keeps-all : (pid : ℕ) (packets : List (List ℕ)) → KeepsOn pid [] packets [] (cleared pid)
keeps-all pid packets = keeps-on pid packets [] [] (cleared pid) (record { same = refl; drained = refl; stands = Assembled-cleared pid })

pub kept-stands : (pid : ℕ) (packets : List (List ℕ)) → Keeps pid packets (sections packets pid) (kept pid packets)
unfolding kept
kept-stands pid packets =
    let k = keeps-all pid packets in
    let h = k.keeps in
    let e : sections packets pid ≡ k.found = rw (h.drained, append-nil k.found, h.same) at h.stands.so_far in
    rw e h

pub kept-append : (pid : ℕ) (packets : List (List ℕ)) (p : List ℕ) → kept pid (packets ++ p ∷ []) ≡ all_given (after_packet (kept pid packets) p)
unfolding kept
kept-append pid packets p = fold-append next_kept (cleared pid) packets (p ∷ [])

-- one packet more, from any value whose open segment is settled
pub record Pushes (a : Assembly) (p : List ℕ) (c : Assembly) : Type 0 where
  pub value : c ≡ after_packet a p
  pub pid : c.pid ≡ a.pid
  pub stands : (packets given : List (List ℕ)) → Assembled packets given a → Assembled (packets ++ p ∷ []) given c
  pub bytes : bytes_kept c ≤ bytes_kept a + 184

pub pushes-clean : (a c : Assembly) (p : List ℕ) → a.ready ≡ [] → sections_of_open a.open_now ≡ [] → length (carried p) ≤ 184 → c ≡ after_packet a p → Pushes a p c
pushes-clean a c p d s few e =
    let g = goes a p d s in
    rw e (record { value = refl; pid = g.pid; stands = λ packets given h. Assembled-push packets given p a d h; bytes = g.bytes few })

pub pushes-none : (a : Assembly) (p : List ℕ) → a.ready ≡ [] → is_usable a.pid p ≡ false → Pushes a p a
pushes-none a p d u =
    let e = kept-unusable a p u in
    record {
      value = sym e;
      pid = refl;
      stands = λ packets given h. let k = Assembled-push packets given p a d h in rw e at k;
      bytes = omega arith;
    }
