-- How many lines and writes a script has with what one line more says.
use Rattle.client_script.proofs.Imports.{◌≡◌, ◌≢◌, ◌<◌, ◌≤◌, ◌+◌, ◌⊎◌, inl, inr, refl, sym, subst, ap, ◌∙◌, ℕ, List, [], ◌∷◌, ◌++◌, length, arith, length-append, Option, Some, None, slice_index_or, slice_set, replicate, All, cases_eq, cases_lt, All-nil, All-push, All-weaker, length-set, get_or-set_same, get_or-set_other, get_or_past, get_or-replicate, IsInRange, IsPlain, IsWritten, Scripted, plain, no_writes, most_bytes, writes_of, with_said, with_write, IsScript, AreWritten, HasWrite, IsOnDvr, Dvr, Line, Command, Write, Said, Asks, Writes}
use Rattle.client_script.proofs.Numbering.{numbered_line, numbered_none, numbered_write}

-- so many writes of each client are fewer than this number
abbrev pub Below : (number : ℕ) → List (List (List ℕ)) → Type 0
Below number writes = All (λ writes. 1 + length writes ≤ number) writes

pub no_writes_below : (number : ℕ) → 1 ≤ number → Below number no_writes
no_writes_below number one k d lt = let none : slice_index_or (replicate 8 []) k d ≡ [] = get_or-replicate 8 k [] d lt in rw none (omega (arith, one))

pub lines_more : (said : Option Said) (s : Scripted) (number : ℕ) → 1 + length s.lines ≤ number → 1 + length (with_said said s).lines ≤ number + 1
lines_more None s number few = omega (arith, few)
lines_more (Some (Asks line)) s number few = omega (arith, few, length-append s.lines (line ∷ []))
lines_more (Some (Writes line client bytes)) s number few =
    let asked : Line = Command line client Dvr (Write (length (writes_of client s.writes))) in
    omega (arith, few, length-append s.lines (asked ∷ []))

-- each element of a list with another one in a place
pub set_all : (P : List (List ℕ) → Type 0) (xs : List (List (List ℕ))) (i : ℕ) (x : List (List ℕ)) → All P xs → (i < length xs → P x) → All P (slice_set xs i x)
set_all P xs i x all here k d lt = go (cases_eq k i) where
  go : (k ≡ i) ⊎ (k ≢ i) → P (slice_index_or (slice_set xs i x) k d)
  go (inl same) = let long : i < length xs = omega (arith, lt, length-set xs i x, same) in subst (λ j. P (slice_index_or (slice_set xs i x) j d)) (sym same) (subst P (sym (get_or-set_same xs i x d long)) (here long))
  go (inr other) = subst P (sym (get_or-set_other xs i k x d other)) (all k d (omega (arith, lt, length-set xs i x)))

pub writes_more : (said : Option Said) (s : Scripted) (number : ℕ) → Below number s.writes → Below (number + 1) (with_said said s).writes
writes_more None s number all = λ k d lt. let h = all k d lt in omega (arith, h)
writes_more (Some (Asks line)) s number all = λ k d lt. let h = all k d lt in omega (arith, h)
writes_more (Some (Writes line client bytes)) s number all =
    set_all (λ writes. 1 + length writes ≤ number + 1) s.writes client (writes_of client s.writes ++ bytes ∷ []) (λ k d lt. let h = all k d lt in omega (arith, h))
    (λ there. let h = all client [] there in omega (arith, h, length-append (writes_of client s.writes) (bytes ∷ [])))

-- so one client has
pub one_below : (writes : List (List (List ℕ))) (client : ℕ) → All (λ writes. length writes < most_bytes) writes → length (writes_of client writes) < most_bytes
one_below writes client all = go (cases_lt client (length writes)) where
  go : (client < length writes) ⊎ (length writes ≤ client) → length (writes_of client writes) < most_bytes
  go (inl there) = all client [] there
  go (inr past) = let none = ap length (get_or_past writes client [] past) in omega (arith, none)

-- ------ what is known of a script stays

-- a script without lines
none_written : All AreWritten no_writes
none_written k d lt = let none : slice_index_or (replicate 8 []) k d ≡ [] = get_or-replicate 8 k [] d lt in rw none (record { few = omega arith; each = All-nil IsWritten })

pub script_none : IsScript (plain [])
script_none = record {
  few = omega arith;
  ranges = All-nil IsInRange;
  clients = refl;
  writes = none_written;
  on_dvr = All-nil IsOnDvr;
  named = All-nil (HasWrite no_writes);
  numbered = numbered_none;
}

-- another line than `write`
plain_on_dvr : (line : Line) → IsPlain line → IsOnDvr line
plain_on_dvr (Command line who target (Write write)) is = absurd is
plain_on_dvr _ is = tt

plain_has : (writes : List (List (List ℕ))) (line : Line) → IsPlain line → HasWrite writes line
plain_has writes (Command line who target (Write write)) is = absurd is
plain_has writes _ is = tt

-- such a line more
pub script_line : (s : Scripted) (line : Line) → IsScript s → length s.lines < most_bytes → IsInRange line → IsPlain line → IsScript (record s { lines = s.lines ++ line ∷ [] })
script_line s line is few range only = record {
  few = omega (arith, few, length-append s.lines (line ∷ []));
  ranges = All-push IsInRange s.lines line is.ranges range;
  clients = is.clients;
  writes = is.writes;
  on_dvr = All-push IsOnDvr s.lines line is.on_dvr (plain_on_dvr line only);
  named = All-push (HasWrite s.writes) s.lines line is.named (plain_has s.writes line only);
  numbered = numbered_line s line only is.numbered;
}

-- what a line names is there also with a write more
still_has : (writes : List (List (List ℕ))) (client : ℕ) (bytes : List ℕ) (line : Line) → HasWrite writes line → HasWrite (slice_set writes client (writes_of client writes ++ bytes ∷ [])) line
still_has writes client bytes (Command line who target (Write write)) has = go (cases_eq who client) where
  more : List (List ℕ)
  more = writes_of client writes ++ bytes ∷ []

  go : (who ≡ client) ⊎ (who ≢ client) → write < length (writes_of who (slice_set writes client more))
  go (inr other) = subst (λ ws. write < length ws) (sym (get_or-set_other writes client who more [] other)) has
  go (inl same) = own (cases_lt client (length writes)) where
    own : (client < length writes) ⊎ (length writes ≤ client) → write < length (writes_of who (slice_set writes client more))
    own (inl there) =
        subst (λ ws. write < length ws) (sym (ap (λ c. writes_of c (slice_set writes client more)) same ∙ get_or-set_same writes client more [] there))
        (let long = length-append (writes_of client writes) (bytes ∷ []) in let mine : write < length (writes_of client writes) = subst (λ c. write < length (writes_of c writes)) same has in omega (arith, long, mine))
    own (inr past) = absurd (let none : writes_of client writes ≡ [] = get_or_past writes client [] past in let n = ap length none in
        let mine : write < length (writes_of client writes) = subst (λ c. write < length (writes_of c writes)) same has in omega (arith, n, mine))
still_has writes client bytes _ has = tt

-- a write more
pub script_write : (s : Scripted) (line client : ℕ) (bytes : List ℕ) → IsScript s → length s.lines < most_bytes → length (writes_of client s.writes) < most_bytes
    → (1 ≤ line) × (line ≤ 1048576) → client ≤ 7 → IsWritten bytes → IsScript (with_write line client bytes s)
script_write s line client bytes is few fewer number low range = record {
  few = omega (arith, few, length-append s.lines (asked ∷ []));
  ranges = All-push IsInRange s.lines asked is.ranges (number.0, number.1, low, tt, omega (arith, fewer));
  clients = length-set s.writes client more ∙ is.clients;
  writes = set_all AreWritten s.writes client more is.writes (λ there. let h = is.writes client [] there in record {
    few = omega (arith, fewer, length-append (writes_of client s.writes) (bytes ∷ []));
    each = All-push IsWritten (writes_of client s.writes) bytes h.each range;
  });
  on_dvr = All-push IsOnDvr s.lines asked is.on_dvr refl;
  named = All-push (HasWrite (slice_set s.writes client more)) s.lines asked
      (All-weaker (HasWrite s.writes) (HasWrite (slice_set s.writes client more)) (still_has s.writes client bytes) s.lines is.named) next;
  numbered = numbered_write s line client bytes here is.numbered;
} where
  asked : Line
  asked = Command line client Dvr (Write (length (writes_of client s.writes)))

  more : List (List ℕ)
  more = writes_of client s.writes ++ bytes ∷ []

  here : client < length s.writes
  here = omega (arith, low, is.clients)

  next : length (writes_of client s.writes) < length (writes_of client (slice_set s.writes client more))
  next =
      subst (λ ws. length (writes_of client s.writes) < length ws) (sym (get_or-set_same s.writes client more [] here))
      (omega (arith, length-append (writes_of client s.writes) (bytes ∷ [])))
