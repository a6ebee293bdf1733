-- A script of which each client has given commands.
use Rattle.serve_top.proofs.Imports.{command_of, plays_batch, false, ◌≡◌, ◌≢◌, ℕ, zero, suc, ◌+◌, ◌<◌, ◌≤◌, eq-eqb, ne_eqb, List, [], ◌∷◌, ◌++◌, length, map, take, replicate, fold, max, Option, Some, None, refl, ap, sym, ◌∙◌, subst, arith, slice_get, option_map, if◌then◌else◌, append-nil, flat_map-append, dite, ℕ_discrete, Outcome, Response, Scripted, plain, clients_of, clients_in, Line, CommandLine, Dvr, Want, ClientCommand, Once, GetStc, Event, Batches, commands_in, commands_among, commands_of, plays_of, Ended, Progress, progress_from, no_slots, next_event, outcome_by, outcome_of, outcomes, Exchange, with_reply, exchanges_after, stc, DoneCommand, commands_by, progress}

-- ------ the lines of one client

-- each of these commands is one call
abbrev pub AreCalls : List ClientCommand → Type 0
AreCalls [] = Unit {0}
AreCalls (c ∷ cs) = ((want : Want) × (c.verb ≡ Once want) × (c.has_batch ≡ false)) × AreCalls cs

-- those that a line spells are
pub spelled_calls : (count : ℕ) (ds : List DoneCommand) → AreCalls (commands_by count ds)
spelled_calls count [] = tt
spelled_calls count (d ∷ ds) = ((d.want, refl, refl), spelled_calls (count + 1) ds)

abbrev pub line_of : (client : ℕ) → ClientCommand → Line
line_of client c = CommandLine c.line client c.target c.verb

-- the command that its line has
abbrev read : Batches → ClientCommand → ClientCommand
read batches c = command_of batches c.line c.target c.verb

-- it is that of one call
read_again : (batches : Batches) (c : ClientCommand) (want : Want) → c.verb ≡ Once want → c.has_batch ≡ false → read batches c ≡ c
read_again batches c want is none =
    ap (λ b. record { line = c.line; target = c.target; verb = c.verb; has_batch = b }) (ap (plays_batch batches) is ∙ sym none)

pub own_lines : (client : ℕ) (batches : Batches) (cs : List ClientCommand) → AreCalls cs → commands_among client batches (map (line_of client) cs) ≡ cs
own_lines client batches [] are = refl
own_lines client batches (c ∷ cs) are =
    let same : read batches c ≡ c = read_again batches c are.0.0 are.0.1 are.0.2 in
    ap (λ b. (if b then read batches c ∷ [] else []) ++ commands_among client batches (map (line_of client) cs)) (eq-eqb client client refl)
    ∙ (ap (λ (x : ClientCommand). x ∷ commands_among client batches (map (line_of client) cs)) same
    ∙ ap (λ (l : List ClientCommand). c ∷ l) (own_lines client batches cs are.1))

pub other_lines : (client other : ℕ) (batches : Batches) (cs : List ClientCommand) → other ≢ client → commands_among client batches (map (line_of other) cs) ≡ []
other_lines client other batches [] not = refl
other_lines client other batches (c ∷ cs) not =
    ap (λ b. (if b then read batches c ∷ [] else []) ++ commands_among client batches (map (line_of other) cs)) (ne_eqb other client not) ∙ other_lines client other batches cs not

among_both : (client : ℕ) (batches : Batches) (xs ys : List Line) → commands_among client batches (xs ++ ys) ≡ commands_among client batches xs ++ commands_among client batches ys
among_both client batches xs ys = flat_map-append (commands_in client batches) xs ys

-- ------ the lines of all clients

module _ (f : ℕ → List ClientCommand) where
  abbrev pub lines_of : (n : ℕ) → List Line
  lines_of zero = []
  lines_of (suc n) = lines_of n ++ map (line_of n) (f n)

  pub lines_none : (batches : Batches) (n k : ℕ) → n ≤ k → commands_among k batches (lines_of n) ≡ []
  lines_none batches zero k low = refl
  lines_none batches (suc n) k low =
      among_both k batches (lines_of n) (map (line_of n) (f n))
      ∙ (ap (λ (l : List ClientCommand). l ++ commands_among k batches (map (line_of n) (f n))) (lines_none batches n k (omega (arith, low)))
      ∙ other_lines k n batches (f n) (λ same. absurd (omega (arith, low, same))))

  -- each client has its own
  pub lines_at : (are : (k : ℕ) → AreCalls (f k)) (batches : Batches) (n k : ℕ) → k < n → commands_among k batches (lines_of n) ≡ f k
  lines_at are batches zero k low = absurd (omega (arith, low))
  lines_at are batches (suc n) k low = among_both k batches (lines_of n) (map (line_of n) (f n)) ∙ dite (ℕ_discrete n k)
      (λ here.
      ap (λ (l : List ClientCommand). l ++ commands_among k batches (map (line_of n) (f n))) (lines_none batches n k (omega (arith, here)))
      ∙ subst (λ i. commands_among i batches (map (line_of n) (f n)) ≡ f i) here (own_lines n batches (f n) (are n)))
      (λ not.
      ap (λ (l : List ClientCommand). l ++ commands_among k batches (map (line_of n) (f n))) (lines_at are batches n k (omega (arith, low, not)))
      ∙ (ap (λ (l : List ClientCommand). f k ++ l) (other_lines k n batches (f n) not) ∙ append-nil (f k)))

-- ------ how many clients there are

abbrev most_of : (most : ℕ) → List Line → ℕ
most_of most lines = fold (λ most line. max most (clients_of line)) most lines

max_grows : (a b : ℕ) → a ≤ max a b
max_grows a b = omega arith

max_low : (a b n : ℕ) → a ≤ n → b ≤ n → max a b ≤ n
max_low a b n x y = omega (arith, x, y)

most_both : (most : ℕ) (xs ys : List Line) → most_of most (xs ++ ys) ≡ most_of (most_of most xs) ys
most_both most [] ys = refl
most_both most (x ∷ xs) ys = most_both (max most (clients_of x)) xs ys

most_low : (n most : ℕ) (client : ℕ) (cs : List ClientCommand) → most ≤ n → client < n → most_of most (map (line_of client) cs) ≤ n
most_low n most client [] low less = low
most_low n most client (c ∷ cs) low less = most_low n (max most (client + 1)) client cs (max_low most (client + 1) n low (omega (arith, less))) less

most_grows : (most : ℕ) (xs : List Line) → most ≤ most_of most xs
most_grows most [] = omega arith
most_grows most (x ∷ xs) = let a = max_grows most (clients_of x) in let b = most_grows (max most (clients_of x)) xs in omega (arith, a, b)

-- no more than these
pub clients_low : (f : ℕ → List ClientCommand) (n : ℕ) → clients_in (plain (lines_of f n)) ≤ n
clients_low f zero = omega arith
clients_low f (suc n) =
    let a = clients_low f n in
    subst (λ k. k ≤ suc n) (sym (most_both 0 (lines_of f n) (map (line_of n) (f n))))
    (most_low (suc n) (most_of 0 (lines_of f n)) n (f n) (omega (arith, a)) (omega arith))

-- a client behind the last one has no command
pub behind_none : (f : ℕ → List ClientCommand) (n k : ℕ) → k < n → clients_in (plain (lines_of f n)) ≤ k → f k ≡ []
behind_none f zero k low most = absurd (omega (arith, low))
behind_none f (suc n) k low most = dite (ℕ_discrete n k)
    (λ here. subst (λ i. f i ≡ []) here (nothing (f n) (most_of 0 (lines_of f n)) (subst (λ m. m ≤ n) (most_both 0 (lines_of f n) (map (line_of n) (f n))) (let h = here in omega (arith, most, h)))))
    (λ not.
    let b = subst (λ m. m ≤ k) (most_both 0 (lines_of f n) (map (line_of n) (f n))) most in
    let a = most_grows (most_of 0 (lines_of f n)) (map (line_of n) (f n)) in
    behind_none f n k (omega (arith, low, not)) (omega (arith, a, b))) where
      nothing : (cs : List ClientCommand) (most : ℕ) → most_of most (map (line_of n) cs) ≤ n → cs ≡ []
      nothing [] most low = refl
      nothing (c ∷ cs) most low =
          let a = most_grows (max most (n + 1)) (map (line_of n) cs) in
          let b : n + 1 ≤ max most (n + 1) = omega arith in
          absurd (omega (arith, a, b, low))

-- ------ a client that makes no call, at the end

-- with a question of the last client, which is no call
abbrev pub asked_last : (last : ℕ) → List Line → Scripted
asked_last last lines = plain (lines ++ CommandLine 1 last Dvr (GetStc 0) ∷ [])

abbrev pub question : ClientCommand
question = record { line = 1; target = Dvr; verb = GetStc 0; has_batch = false }

-- what is played is the same in each script that writes nothing
pub asked_others : (last k : ℕ) (lines : List Line) → last ≢ k → commands_of k (asked_last last lines) ≡ commands_of k (plain lines)
asked_others last k lines not =
    let batches : Batches = plays_of k (plain lines) in
    among_both k batches lines (CommandLine 1 last Dvr (GetStc 0) ∷ [])
    ∙ (ap (λ b. commands_among k batches lines ++ ((if b then question ∷ [] else []) ++ [])) (ne_eqb last k not) ∙ append-nil (commands_among k batches lines))

pub asked_own : (last : ℕ) (lines : List Line) → commands_of last (plain lines) ≡ [] → commands_of last (asked_last last lines) ≡ question ∷ []
asked_own last lines none =
    let batches : Batches = plays_of last (plain lines) in
    among_both last batches lines (CommandLine 1 last Dvr (GetStc 0) ∷ [])
    ∙ (ap (λ b. commands_among last batches lines ++ ((if b then question ∷ [] else []) ++ [])) (eq-eqb last last refl) ∙ ap (λ (l : List ClientCommand). l ++ question ∷ []) none)

pub asked_clients : (last : ℕ) (lines : List Line) → clients_in (plain lines) ≤ last → clients_in (asked_last last lines) ≡ last + 1
asked_clients last lines low =
    most_both 0 lines (CommandLine 1 last Dvr (GetStc 0) ∷ []) ∙ is where
      is : max (clients_in (plain lines)) (last + 1) ≡ last + 1
      is = omega (arith, low)

-- ------ by its commands alone

module _ (client : ℕ) (s t : Scripted) (same : commands_of client s ≡ commands_of client t) where
  pub progress_same : (rs : List Response) → progress client s rs ≡ progress client t rs
  unfolding progress
  progress_same rs = ap (λ (cs : List ClientCommand). progress_from no_slots 0 cs rs) same

  pub next_same : (rs : List Response) → next_event client s rs ≡ next_event client t rs
  next_same rs = ap (λ (p : Progress). option_map (λ x. x.event) p.standing) (progress_same rs)

  exchanges_same : (before : List Response) (older : List Exchange) (rs : List Response) → exchanges_after client s before older rs ≡ exchanges_after client t before older rs
  exchanges_same before older [] = refl
  exchanges_same before older (r ∷ rs) =
      ap (λ (o : Option Event). exchanges_after client s (before ++ r ∷ []) (with_reply o r older) rs) (next_same before)
      ∙ exchanges_same (before ++ r ∷ []) (with_reply (next_event client t before) r older) rs

  outcome_same : (rs : List Response) (e : Ended) → outcome_of client s rs e ≡ outcome_of client t rs e
  outcome_same rs e = ap (λ (xs : List Exchange). outcome_by (λ node num. stc node num xs) e) (exchanges_same [] [] (take e.from rs))

  all_same : (rs : List Response) (es : List Ended) → map (outcome_of client s rs) es ≡ map (outcome_of client t rs) es
  all_same rs [] = refl
  all_same rs (e ∷ es) = ap (λ (o : Outcome). o ∷ map (outcome_of client s rs) es) (outcome_same rs e) ∙ ap (λ (os : List Outcome). outcome_of client t rs e ∷ os) (all_same rs es)

  pub outcomes_same : (rs : List Response) → outcomes client s rs ≡ outcomes client t rs
  outcomes_same rs = all_same rs (progress client s rs).ended ∙ ap (λ (p : Progress). map (outcome_of client t rs) p.ended) (progress_same rs)

-- a client with no command, or with a question alone, calls nothing
pub none_next : (client : ℕ) (s : Scripted) → commands_of client s ≡ [] → (rs : List Response) → next_event client s rs ≡ None
unfolding progress
none_next client s none rs = ap (λ (cs : List ClientCommand). option_map (λ x. x.event) (progress_from no_slots 0 cs rs).standing) none

pub question_next : (client : ℕ) (s : Scripted) → commands_of client s ≡ question ∷ [] → (rs : List Response) → next_event client s rs ≡ None
unfolding progress
question_next client s one rs = ap (λ (cs : List ClientCommand). option_map (λ x. x.event) (progress_from no_slots 0 cs rs).standing) one

-- ------ lists behind which nothing stands

abbrev pub NothingFrom : (m : ℕ) → List (List Outcome) → Type 0
NothingFrom m told = (k : ℕ) (o : List Outcome) → m ≤ k → slice_get told k ≡ Some o → o ≡ []

all_nothing : (told : List (List Outcome)) → NothingFrom 0 told → told ≡ replicate (length told) []
all_nothing [] none = refl
all_nothing (o ∷ os) none =
    ap (λ (x : List Outcome). x ∷ os) (none 0 o (omega arith) refl)
    ∙ ap (λ (l : List (List Outcome)). [] ∷ l) (all_nothing os (λ k x low at. none (suc k) x (omega arith) at))

-- the front, and nothing behind it
pub record Parted (m : ℕ) (told : List (List Outcome)) : Type 0 where
  pub ran : List (List Outcome)
  pub idle : ℕ
  pub all : told ≡ ran ++ replicate idle []
  pub long : length ran ≡ m
  pub same : (k : ℕ) → k < m → slice_get ran k ≡ slice_get told k

pub parted_at : (m : ℕ) (told : List (List Outcome)) → m ≤ length told → NothingFrom m told → Parted m told
parted_at zero told low none = record { ran = []; idle = length told; all = all_nothing told none; long = refl; same = λ k less. absurd (omega (arith, less)) }
parted_at (suc m) [] low none = absurd (omega (arith, low))
parted_at (suc m) (o ∷ os) low none = more (parted_at m os (omega (arith, low)) (λ k x less at. none (suc k) x (omega (arith, less)) at)) where
  more : Parted m os → Parted (suc m) (o ∷ os)
  more p = record { ran = o ∷ p.ran; idle = p.idle; all = ap (λ (l : List (List Outcome)). o ∷ l) p.all; long = let n = p.long in omega (arith, n); same = λ k less. here k less } where
    here : (k : ℕ) → k < suc m → slice_get (o ∷ p.ran) k ≡ slice_get (o ∷ os) k
    here zero less = refl
    here (suc k) less = p.same k (omega (arith, less))
