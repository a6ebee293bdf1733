-- How the lines of a node grow by one line.
use Rattle.report_text.proofs.Imports.{ℕ, zero, suc, ◌+◌, ◌<◌, ◌≤◌, ◌≡◌, ◌∙◌, ◌⊎◌, inl, inr, refl, sym, ap, Bool, true, false, ◌||◌, List, [], ◌∷◌, ◌++◌, length, map, drop, arith, append_assoc, append-nil, codes, nat_lt, if◌then◌else◌, get_or, flat_map, list_any, nat_tests, drop-nil, Fed, ToldEntry, told_entry, Act, LogEntry, feeder_acts, feeder_entry, feeder_entries, before_entry, woven_from, woven, Passed, node_text, act_text, response_text, entry_text, is_of_client, history_text, tail_text, turn, Told, caller_text}
use Rattle.std.specs.Fmt.{decimal}
use Rattle.text_forms.specs.Names.{who_text}

-- ------ a line of the feeder

-- its place, and what stands behind it
pub line-is : (place step : ℕ) (act : Act) → decimal place ++ tail_text step act ≡ entry_text (feeder_entry 0 place step act)
unfolding caller_text who_text
line-is place step act =
    let behind_step = act_text act ++ (codes " = " ++ (response_text Passed ++ codes "\n")) in
    sym (append_assoc (decimal place) (codes " feed " ++ (decimal step ++ codes " ")) behind_step
    ∙ ap (λ l. decimal place ++ (codes " feed " ++ l)) (append_assoc (decimal step) (codes " ") behind_step))

-- ------ the feeder's calls from a step on

pub turns-more : (feeding : List Fed) (step : ℕ) → step ≤ length feeding → drop step (feeder_acts feeding) ≡ turn feeding step ∷ drop (suc step) (feeder_acts feeding)
turns-more [] zero low = refl
turns-more [] (suc n) low = absurd (omega (arith, low))
turns-more (f ∷ feeding) zero low = refl
turns-more (f ∷ feeding) (suc n) low = turns-more feeding n (omega (arith, low))

pub turns-none : (feeding : List Fed) (step : ℕ) → length feeding < step → drop step (feeder_acts feeding) ≡ []
turns-none feeding zero low = absurd (omega (arith, low))
turns-none [] (suc n) low = drop-nil n
turns-none (f ∷ feeding) (suc n) low = turns-none feeding n (omega (arith, low))

-- ------ before a client's entry

-- the lines that are still to come, behind those that are told
abbrev pub IsTelling : List Fed → (told place step next : ℕ) → (before after : List ℕ) → Type 0
IsTelling feeding told place step next before after =
    (node : ℕ) (e : LogEntry) (later : (place step : ℕ) → List Act → List LogEntry) → e.place ≡ place
    → after ++ flat_map entry_text (before_entry node e later (told + next) next (drop next (feeder_acts feeding)))
    ≡ before ++ flat_map entry_text (before_entry node e later (told + step) step (drop step (feeder_acts feeding)))

module _ (node : ℕ) (e : LogEntry) (later : (place step : ℕ) → List Act → List LogEntry) where
  before-stops : (p s : ℕ) (acts : List Act) → e.place ≤ p → before_entry node e later p s acts ≡ e ∷ later (suc p) s acts
  before-stops p s [] low = refl
  before-stops p s (a ∷ acts) low = by_test (nat_lt p e.place) refl where
    by_test : (b : Bool) → nat_lt p e.place ≡ b
        → (if b then feeder_entry node p s a ∷ before_entry node e later (suc p) (suc s) acts else e ∷ later (suc p) s (a ∷ acts)) ≡ e ∷ later (suc p) s (a ∷ acts)
    by_test true y = absurd (let up : p < e.place = grind (arith, nat_tests) in omega (arith, up, low))
    by_test false y = refl

  before-goes : (p s : ℕ) (a : Act) (acts : List Act) → p < e.place → before_entry node e later p s (a ∷ acts) ≡ feeder_entry node p s a ∷ before_entry node e later (suc p) (suc s) acts
  before-goes p s a acts low = by_test (nat_lt p e.place) refl where
    by_test : (b : Bool) → nat_lt p e.place ≡ b
        → (if b then feeder_entry node p s a ∷ before_entry node e later (suc p) (suc s) acts else e ∷ later (suc p) s (a ∷ acts)) ≡ feeder_entry node p s a ∷ before_entry node e later (suc p) (suc s) acts
    by_test true y = refl
    by_test false y = absurd (let up : e.place ≤ p = grind (arith, nat_tests) in omega (arith, up, low))

-- one call more of the feeder
pub telling-more : (feeding : List Fed) (told place step next : ℕ) (before text longer : List ℕ) → next ≤ length feeding → told + next < place
    → IsTelling feeding told place step next before text → longer ≡ text ++ entry_text (feeder_entry 0 (told + next) next (turn feeding next))
    → IsTelling feeding told place step (next + 1) before longer
telling-more feeding told place step next before text longer there low so_far added node e later at =
    let acts = drop (suc next) (feeder_acts feeding) in
    let p : told + (next + 1) ≡ suc (told + next) = omega arith in
    let s : next + 1 ≡ suc next = omega arith in
    let goes : before_entry node e later (told + next) next (drop next (feeder_acts feeding)) ≡ feeder_entry node (told + next) next (turn feeding next) ∷ before_entry node e later (suc (told + next)) (suc next) acts =
    ap (before_entry node e later (told + next) next) (turns-more feeding next there) ∙ before-goes node e later (told + next) next (turn feeding next) acts (omega (arith, low, at)) in
    let line = entry_text (feeder_entry 0 (told + next) next (turn feeding next)) in
    let rest = flat_map entry_text (before_entry node e later (suc (told + next)) (suc next) acts) in
    ap (λ p. longer ++ flat_map entry_text (before_entry node e later p (next + 1) (drop (next + 1) (feeder_acts feeding)))) p
    ∙ ap (λ s. longer ++ flat_map entry_text (before_entry node e later (suc (told + next)) s (drop s (feeder_acts feeding)))) s
    ∙ ap (λ (t : List ℕ). t ++ rest) added ∙ append_assoc text line rest
    ∙ ap (λ l. text ++ flat_map entry_text l) (sym goes) ∙ so_far node e later at

-- no call of the feeder is left, or the place of the entry is reached
pub telling-done : (feeding : List Fed) (told place step next : ℕ) (before text : List ℕ) → (length feeding < next) ⊎ (place ≤ told + next)
    → IsTelling feeding told place step next before text → Told feeding told place step next before text
telling-done feeding told place step next before text (inl past) so_far node e later at =
    ap (λ acts. text ++ flat_map entry_text (e ∷ later (suc (told + next)) next acts)) (turns-none feeding next past)
    ∙ ap (λ acts. text ++ flat_map entry_text (before_entry node e later (told + next) next acts)) (sym (turns-none feeding next past)) ∙ so_far node e later at
telling-done feeding told place step next before text (inr low) so_far node e later at =
    ap (λ l. text ++ flat_map entry_text l) (sym (before-stops node e later (told + next) next (drop next (feeder_acts feeding)) (omega (arith, low, at)))) ∙ so_far node e later at

-- ------ behind all entries of clients

abbrev pub IsEnding : List Fed → (told step next : ℕ) → (before after : List ℕ) → Type 0
IsEnding feeding told step next before after =
    (node : ℕ) → after ++ flat_map entry_text (feeder_entries node (told + next) next (drop next (feeder_acts feeding)))
    ≡ before ++ flat_map entry_text (feeder_entries node (told + step) step (drop step (feeder_acts feeding)))

pub ending-more : (feeding : List Fed) (told step next : ℕ) (before text longer : List ℕ) → next ≤ length feeding
    → IsEnding feeding told step next before text → longer ≡ text ++ entry_text (feeder_entry 0 (told + next) next (turn feeding next))
    → IsEnding feeding told step (next + 1) before longer
ending-more feeding told step next before text longer there so_far added node =
    let acts = drop (suc next) (feeder_acts feeding) in
    let p : told + (next + 1) ≡ suc (told + next) = omega arith in
    let s : next + 1 ≡ suc next = omega arith in
    let line = entry_text (feeder_entry 0 (told + next) next (turn feeding next)) in
    let rest = flat_map entry_text (feeder_entries node (suc (told + next)) (suc next) acts) in
    ap (λ p. longer ++ flat_map entry_text (feeder_entries node p (next + 1) (drop (next + 1) (feeder_acts feeding)))) p
    ∙ ap (λ s. longer ++ flat_map entry_text (feeder_entries node (suc (told + next)) s (drop s (feeder_acts feeding)))) s
    ∙ ap (λ (t : List ℕ). t ++ rest) added ∙ append_assoc text line rest
    ∙ ap (λ a. text ++ flat_map entry_text (feeder_entries node (told + next) next a)) (sym (turns-more feeding next there)) ∙ so_far node

pub ending-done : (feeding : List Fed) (told step next : ℕ) (before text : List ℕ) → length feeding < next → IsEnding feeding told step next before text
    → (node : ℕ) → text ≡ before ++ flat_map entry_text (feeder_entries node (told + step) step (drop step (feeder_acts feeding)))
ending-done feeding told step next before text past so_far node =
    sym (append-nil text) ∙ ap (λ a. text ++ flat_map entry_text (feeder_entries node (told + next) next a)) (sym (turns-none feeding next past)) ∙ so_far node

-- ------ a whole node

abbrev pub IsWeaving : List Fed → List ToldEntry → (told step : ℕ) → (before after : List ℕ) → Type 0
IsWeaving feeding calls told step before after =
    (node : ℕ) → after ++ flat_map entry_text (woven_from node (drop told (map told_entry calls)) (told + step) step (drop step (feeder_acts feeding)))
    ≡ before ++ flat_map entry_text (woven node (feeder_acts feeding) (map told_entry calls))

pub calls-more : (calls : List ToldEntry) (told : ℕ) (call : ToldEntry) → told < length calls → call ≡ get_or calls told call → drop told (map told_entry calls) ≡ told_entry call ∷ drop (suc told) (map told_entry calls)
calls-more [] told call there is = absurd (omega (arith, there))
calls-more (c ∷ calls) zero call there is = ap (λ c. told_entry c ∷ map told_entry calls) (sym is)
calls-more (c ∷ calls) (suc n) call there is = calls-more calls n call (omega (arith, there)) is

pub calls-none : (calls : List ToldEntry) (told : ℕ) → length calls ≤ told → drop told (map told_entry calls) ≡ []
calls-none [] told past = drop-nil told
calls-none (c ∷ calls) zero past = absurd (omega (arith, past))
calls-none (c ∷ calls) (suc n) past = calls-none calls n (omega (arith, past))

-- the entry of a client, behind the feeder's calls that stand before it
pub weaving-more : (feeding : List Fed) (calls : List ToldEntry) (told step next : ℕ) (call : ToldEntry) (before text longer longest : List ℕ) → told < length calls → call ≡ get_or calls told call
    → IsWeaving feeding calls told step before text → Told feeding told call.place step next text longer → longest ≡ longer ++ entry_text (told_entry call)
    → IsWeaving feeding calls (told + 1) next before longest
weaving-more feeding calls told step next call before text longer longest there is so_far turns added node =
    let rest = drop (suc told) (map told_entry calls) in
    let acts = drop next (feeder_acts feeding) in
    let t : told + 1 ≡ suc told = omega arith in
    let p : suc told + next ≡ suc (told + next) = omega arith in
    let behind = flat_map entry_text (woven_from node rest (suc (told + next)) next acts) in
    ap (λ t. longest ++ flat_map entry_text (woven_from node (drop t (map told_entry calls)) (t + next) next acts)) t
    ∙ ap (λ p. longest ++ flat_map entry_text (woven_from node rest p next acts)) p
    ∙ ap (λ (l : List ℕ). l ++ behind) added ∙ append_assoc longer (entry_text (told_entry call)) behind
    ∙ turns node (told_entry call) (woven_from node rest) refl
    ∙ ap (λ l. text ++ flat_map entry_text (woven_from node l (told + step) step (drop step (feeder_acts feeding)))) (sym (calls-more calls told call there is)) ∙ so_far node

-- ------ whether a client called

feeder-called : (node place step : ℕ) (acts : List Act) → list_any is_of_client (feeder_entries node place step acts) ≡ false
feeder-called node place step [] = refl
feeder-called node place step (a ∷ acts) = feeder-called node (suc place) (suc step) acts

module _ (node : ℕ) (e : LogEntry) (later : (place step : ℕ) → List Act → List LogEntry) (b : Bool) (called : (p s : ℕ) (acts : List Act) → list_any is_of_client (later p s acts) ≡ b) where
  before-called : (p s : ℕ) (acts : List Act) → list_any is_of_client (before_entry node e later p s acts) ≡ (is_of_client e || b)
  before-called p s [] = ap (λ b. is_of_client e || b) (called (suc p) s [])
  before-called p s (a ∷ acts) = by_test (nat_lt p e.place) (before-called (suc p) (suc s) acts) where
    by_test : (c : Bool) → list_any is_of_client (before_entry node e later (suc p) (suc s) acts) ≡ (is_of_client e || b)
        → list_any is_of_client (if c then feeder_entry node p s a ∷ before_entry node e later (suc p) (suc s) acts else e ∷ later (suc p) s (a ∷ acts)) ≡ (is_of_client e || b)
    by_test true ih = ih
    by_test false ih = ap (λ b. is_of_client e || b) (called (suc p) s (a ∷ acts))

woven_from-called : (node : ℕ) (calls : List LogEntry) (p s : ℕ) (acts : List Act) → list_any is_of_client (woven_from node calls p s acts) ≡ list_any is_of_client calls
woven_from-called node [] p s acts = feeder-called node p s acts
woven_from-called node (e ∷ calls) p s acts = before-called node e (woven_from node calls) (list_any is_of_client calls) (woven_from-called node calls) p s acts

pub woven-called : (node : ℕ) (acts : List Act) (calls : List LogEntry) → list_any is_of_client (woven node acts calls) ≡ list_any is_of_client calls
woven-called node acts calls = woven_from-called node calls 0 0 acts

-- a node that no client called is left out
pub untold : (node : ℕ) (feeding : List Fed) (calls : List ToldEntry) (out : List ℕ) → list_any is_of_client (map told_entry calls) ≡ false
    → out ≡ out ++ history_text node (woven node (feeder_acts feeding) (map told_entry calls))
untold node feeding calls out none =
    let h = woven node (feeder_acts feeding) (map told_entry calls) in
    sym (append-nil out) ∙ ap (λ b. out ++ (if b then codes "node " ++ (node_text node ++ (codes "\n" ++ flat_map entry_text h)) else [])) (sym (woven-called node (feeder_acts feeding) (map told_entry calls) ∙ none))

-- every other is told
pub told_whole : (node : ℕ) (feeding : List Fed) (calls : List ToldEntry) (out longer : List ℕ) → list_any is_of_client (map told_entry calls) ≡ true
    → longer ≡ out ++ (codes "node " ++ (node_text node ++ (codes "\n" ++ flat_map entry_text (woven node (feeder_acts feeding) (map told_entry calls)))))
    → longer ≡ out ++ history_text node (woven node (feeder_acts feeding) (map told_entry calls))
told_whole node feeding calls out longer some is =
    let h = woven node (feeder_acts feeding) (map told_entry calls) in
    is ∙ ap (λ b. out ++ (if b then codes "node " ++ (node_text node ++ (codes "\n" ++ flat_map entry_text h)) else [])) (sym (woven-called node (feeder_acts feeding) (map told_entry calls) ∙ some))
