-- Histories that packets fill: how they grow, what a legal one allows in the midst of it, and that the same packets fill the same.
use Rattle.dmx_calls.proofs.Imports.{◌≡◌, ◌∙◌, ℕ, List, [], ◌∷◌, ◌++◌, drop, map, take, reverse, refl, sym, ap, append_assoc, reverse-append, Input, Act, Entry, History, Pass, Rules, IsLegalFor, May, LogEntry, filled_act, map-append, Sources, filled, filled_entry}
use Rattle.dmx_calls.specs.declared.call.Call.TheVariants.{Pass as PassAct}

-- ------ one behind another

pub filled_append : (packets : Sources) (xs ys : List LogEntry) → filled packets (xs ++ ys) ≡ filled packets ys ++ filled packets xs
filled_append packets xs ys = rw (map-append (filled_entry packets) xs ys, reverse-append (map (filled_entry packets) xs) (map (filled_entry packets) ys)) refl

pub legal_behind : (node : Rules) (later h : History) → IsLegalFor node (later ++ h) → IsLegalFor node h
legal_behind node [] h legal = legal
legal_behind node (e ∷ later) h legal = legal_behind node later h legal.0

pub may_at : (node : Rules) (packets : Sources) (xs : List LogEntry) (e : LogEntry) (ys : List LogEntry) → IsLegalFor node (filled packets (xs ++ e ∷ ys)) → May node (filled packets xs) e.who (filled_act (packets e.who) e.act) e.response
may_at node packets xs e ys legal =
    let joined : xs ++ e ∷ ys ≡ (xs ++ e ∷ []) ++ ys = sym (append_assoc xs (e ∷ []) ys) in
    let parts : filled packets (xs ++ e ∷ ys) ≡ filled packets ys ++ (filled_entry packets e ∷ filled packets xs) =
    ap (filled packets) joined ∙ (filled_append packets (xs ++ e ∷ []) ys ∙ ap (λ (h : History). filled packets ys ++ h) (filled_append packets xs (e ∷ []))) in
    let here : IsLegalFor node (filled_entry packets e ∷ filled packets xs) = legal_behind node (filled packets ys) (filled_entry packets e ∷ filled packets xs) (rw parts at legal) in
    here.1

-- ------ the same packets fill the same history

same_act : (f g : Input → List (List ℕ)) → ((input : Input) → f input ≡ g input) → (a : Act) → filled_act f a ≡ filled_act g a
same_act f g same (PassAct input batch now) = ap (λ (ps : List (List ℕ)). Pass input batch.first (take batch.count (drop batch.first ps)) now) (same input)
same_act f g same _ = refl

same_entries : (f g : Sources) → ((who : ℕ) (input : Input) → f who input ≡ g who input) → (es : List LogEntry) → map (filled_entry f) es ≡ map (filled_entry g) es
same_entries f g same [] = refl
same_entries f g same (e ∷ es) =
    let one : filled_entry f e ≡ filled_entry g e = ap (λ i. record { who = e.who; invocation = i; response = e.response }) (same_act (f e.who) (g e.who) (same e.who) e.act) in
    ap (λ (x : Entry). x ∷ map (filled_entry f) es) one ∙ ap (λ (l : List Entry). filled_entry g e ∷ l) (same_entries f g same es)

pub same_filled : (f g : Sources) → ((who : ℕ) (input : Input) → f who input ≡ g who input) → (es : List LogEntry) → filled f es ≡ filled g es
same_filled f g same es = ap (λ (l : List Entry). reverse l) (same_entries f g same es)
