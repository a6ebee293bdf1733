-- From the calls of a seat to what its passes know of them.
use Rattle.serve_top.proofs.Imports.{◌≡◌, ℕ, ◌+◌, List, [], ◌∷◌, ◌++◌, length, refl, sym, ◌∙◌, subst, arith, length-append, append-nil, append_assoc, All, All-nil, All-cons, Input, Invocation, Open, Pass, IsFrom, LogEntry, act_of, Caller, IsSameCaller, IsLegalAt, same_trans, BringFrom, IsLogged, brings_more, logged_more, same_self, MakesCalls, PassesNone}

-- it is the same caller
pub same_calls : (n : ℕ) (c : Caller) (es : List LogEntry) (d : Caller) → MakesCalls n c es d → IsSameCaller c d
same_calls n c [] d m = subst (IsSameCaller c) (sym m) (same_self c)
same_calls n c (e ∷ es) d m = same_trans c m.0 d m.2.same (same_calls (n + 1) m.0 es d m.3)

-- where its log was that of its calls before, it is so behind these calls
pub logged_calls : (n : ℕ) (c : Caller) (log es : List LogEntry) (d : Caller) → n ≡ length log → IsLogged c log → MakesCalls n c es d → IsLogged d (log ++ es)
logged_calls n c log [] d is l m = subst (λ (k : Caller). IsLogged k (log ++ [])) (sym m) (subst (IsLogged c) (sym (append-nil log)) l)
logged_calls n c log (e ∷ es) d is l m =
    let k = m.2 in
    let here : IsLogged m.0 (log ++ e ∷ []) = logged_more c m.0 (IsLegalAt e.node) e.node e.place k.entry k.made k.same.0 log e l refl refl (m.1 ∙ is) k.who.0 (record { who = k.who.1; act = k.act; response = k.response }) in
    let long : n + 1 ≡ length (log ++ e ∷ []) = omega (arith, is, length-append log (e ∷ [])) in
    subst (IsLogged d) (append_assoc log (e ∷ []) es) (logged_calls (n + 1) m.0 (log ++ e ∷ []) es d long here m.3)

-- a call by which no packets pass brings some of any
pub brings_none : (packets : Input → List (List ℕ)) (i : Invocation) → PassesNone (act_of i) → IsFrom packets i
brings_none packets (Pass input first brought now) none = absurd none
brings_none packets Open none = tt
brings_none packets _ none = tt

-- they bring no packets
pub brings_calls : (packets : Input → List (List ℕ)) (n : ℕ) (c : Caller) (log es : List LogEntry) (d : Caller) → BringFrom packets c log → MakesCalls n c es d → BringFrom packets d (log ++ es)
brings_calls packets n c log [] d l m = subst (λ (k : Caller). BringFrom packets k (log ++ [])) (sym m) (subst (BringFrom packets c) (sym (append-nil log)) l)
brings_calls packets n c log (e ∷ es) d l m =
    let k = m.2 in
    let here : BringFrom packets m.0 (log ++ e ∷ []) = brings_more c m.0 (IsLegalAt e.node) e.node e.place k.entry k.made k.same.0 packets log e l refl refl (brings_none packets k.entry.invocation (subst PassesNone k.act k.none)) in
    subst (BringFrom packets d) (append_assoc log (e ∷ []) es) (brings_calls packets (n + 1) m.0 (log ++ e ∷ []) es d here m.3)

-- by none of them do packets pass
pub passes_none : (n : ℕ) (c : Caller) (es : List LogEntry) (d : Caller) → MakesCalls n c es d → All (λ (e : LogEntry). PassesNone e.act) es
passes_none n c [] d m = All-nil (λ (e : LogEntry). PassesNone e.act)
passes_none n c (e ∷ es) d m = All-cons (λ (e : LogEntry). PassesNone e.act) e es m.2.none (passes_none (n + 1) m.0 es d m.3)
