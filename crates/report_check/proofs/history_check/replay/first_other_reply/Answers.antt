-- Histories as they grow, and what a legal one allows in the midst of it.
use Rattle.report_check.proofs.Imports.{rules, ◌∷◌, ◌++◌, [], List, map, take, sym, subst, ◌≢◌, All-push, response_of, told_entry, Entry, entry_of, Invocation, May, LogEntry, filled, NoMemory, IsCallable, brought_from, ◌≡◌, ◌<◌, ◌+◌, ℕ, length, drop, get_or, refl, ap, ◌∙◌, add-one, take-append-drop, drop-cons, map-append, length-map, get_or-map, take_more, All-get_or, ToldEntry, IsLegalFor, Sources, filled_act, filled_entry, Rules, may_at}
use Rattle.std.proofs.Common.{All}
use Rattle.report_check.specs.Playing.{played}
use Rattle.report_check.proofs.history_check.replay.first_other_reply.Goals as goal

-- with one entry more behind the others
pub played_more : (packets : Sources) (xs : List LogEntry) (e : LogEntry) → played packets (xs ++ e ∷ []) ≡ played packets xs ++ filled_entry packets e ∷ []
played_more packets xs e = map-append (filled_entry packets) xs (e ∷ [])

-- ------ the entry at an index

-- an entry of a list, with the entries before it and behind it
pub record IsAt (es : List ToldEntry) (i : ℕ) (e : ToldEntry) : Type 0 where
  pub below : i < length es
  pub is : e ≡ get_or es i e

pub at_told : (P : LogEntry → Type 0) (es : List ToldEntry) (i : ℕ) (e : ToldEntry) → IsAt es i e → All P (map told_entry es) → P (told_entry e)
at_told P es i e at all =
    let long : i < length (map told_entry es) = rw (length-map es told_entry) at.below in
    let there : P (get_or (map told_entry es) i (told_entry e)) = All-get_or P (map told_entry es) i (told_entry e) long all in
    let same : get_or (map told_entry es) i (told_entry e) ≡ told_entry e = get_or-map told_entry es i e (told_entry e) at.below ∙ ap told_entry (sym at.is) in
    subst P same there

pub taken_next : (es : List ToldEntry) (i : ℕ) (e : ToldEntry) → IsAt es i e → map told_entry (take (i + 1) es) ≡ map told_entry (take i es) ++ told_entry e ∷ []
taken_next es i e at =
    let more : take (i + 1) es ≡ take i es ++ e ∷ [] = take_more es i e at.below ∙ ap (λ (x : ToldEntry). take i es ++ x ∷ []) (sym at.is) in
    rw (more, map-append told_entry (take i es) (e ∷ [])) refl

pub parted : (es : List ToldEntry) (i : ℕ) (e : ToldEntry) → IsAt es i e → map told_entry es ≡ map told_entry (take i es) ++ told_entry e ∷ map told_entry (drop (i + 1) es)
parted es i e at =
    let front : drop i es ≡ get_or es i e ∷ drop (i + 1) es = rw (add-one i) (drop-cons es i e at.below) in
    let behind : drop i es ≡ e ∷ drop (i + 1) es = front ∙ ap (λ (x : ToldEntry). x ∷ drop (i + 1) es) (sym at.is) in
    let whole : es ≡ take i es ++ e ∷ drop (i + 1) es = sym (take-append-drop i es) ∙ ap (λ (xs : List ToldEntry). take i es ++ xs) behind in
    ap (map told_entry) whole ∙ map-append told_entry (take i es) (e ∷ drop (i + 1) es)

-- what a legal history allows at an index
pub may_there : (node : Rules) (packets : Sources) (es : List ToldEntry) (i : ℕ) (e : ToldEntry) → IsAt es i e → IsLegalFor node (filled packets (map told_entry es))
    → May node (filled packets (map told_entry (take i es))) e.who (filled_act (packets e.who) e.act) (response_of e.reply)
may_there node packets es i e at legal =
    let here : IsLegalFor node (filled packets (map told_entry (take i es) ++ told_entry e ∷ map told_entry (drop (i + 1) es))) = subst (λ (xs : List LogEntry). IsLegalFor node (filled packets xs)) (parted es i e at) legal in
    may_at node packets (map told_entry (take i es)) (told_entry e) (map told_entry (drop (i + 1) es)) here

pub call_told-requires-clause-callable : goal.call_told-requires-clause-callable
call_told-requires-clause-callable g c =
    at_told (λ e. IsCallable (brought_from c.args.stream.now (map (λ p. p.items) c.args.played.now) e.who) e.act) c.args.entries.now c.entries.entry-index c.entry-item.result
    (record { below = c.entries-test.true; is = c.entry-item.is }) c.requires.callable

pub returns-in-Some-clause-other : goal.returns-in-Some-clause-other
returns-in-Some-clause-other g c node plays legal answered =
    let at : IsAt c.args.entries.now c.entries.entry-index c.entry-item.result = record { below = c.entries-test.true; is = c.entry-item.is } in
    let may = may_there node (brought_from c.args.stream.now (map (λ p. p.items) c.args.played.now)) c.args.entries.now c.entries.entry-index c.entry-item.result at legal in
    let some = at_told (λ e. e.response ≢ NoMemory) c.args.entries.now c.entries.entry-index c.entry-item.result at answered in
    (rw c.in-Some.is at c.in_ok-reply.ensures.differs) some node plays (played (brought_from c.args.stream.now (map (λ p. p.items) c.args.played.now)) (map told_entry (take c.entries.entry-index c.args.entries.now))) c.entries.invariant.stands
    (subst (λ (i : Invocation). May node (filled (brought_from c.args.stream.now (map (λ p. p.items) c.args.played.now)) (map told_entry (take c.entries.entry-index c.args.entries.now))) c.entry-item.result.who i (response_of c.entry-item.result.reply)) (sym c.in_ok-call.ensures) may)

pub entries-preserved : goal.entries-preserved
entries-preserved g c =
    let at : IsAt c.args.entries.now c.entries.entry-index c.entry-item.result = record { below = c.entries-test.true; is = c.entry-item.is } in
    let next = taken_next c.args.entries.now c.entries.entry-index c.entry-item.result at in
    let more = rw c.in_default.is at c.in_ok-reply.ensures.agrees in
    let made = more.1 (played (brought_from c.args.stream.now (map (λ p. p.items) c.args.played.now)) (map told_entry (take c.entries.entry-index c.args.entries.now))) c.entries.invariant.stands in
    let stands = subst (λ (i : Invocation). g.M.Machine.stands_for c.other_reply.new.core (played (brought_from c.args.stream.now (map (λ p. p.items) c.args.played.now)) (map told_entry (take c.entries.entry-index c.args.entries.now)) ++ entry_of c.entry-item.result.who i (response_of c.entry-item.result.reply) ∷ [])) c.in_ok-call.ensures made in
    let all = All-push (λ e. e.response ≢ NoMemory) (map told_entry (take c.entries.entry-index c.args.entries.now)) (told_entry c.entry-item.result) c.entries.invariant.answered more.0 in
    record {
      stands = subst (λ (xs : List LogEntry). g.M.Machine.stands_for c.other_reply.new.core (played (brought_from c.args.stream.now (map (λ p. p.items) c.args.played.now)) xs)) (sym next)
          (subst (λ (h : List Entry). g.M.Machine.stands_for c.other_reply.new.core h) (sym (played_more (brought_from c.args.stream.now (map (λ p. p.items) c.args.played.now)) (map told_entry (take c.entries.entry-index c.args.entries.now)) (told_entry c.entry-item.result))) stands);
      answered = subst (λ (xs : List LogEntry). All (λ e. e.response ≢ NoMemory) xs) (sym next) all;
      calls = search rules;
    }
