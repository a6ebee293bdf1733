use Rattle.serve_top.proofs.Imports.{rules, ◌≡◌, List, ℕ, [], ◌∷◌, ◌++◌, ◌+◌, map, take, ap, sym, ◌∙◌, subst, append-nil, map-append, flat_map-append, flat_map, take_more, take_all, ToldEntry, HasWritten, written_none, told_entry, call_line, written_then}
use Rattle.serve_top.proofs.written.WrittenLinesJournal.take.Goals as goal

-- these calls as they are written
abbrev lines_of : List ToldEntry → List ℕ
lines_of calls = flat_map call_line (map told_entry calls)

-- one more
lines_more : (calls : List ToldEntry) (e : ToldEntry) → lines_of (calls ++ e ∷ []) ≡ lines_of calls ++ call_line (told_entry e)
lines_more calls e =
    ap (flat_map call_line) (map-append told_entry calls (e ∷ []))
    ∙ (flat_map-append call_line (map told_entry calls) (told_entry e ∷ []) ∙ ap (λ (l : List ℕ). lines_of calls ++ l) (append-nil (call_line (told_entry e))))

pub calls-init : goal.calls-init
calls-init g c = written_none g.K.Sink.end c.args.self.now

pub calls-preserved : goal.calls-preserved
calls-preserved g c =
    let i = c.calls.call-index in let all = c.deref-call-items.result.now in let e = c.call-item.result in
    let now : take (i + 1) all ≡ take i all ++ e ∷ [] = take_more all i e c.calls-test.true ∙ ap (λ (x : ToldEntry). take i all ++ x ∷ []) (sym c.call-item.is) in
    subst (λ (text : List ℕ). HasWritten g.K.Sink.end text c.args.self.now c.put.new.self) (sym (lines_more (take i all) e) ∙ ap lines_of (sym now))
    (written_then g.K.Sink.end c.args.self.now c.calls.self c.put.new.self (lines_of (take i all)) (call_line (told_entry e)) c.calls.invariant c.put.ensures)

pub returns : goal.returns
returns g c =
    let all = c.deref-call-items.result.now in let same : all ≡ c.args.calls.items = search rules in
    record {
      took = subst (λ (l : List ToldEntry). HasWritten g.K.Sink.end (lines_of l) c.args.self.now c.calls.self) (take_all c.calls.call-index all c.calls-test.false ∙ same) c.calls.invariant;
      back = tt;
    }
