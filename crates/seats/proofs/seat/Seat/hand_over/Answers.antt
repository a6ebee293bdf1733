use Rattle.seats.proofs.Imports.{rules, ◌≡◌, List, [], ◌++◌, map, ap, sym, ◌∙◌, subst, append-nil, Vec, Global, Outcome, told_entry, ToldEntry, LogEntry, Made, log_of, told_made}
use Rattle.seats.proofs.Going.{same_fit}
use Rattle.seats.proofs.seat.Seat.hand_over.Goals as goal

pub returns-in-Ok-clause-took : goal.returns-in-Ok-clause-took
returns-in-Ok-clause-took g c =
    let s = c.settle.new.self in
    let log : map told_entry c.replace-calls.result.items ≡ log_of c.args.self.now =
    ap (λ (v : Vec ToldEntry Global). map told_entry v.items) c.replace-calls.ensures.value
    ∙ (sym (append-nil (map told_entry s.log.items))
    ∙ (ap (λ (ms : List Made). map told_entry s.log.items ++ map (told_made s.who) ms) (sym c.in_ok-settle.ensures.settled) ∙ c.settle.ensures.same)) in
    let told : c.deref-2.result.now ≡ c.args.self.now.outcomes.items = search rules in
    let took = g.J.Journal.took in
    g.met.J.Journal.took_both c.args.journal.now c.hear.new.self c.take.new.self [] _ [] _ c.hear.ensures
    (subst (λ (os : List Outcome). took (log_of c.args.self.now) os c.hear.new.self c.take.new.self) told
    (subst (λ (es : List LogEntry). took es c.deref-2.result.now c.hear.new.self c.take.new.self) log c.in-Ok.ensures.took))

pub returns-in-Err-clause-kept : goal.returns-in-Err-clause-kept
returns-in-Err-clause-kept g c =
    let s = c.settle.new.self in let back = c.in-Err.ensures.back in (
      g.met.J.Journal.took_both c.args.journal.now c.hear.new.self c.take.new.self [] [] [] [] c.hear.ensures back.1,
      ap (λ (v : Vec ToldEntry Global). map told_entry v.items ++ map (told_made s.who) s.made.items) (back.0 ∙ c.replace-calls.ensures.value) ∙ c.settle.ensures.same,
      search rules,
      c.settle.ensures.rest.4,
    )

pub returns-in-Err-clause-fit : goal.returns-in-Err-clause-fit
returns-in-Err-clause-fit g c locks fit =
    let s = c.settle.new.self in let e = c.settle.ensures in
    same_fit locks c.args.self.now (record s { log = c.in-Err.calls }) e.rest.0 e.rest.1 e.rest.4
    (ap (λ (v : Vec ToldEntry Global). map told_entry v.items ++ map (told_made s.who) s.made.items) (c.in-Err.ensures.back.0 ∙ c.replace-calls.ensures.value) ∙ e.same) (search rules) (search rules) fit
