use Rattle.seats.proofs.Imports.{rules, ◌≡◌, ◌+◌, [], ◌∷◌, ◌++◌, List, map, take, refl, ap, sym, ◌∙◌, append-nil, append_assoc, map-append, take_more, take_all, told_entry, LogEntry, ToldEntry, Made, told_made}
use Rattle.seats.proofs.made.keep_all.Goals as goal

pub calls-init : goal.calls-init
calls-init c = ([], sym (append-nil c.args.log.now.items), refl)

pub calls-preserved : goal.calls-preserved
calls-preserved c =
    let v = c.calls.invariant in let i = c.calls.made-index in let all = c.args.calls.now in let m = c.made-item.result in let e = c.in_ok-entry.entry in
    let now : take (i + 1) all ≡ take i all ++ m ∷ [] = take_more all i m c.calls-test.true ∙ ap (λ (x : Made). take i all ++ x ∷ []) (sym c.made-item.is) in (
      v.0 ++ e ∷ [],
      c.in_ok-push.ensures.items ∙ (ap (λ (l : List ToldEntry). l ++ e ∷ []) v.1 ∙ append_assoc c.args.log.now.items v.0 (e ∷ [])),
      map-append told_entry v.0 (e ∷ []) ∙ (ap (λ (l : List LogEntry). l ++ told_entry e ∷ []) v.2
          ∙ (ap (λ (x : LogEntry). map (told_made c.args.who) (take i all) ++ x ∷ []) c.in_ok-entry.ensures
          ∙ (sym (map-append (told_made c.args.who) (take i all) (m ∷ [])) ∙ ap (map (told_made c.args.who)) (sym now)))),
    )

pub returns-in_err-entry : goal.returns-in_err-entry
returns-in_err-entry c = (c.calls.invariant.0, c.calls.invariant.1, search rules)

pub returns-in_err-push : goal.returns-in_err-push
returns-in_err-push c = (c.calls.invariant.0, search rules, search rules)

pub returns : goal.returns
returns c = (c.calls.invariant.0, c.calls.invariant.1, c.calls.invariant.2 ∙ ap (map (told_made c.args.who)) (take_all c.calls.made-index c.args.calls.now c.calls-test.false))
