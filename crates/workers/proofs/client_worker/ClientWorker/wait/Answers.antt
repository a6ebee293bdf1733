use Rattle.workers.proofs.Imports.{rules, ◌≡◌, ◌+◌, ◌-◌, ℕ, Vec, Global, map, length, Some, ap, subst, ◌∙◌, arith, told_entry}
use Rattle.std.specs.Prelude.{slice_get}
use Rattle.dmx_calls.specs.declared.log.Entry.{Entry}
use Rattle.workers.proofs.Working.{last_of}
use Rattle.workers.proofs.client_worker.ClientWorker.wait.Goals as goal

pub returns-in-Some-clause-may : goal.returns-in-Some-clause-may
returns-in-Some-clause-may g c may script client works waits last i p at long is =
    let same = c.look_past.ensures.looked.log in
    let es = c.args.self.now.log.items in
    let now = subst (λ (l : Vec Entry Global). slice_get (map told_entry l.items) i ≡ Some last) same at in
    let size : i + 1 ≡ length es = long ∙ ap (λ (l : Vec Entry Global). length l.items) same in
    let here : slice_get es (length es - 1) ≡ Some c.in-Some.last.now = search rules in
    let place : length es - 1 ≡ i = omega (arith, size) in
    let e = last_of es i last c.in-Some.last.now now size (subst (λ (n : ℕ). slice_get es n ≡ Some c.in-Some.last.now) place here) in
    let past = c.look_past.ensures.past p is in
    rw e past
