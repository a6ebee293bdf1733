-- A client that has worked to its end.
use Rattle.workers.proofs.Imports.{Option, sym, subst, Stop, HasCome, ◌≡◌, ℕ, Bool, List, Result, Ok, Err, OnOk, IsErrOf, Some, None, refl, result_err, TableId, MOST_CALLS, NoMemory, TooLong, next_of, IsSameCaller, ClientWorker, IsFit, GoesOn}
use Rattle.workers.proofs.client_worker.ClientWorker.work_counted.Goals as goal

-- why a worker stopped changes nothing of its calls
pub fit_stopped : (locks : List TableId) (w : ClientWorker) (stop : Option Stop) → IsFit locks w → IsFit locks (record w { stop = stop })
fit_stopped locks w stop f = record { fits = f.fits; who = f.who; left = f.left; steps = f.steps; nodes = f.nodes }

pub goes_stopped : (may : ℕ → Bool) (old w : ClientWorker) (stop : Option Stop) → GoesOn may old w → GoesOn may old (record w { stop = stop })
goes_stopped may old w stop goes script client is = let k = goes script client is in record { called = k.called; after = k.after }

-- it has come to its end as its calls ended
pub has_come : (may : ℕ → Bool) (locks : List TableId) (old w : ClientWorker) (r : Result Unit Stop) → IsSameCaller old.client w.client
    → OnOk r (IsFit locks w) → OnOk r (GoesOn may old w) → OnOk r (next_of w.core ≡ None)
    → ((turns : ℕ) → IsErrOf r (TooLong turns) → (turns ≡ MOST_CALLS) × (w.core.step ≡ MOST_CALLS) × IsFit locks w × GoesOn may old w)
    → HasCome may locks old (record w { stop = result_err r })
has_come may locks old w (Ok done) same fit goes ends long = record {
  same = same;
  fit = λ not. fit_stopped locks w None fit;
  goes_on = λ not. goes_stopped may old w None goes;
  ends = λ is. ends;
  too_long = λ turns is. absurd (cc is);
}
has_come may locks old w (Err NoMemory) same fit goes ends long = record {
  same = same;
  fit = λ not. absurd (not refl);
  goes_on = λ not. absurd (not refl);
  ends = λ is. absurd (cc is);
  too_long = λ turns is. absurd (cc is);
}
has_come may locks old w (Err (TooLong turns)) same fit goes ends long = let k = long turns refl in record {
  same = same;
  fit = λ not. fit_stopped locks w (Some (TooLong turns)) k.2;
  goes_on = λ not. goes_stopped may old w (Some (TooLong turns)) k.3;
  ends = λ is. absurd (cc is);
  too_long = λ said is. let same_turns : Some (TooLong turns) ≡ Some (TooLong said) = is in let l = long said (cc same_turns) in (l.0, l.1);
}

pub returns : goal.returns
returns g c =
    let e = c.run.ensures in
    let may = g.C.Clock.may_give c.args.clock.now in
    subst (λ (stop : Option Stop). HasCome may c.args.adapter.now c.args.self.now (record c.run.new.self { stop = stop })) (sym c.err-self.ensures.value)
    (has_come may c.args.adapter.now c.args.self.now c.run.new.self c.run.result e.same e.fit e.works e.ends e.too_long)
