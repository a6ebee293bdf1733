use Rattle.workers.proofs.Imports.{rules, arith, ◌+◌, ◌≤◌, ◌≡◌, [], ◌∷◌, ◌++◌, length, subst, sym, ap, ◌∙◌, refl, map-append, length-map, All-append, All-cons, All-nil, DEMUX_NODES, told_entry, response_of, LogEntry, act_of, ToldEntry, call_at, IsAfter, replies, IsGiven, IsLegalAt, log_of, told}
use Rattle.std.proofs.lemmas.List.{length-append}
use Rattle.workers.proofs.Logging.{called_more, past}
use Rattle.workers.proofs.Working.{brings_played, is_event, logs_one}
use Rattle.workers.proofs.client_worker.ClientWorker.make.Goals as goal

pub returns-clause-works : goal.returns-clause-works
returns-clause-works g c may script client given turn works =
    let w = c.args.self.now in let k = w.client in let d = c.call-place.new.self in
    let event = c.args.event in let node = event.node in
    let e = c.call-place.ensures in let place = c.call-place.result.0 in let answer = c.call-place.result.1 in
    let call = c.in_ok-call.call in
    let entry : ToldEntry = record { place = place; step = event.step; node = node; who = w.who; act = c.in_ok-act.act; reply = c.in_ok-kept.kept } in
    let response : response_of c.in_ok-kept.kept ≡ response_of answer.reply = c.in_ok-kept.ensures.same in
    let items : c.push_reserved.new.self.items ≡ w.log.items ++ entry ∷ [] = search rules in
    let logs = logs_one w.log.items entry c.push_reserved.new.self.items items in
    let told_act_is = c.in_ok-act.ensures ∙ c.act-asked.ensures in
    let after : IsAfter client script (replies (log_of w) ++ response_of c.in_ok-kept.kept ∷ []) c.take.new.self =
    subst (λ r. IsAfter client script (replies (log_of w) ++ response_of r ∷ []) c.take.new.self) c.told.ensures (c.take.ensures.after client script (replies (log_of w)) works.after) in
    let act_is : c.in_ok-act.act ≡ act_of (call_at w.core.plays event.want c.args.now) = told_act_is ∙ ap act_of c.in_ok-call.ensures.call in
    let one : replies (log_of w ++ told_entry entry ∷ []) ≡ replies (log_of w) ++ response_of c.in_ok-kept.kept ∷ [] =
    map-append (λ (x : LogEntry). x.response) (log_of w) (told_entry entry ∷ []) in
    record {
      called = rw logs (called_more k d (IsLegalAt node) node place (told k.who call answer) e.entry e.same.0 script client may (log_of w) (told_entry entry)
          works.called refl refl
          (c.requires.step ∙ (c.requires.fit.steps ∙ sym (length-map w.log.items told_entry)))
          c.requires.fit.who
          record { who = c.requires.fit.who; act = told_act_is; response = response }
          (is_event script client (replies (log_of w)) w.core event (told_entry entry) c.args.now works.after c.requires.next refl act_is)
          (λ stream. brings_played script stream client (replies (log_of w)) w.core event.want c.args.now works.after c.in_ok-call.ensures.call)
          c.in_ok-kept.ensures.some
          (subst (IsGiven may) (sym act_is) given)
          (λ waits last i at long. past k d (IsLegalAt node) node place (told k.who call answer) e.entry e.same.0 (last.place + 1)
          (turn waits last i e.entry.first at (long ∙ length-map w.log.items told_entry) e.entry.was)));
      after = rw (logs, one) after;
    }

pub returns-clause-fit : goal.returns-clause-fit
returns-clause-fit g c =
    let w = c.args.self.now in let f = c.requires.fit in let is = c.call-place.ensures in let step = c.take.ensures.step in
    let entry : ToldEntry = record { place = c.call-place.result.0; step = c.args.event.step; node = c.args.event.node; who = w.who; act = c.in_ok-act.act; reply = c.in_ok-kept.kept } in
    let items : c.push_reserved.new.self.items ≡ w.log.items ++ entry ∷ [] = search rules in
    let long : length c.push_reserved.new.self.items ≡ length w.log.items + 1 = ap length items ∙ length-append w.log.items (entry ∷ []) in
    let P = λ (e : ToldEntry). e.node ≤ DEMUX_NODES in
    record {
      fits = is.own;
      who = f.who ∙ sym is.same.0;
      left = let had = f.left in let now = is.left in omega arith;
      steps = let had = f.steps in omega arith;
      nodes = rw items (All-append P w.log.items (entry ∷ []) f.nodes (All-cons P entry [] c.requires.node (All-nil P)));
    }
