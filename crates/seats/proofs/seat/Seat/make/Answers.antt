use Rattle.seats.proofs.Imports.{rules, ◌≡◌, ◌≤◌, ◌++◌, ◌∷◌, [], ◌+◌, length, map, refl, sym, ◌∙◌, subst, arith, false, slice_index_or, All-push, slice_get-get_or, invocation_of, response_of, told_entry, LogEntry, DEMUX_NODES, Made, PassesNone, told_made, log_of, AreOnNodes}
use Rattle.dmx_calls.specs.Entries.{told}
use Rattle.seats.proofs.Going.{log_one, made_long}
use Rattle.seats.proofs.Holding.{left_call, closed_call, knows_made}
use Rattle.seats.proofs.Marking.{marked_one, marks_no_more, close_unmarks}
use Rattle.seats.proofs.seat.Seat.make.Goals as goal

pub returns-clause-fit : goal.returns-clause-fit
returns-clause-fit g c =
    let s = c.args.self.now in let e = c.call-place.ensures in let f = c.requires.fit in
    let m : Made = record { node = c.args.node; place = c.call-place.result.0; step = c.count-step.result; act = c.act-act.result; reply = c.call-place.result.1.reply } in
    let items : c.push_reserved.new.self.items ≡ s.made.items ++ m ∷ [] = search rules in
    let left = f.left in let less = e.left in let size : length c.push_reserved.new.self.items ≡ length s.made.items + 1 = search rules in
    let log : map told_entry s.log.items ++ map (told_made s.who) c.push_reserved.new.self.items ≡ log_of s ++ told_made s.who m ∷ [] = log_one s.who s.log.items s.made.items c.push_reserved.new.self.items m items in
    record {
      fits = e.own;
      who = f.who ∙ sym e.same.0;
      left = omega (arith, left, less, size);
      done = let done = f.done in omega (arith, done, size);
      nodes = subst AreOnNodes (sym log) (All-push (λ (x : LogEntry). x.node ≤ DEMUX_NODES) (log_of s) (told_made s.who m) f.nodes c.requires.node);
      knows = knows_made s.client c.call-place.new.self c.args.node c.call-place.result.0 (told s.client.who c.args.call c.call-place.result.1) e.entry e.same.0 refl s.held _ (slice_index_or s.held c.args.node false) f.knows (slice_get-get_or s.held c.args.node false (search rules)) (search rules);
    }

pub returns-clause-goes : goal.returns-clause-goes
returns-clause-goes g c =
    let s = c.args.self.now in let e = c.call-place.ensures in let f = c.requires.fit in
    let m : Made = record { node = c.args.node; place = c.call-place.result.0; step = c.count-step.result; act = c.act-act.result; reply = c.call-place.result.1.reply } in
    let items : c.push_reserved.new.self.items ≡ s.made.items ++ m ∷ [] = search rules in
    let here : c.count-step.result ≡ s.handed.calls + (length s.log.items + length s.made.items) = search rules in
    record {
      calls = told_made s.who m ∷ [];
      handed = refl;
      log = log_one s.who s.log.items s.made.items c.push_reserved.new.self.items m items;
      made = (
        c.call-place.new.self,
        here ∙ sym (made_long s),
        record {
          entry = told s.client.who c.args.call c.call-place.result.1;
          made = e.entry;
          who = (f.who, f.who);
          act = c.act-act.ensures;
          response = refl;
          same = e.same;
          left = e.left;
          none = subst PassesNone (sym c.act-act.ensures) c.requires.bare;
        },
        refl,
      );
      marks = λ gone marked. marked_one gone (log_of s) _ (told_made s.who m) s.held _ marked c.requires.node (log_one s.who s.log.items s.made.items c.push_reserved.new.self.items m items) (search rules);
    }

pub returns-clause-left : goal.returns-clause-left
returns-clause-left g c other = left_call c.args.self.now.client c.call-place.new.self c.args.node c.call-place.result.0 _ c.call-place.ensures.entry c.call-place.ensures.same.0 c.requires.fit.knows.own other

pub returns-clause-closed : goal.returns-clause-closed
returns-clause-closed g c closing = closed_call c.args.self.now.client c.call-place.new.self c.args.node c.call-place.result.0 _ c.call-place.ensures.entry c.call-place.ensures.same.0 c.requires.fit.knows.own refl closing

pub returns-clause-did : goal.returns-clause-did
returns-clause-did g c =
    let s = c.args.self.now in
    let m : Made = record { node = c.args.node; place = c.call-place.result.0; step = c.count-step.result; act = c.act-act.result; reply = c.call-place.result.1.reply } in
    let items : c.push_reserved.new.self.items ≡ s.made.items ++ m ∷ [] = search rules in
    record { own = m; has = record { made = items; log = refl; who = refl }; node = refl; act = c.act-act.ensures; asks = c.told_dvr-next.ensures.acts }

pub returns-clause-fewer : goal.returns-clause-fewer
returns-clause-fewer g c other =
    let s = c.args.self.now in
    marks_no_more (invocation_of c.args.call) (response_of c.call-place.result.1.reply) c.args.node s.held _ (slice_index_or s.held c.args.node false) (slice_get-get_or s.held c.args.node false (search rules)) (search rules) other

pub returns-clause-free : goal.returns-clause-free
returns-clause-free g c closing =
    let s = c.args.self.now in
    close_unmarks (invocation_of c.args.call) (response_of c.call-place.result.1.reply) c.args.node s.held _ (slice_index_or s.held c.args.node false) (slice_get-get_or s.held c.args.node false (search rules)) (search rules) closing
