-- Why a client has made too many calls.
use Rattle.workers.proofs.Imports.{rules, ◌≡◌, ◌≢◌, ◌≤◌, ◌+◌, ◌^◌, List, Vec, Global, length, ◌++◌, inl, ⊎_elim, [], None, Some, refl, ap, sym, subst, ◌∙◌, slice_index_or, slice_get-get_or, IsTooLong, cut, head_of, NoMemory, TooLong, Fed, HasFedAll, IsLeftByWorkers, StopsBy, draws_none, on_err, many_reads, of_stream, is_in, is_named, inr, ℕ, Bool, ◌∷◌, map, arith, All, option_map, SourceEnd, length-map, All-nil, All-cons, All-tail, slice_get-map, TableId, IsPacket, told_entry, LogEntry, DEMUX_NODES, ToldEntry, AreNumbered, clients_in, Scripted, MOST_CALLS, Pulling, Pulls, OfStream, are_packets, Pulls-done, Pulls-size, Caller, AreFreshCallers, AreAllCallers, HaveHistories, ended, one_value, AreOnNodes, ClientWorker, FeederWorker, log_of, AreFreshWorkers, HaveCome, IsRunning, ManyCallsAreTooLong, HasCalled, HasPassedAll}
use Rattle.workers.specs.Inside.Adding.{added_none}
use Rattle.workers.proofs.Beginning.{begun_fit, begun_few, begun_feeder, begun_passed, begun_works}
use Rattle.workers.proofs.Leaving.{all_worked, all_same, all_on_nodes, worked_feeder, no_stop, one_of_both, still_callers, come_at, many}
use Rattle.workers.proofs.FeederWork.{as_named}
use Rattle.workers.proofs.Budgeting.{many_calls}
use Rattle.workers.proofs.run.work.Goals as goal
use Rattle.std.specs.Prelude.{slice_get}
use Rattle.workers.proofs.Lists.{mapped}

-- ------ the moment at which the workers have come to their ends

module _ (script : Scripted) (locks : List TableId) (n : ℕ) (feeder : Caller) (clients : List Caller) (fresh : AreFreshCallers locks n feeder clients) (all : AreAllCallers locks (clients ++ feeder ∷ []))
    (may : ℕ → Bool) (old new : List ClientWorker) (b : AreFreshWorkers script clients old) (h : HaveCome may locks old new)
    {B : Type 0} (most : ℕ) (behind : SourceEnd → ℕ → Bool) (took : List Fed → B → B → Type 0) (x y : SourceEnd) (first : Pulling) (was now : B) (f : FeederWorker) (k : HasPassedAll (is_named script.lines) most may behind took x y first was now f)
    (found : (i : ℕ) (w : ClientWorker) → slice_get new i ≡ Some w → w.stop ≢ Some NoMemory) (is : n ≡ clients_in script) (numbered : AreNumbered script) (histories : HaveHistories (map (λ (w : ClientWorker). w.client) new ++ f.feeder ∷ [])) where
  now_pulls : (ahead : List ℕ) → Pulls ahead [] [] first → Pulls ahead k.draws.carries.more k.packets f.puller
  now_pulls ahead pulls = k.draws.carries.pulls ahead [] [] pulls

  count : length new ≡ clients_in script
  count = many script locks n feeder clients fresh all may old new b h ∙ is

  told_nodes : (es : List ToldEntry) → AreOnNodes es → All (λ (e : LogEntry). e.node ≤ DEMUX_NODES) (map told_entry es)
  told_nodes [] on = All-nil (λ (e : LogEntry). e.node ≤ DEMUX_NODES)
  told_nodes (e ∷ es) on = All-cons (λ (e : LogEntry). e.node ≤ DEMUX_NODES) (told_entry e) (map told_entry es) (on 0 e (omega arith)) (told_nodes es (All-tail (λ (e : ToldEntry). e.node ≤ DEMUX_NODES) e es on))

  running : (ahead : List ℕ) → Pulls ahead [] [] first → IsRunning script (is_named script.lines) most may k.packets (ended ∷ []) f.feeder k.feeding (map (λ (w : ClientWorker). w.client) new) (map log_of new)
  running ahead pulls = record {
    numbered = numbered;
    are_packets = subst (All IsPacket) (Pulls-done ahead k.draws.carries.more k.packets f.puller (now_pulls ahead pulls) k.done).packets (are_packets f.puller.cutting.size (ahead ++ k.draws.carries.more));
    end = inr refl;
    fed = k.fed;
    named = λ node is. is;
    clients = length-map new (λ (w : ClientWorker). w.client) ∙ count;
    logs = length-map new log_of ∙ count;
    called = λ c client log at_client at_log.
        let v = mapped (λ (w : ClientWorker). w.client) new c client at_client in
        let u = come_at may locks old new h c v.0 v.1 in
        let one : log_of v.0 ≡ log = one_value (map log_of new) c (log_of v.0) log (slice_get-map log_of new c ∙ ap (option_map log_of) v.1) at_log in
        let w = u.2.goes_on (found c v.0 v.1) script c (begun_works script locks n feeder clients fresh all old b c u.0 u.1 may) in
        subst (λ (z : Caller). HasCalled script c may z log) v.2 (subst (λ (z : List LogEntry). HasCalled script c may v.0.client z) one w.called);
    nodes = λ c log at_log.
        let v = mapped log_of new c log at_log in
        let u = come_at may locks old new h c v.0 v.1 in
        subst (All (λ (e : LogEntry). e.node ≤ DEMUX_NODES)) v.2 (told_nodes v.0.log.items (u.2.fit (found c v.0 v.1)).nodes);
    histories = histories;
  }

  -- a client has made so many calls
  pub calls_by : ManyCallsAreTooLong → (turns i : ℕ) (w : ClientWorker) → slice_get new i ≡ Some w → w.core.step ≡ MOST_CALLS → turns ≡ MOST_CALLS → OfStream x y first (IsTooLong script first.start turns)
  calls_by law turns i w at calls turns_is =
      let u = come_at may locks old new h i w at in
      let size : length (log_of w) ≡ MOST_CALLS = length-map w.log.items told_entry ∙ (sym (u.2.fit (found i w at)).steps ∙ calls) in (
        k.draws.carries.more,
        k.draws.carries.consumes,
        λ ahead pulls. subst (λ (t : ℕ). IsTooLong script first.start t ahead k.draws.carries.more) (size ∙ sym turns_is)
            (law script (is_named script.lines) most may k.packets (ended ∷ []) f.feeder k.feeding (map (λ (z : ClientWorker). z.client) new) (map log_of new) (running ahead pulls) first.start ahead k.draws.carries.more
            (Pulls-size ahead k.draws.carries.more k.packets f.puller (now_pulls ahead pulls)) i (log_of w) (slice_get-map log_of new i ∙ ap (option_map log_of) at) size),
      )

-- a list was told of these
abbrev took : List Fed → Vec Fed Global → Vec Fed Global → Type 0
took feeding a b = b.items ≡ a.items ++ feeding

pub workers_of-requires : goal.workers_of-requires
workers_of-requires g c = c.requires.fresh.long

pub returns-in_err-workers-clause-draws : goal.returns-in_err-workers-clause-draws
returns-in_err-workers-clause-draws g c = on_err c.from_residual.result _ ([], (c.args.puller, draws_none _ c.args.puller))

pub work_all-requires-clause-feeder : goal.work_all-requires-clause-feeder
work_all-requires-clause-feeder g c κs within =
    let r = c.requires in
    record {
      some = r.some;
      few = r.few;
      fit = begun_feeder c.args.script.now c.args.adapter.now _ c.args.feeder c.args.clients.items r.fresh r.all
          (record { feeder = c.args.feeder; puller = c.args.puller; count = 0; stop = None }) refl refl r.given;
    }

pub work_all-requires-clause-begun : goal.work_all-requires-clause-begun
work_all-requires-clause-begun g c κs within =
    let r = c.requires in
    begun_passed c.args.script.now c.args.adapter.now _ c.args.feeder c.args.clients.items r.fresh r.all
    (record { feeder = c.args.feeder; puller = c.args.puller; count = 0; stop = None }) refl refl r.given
    (is_in c.named.result) c.args.batch (g.C.Clock.may_give c.args.clock.now) (g.C.Clock.may_give_behind c.args.clock.now) took _ c.new-feeding.result (added_none c.new-feeding.result.items)

pub work_all-requires-clause-clients : goal.work_all-requires-clause-clients
work_all-requires-clause-clients g c κs within k d low =
    let r = c.requires in let ws = c.in_ok-workers.workers.items in
    let b = c.in_ok-workers.ensures.fresh in
    let at = slice_get-get_or ws k d low in
    record {
      fit = begun_fit c.args.script.now c.args.adapter.now _ c.args.feeder c.args.clients.items r.fresh r.all ws b k (slice_index_or ws k d) at;
      few = begun_few c.args.script.now c.args.adapter.now _ c.args.feeder c.args.clients.items r.fresh r.all ws b k (slice_index_or ws k d) at;
    }

pub returns-in_ok-left_by-in-None-clause-left : goal.returns-in_ok-left_by-in-None-clause-left
returns-in_ok-left_by-in-None-clause-left g c =
    let r = c.requires in let ws = c.in_ok-workers.workers.items in let vs = c.work_all.new.clients.items in
    let f = c.work_all.new.feeder in let fed = c.work_all.ensures.feeder in
    let may = g.C.Clock.may_give c.args.clock.now in
    let behind = g.C.Clock.may_give_behind c.args.clock.now in
    let b = c.in_ok-workers.ensures.fresh in
    let stop : c.stop_of.result ≡ None = search rules in
    let s : StopsBy f.stop vs c.stop_of.result = rw (← c.deref.ensures.value) c.stop_of.ensures in
    let none = s.none stop in
    let left : IsLeftByWorkers f c.work_all.new.batches.items vs c.in_ok-left_by-in-None.field-0 = c.in_ok-left_by-in-None.ensures in
    let all = as_named (is_in c.named.result) (is_named c.args.script.now.lines) c.args.batch may behind took _ _ c.args.puller c.new-feeding.result c.work_all.new.batches f (λ node low. c.named.ensures node low) fed.nodes (fed.all (no_stop f.stop none.0)) in
    let more = all.draws.carries.more in (
      more,
      all.draws.carries.consumes,
      λ ahead pulls. record {
        worked = all_worked c.args.script.now c.args.adapter.now _ c.args.feeder c.args.clients.items r.fresh r.all may ws vs b c.work_all.ensures.clients f c.work_all.new.batches.items c.in_ok-left_by-in-None.field-0 left none.1
            c.args.batch _ refl (subst (λ (fs : List Fed). HasFedAll (is_named c.args.script.now.lines) c.args.batch may (cut c.args.puller.cutting.size (ahead ++ more)).packets f.feeder fs) (sym (all.told ∙ ap (λ (l : List Fed). l ++ all.feeding) c.new-feeding.ensures.items))
            (worked_feeder (is_named c.args.script.now.lines) c.args.batch may behind took _ _ c.args.puller c.new-feeding.result c.work_all.new.batches f all ahead pulls));
        head = left.head ahead more all.packets (all.draws.carries.pulls ahead [] [] pulls) ∙ ap (λ size. head_of size (ahead ++ more) c.in_ok-left_by-in-None.field-0.head.read_fault) all.draws.carries.size;
      },
    )

pub returns-in_ok-left_by-in-None-clause-all : goal.returns-in_ok-left_by-in-None-clause-all
returns-in_ok-left_by-in-None-clause-all g c =
    let r = c.requires in let ws = c.in_ok-workers.workers.items in let vs = c.work_all.new.clients.items in let f = c.work_all.new.feeder in
    let may = g.C.Clock.may_give c.args.clock.now in
    let b = c.in_ok-workers.ensures.fresh in
    let stop : c.stop_of.result ≡ None = search rules in
    let s : StopsBy f.stop vs c.stop_of.result = rw (← c.deref.ensures.value) c.stop_of.ensures in
    all_same c.args.script.now c.args.adapter.now _ c.args.feeder c.args.clients.items r.fresh r.all may ws vs b c.work_all.ensures.clients f c.work_all.new.batches.items c.in_ok-left_by-in-None.field-0 c.in_ok-left_by-in-None.ensures (s.none stop).1 c.work_all.ensures.feeder.same

pub returns-in_ok-left_by-in-None-clause-nodes : goal.returns-in_ok-left_by-in-None-clause-nodes
returns-in_ok-left_by-in-None-clause-nodes g c =
    let r = c.requires in let ws = c.in_ok-workers.workers.items in let vs = c.work_all.new.clients.items in let f = c.work_all.new.feeder in
    let may = g.C.Clock.may_give c.args.clock.now in
    let b = c.in_ok-workers.ensures.fresh in
    let stop : c.stop_of.result ≡ None = search rules in
    let s : StopsBy f.stop vs c.stop_of.result = rw (← c.deref.ensures.value) c.stop_of.ensures in
    all_on_nodes c.args.script.now c.args.adapter.now _ c.args.feeder c.args.clients.items r.fresh r.all may ws vs b c.work_all.ensures.clients f c.work_all.new.batches.items c.in_ok-left_by-in-None.field-0 c.in_ok-left_by-in-None.ensures (s.none stop).1

pub gather-requires : goal.gather-requires
gather-requires g c =
    let r = c.requires in
    still_callers c.args.script.now c.args.adapter.now _ c.args.feeder c.args.clients.items r.fresh r.all (g.C.Clock.may_give c.args.clock.now) c.in_ok-workers.workers.items c.work_all.new.clients.items c.in_ok-workers.ensures.fresh c.work_all.ensures.clients
    c.work_all.new.feeder.feeder c.work_all.ensures.feeder.same

pub returns-in_ok-gather-in-Some-clause-too_long : goal.returns-in_ok-gather-in-Some-clause-too_long
returns-in_ok-gather-in-Some-clause-too_long g c turns is =
    let r = c.requires in let ws = c.in_ok-workers.workers.items in let vs = c.work_all.new.clients.items in
    let f = c.work_all.new.feeder in let fed = c.work_all.ensures.feeder in
    let may = g.C.Clock.may_give c.args.clock.now in
    let behind = g.C.Clock.may_give_behind c.args.clock.now in
    let stop : c.stop_of.result ≡ Some (TooLong turns) = c.in-Some.is ∙ ap Some cc in
    let s : StopsBy f.stop vs c.stop_of.result = rw (← c.deref.ensures.value) c.stop_of.ensures in
    let found : c.stop_of.result ≢ Some NoMemory = λ e. absurd (cc (stop, e)) in
    let memory = s.memory found in
    let all = as_named (is_in c.named.result) (is_named c.args.script.now.lines) c.args.batch may behind took _ _ c.args.puller c.new-feeding.result c.work_all.new.batches f (λ node low. c.named.ensures node low) fed.nodes (fed.all memory.0) in
    ⊎_elim
    (λ first. let k = fed.too_long turns first in of_stream (g.S.Source.end c.args.source.now) (g.S.Source.end c.work_all.new.source) c.args.puller _ (IsTooLong c.args.script.now c.args.puller.start turns) (λ ahead taken (q : 2 ^ 32 ≤ c.args.puller.start + length taken). inl (k.0, q))
    (many_reads _ _ c.args.puller f.puller fed.draws.0 fed.draws.1 k.1))
    (λ many. calls_by c.args.script.now c.args.adapter.now _ c.args.feeder c.args.clients.items r.fresh r.all may ws vs c.in_ok-workers.ensures.fresh c.work_all.ensures.clients
    c.args.batch behind took _ _ c.args.puller c.new-feeding.result c.work_all.new.batches f all memory.1 refl c.in_ok-workers.ensures.numbered c.in_ok-gather-in-Some.ensures many_calls turns many.1.0 many.1.1 many.1.2 many.1.3 many.0)
    (one_of_both may c.args.adapter.now ws vs c.work_all.ensures.clients f.stop c.stop_of.result turns s stop)
