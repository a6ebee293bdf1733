use Rattle.workers.proofs.Imports.{List, map, sym, subst, All-map, IfOk-weaker, map-map, ToldEntry, told_entry, histories_of, sources, IsWholeRun, AreOnNodes, AreWorked, HaveCalled, TellWhatWasCalled}
use Rattle.workers.proofs.Ended.{have_called, whole_run}
use Rattle.workers.proofs.Merged.{books_of, full, merged_woven, nodes_low, tell}
use Rattle.workers.proofs.ending.histories_of_run.Goals as goal

pub returns-clause-tells : goal.returns-clause-tells
returns-clause-tells c = IfOk-weaker c.histories.result _ _ (λ hs m among packets called.
    let logs = map (λ log. log.items) c.args.logs.items in
    let same = map-map (λ (log : List ToldEntry). map told_entry log) (λ log. log.items) c.args.logs.items in
    let feeder = c.args.feeder in let feeding = c.args.feeding.items in let clients = c.args.clients.items in
    let all = full c.args.adapter clients feeder c.requires.all c.gather.ensures.locks in
    let was : HaveCalled among packets feeder feeding clients (books_of logs) = subst (λ books. HaveCalled among packets feeder feeding clients books) (sym same) called in
    subst (λ h. TellWhatWasCalled among packets feeder feeding clients (map (λ log. map told_entry log.items) c.args.logs.items) h) (sym m.2)
    (subst (λ books. TellWhatWasCalled among packets feeder feeding clients books (histories_of feeding m.0)) same
    (tell among packets feeder feeding clients (books_of logs) was all c.gather.ensures.histories (nodes_low logs (All-map AreOnNodes (λ log. log.items) c.args.logs.items c.requires.nodes))
    (histories_of feeding m.0) (merged_woven among packets feeder feeding clients logs was all m.0 m.1 c.gather.ensures.histories)))) c.histories.ensures

pub returns-clause-run : goal.returns-clause-run
returns-clause-run c = IfOk-weaker c.histories.result _ _ (λ hs m script among most may stream told w.
    let logs = map (λ log. log.items) c.args.logs.items in
    let feeder = c.args.feeder in let feeding = c.args.feeding.items in let clients = c.args.clients.items in
    let all = full c.args.adapter clients feeder c.requires.all c.gather.ensures.locks in
    let were : AreWorked script among most may stream feeder feeding clients (books_of logs) told =
    subst (λ books. AreWorked script among most may stream feeder feeding clients books told) (sym (map-map (λ (log : List ToldEntry). map told_entry log) (λ log. log.items) c.args.logs.items)) w in
    subst (λ h. IsWholeRun script most may stream told h) (sym m.2)
    (whole_run script among most may stream feeder feeding clients (books_of logs) told were all c.gather.ensures.histories (nodes_low logs (All-map AreOnNodes (λ log. log.items) c.args.logs.items c.requires.nodes))
    (histories_of feeding m.0) (merged_woven among (sources script stream) feeder feeding clients logs (have_called script among most may stream feeder feeding clients (books_of logs) told were) all m.0 m.1 c.gather.ensures.histories))) c.histories.ensures
