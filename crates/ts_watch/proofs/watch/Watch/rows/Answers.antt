use Rattle.ts_watch.proofs.Imports.{◌<◌, sym, ◌∙◌, counts}
use Rattle.ts_watch.proofs.HeadLemmas.{rows-none, rows-more, rows-same}
use Rattle.ts_watch.proofs.watch.Watch.rows.Goals.{then-row-gt0+in_ok-push, else-row-gt0}
use Rattle.ts_watch.proofs.watch.Watch.rows.Goals as goal

pub pids-init : goal.pids-init
pids-init c = λ packets h. c.in_ok-rows.ensures.items ∙ sym (rows-none packets)

pub pids-preserved : goal.pids-preserved
pids-preserved c = λ packets h.
    let e = c.row-row.ensures packets h in
    let so_far = c.pids.invariant packets h in
    elim c.if-row-gt0.branch [
      | then-row-gt0+in_ok-push w ↦ (let some : 0 < (counts packets c.pids.pid).packets = rw e at w.if-row-gt0.true in rw (w.rows-is, w.in_ok-push.ensures.items, so_far, e) (sym (rows-more c.pids.pid packets some)))
      | else-row-gt0 w ↦ rw (w.rows-is, so_far) (sym (rows-same c.pids.pid packets (rw e at w.if-row-gt0.false)))
    ]
