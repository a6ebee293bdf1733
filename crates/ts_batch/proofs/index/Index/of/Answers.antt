use Rattle.ts_batch.proofs.Imports.{◌≡◌, ◌∙◌, get_or, take, true, sym, ap, take_all, All-more, pid_of, ALL_PACKETS, has_run}
use Rattle.ts_batch.proofs.Places.{listed}
use Rattle.ts_batch.proofs.index.Index.of.Goals.{then-not-has+in_ok-list-2, else-not-has}
use Rattle.ts_batch.proofs.index.Index.of.Goals as goal

pub packets-preserved : goal.packets-preserved
packets-preserved c =
    let h = c.packets.invariant in
    let packet = c.packet-item.result in
    let packets = c.args.packets.now in
    let i = c.packets.packet-index in
    let is : pid_of (get_or packets i packet) ≡ c.pid-pid.result = ap pid_of (sym c.packet-item.is) ∙ sym c.pid-pid.ensures.value in
    elim c.if-not-has.branch [
      | then-not-has+in_ok-list-2 w ↦
          let e = w.in_ok-list-2.ensures in
          let l = listed packets c.packets.index c.pid-pid.result w.list-then-not-has.new.self e.places e.runs h.runs in
          rw w.index-is (record {
            runs = l.runs;
            all = l.kept ALL_PACKETS h.all;
            each = All-more (λ p. has_run (pid_of p) w.list-then-not-has.new.self.runs.items ≡ true) packets i packet c.packets-test.true (λ k d b. l.kept _ (h.each k d b)) (rw is l.here);
          })
      | else-not-has w ↦ rw w.index-is (record {
        runs = h.runs;
        all = h.all;
        each = All-more (λ p. has_run (pid_of p) c.packets.index.runs.items ≡ true) packets i packet c.packets-test.true h.each (rw is (sym w.if-not-has.ensures));
      })
    ]

pub returns : goal.returns
returns c =
    let h = c.packets.invariant in
    let whole : take c.packets.packet-index c.args.packets.now ≡ c.args.packets.now = take_all c.packets.packet-index c.args.packets.now c.packets-test.false in
    record { runs = h.runs; all = h.all; each = rw whole at h.each }
