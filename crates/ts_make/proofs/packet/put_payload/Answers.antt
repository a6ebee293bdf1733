use Rattle.std.proofs.Common.{◌+◌, ◌%◌, ◌∷◌, [], sym, append_assoc}
use Rattle.std.proofs.lemmas.List.{append-nil}
use Rattle.ts_make.specs.Made.{payload}
use Rattle.ts_make.proofs.Growing.{payload-none, payload-next}
use Rattle.ts_make.proofs.packet.put_payload.Goals as goal

pub bytes-init : goal.bytes-init
bytes-init c = rw (payload-none c.args.place) (sym (append-nil c.args.out.now.items))

pub bytes-preserved : goal.bytes-preserved
bytes-preserved c = rw (c.in_ok-push.ensures.items, c.bytes.invariant, c.from.ensures, payload-next c.args.place c.bytes.j) (append_assoc c.args.out.now.items (payload c.args.place c.bytes.j) ((c.args.place + c.bytes.j) % 256 ∷ []))
