use Rattle.ts_make.specs.Made.{header, payload}
use Rattle.ts_make.proofs.Growing.{two-behind}
use Rattle.ts_make.proofs.packet.put_plain_packet.Goals as goal

pub returns : goal.returns
returns c = two-behind c.args.out.now.items (header c.args.unit_start c.args.pid c.args.counter) (payload c.args.place 184) c.put_header.new.out.items c.put_payload.new.out.items c.in_ok-put_header.ensures c.in_ok-put_payload.ensures
