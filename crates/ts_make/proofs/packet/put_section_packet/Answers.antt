use Rattle.std.proofs.Common.{◌∷◌, [], ◌++◌, true, replicate}
use Rattle.ts_make.specs.Made.{header, section}
use Rattle.ts_make.proofs.Growing.{two-behind}
use Rattle.ts_make.proofs.packet.put_section_packet.Goals as goal

pub returns : goal.returns
returns c =
    let front = header true c.args.pid c.args.counter in
    let carried = section c.args.table_id c.args.place in
    let last = two-behind c.push.new.self.items carried (replicate 163 0xff) c.put_section.new.out.items c.extend_from_slice.new.self.items c.in_ok-put_section.ensures c.in_ok-extend_from_slice.ensures.items in
    let more = two-behind c.put_header.new.out.items (0 ∷ []) (carried ++ replicate 163 0xff) c.push.new.self.items c.extend_from_slice.new.self.items c.in_ok-push.ensures.items last in
    two-behind c.args.out.now.items front (0 ∷ (carried ++ replicate 163 0xff)) c.put_header.new.out.items c.extend_from_slice.new.self.items c.in_ok-put_header.ensures more
