use Rattle.std.proofs.Common.{◌≡◌, ◌++◌, refl}
use Rattle.std.specs.Int.{w32, to_be_bytes}
use Rattle.section_crc.specs.Crc.{crc}
use Rattle.ts_make.specs.Made.{section_front}
use Rattle.ts_make.proofs.Growing.{two-behind}
use Rattle.ts_make.proofs.packet.put_section.Goals as goal

pub returns : goal.returns
returns c =
    let front = section_front c.args.table_id c.args.place in
    let first : c.extend_from_slice.new.self.items ≡ c.args.out.now.items ++ front = rw (c.in_ok-extend_from_slice.ensures.items, c.front_of_section-front.ensures) refl in
    let second : c.extend_from_slice-2.new.self.items ≡ c.extend_from_slice.new.self.items ++ to_be_bytes w32 (crc front) = rw (c.in_ok-extend_from_slice-2.ensures.items, c.write_u32.ensures, c.crc.ensures, c.front_of_section-front.ensures) refl in
    two-behind c.args.out.now.items front (to_be_bytes w32 (crc front)) c.extend_from_slice.new.self.items c.extend_from_slice-2.new.self.items first second
