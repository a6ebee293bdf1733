-- The items that a filter selects from packets.
-- Source: the Linux media API, chapter Digital TV demux (dmx_sct_filter_params, dmx_pes_filter_params, dmx_output);
-- ISO/IEC 13818-1, 2.4.3 for packets and 2.4.4 for sections.
use Rattle.std.specs.Prelude.{ℕ, Bool, not, ◌&&◌, ◌||◌, nat_eq, List, [], take, filter, filter_map, slice_index, Option, Some, if◌then◌else◌}
use Rattle.ts_packet.specs.Fields.{bit, payload_of}
use Rattle.section_parse.specs.Sections.{sections}
use Rattle.section_crc.specs.Crc.{crc}
use Rattle.filter_match.specs.declared.filter.SectionFilter.{SectionFilter}
use Rattle.filter_match.specs.Match.{matches}
use Rattle.item_select.specs.declared.selector.Give.{Give}
use Rattle.item_select.specs.declared.selector.Give.TheVariants.{Payload, Whole}

-- What is selected: nothing; the sections of a PID that a filter lets through, with a right CRC or without one where
-- `check`, and the first alone where `once`; or packets, whole or their payloads alone.
pub data Choice : Type 0 where
  Nothing : Choice
  Sections : (pid : ℕ) → SectionFilter → (check once : Bool) → Choice
  Packets : Give → Choice

-- A section is selected where it matches; and under `check` only where it has no CRC, its section_syntax_indicator
-- being 0, or where the CRC over the whole of it is 0.
unfoldable pub is_selected : SectionFilter → (check : Bool) → List ℕ → Bool
is_selected wanted check section =
    matches wanted section && (not check || (not (bit (slice_index section 1) 128) || nat_eq (crc section) 0))

-- these items; or the first alone
abbrev pub first_if : (once : Bool) → List (List ℕ) → List (List ℕ)
first_if once items = if once then take 1 items else items

-- what a packet gives: itself, or its payload where it has one
abbrev pub given_by : Give → List ℕ → Option (List ℕ)
given_by Whole packet = Some packet
given_by Payload packet = payload_of packet

-- The items of the packets offered, the first of them first.
unfoldable pub items_of : Choice → List (List ℕ) → List (List ℕ)
items_of Nothing packets = []
items_of (Sections pid wanted check once) packets =
    first_if once (filter (is_selected wanted check) (sections packets pid))
items_of (Packets give) packets = filter_map (given_by give) packets
