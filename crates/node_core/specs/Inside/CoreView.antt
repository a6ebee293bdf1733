-- How a node's fields are seen, and what holds of them.
use Rattle.std.specs.Prelude.{◌≤◌, ◌*◌, ◌^◌}
use Rattle.node_core.specs.declared.node.NodeCore.TheInside.{Inside}
use Rattle.node_core.specs.Inside.KeptView.{knows_of, bytes_in}
use Rattle.node_core.specs.Inside.Sound.{IsSound}
use Rattle.node_core.specs.Stands.{CoreValue}

abbrev pub core_view : Inside → CoreValue
core_view c = record {
  number = c.number;
  entries = c.entries;
  facts = (knows_of c.kept).facts;
  selecting = (knows_of c.kept).selecting;
}

-- a pass brings at most 64 packets of 188 bytes, so no sum of bytes comes near the end of u64
pub record CoreHolds (c : Inside) : Type 0 where
  pub sound : IsSound (knows_of c.kept)
  pub entries : c.entries ≤ 2 ^ 50
  pub total : bytes_in (knows_of c.kept) ≤ 12032 * c.entries
