-- How a ring's fields are seen, and what holds of them.
use Rattle.std.specs.Prelude.{◌≡◌, ◌≤◌, ◌+◌}
use Rattle.node_buffer.specs.declared.node_ring.Ring.TheInside.{Inside}
use Rattle.node_buffer.specs.Ring.{Contents}

-- the bytes of the block
abbrev pub contents_of : Inside → Contents
contents_of r = record { bytes = r.bytes.items; size = r.size }

-- the block has room for one byte less than the size
pub record RingHolds (r : Inside) : Type 0 where
  pub least : 2 ≤ r.size
  pub most : r.size ≤ 16777216
  pub block : r.bytes.capacity + 1 ≡ r.size
