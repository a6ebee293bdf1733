-- How the dvr node's fields are seen, and what holds of them.
use Rattle.std.specs.Prelude.{◌≤◌, ◌*◌, ◌^◌}
use Rattle.dvr_core.specs.Imports.{CoherentIn}
use Rattle.dvr_core.specs.declared.dvr.DvrCore.TheInside.{Inside}
use Rattle.dvr_core.specs.Inside.KeptView.{knows_of, bytes_in}
use Rattle.dvr_core.specs.Stands.{CoreValue}

abbrev pub core_view : Inside → CoreValue
core_view c = record { entries = c.entries; facts = (knows_of c.kept).facts; taps = c.kept.taps }

-- a pass brings at most 64 packets of 188 bytes, so no sum of bytes comes near the end of u64
pub record CoreHolds (c : Inside) : Type 0 where
  pub sound : CoherentIn (knows_of c.kept).facts.ledger
  pub entries : c.entries ≤ 2 ^ 50
  pub total : bytes_in (knows_of c.kept) ≤ 12032 * c.entries
