-- What contracts see of a node's buffer.
use Rattle.std.specs.Prelude.{ℕ, Option}
use Rattle.node_buffer.specs.Imports.{Ledger}
use Rattle.node_buffer.specs.declared.filter.Terms.{Terms}

-- its size, what its capture keeps of the filter, and the ledger of the capture
pub record BufferValue : Type 0 where
  pub size : ℕ
  pub terms : Terms
  pub ledger : Option Ledger
