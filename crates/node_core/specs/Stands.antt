-- What it means that a node stands for a history.
use Rattle.std.specs.Prelude.{ℕ, ◌≡◌, length}
use Rattle.node_core.specs.Imports.{Facts, History, IsLegal, Selecting, demux, facts}
use Rattle.node_core.specs.Offers.{HasSelected}

-- what a contract sees of a demux node: its number, how many calls were made on it, what its history says to the
-- next one, and what its selector keeps
pub record CoreValue : Type 0 where
  pub number : ℕ
  pub entries : ℕ
  pub facts : Facts
  pub selecting : Selecting

-- The node stands for a history: it is legal, it has that many entries, what it says is what the node knows, and
-- the selector was offered what it offers.
pub record StandsFor (node : CoreValue) (h : History) : Type 0 where
  pub legal : IsLegal h
  pub count : node.entries ≡ length h
  pub known : node.facts ≡ facts demux h
  pub selected : HasSelected h node.selecting
