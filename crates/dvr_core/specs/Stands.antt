-- What it means that the dvr node stands for a history.
use Rattle.std.specs.Prelude.{ℕ, ◌≡◌, List, length, Option}
use Rattle.dvr_core.specs.Imports.{Facts, History, IsLegalDvr, Tap, dvr, facts}
use Rattle.dvr_core.specs.Tapped.{taps_of}

-- what a contract sees of the dvr node: how many calls were made on it, what its history says to the next one, and
-- its taps by the number of the demux node
pub record CoreValue : Type 0 where
  pub entries : ℕ
  pub facts : Facts
  pub taps : List (Option Tap)

-- The node stands for a history: it is legal, it has that many entries, and what it says is what the node knows.
pub record StandsFor (node : CoreValue) (h : History) : Type 0 where
  pub legal : IsLegalDvr h
  pub count : node.entries ≡ length h
  pub known : node.facts ≡ facts dvr h
  pub taps : node.taps ≡ taps_of h
