-- What `run_steps` answers.
use Rattle.std.specs.Prelude.{◌≡◌, ℕ, ◌≤◌, ◌<◌, false, slice_index_or, All, List, [], length, map}
use Rattle.serial_core.specs.Imports.{Core, IsAfter, LogEntry, Outcome, PacketSize, Scripted, clients_in, cut, head_of, outcomes, range_with_len, told_head}
use Rattle.serial_core.specs.declared.run.Left.{Left}
use Rattle.serial_core.specs.declared.runner.Runner.{Runner}
use Rattle.serial_core.specs.Nodes.{log_of}
use Rattle.serial_core.specs.SerialRun.{Run, begun, IsSerialRun, replies_of}
use Rattle.serial_core.specs.Inside.Standing.{IsNodes, AreCounted}

-- the entries of the 33 nodes, the oldest first, the dvr node last
abbrev pub histories_in : Run → List (List LogEntry)
histories_in r = map (λ node. (log_of node).entries) r.nodes

-- what became of the commands of each client of the script
abbrev pub outcomes_in : Scripted → Run → List (List Outcome)
outcomes_in script r = map (λ client. outcomes client script (replies_of client r)) (range_with_len 0 (clients_in script))

-- These are the histories, the outcomes and the head of the serial run of a script over a stream of these
-- bytes, whose packets take up so many each, and in which the source failed or not.
pub record IsLeftBy (script : Scripted) (batch : ℕ) (size : PacketSize) (stream : List ℕ) (left : Left) : Type 0 where
  pub run : Run
  pub serial : IsSerialRun script batch (cut size stream).packets run
  pub histories : left.histories ≡ histories_in run
  pub outcomes : map (λ those. those.items) left.outcomes.items ≡ outcomes_in script run
  pub head : told_head left.head ≡ head_of size stream left.head.read_fault

-- ------ before the first line

-- no call was made and no packet given
pub record IsFreshRunner (v : Runner) : Type 0 where
  pub nodes : (packets : List (List ℕ)) → IsNodes v.nodes (begun packets)
  pub moment : v.moment ≡ 0
  pub made : v.nodes.made ≡ 0
  pub given : v.puller.given ≡ 0
  pub unended : v.nodes.has_ended ≡ false
  pub counted : AreCounted v.nodes

-- a core for each client of the script, which has taken no reply
pub record AreFreshCores (script : Scripted) (cores : List Core) : Type 0 where
  pub count : length cores ≡ clients_in script
  pub few : length cores ≤ 8
  pub after : (c : ℕ) (d : Core) → c < length cores → IsAfter c script [] (slice_index_or cores c d)
  pub fresh : All (λ core. core.step ≡ 0) cores
