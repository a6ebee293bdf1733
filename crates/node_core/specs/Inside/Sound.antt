-- What holds of what each node knows.
use Rattle.std.specs.Prelude.{ℕ, ◌≡◌, ◌≤◌, false, List, [], length, Option, Some, None}
use Rattle.node_core.specs.Imports.{CoherentIn, Empty, Ledger, Params, Pes, Section, Selecting, takes_many}
use Rattle.node_core.specs.Offers.{choice_of}
use Rattle.node_core.specs.Inside.Step.{Knows}

-- a filter that doesn't take several PIDs has one at most
abbrev pub HasFewPids : Params → List ℕ → Type 0
HasFewPids set pids = takes_many set ≡ false → length pids ≤ 1

-- a capture has a filter
abbrev pub IsSoundBy : Params → Option Ledger → Type 0
IsSoundBy Empty ledger = ledger ≡ None
IsSoundBy (Section p) ledger = CoherentIn ledger
IsSoundBy (Pes p) ledger = CoherentIn ledger

-- a node without an owner has no filter and no capture
abbrev pub IsSoundFor : Option ℕ → Params → Option Ledger → Type 0
IsSoundFor None params ledger = (params ≡ Empty) × (ledger ≡ None)
IsSoundFor (Some who) params ledger = IsSoundBy params ledger

-- the selector has the filter, and has given all its items
pub record IsReady (set : Params) (s : Selecting) : Type 0 where
  pub choice : s.choice ≡ choice_of set
  pub given : s.ready ≡ []

pub record IsSoundAs (owner : Option ℕ) (set : Params) (ledger : Option Ledger) (s : Selecting) : Type 0 where
  pub facts : IsSoundFor owner set ledger
  pub selecting : IsReady set s

-- whether an End came plays no part
abbrev pub IsSound : Knows → Type 0
IsSound k = IsSoundAs k.facts.owner k.facts.params k.facts.ledger k.selecting
