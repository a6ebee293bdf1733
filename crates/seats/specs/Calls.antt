-- The calls of a caller: how it comes from one state to another, call by call.
use Rattle.std.specs.Prelude.{◌≡◌, ◌+◌, ℕ, List, [], ◌∷◌}
use Rattle.seats.specs.Imports.{Act, Caller, Entry, IsSameCaller, LogEntry, MakesEntry, Pass as PassAct, act_of}

-- no packets pass by this call
abbrev pub PassesNone : Act → Type 0
PassesNone (PassAct input batch now) = ⊥
PassesNone _ = Unit {0}

-- A caller has made one call, and is d then: its entry stands in the history of the node of this log entry, at its place,
-- and tells the same caller, call and response. No other pass is changed, and by the call no packets pass.
pub record MakesCall (e : LogEntry) (c d : Caller) : Type 0 where
  pub entry : Entry
  pub made : MakesEntry e.node entry e.place c.passes d.passes
  pub who : (e.who ≡ c.who) × (e.who ≡ entry.who)
  pub act : e.act ≡ act_of entry.invocation
  pub response : e.response ≡ entry.response
  pub same : IsSameCaller c d
  pub left : d.left + 1 ≡ c.left
  pub none : PassesNone e.act

-- The caller c has made just these calls, one after another, with the numbers from `step` on, and is d then.
abbrev pub MakesCalls : (step : ℕ) → Caller → List LogEntry → Caller → Type 0
MakesCalls step c [] d = d ≡ c
MakesCalls step c (e ∷ es) d = (m : Caller) × (e.step ≡ step) × MakesCall e c m × MakesCalls (step + 1) m es d
