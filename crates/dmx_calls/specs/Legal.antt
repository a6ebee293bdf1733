-- Legal histories.
use Rattle.std.specs.Prelude.{ℕ, ◌≡◌, Bool, true, false, not, nat_eq, ◌⊎◌, [], ◌∷◌}
use Rattle.dmx_calls.specs.Invocation.{Invocation, Open, SetSize}
use Rattle.dmx_calls.specs.Response.{Response, Done, NoMemory}
use Rattle.dmx_calls.specs.History.{History}
use Rattle.dmx_calls.specs.Rules.{Rules, demux, dvr}
use Rattle.dmx_calls.specs.Facts.{Facts, facts}
use Rattle.dmx_calls.specs.Answer.{answer}

abbrev pub is_done : Response → Bool
is_done (Done from to tap) = true
is_done _ = false

-- Open, and SetSize to another size
abbrev pub takes_memory : Facts → Invocation → Bool
takes_memory f Open = true
takes_memory f (SetSize size) = not (nat_eq size f.size)
takes_memory f _ = false

-- The response that a history allows: its answer; or want of memory, in place of Done to a call that takes memory.
abbrev pub May : Rules → History → (who : ℕ) → Invocation → Response → Type 0
May node h who call response =
    (response ≡ answer node h who call)
    ⊎ (response ≡ NoMemory) × (is_done (answer node h who call) ≡ true) × (takes_memory (facts node h) call ≡ true)

-- each response is one that the entries before it allow
abbrev pub IsLegalFor : Rules → History → Type 0
IsLegalFor node [] = Unit {0}
IsLegalFor node (e ∷ h) = IsLegalFor node h × May node h e.who e.invocation e.response

-- a legal history of a demux node, and of the dvr node
abbrev pub IsLegal : History → Type 0
IsLegal h = IsLegalFor demux h

abbrev pub IsLegalDvr : History → Type 0
IsLegalDvr h = IsLegalFor dvr h
