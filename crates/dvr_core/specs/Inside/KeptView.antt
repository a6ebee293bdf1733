-- What the dvr node knows, from what it keeps.
use Rattle.std.specs.Prelude.{ℕ, ◌≡◌, ◌≤◌, Bool, true, List, Option, Some, None}
use Rattle.dvr_core.specs.Imports.{CoherentIn, DVR_SIZE, Dvr, Facts, Invocation, OrNoMemory, Passed, Response, Tap, owner_refusal, response_to, total_of}
use Rattle.dvr_core.specs.declared.kept.KeptByDvr.{KeptByDvr}
use Rattle.dvr_core.specs.declared.tenure.DvrTenure.{DvrTenure}
use Rattle.dvr_core.specs.Inside.Step.{Knows, moved, next, unfiltered}

-- a free node has the default size
abbrev pub facts_in : (has_ended : Bool) → Option DvrTenure → Facts
facts_in has_ended None = unfiltered has_ended None DVR_SIZE None
facts_in has_ended (Some tenure) = unfiltered has_ended (Some tenure.owner) tenure.buffer.size tenure.buffer.ledger

abbrev pub knows_in : (has_ended : Bool) → List (Option Tap) → Option DvrTenure → Knows
knows_in has_ended taps tenure = record { facts = facts_in has_ended tenure; taps = taps }

abbrev pub knows_of : KeptByDvr → Knows
knows_of kept = knows_in kept.has_ended kept.taps kept.tenure

-- the bytes of the capture
abbrev pub bytes_in : Knows → ℕ
bytes_in k = total_of k.facts.ledger

-- its owner isn't refused this call
abbrev pub IsGranted : DvrTenure → Invocation → Type 0
IsGranted tenure call = owner_refusal Dvr (facts_in true (Some tenure)) call ≡ None

-- what this caller is answered to a call that isn't refused
abbrev pub reply_to : Knows → (who : ℕ) → Invocation → Response
reply_to k who call = response_to k.facts (moved k who call Passed).facts call

-- What a call of the owner does that isn't refused, whichever the taps are: what is answered, or want of memory, and
-- what the node then knows; that is sound, and no byte arrives.
pub record Does (ended : Bool) (old : DvrTenure) (call : Invocation) (r : Response) (new : DvrTenure) : Type 0 where
  pub said : (taps : List (Option Tap)) → OrNoMemory (facts_in ended (Some old)) call
      (reply_to (knows_in ended taps (Some old)) old.owner call) r
  pub after : (taps : List (Option Tap))
      → knows_in ended taps (Some new) ≡ next (knows_in ended taps (Some old)) old.owner call r
  pub sound : CoherentIn new.buffer.ledger
  pub bytes : total_of new.buffer.ledger ≤ total_of old.buffer.ledger
