-- What a node knows, from what it keeps.
use Rattle.std.specs.Prelude.{ℕ, ◌≡◌, ◌≤◌, ◌+◌, Bool, true, false, Option, Some, None, if◌then◌else◌}
use Rattle.node_core.specs.Imports.{Attach as AttachTap, Demux, Detach as DetachTap, Invocation, Keep as KeepTap, OrNoMemory, Passed, Response, TapChange, bytes_held, is_recording, owner_refusal, params_of, pids_of, response_to, total_of}
use Rattle.node_core.specs.declared.kept.Kept.{Kept}
use Rattle.node_core.specs.declared.tenure.Tenure.{Tenure}
use Rattle.node_core.specs.Inside.Step.{Knows, bare, moved, next}
use Rattle.node_core.specs.Inside.Sound.{IsSound}

abbrev pub knows_in : (has_ended : Bool) → Option Tenure → Knows
knows_in has_ended None = bare has_ended None
knows_in has_ended (Some tenure) = record {
  facts = record {
    has_ended = has_ended;
    owner = Some tenure.owner;
    size = tenure.buffer.size;
    params = params_of tenure.params;
    pids = pids_of tenure.params;
    ledger = tenure.buffer.ledger;
  };
  selecting = tenure.selector;
}

abbrev pub knows_of : Kept → Knows
knows_of kept = knows_in kept.has_ended kept.tenure

-- a node with this owner records: its filter runs, and its packets go to the dvr node
abbrev pub is_recording_for : Tenure → Bool
is_recording_for tenure = is_recording (knows_in false (Some tenure)).facts

-- what Done tells of the tap after a call, by whether the node recorded before it and whether the call renews the tap
abbrev pub tap_told : (recorded renews : Bool) → Tenure → TapChange
tap_told recorded renews tenure =
    if is_recording_for tenure then (if renews then AttachTap (pids_of tenure.params) else KeepTap)
    else (if recorded then DetachTap else KeepTap)

-- the bytes of the capture, and those that may still become bytes of it
abbrev pub bytes_in : Knows → ℕ
bytes_in k = total_of k.facts.ledger + bytes_held k.selecting

-- its owner isn't refused this call
abbrev pub IsGranted : Tenure → Invocation → Type 0
IsGranted tenure call = owner_refusal Demux (knows_in true (Some tenure)).facts call ≡ None

-- it is sound in this tenure, whether or not an End came
abbrev pub IsSoundIn : Tenure → Type 0
IsSoundIn tenure = IsSound (knows_in true (Some tenure))

-- what this caller is answered to a call that isn't refused
abbrev pub reply_to : Knows → (who : ℕ) → Invocation → Response
reply_to k who call = response_to k.facts (moved k who call Passed).facts call

-- What a call of the owner does that isn't refused: what is answered, or want of memory, and what the node then
-- knows; that is sound, and no byte arrives.
pub record Does (ended : Bool) (old : Tenure) (call : Invocation) (r : Response) (new : Tenure) : Type 0 where
  pub said : OrNoMemory (knows_in ended (Some old)).facts call (reply_to (knows_in ended (Some old)) old.owner call) r
  pub after : knows_in ended (Some new) ≡ next (knows_in ended (Some old)) old.owner call r
  pub sound : IsSoundIn new
  pub bytes : bytes_in (knows_in ended (Some new)) ≤ bytes_in (knows_in ended (Some old))
