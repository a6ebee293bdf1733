-- What a command does, verb by verb: the calls that it makes from its first to its last, each with its reply, and how it
-- ends (this project's own). No step and no task is in it.
use Rattle.std.specs.Prelude.{ℕ, ◌≡◌, ◌<◌, ◌+◌, ◌⊎◌, Bool, true, false, ◌&&◌, List, [], ◌∷◌, ◌++◌, length, map, Option, Some, None, nat_lt, slice_index_or, if◌then◌else◌}
use Rattle.client_laws.specs.Imports.{All, AllBusy, Asked, Attach, AttachTap, Bound, Busy, ClientRequest, DEMUX_NODES, Detach, DetachTap, Done, Drain, Dvr, Ending, GetStc, Made, NoNode, Node, Once, Open, Own, Pass, Poll, Read, ReadWait, Ready, Response, Slot, Slots, Target, Verb, Want, Write, ends_drain, ends_wait}

-- ------ calls

-- a call of a command: on which node, what is asked there, and the reply
pub record CommandCall : Type 0 where
  pub node : ℕ
  pub want : ClientRequest
  pub reply : Response

abbrev pub call : (node : ℕ) → ClientRequest → Response → CommandCall
call node want reply = record { node = node; want = want; reply = reply }

abbrev pub replies_to : List CommandCall → List Response
replies_to calls = map (λ c. c.reply) calls

-- on which nodes what is asked, whatever the replies are
abbrev pub asks : List CommandCall → List (ℕ × ClientRequest)
asks calls = map (λ c. (c.node, c.want)) calls

-- the same asked of one node after the other, from this one on
abbrev pub on_each : (node : ℕ) → ClientRequest → List Response → List CommandCall
on_each node want [] = []
on_each node want (reply ∷ replies) = call node want reply ∷ on_each (node + 1) want replies

-- ------ one call

-- what the dvr node has to be told where this is the reply of a node: that a demux node's tap was attached or detached
abbrev pub change_by : (node : ℕ) → Response → List ClientRequest
change_by node (Done from to (AttachTap pids)) = if nat_lt node DEMUX_NODES then Attach node pids ∷ [] else []
change_by node (Done from to DetachTap) = if nat_lt node DEMUX_NODES then Detach node ∷ [] else []
change_by node _ = []

-- the dvr node is told of it, whatever it replies; of no change it isn't called
abbrev pub IsTold : (node : ℕ) → Response → List CommandCall → Type 0
IsTold node reply behind = asks behind ≡ map (λ want. (DEMUX_NODES, want)) (change_by node reply)

-- The one call that the command names, and the dvr node is told.
pub record MakesOne (node : ℕ) (want : Want) (calls : List CommandCall) : Type 0 where
  pub reply : Response
  pub behind : List CommandCall
  pub are : calls ≡ call node (Own want) reply ∷ behind
  pub tells : IsTold node reply behind

-- ------ an open of a slot

abbrev pub is_busy : Response → Bool
is_busy (Busy owner) = true
is_busy _ = false

-- where the node is opened the slot is bound to it
abbrev pub bound_by : (slot node : ℕ) → Response → Ending
bound_by slot node (Done from to tap) = Bound slot node
bound_by slot node _ = Made

-- Behind so many nodes that are busy there is one that isn't. That is the last Open; where it is Done the slot is bound to this
-- node, and the dvr node is told.
pub record FindsOne (slot node : ℕ) (calls : List CommandCall) (ending : Ending) : Type 0 where
  pub is_demux : node < DEMUX_NODES
  pub reply : Response
  pub free : is_busy reply ≡ false
  pub behind : List CommandCall
  pub are : calls ≡ call node (Own Open) reply ∷ behind
  pub tells : IsTold node reply behind
  pub ends : ending ≡ bound_by slot node reply

-- all nodes were busy: no call is left, and the outcome is EMFILE
abbrev pub FindsNone : (node : ℕ) → (calls : List CommandCall) → Ending → Type 0
FindsNone node calls ending = (node ≡ DEMUX_NODES) × (calls ≡ []) × (ending ≡ AllBusy)

-- Opens of the demux nodes from this one on, one after the other, as long as they are busy.
pub record OpensFrom (slot first : ℕ) (calls : List CommandCall) (ending : Ending) : Type 0 where
  pub busy : List Response
  pub are_busy : All (λ reply. is_busy reply ≡ true) busy
  pub rest : List CommandCall
  pub are : calls ≡ on_each first (Own Open) busy ++ rest
  pub finds : FindsOne slot (first + length busy) rest ending ⊎ FindsNone (first + length busy) rest ending

-- ------ reads

-- Reads of a node, until the first reply that ends them.
pub record ReadsUntil (ends : Response → Bool) (node count : ℕ) (calls : List CommandCall) : Type 0 where
  pub before : List Response
  pub last : Response
  pub are : calls ≡ map (call node (Own (Read count))) (before ++ last ∷ [])
  pub goes_on : All (λ reply. ends reply ≡ false) before
  pub is_end : ends last ≡ true

-- ------ writes

abbrev pub is_ready : Response → Bool
is_ready (Ready readable error at ended) = true
is_ready _ = false

-- A Poll. Where it is Ready, and the write has a batch, this passes the demux nodes 0 to 31, in that order; else no other call.
pub record MakesWrite (node write : ℕ) (has_batch : Bool) (calls : List CommandCall) : Type 0 where
  pub reply : Response
  pub passed : List Response
  pub are : calls ≡ call node (Own Poll) reply ∷ on_each 0 (Pass write) passed
  pub many : length passed ≡ (if is_ready reply && has_batch then DEMUX_NODES else 0)

-- ------ each verb

-- on this node
abbrev pub MakesOn : (node : ℕ) → Verb → (has_batch : Bool) → List CommandCall → Ending → Type 0
MakesOn node (Once want) has_batch calls ending = MakesOne node want calls × (ending ≡ Made)
MakesOn node (ReadWait count) has_batch calls ending = ReadsUntil ends_wait node count calls × (ending ≡ Made)
MakesOn node (Drain count) has_batch calls ending = ReadsUntil ends_drain node count calls × (ending ≡ Made)
MakesOn node (GetStc num) has_batch calls ending = (calls ≡ []) × (ending ≡ Asked node num)
MakesOn node (Write write) has_batch calls ending = MakesWrite node write has_batch calls × (ending ≡ Made)

-- on the node to which a slot is bound; where it is bound to none, no call
abbrev pub MakesAt : Option ℕ → Verb → (has_batch : Bool) → List CommandCall → Ending → Type 0
MakesAt None verb has_batch calls ending = (calls ≡ []) × (ending ≡ NoNode)
MakesAt (Some node) verb has_batch calls ending = MakesOn node verb has_batch calls ending

abbrev pub MakesBySlot : (slot : ℕ) → Slots → Verb → (has_batch : Bool) → List CommandCall → Ending → Type 0
MakesBySlot slot slots (Once Open) has_batch calls ending = OpensFrom slot 0 calls ending
MakesBySlot slot slots verb has_batch calls ending = MakesAt (slice_index_or slots slot None) verb has_batch calls ending

-- A command of a client with these slots makes these calls, from its first to its last, and ends so.
abbrev pub Makes : Slots → Target → Verb → (has_batch : Bool) → List CommandCall → Ending → Type 0
Makes slots (Node node) verb has_batch calls ending = MakesOn node verb has_batch calls ending
Makes slots (Slot slot) verb has_batch calls ending = MakesBySlot slot slots verb has_batch calls ending
Makes slots Dvr verb has_batch calls ending = MakesOn DEMUX_NODES verb has_batch calls ending
