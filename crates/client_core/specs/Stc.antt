-- The system time counter that a client finds on a node: the clock of what it has read there itself (this project's own;
-- counters and types of filters are numbered as in linux/dvb/dmx.h, DMX_GET_STC and enum dmx_ts_pes).
use Rattle.std.specs.Prelude.{ℕ, ◌+◌, ◌*◌, ◌==◌, Bool, true, false, ◌&&◌, List, [], ◌∷◌, ◌++◌, Option, Some, None, nat_le, nat_eq, if◌then◌else◌}
use Rattle.client_core.specs.Imports.{Close, Data, Done, Open, Output, Overflow, Pes, Response, Scripted, Section, Size, Start, TsdemuxTap, Want}
use Rattle.client_core.specs.declared.event.Event.{Event}
use Rattle.client_core.specs.declared.event.ClientRequest.{ClientRequest}
use Rattle.client_core.specs.declared.event.ClientRequest.TheVariants.{Own}
use Rattle.client_core.specs.Events.{next_event}
use Rattle.client_core.specs.Clock.{clock_of}

-- ------ the calls of a client with their replies, the newest first

-- a call, and the reply to it
pub record Exchange : Type 0 where
  pub event : Event
  pub reply : Response

-- with the reply to this call
abbrev pub with_reply : Option Event → Response → List Exchange → List Exchange
with_reply None reply older = older
with_reply (Some event) reply older = record { event = event; reply = reply } ∷ older

-- with replies that come after others, each to the call that the client makes next
abbrev pub exchanges_after : (client : ℕ) → Scripted → (before : List Response) → (older : List Exchange)
    → List Response → List Exchange
exchanges_after client script before older [] = older
exchanges_after client script before older (reply ∷ replies) =
    exchanges_after client script (before ++ reply ∷ []) (with_reply (next_event client script before) reply older) replies

abbrev pub exchanges : (client : ℕ) → Scripted → List Response → List Exchange
exchanges client script replies = exchanges_after client script [] [] replies

-- ------ the bytes that were read on a node

-- whether the bytes begin anew with this call, where it is accepted
abbrev pub begins_anew : Want → Bool
begins_anew Open = true
begins_anew Close = true
begins_anew (Section params) = true
begins_anew (Pes params) = true
begins_anew Start = true
begins_anew (Size size) = true
begins_anew _ = false

abbrev pub begins : ClientRequest → Bool
begins (Own want) = begins_anew want
begins _ = false

-- the bytes after a reply to this request
abbrev pub bytes_after : ClientRequest → Response → List ℕ → List ℕ
bytes_after want (Data bytes) read = read ++ bytes
bytes_after want (Overflow from to item need room) read = []
bytes_after want (Done from to tap) read = if begins want then [] else read
bytes_after want _ read = read

-- The bytes that the client has read on a node behind the last overflow there, and behind the last accepted call with
-- which they begin anew.
abbrev pub bytes_read : (node : ℕ) → List Exchange → List ℕ
bytes_read node [] = []
bytes_read node (x ∷ older) =
    if nat_eq x.event.node node then bytes_after x.event.want x.reply (bytes_read node older) else bytes_read node older

-- ------ the filter on a node

-- the type of a filter whose items are whole packets, read on its own node
abbrev pub type_of : Output → (pes_type : ℕ) → Option ℕ
type_of TsdemuxTap pes_type = Some pes_type
type_of _ pes_type = None

-- what an accepted call sets; any but a set call leaves what was set
abbrev pub set_by_call : Want → Option ℕ → Option ℕ
set_by_call (Section params) set = None
set_by_call (Pes params) set = type_of params.output params.pes_type
set_by_call _ set = set

abbrev pub set_by : ClientRequest → Option ℕ → Option ℕ
set_by (Own want) set = set_by_call want set
set_by _ set = set

-- what is set after a reply to this request
abbrev pub type_after : ClientRequest → Response → Option ℕ → Option ℕ
type_after want (Done from to tap) set = set_by want set
type_after want _ set = set

-- The type of the filter that the client's last accepted set call on a node has set, where its items are whole packets
-- that are read there.
abbrev pub filter_type : (node : ℕ) → List Exchange → Option ℕ
filter_type node [] = None
filter_type node (x ∷ older) =
    if nat_eq x.event.node node then type_after x.event.want x.reply (filter_type node older) else filter_type node older

-- whether a filter of this type is that of a counter: of counter 0 to 3 it is DMX_PES_PCR0, which is 4, to
-- DMX_PES_PCR3, which is 19
abbrev pub is_counter : (num : ℕ) → Option ℕ → Bool
is_counter num None = false
is_counter num (Some pes_type) = nat_le num 3 && (pes_type == 4 + 5 * num)

-- The system time counter of this number on a node: the clock of the bytes that were read there, where the filter is
-- that of the counter.
abbrev pub stc : (node num : ℕ) → List Exchange → Option ℕ
stc node num xs = if is_counter num (filter_type node xs) then clock_of (bytes_read node xs) else None
