-- What a capture keeps of its filter, and how its ledger goes on: it begins, items arrive in
-- it, it expires, it is read, it is stopped.
use Rattle.std.specs.Prelude.{ℕ, ◌+◌, ◌-◌, Bool, true, false, not, ◌&&◌, ◌||◌, nat_eq, nat_lt, nat_le, if◌then◌else◌, List, [], ◌∷◌, ◌++◌, length, drop, Option, Some, None, is_some}
use Rattle.node_buffer.specs.Imports.{Data, Ledger, Misfit, Overflow, Params, ReadTerms, Response, Section, State, TimedOut, expired_of, is_oneshot as once_by, is_section, keeps, over_at_edge, response_of_read, section_length, timeout_of}
use Rattle.dmx_calls.specs.declared.node.State.TheVariants.{Set, Go, Done, TimedOut as Expired}
use Rattle.node_buffer.specs.declared.filter.Terms.{Terms}

-- ------ the filter

-- it is one of sections, with DMX_ONESHOT
abbrev pub is_oneshot : Params → Bool
is_oneshot (Section p) = once_by p
is_oneshot _ = false

-- what a capture keeps of it
abbrev pub terms_of : Params → Terms
terms_of set = record {
  by_section = is_section set;
  is_oneshot = is_oneshot set;
  timeout = timeout_of set;
  keeps = keeps set;
}

-- ------ the ledger

-- one that begins at this moment
abbrev pub begun : (now : ℕ) → Ledger
begun now = record {
  started = now;
  is_stopped = false;
  expired = None;
  is_told = false;
  count = 0;
  total = 0;
  answered = 0;
  over = None;
  unread = [];
  rest = 0;
}

-- what is left of the section at the front, where this item arrives: on a section
-- filter it is the front where nothing is unread
abbrev pub rest_with : (by_section : Bool) → (rest : ℕ) → List ℕ → ℕ
rest_with by_section rest item = if by_section && nat_eq rest 0 then length item else rest

-- an item arrives and is lost behind one that didn't fit
abbrev pub with_lost : Ledger → List ℕ → Ledger
with_lost l item = record l { count = l.count + 1; total = l.total + length item }

-- an item arrives and doesn't fit: with KEEP what is unread stays
abbrev pub with_misfit : (keeps : Bool) → (room : ℕ) → Ledger → List ℕ → Ledger
with_misfit keeps room l item =
    record l {
      count = l.count + 1;
      total = l.total + length item;
      over = Some (record { item = l.count; place = l.total; need = length item; room = room });
      unread = if keeps then l.unread else [];
      rest = if keeps then l.rest else 0;
    }

-- an item arrives and is kept
abbrev pub with_kept : (by_section : Bool) → Ledger → List ℕ → Ledger
with_kept by_section l item =
    record l {
      count = l.count + 1;
      total = l.total + length item;
      unread = l.unread ++ item;
      rest = rest_with by_section l.rest item;
    }

-- an item arrives: behind one that didn't fit it is lost, and else it is kept where it isn't longer than the room
abbrev pub with_item_by : Option Misfit → Terms → (capacity : ℕ) → Ledger → List ℕ → Ledger
with_item_by (Some misfit) terms capacity l item = with_lost l item
with_item_by None terms capacity l item =
    if nat_lt (capacity - length l.unread) (length item)
    then with_misfit terms.keeps (capacity - length l.unread) l item
    else with_kept terms.by_section l item

abbrev pub with_item : Terms → (capacity : ℕ) → Ledger → List ℕ → Ledger
with_item terms capacity l item = with_item_by l.over terms capacity l item

-- these items arrive, one after another
abbrev pub with_items : Terms → (capacity : ℕ) → Ledger → List (List ℕ) → Ledger
with_items terms capacity l [] = l
with_items terms capacity l (item ∷ items) = with_items terms capacity (with_item terms capacity l item) items

-- an entry of this moment: a filter with a timeout expires where it is due, still runs, and has no item
abbrev pub is_due : (timeout now : ℕ) → Ledger → Bool
is_due timeout now l = not (nat_eq timeout 0) && (nat_eq l.count 0 && nat_le (l.started + timeout) now)

abbrev pub expiring : (timeout now : ℕ) → Ledger → Ledger
expiring timeout now l =
    if l.is_stopped || (is_some l.expired || not (is_due timeout now l)) then l else record l { expired = Some now }

-- the state of a node with a filter
abbrev pub state_by : Terms → Option Ledger → State
state_by terms None = Set
state_by terms (Some l) =
    if l.is_stopped then Set
    else (if is_some l.expired then Expired
    else (if terms.is_oneshot && nat_lt 0 l.count then Done
    else Go))

-- the pending overflow, if nothing before it is unread
abbrev pub over_in : Option Ledger → Option Misfit
over_in None = None
over_in (Some l) = over_at_edge l

-- what a Read answers, once the entry may have expired the filter
abbrev pub read_terms_of : (ended : Bool) → Terms → ReadTerms
read_terms_of ended terms =
    record { has_ended = ended; by_section = terms.by_section; timeout = terms.timeout }

abbrev pub read_by : (ended : Bool) → Terms → Option Ledger → (count : ℕ) → Response
read_by ended terms ledger count = response_of_read (read_terms_of ended terms) ledger (expired_of ledger) count

-- how long the section at the front of these bytes is, by its section_length; 0 where there are no bytes
abbrev pub front_length : List ℕ → ℕ
front_length [] = 0
front_length (byte ∷ bytes) = 3 + section_length (byte ∷ bytes)

-- what is left of the section at the front once so many bytes are read, none of them behind it
abbrev pub rest_behind : (by_section : Bool) → (read : ℕ) → Ledger → ℕ
rest_behind by_section read l =
    if by_section then (if nat_lt read l.rest then l.rest - read else front_length (drop read l.unread)) else l.rest

-- a Read was answered so: Data moves the place on by its bytes, Overflow to the end; TimedOut tells the expiry
abbrev pub with_response : (by_section : Bool) → Response → Ledger → Ledger
with_response by_section (Data bytes) l =
    record l {
      answered = length bytes + l.answered;
      unread = drop (length bytes) l.unread;
      rest = rest_behind by_section (length bytes) l;
    }
with_response by_section (Overflow from to item need room) l =
    record l { answered = l.total; unread = []; over = None; rest = 0 }
with_response by_section (TimedOut started now timeout) l = record l { is_told = true }
with_response by_section _ l = l

-- a Stop came
abbrev pub with_stop : Ledger → Ledger
with_stop l = record l { is_stopped = true }
