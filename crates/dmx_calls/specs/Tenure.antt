-- What was set: who owns a node, with what size, filter and PIDs. Only accepted entries count.
-- Source: the Linux media API, chapter Digital TV demux (open, close, DMX_SET_BUFFER_SIZE, DMX_SET_FILTER,
-- DMX_SET_PES_FILTER, DMX_ADD_PID, DMX_REMOVE_PID); one owner a node is this project's rule.
use Rattle.std.specs.Prelude.{ℕ, Bool, true, false, List, [], ◌∷◌, Option, Some, None, option_map, unwrap_or}
use Rattle.std.specs.List.{list_any}
use Rattle.pid_set.specs.Pids.{with_pid, without_pid}
use Rattle.dmx_calls.specs.declared.params.SectionParams.{SectionParams}
use Rattle.dmx_calls.specs.declared.params.PesParams.{PesParams}
use Rattle.dmx_calls.specs.declared.limits.TheConstants.{DEMUX_SIZE, DVR_SIZE}
use Rattle.dmx_calls.specs.Invocation.{Open, Close, SetFilter, SetPes, AddPid, RemovePid, SetSize, End}
use Rattle.dmx_calls.specs.History.{Event, History, accepted, Since, since, after_of, newest}

abbrev pub opens : Event → Bool
opens ev = elim (ev.entry.invocation) [ Open ↦ true | _ ↦ false ]

abbrev pub closes : Event → Bool
closes ev = elim (ev.entry.invocation) [ Close ↦ true | _ ↦ false ]

-- A node's tenure: the last accepted Open and the accepted entries after it. There is none where a Close follows it.
unfoldable pub tenure : History → Option Since
tenure h = since opens closes (accepted h)

-- the caller of that Open
unfoldable pub owner : History → Option ℕ
owner h = option_map (λ t. t.by.entry.who) (tenure h)

-- the size that a SetSize names
abbrev pub size_in : Event → Option ℕ
size_in ev = elim (ev.entry.invocation) [ SetSize size ↦ Some size | _ ↦ None ]

-- the size of the last SetSize of the tenure, or else the default
unfoldable pub size_or : ℕ → History → ℕ
size_or default h = unwrap_or (newest size_in (after_of (tenure h))) default

unfoldable pub size : History → ℕ
size h = size_or DEMUX_SIZE h

unfoldable pub dvr_size : History → ℕ
dvr_size h = size_or DVR_SIZE h

-- what a set call asked for
pub data Params : Type 0 where
  Empty : Params
  Section : SectionParams → Params
  Pes : PesParams → Params

abbrev pub params_in : Event → Params
params_in ev = elim (ev.entry.invocation) [ SetFilter p now ↦ Section p | SetPes p now ↦ Pes p | _ ↦ Empty ]

abbrev pub sets : Event → Bool
sets ev = elim (ev.entry.invocation) [ SetFilter p now ↦ true | SetPes p now ↦ true | _ ↦ false ]

-- the last set call of the tenure, and what came after it
unfoldable pub setting : History → Option Since
setting h = since sets (λ ev. false) (after_of (tenure h))

-- that of the last set call
abbrev pub params_of : Option Since → Params
params_of None = Empty
params_of (Some s) = params_in s.by

unfoldable pub params : History → Params
params h = params_of (setting h)

abbrev pub first_pids : Params → List ℕ
first_pids Empty = []
first_pids (Section p) = p.pid ∷ []
first_pids (Pes p) = p.pid ∷ []

abbrev pub pids_with : Event → List ℕ → List ℕ
pids_with ev pids =
    elim (ev.entry.invocation) [ AddPid pid ↦ with_pid pid pids | RemovePid pid ↦ without_pid pid pids | _ ↦ pids ]

-- these PIDs with each AddPid and RemovePid done in order
abbrev pub pids_after : List ℕ → List Event → List ℕ
pids_after pids [] = pids
pids_after pids (ev ∷ evs) = pids_with ev (pids_after pids evs)

-- the PID of the last set call, with each later AddPid and RemovePid done in order
unfoldable pub pids : History → List ℕ
pids h = pids_after (first_pids (params h)) (after_of (setting h))

abbrev pub is_end : Event → Bool
is_end ev = elim (ev.entry.invocation) [ End ↦ true | _ ↦ false ]

-- the stream has ended: an accepted End is in the history, in this tenure or before
unfoldable pub has_ended : History → Bool
has_ended h = list_any is_end (accepted h)
