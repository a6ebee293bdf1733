-- What a node's history offers to its selector.
use Rattle.std.specs.Prelude.{ℕ, ◌≡◌, Bool, true, List, [], ◌∷◌, ◌++◌, filter, Some}
use Rattle.node_core.specs.Imports.{CHECK_CRC, Choice, Decoder, Empty, Event, Frontend, History, Input, Nothing, Output, Packets, Params, Payload, Pes, Section, Sections, Selecting, Selects, Since, Tap, TsTap, TsdemuxTap, Whole, capture, has_flag, is_named, is_oneshot, items, offered, packets_in, params, pids}

-- what a filter of this output selects for the demux node
abbrev pub choice_by : Output → Choice
choice_by Tap = Packets Payload
choice_by TsdemuxTap = Packets Whole
choice_by TsTap = Nothing
choice_by Decoder = Nothing

-- what a filter selects for the demux node
abbrev pub choice_of : Params → Choice
choice_of Empty = Nothing
choice_of (Section p) = Sections p.pid p.filter (has_flag CHECK_CRC p.flags) (is_oneshot p)
choice_of (Pes p) = choice_by p.output

-- where the filter's packets come from
abbrev pub input_of : Params → Input
input_of Empty = Frontend
input_of (Section p) = Frontend
input_of (Pes p) = p.input

-- What the filter takes in of its packets: of a filter of packets those that its PIDs name. A section filter looks for its
-- PID itself, so those of other PIDs make no difference.
abbrev pub is_offered : Params → List ℕ → List ℕ → Bool
is_offered (Pes p) names = is_named names
is_offered _ names = λ packet. true

-- what these events offer, the oldest first, each packet by the PIDs of its moment
abbrev pub offers : Params → List Event → List (List ℕ)
offers set [] = []
offers set (ev ∷ evs) = offers set evs ++ filter (is_offered set (pids ev.before)) (packets_in (input_of set) ev)

-- While there is a capture, the selector was offered its packets, and has given its items.
abbrev pub HasSelected : History → Selecting → Type 0
HasSelected h s = (c : Since) → capture h ≡ Some c → Selects (offers (params h) (offered h)) (items h) s
