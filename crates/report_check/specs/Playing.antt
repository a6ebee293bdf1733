-- What it means to play a told history on a machine (this project's own).
use Rattle.std.specs.Prelude.{ℕ, ◌≡◌, ◌<◌, ◌≤◌, ◌+◌, ◌^◌, List, [], length, map, reverse, slice_index_or}
use Rattle.report_check.specs.Imports.{Act, All, Answer, Call, Dvr, Entry, Frontend, Input, IsLegalFor, IsPacket, LARGEST_READ, LogEntry, Pass as PassAct, Read as ReadAct, Rules, Sources, filled_entry, told}

-- the packets of which a caller's passes bring some: those of the stream, for the front end, and those that the caller plays, by
-- its number, for the dvr
abbrev pub brought_from : (stream : List (List ℕ)) → (played : List (List (List ℕ))) → Sources
brought_from stream played who Frontend = stream
brought_from stream played who Dvr = slice_index_or played who []

-- so many packets that their numbers fit
abbrev pub AreFewPackets : List (List ℕ) → Type 0
AreFewPackets packets = All IsPacket packets × (length packets < 2 ^ 63)

-- a call that can be made again: a read is no longer than a read may be, and a pass's packets are 1 to 64 of those of its input
abbrev pub IsCallable : (packets : Input → List (List ℕ)) → Act → Type 0
IsCallable packets (ReadAct now count) = count ≤ LARGEST_READ
IsCallable packets (PassAct input batch now) =
    (0 < batch.count) × (batch.count ≤ 64) × (batch.first + batch.count ≤ length (packets input))
IsCallable packets _ = Unit {0}

-- the told entries as those of a machine, the oldest first
abbrev pub played : Sources → List LogEntry → List Entry
played packets entries = map (filled_entry packets) entries

-- the entries of a machine are the calls of a node
abbrev pub IsToldBy : (entry_of : ℕ → Call → Answer → Entry) → Type 0
IsToldBy entry_of = (who : ℕ) (call : Call) (answer : Answer) → entry_of who call answer ≡ told who call answer

-- all histories for which a machine stands, the oldest entry first, are legal by these rules
abbrev pub PlaysBy : {M : Type 0} → (rules : Rules) → (stands : M → List Entry → Type 0) → Type 0
PlaysBy {M} rules stands = (machine : M) (h : List Entry) → stands machine h → IsLegalFor rules (reverse h)
