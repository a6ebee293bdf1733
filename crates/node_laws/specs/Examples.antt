-- A history worked out by hand, of a demux node that is opened and started, and what the definitions say of it before a Read
-- and behind it; docs/DEFINITIONS.md leads through it. It is a session of examples/rows too (item-larger-than-the-ring), as all
-- other examples are. And what no session can say: calls of taps on a demux node.
use Rattle.std.specs.Prelude.{ℕ, ◌≡◌, ◌+◌, List, [], ◌∷◌, length, replicate, Some, None, option_map, false}
use Rattle.node_laws.specs.Imports.{Again, Attach, Detach, Done, Ebadf, Einval, Entry, Frontend, History, Invocation, Keep, Open, Overflow, Pass, Passed, Read, Refused, SetPes, SetSize, Start, TsdemuxTap, answer, answered, capture, demux, entry_of, items, over, total}

-- a packet of PID 256 with this counter, whose payload is zeros
abbrev pub packet : (counter : ℕ) → List ℕ
packet counter = 0x47 ∷ 0x01 ∷ 0x00 ∷ (0x10 + counter) ∷ replicate 184 0

-- it passes
abbrev pub fed : (counter : ℕ) → Entry
fed counter = entry_of 0 (Pass Frontend 0 (packet counter ∷ []) 0) Passed

-- a call of client 0, which is caller 1
abbrev pub done : Invocation → Entry
done call = entry_of 1 call (Done 0 0 Keep)

-- the newest entry stands first
abbrev pub AtTheRead : History
AtTheRead =
    fed 1
    ∷ fed 0
    ∷ done (Start 0)
    ∷ done (SetPes (record { pid = 256; input = Frontend; output = TsdemuxTap; pes_type = 20; flags = 0 }) 0)
    ∷ done (SetSize 100)
    ∷ done Open
    ∷ []

abbrev pub SaidAtTheRead : Type 0
SaidAtTheRead =
    (option_map (λ s. s.by.entry) (capture AtTheRead) ≡ Some (done (Start 0)))
    × (option_map (λ s. length s.after) (capture AtTheRead) ≡ Some 2)
    × (items AtTheRead ≡ packet 0 ∷ packet 1 ∷ [])
    × (total demux AtTheRead ≡ 376)
    × (answered demux AtTheRead ≡ 0)
    × (over demux AtTheRead ≡ Some (record { item = 0; place = 0; need = 188; room = 99 }))
    × (answer demux AtTheRead 1 (Read 0 188) ≡ Overflow 0 376 0 188 99)

abbrev pub BehindTheRead : History
BehindTheRead = entry_of 1 (Read 0 188) (Overflow 0 376 0 188 99) ∷ AtTheRead

abbrev pub SaidBehindTheRead : Type 0
SaidBehindTheRead =
    (answered demux BehindTheRead ≡ 376)
    × (over demux BehindTheRead ≡ None)
    × (answer demux BehindTheRead 1 (Read 0 188) ≡ Again false)

-- by its owner, by another caller, and on a free node
abbrev pub TapsAreRefused : Type 0
TapsAreRefused =
    (answer demux AtTheRead 1 (Attach 0 (256 ∷ [])) ≡ Refused Einval)
    × (answer demux AtTheRead 1 (Detach 0) ≡ Refused Einval)
    × (answer demux AtTheRead 2 (Detach 0) ≡ Refused Ebadf)
    × (answer demux [] 1 (Attach 0 (256 ∷ [])) ≡ Refused Ebadf)
