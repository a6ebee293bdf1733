-- How many packets of a batch the dvr node looks at, worked out by hand: 64 packets, three of which have PID 256.
use Rattle.std.specs.Prelude.{ℕ, ◌+◌, ◌/◌, ◌%◌, ◌≡◌, List, [], ◌∷◌, ◌++◌, Option, None, replicate}
use Rattle.dvr_core.specs.Imports.{DEMUX_NODES, Frontend, Pass, Read, Tap}
use Rattle.dvr_core.specs.Tapped.{attached}
use Rattle.dvr_core.specs.Looks.{named_packets}

-- a packet with 184 equal payload bytes
abbrev pub packet : (pid counter byte : ℕ) → List ℕ
packet pid counter byte = 0x47 ∷ (pid / 256) ∷ (pid % 256) ∷ (0x10 + counter) ∷ replicate 184 byte

-- PID 256 in the places 0, 31 and 63, and PID 17 in all others
abbrev pub three_of_64 : List (List ℕ)
three_of_64 =
    packet 256 0 0 ∷ (replicate 30 (packet 17 0 0) ++ packet 256 1 0
    ∷ (replicate 31 (packet 17 0 0) ++ packet 256 2 0 ∷ []))

abbrev pub no_taps : List (Option Tap)
no_taps = replicate DEMUX_NODES None

-- a tap on PID 256: three
abbrev pub ThreeOf64 : Type 0
ThreeOf64 = named_packets (attached 1 0 (256 ∷ []) no_taps) (Pass Frontend 0 three_of_64 0) ≡ 3

-- two taps on it, one of them of the last node: each of the three once
abbrev pub EachOnce : Type 0
EachOnce = named_packets (attached 2 31 (256 ∷ []) (attached 1 0 (256 ∷ []) no_taps)) (Pass Frontend 0 three_of_64 0)
    ≡ 3

-- a tap on PID 256 and one on PID 8192, which names every packet: all
abbrev pub All64 : Type 0
All64 = named_packets (attached 1 1 (8192 ∷ []) (attached 1 0 (256 ∷ []) no_taps)) (Pass Frontend 0 three_of_64 0) ≡ 64

-- no tap, and a call that brings no packet: none
abbrev pub NoLook : Type 0
NoLook = (named_packets no_taps (Pass Frontend 0 three_of_64 0) ≡ 0)
    × (named_packets (attached 1 1 (8192 ∷ []) no_taps) (Read 0 188) ≡ 0)
