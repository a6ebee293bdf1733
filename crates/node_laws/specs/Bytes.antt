-- How many bytes a node answers, beside the packets that its passes bring.
use Rattle.std.specs.Prelude.{ℕ, ◌≡◌, ◌+◌, ◌*◌, ◌<◌, ◌≤◌, Some, [], ◌∷◌, length}
use Rattle.node_laws.specs.Imports.{All, History, IsLegalFor, IsPacket, Misfit, Rules, answered, answered_in, brought_by, event, over, total}

-- the bytes that the responses of a history give or name as lost
abbrev pub bytes_answered : History → ℕ
bytes_answered [] = 0
bytes_answered (e ∷ h) = answered_in (event e h) + bytes_answered h

-- A node answers no more bytes than its passes bring.
abbrev pub AnswersFitThePackets : Rules → Type 0
AnswersFitThePackets node =
    (h : History) → IsLegalFor node h → All IsPacket (brought_by h) → bytes_answered h ≤ 188 * length (brought_by h)

-- An Overflow names at least one byte: while one is pending, not all bytes are answered.
abbrev pub OverflowNamesAByte : Rules → Type 0
OverflowNamesAByte node =
    (h : History) (x : Misfit) → IsLegalFor node h → over node h ≡ Some x → answered node h < total node h
