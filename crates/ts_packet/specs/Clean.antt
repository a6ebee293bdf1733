-- The clean packets of a PID: those that a section or PES parser reads. ISO/IEC 13818-1 lets a packet be sent twice
-- (continuity_counter in 2.4.3.3); what counts as such a duplicate here is this project's rule.
use Rattle.std.specs.Prelude.{ℕ, ◌+◌, ◌%◌, ◌==◌, Bool, ◌&&◌, not, List, [], ◌∷◌, drop, filter, nat_eq, Option, Some, None, if◌then◌else◌}
use Rattle.std.specs.Cmp.Lexicographic.{pointwise}
use Rattle.ts_packet.specs.Fields.{pid_of, error_bit, has_payload, payload_start, counter_of, discontinuity}

-- the payload of a packet that has one
abbrev pub carried : List ℕ → List ℕ
carried p = drop (payload_start p) p

-- the packet is of the PID, has a payload, and has error bit 0; scrambling bits change nothing
abbrev pub is_usable : ℕ → List ℕ → Bool
is_usable pid p = (pid_of p == pid) && (has_payload p && not (error_bit p))

-- p has the same counter and the same payload as the packet before it, whatever its other bits
abbrev pub repeats : List ℕ → List ℕ → Bool
repeats before p = (counter_of before == counter_of p) && pointwise nat_eq (carried before) (carried p)

-- The packets without each that repeats its neighbour before it. The neighbour of the first is `before`, if there is
-- one. Of a row of packets each of which repeats the one before, the first is left.
unfoldable pub without_repeats_after : Option (List ℕ) → List (List ℕ) → List (List ℕ)
without_repeats_after before [] = []
without_repeats_after None (p ∷ ps) = p ∷ without_repeats_after (Some p) ps
without_repeats_after (Some before) (p ∷ ps) =
    if repeats before p then without_repeats_after (Some p) ps else p ∷ without_repeats_after (Some p) ps

-- the usable packets of the PID without their duplicates
unfoldable pub clean : List (List ℕ) → ℕ → List (List ℕ)
clean packets pid = without_repeats_after None (filter (is_usable pid) packets)

-- p goes on where the clean packet before it ends: its continuity_counter is one more, modulo 16, and its
-- discontinuity_indicator is 0 (2.4.3.3, 2.4.3.5)
abbrev pub joins : List ℕ → List ℕ → Bool
joins before p = (counter_of p == (counter_of before + 1) % 16) && not (discontinuity p)
