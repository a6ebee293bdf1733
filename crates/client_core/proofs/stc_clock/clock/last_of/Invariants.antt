use Rattle.client_core.proofs.Imports.{◌≡◌, drop, option_or, last_pcr}
use Rattle.client_core.proofs.stc_clock.clock.last_of.Given as goal

-- the packets that are left give the same over what was found so far as all packets over what stood before
abbrev pub invariant-packets : goal.invariant-packets
invariant-packets l =
    option_or (last_pcr (drop l.packet-index l.packet-items)) l.last ≡ option_or (last_pcr l.packet-items) l.initial.last
