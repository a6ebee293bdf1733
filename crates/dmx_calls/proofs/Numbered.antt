-- The rules of a node, by its number.
use Rattle.dmx_calls.proofs.Imports.{◌≡◌, ℕ, ◌<◌, ap, refl, if◌then◌else◌, lt-ltb, DEMUX_NODES, demux, dvr, rules_at}

pub demux_rules : (node : ℕ) → node < DEMUX_NODES → rules_at node ≡ demux
unfolding rules_at
demux_rules node below = ap (λ b. if b then demux else dvr) (lt-ltb node DEMUX_NODES below)

pub dvr_rules : rules_at DEMUX_NODES ≡ dvr
unfolding rules_at
dvr_rules = refl
