-- A told node is played on the machine of its kind.
use Rattle.report_check.proofs.Imports.{◌<◌, sym, subst, ℕ, reverse, DEMUX_NODES, IsLegalFor, Rules, rules_at, demux_rules, dvr_rules, PlaysBy, DemuxValue, DemuxStands, DvrValue, DvrStands}

pub demux_plays : (node : ℕ) → node < DEMUX_NODES → PlaysBy {M = DemuxValue} (rules_at node) (λ m h. DemuxStands m (reverse h))
demux_plays node low m h stands = subst (λ (r : Rules). IsLegalFor r (reverse h)) (sym (demux_rules node low)) stands.legal

pub dvr_plays : PlaysBy {M = DvrValue} (rules_at DEMUX_NODES) (λ m h. DvrStands m (reverse h))
dvr_plays m h stands = subst (λ (r : Rules). IsLegalFor r (reverse h)) (sym dvr_rules) stands.legal
