-- The kind of a node, by its number, and what its machine stands for.
use Rattle.adapter.proofs.Imports.{ℕ, ◌<◌, List, subst, sym, reverse, DEMUX_NODES, Entry, Rules, IsLegalFor, demux_rules, dvr_rules, CoreValue, StandsFor, DvrValue, DvrStandsFor, Boxed, IsLegalAt}

-- some core, in its box, stands for the history, which has the oldest entry first
abbrev pub DemuxStood : List Entry → Type 0
DemuxStood h = (m : Boxed CoreValue) × StandsFor m.machine.value (reverse h)

abbrev pub DvrStood : List Entry → Type 0
DvrStood h = (m : Boxed DvrValue) × DvrStandsFor m.machine.value (reverse h)

pub demux_legal : (node : ℕ) → node < DEMUX_NODES → (h : List Entry) → DemuxStood h → IsLegalAt node h
demux_legal node below h s = subst (λ (r : Rules). IsLegalFor r (reverse h)) (sym (demux_rules node below)) s.1.legal

pub dvr_legal : (h : List Entry) → DvrStood h → IsLegalAt DEMUX_NODES h
dvr_legal h s = subst (λ (r : Rules). IsLegalFor r (reverse h)) (sym dvr_rules) s.1.legal
