-- A run so far that is over is a run, and its histories are accounted.
use Rattle.script_run.proofs.Imports.{refl, ℕ, Bool, true, false, nat_lt, if◌then◌else◌, DEMUX_NODES, IsAccounted, History, IsLegalFor, filled, demux, dvr, demux_accounted, dvr_accounted, sources, RunsEnd, RunsAreAccounted, rules_at}

pub runs_end : RunsEnd
runs_end payers script most stream hs s over = (
  record {
    nodes = s.nodes;
    places = s.places;
    legal = s.legal;
    fed = record {
      batches = s.fed.batches;
      each_size = s.fed.each_size;
      whole = over.whole;
      on_each = over.ended;
    };
    clients_done = λ c is. record {
      made = (s.clients c is).made;
      calls = (s.clients c is).calls;
      ends = over.through c is;
    };
  },
  refl,
  λ c is. refl,
)

-- a legal history of a node is accounted
pub accounted_at : (node : ℕ) (h : History) → IsLegalFor (rules_at node) h → IsAccounted (rules_at node) h
unfolding rules_at
accounted_at node h legal = go (nat_lt node DEMUX_NODES) legal where
  go : (b : Bool) → IsLegalFor (if b then demux else dvr) h → IsAccounted (if b then demux else dvr) h
  go true l = demux_accounted h l
  go false l = dvr_accounted h l

pub are_accounted : RunsAreAccounted
are_accounted script most stream hs run node h at = accounted_at node (filled (sources script stream) h) (run.legal node h at)
