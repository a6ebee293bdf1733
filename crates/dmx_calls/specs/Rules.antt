-- In what the two kinds of node differ. Ledger, responses and legal histories are the same for both, over these rules.
use Rattle.std.specs.Prelude.{ℕ, Bool, true, false, ◌||◌, List, [], Option, None, option_map, nat_lt, if◌then◌else◌}
use Rattle.std.specs.List.{list_any}
use Rattle.dmx_calls.specs.declared.limits.TheConstants.{DEMUX_NODES}
use Rattle.dmx_calls.specs.declared.node.NodeKind.{NodeKind}
use Rattle.dmx_calls.specs.declared.node.NodeKind.TheVariants.{Demux, Dvr}
use Rattle.dmx_calls.specs.Response.{TimedOut}
use Rattle.dmx_calls.specs.History.{Event, History, Since, after_of}
use Rattle.dmx_calls.specs.Tenure.{closes, size, dvr_size, sets, Params, Empty, params, pids}
use Rattle.dmx_calls.specs.Capture.{begins, resizes, capture, started, is_stopped, dvr_begins, dvr_capture}
use Rattle.dmx_calls.specs.Items.{expiry, items}
use Rattle.dmx_calls.specs.Taps.{dvr_items}

pub record Rules : Type 0 where
  pub kind : NodeKind
  pub size : History → ℕ
  pub params : History → Params
  pub pids : History → List ℕ
  pub capture : History → Option Since
  -- an accepted entry after which the capture is none or another
  pub ends_capture : Event → Bool
  pub items : History → List (List ℕ)
  -- the moment of the capture's start, whether a Stop is in it, the moment at which it
  -- expired, whether a TimedOut response is in it
  pub started : History → ℕ
  pub is_stopped : History → Bool
  pub expired : History → Option ℕ
  pub is_told : History → Bool

abbrev pub tells_timeout : Event → Bool
tells_timeout ev = elim (ev.entry.response) [ TimedOut started now timeout ↦ true | _ ↦ false ]

-- the expiry was told
unfoldable pub is_told : History → Bool
is_told h = list_any tells_timeout (after_of (capture h))

unfoldable pub expired : History → Option ℕ
expired h = option_map (λ x. x.now) (expiry h)

abbrev pub demux : Rules
demux = record {
  kind = Demux;
  size = size;
  params = params;
  pids = pids;
  capture = capture;
  ends_capture = λ ev. closes ev || (sets ev || (begins ev || resizes ev));
  items = items;
  started = started;
  is_stopped = is_stopped;
  expired = expired;
  is_told = is_told;
}

-- the dvr node has no filter, so nothing in it is set, started, stopped or expired
abbrev pub dvr : Rules
dvr = record {
  kind = Dvr;
  size = dvr_size;
  params = λ h. Empty;
  pids = λ h. [];
  capture = dvr_capture;
  ends_capture = λ ev. closes ev || dvr_begins ev;
  items = dvr_items;
  started = λ h. 0;
  is_stopped = λ h. false;
  expired = λ h. None;
  is_told = λ h. false;
}

-- the rules of the node of this number: 0 to 31 are demux nodes, and 32 is the dvr node
unfoldable pub rules_at : (node : ℕ) → Rules
rules_at node = if nat_lt node DEMUX_NODES then demux else dvr
