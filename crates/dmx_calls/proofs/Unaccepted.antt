-- An entry that isn't accepted changes nothing: what was set, the capture, its items and its ledger are read from the accepted
-- entries.
use Rattle.dmx_calls.proofs.Imports.{◌≡◌, refl, false, ◌∷◌, Option, Some, None, is_accepted, Entry, History, Since, demux, dvr, ledger_of, UnacceptedChangesNothing, tenure, owner, size_or, size, dvr_size, setting, params, pids, has_ended, capture, dvr_capture, started, is_stopped, live, facts, joined, total, answered, over, edge, expiry, offered, items, is_told, expired, tap_of, dvr_items}

-- the ledger, where there is a capture
demux_ledger : (e : Entry) (h : History) → is_accepted e.response ≡ false → (o : Option Since) → ledger_of demux (e ∷ h) o ≡ ledger_of demux h o
unfolding tenure setting params capture started is_stopped live expiry offered items is_told expired joined total answered over edge
demux_ledger e h nay None = refl
demux_ledger e h nay (Some s) = rw nay refl

pub demux_same : UnacceptedChangesNothing demux
unfolding tenure owner size_or size setting params pids has_ended capture started live expiry offered items joined total answered over edge facts tap_of
demux_same e h nay = record {
  tenure = rw nay refl;
  owner = rw nay refl;
  size = rw nay refl;
  params = rw nay refl;
  pids = rw nay refl;
  has_ended = rw nay refl;
  capture = rw nay refl;
  live = rw nay refl;
  offered = rw nay refl;
  items = rw nay refl;
  joined = rw nay refl;
  answered = rw nay refl;
  over = rw nay refl;
  edge = rw nay refl;
  facts = rw (nay, demux_ledger e h nay (capture h)) refl;
  taps = λ node. rw nay refl;
}

dvr_ledger : (e : Entry) (h : History) → is_accepted e.response ≡ false → (o : Option Since) → ledger_of dvr (e ∷ h) o ≡ ledger_of dvr h o
unfolding tenure dvr_capture dvr_items joined total answered over edge
dvr_ledger e h nay None = refl
dvr_ledger e h nay (Some s) = rw nay refl

pub dvr_same : UnacceptedChangesNothing dvr
unfolding tenure owner size_or dvr_size setting params has_ended capture dvr_capture started live expiry offered dvr_items joined total answered over edge facts tap_of
dvr_same e h nay = record {
  tenure = rw nay refl;
  owner = rw nay refl;
  size = rw nay refl;
  params = refl;
  pids = refl;
  has_ended = rw nay refl;
  capture = rw nay refl;
  live = rw nay refl;
  offered = rw nay refl;
  items = rw nay refl;
  joined = rw nay refl;
  answered = rw nay refl;
  over = rw nay refl;
  edge = rw nay refl;
  facts = rw (nay, dvr_ledger e h nay (dvr_capture h)) refl;
  taps = λ node. rw nay refl;
}
