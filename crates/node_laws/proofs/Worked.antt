-- The worked history, computed.
use Rattle.dmx_calls.specs.Answer.{answer}
use Rattle.dmx_calls.specs.Capture.{capture, dvr_capture, is_stopped, live, started}
use Rattle.dmx_calls.specs.Facts.{facts}
use Rattle.dmx_calls.specs.Items.{expiry, items, offered, section_items, selects}
use Rattle.dmx_calls.specs.Ledger.{answered, edge, joined, over, total}
use Rattle.dmx_calls.specs.Rules.{expired, is_told}
use Rattle.dmx_calls.specs.Tenure.{dvr_size, has_ended, owner, params, pids, setting, size, size_or, tenure}
use Rattle.node_laws.specs.Examples.{SaidAtTheRead, SaidBehindTheRead, TapsAreRefused}
use Rattle.std.proofs.Common.{refl}

pub worked : SaidAtTheRead × SaidBehindTheRead × TapsAreRefused
unfolding tenure owner size_or size dvr_size setting params pids has_ended capture started is_stopped live dvr_capture selects section_items expiry offered items is_told expired joined total answered over edge facts answer
worked = ((refl, refl, refl, refl, refl, refl, refl), (refl, refl, refl), (refl, refl, refl, refl))
