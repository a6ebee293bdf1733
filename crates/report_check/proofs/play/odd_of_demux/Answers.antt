use Rattle.report_check.proofs.Imports.{map, told_entry, rules_at}
use Rattle.report_check.proofs.Checking.{can_all}
use Rattle.report_check.proofs.Playing.{demux_plays}
use Rattle.report_check.proofs.play.odd_of_demux.Goals as goal

pub first_other_reply-requires-clause-callable : goal.first_other_reply-requires-clause-callable
first_other_reply-requires-clause-callable g c lives within = can_all c.args.packets.now (map (λ p. p.items) c.args.played.now) c.requires.sound.0 (map told_entry c.args.entries.now) c.requires.sound.1

pub returns-in-None : goal.returns-in-None
returns-in-None g c = (
  (rw c.in-None.is at c.in_ok-first_other_reply.ensures.legal) (rules_at c.args.node) (demux_plays c.args.node c.requires.node),
  rw c.in-None.is at c.in_ok-first_other_reply.ensures.found,
)

pub returns : goal.returns
returns g c played = (rw c.in-Some.is at c.in_ok-first_other_reply.ensures.other) (rules_at c.args.node) (demux_plays c.args.node c.requires.node) played.0 played.1
