use Rattle.report_check.proofs.Imports.{◌≡◌, map, outcomes, replies, told_nodes, dealt}
use Rattle.report_check.proofs.Dealt.{told_of, is_done, no_walk, other_outcomes}
use Rattle.report_check.proofs.client.odd_of.Goals as goal

pub returns-then-not-is_walked : goal.returns-then-not-is_walked
returns-then-not-is_walked c =
    no_walk c.args.client c.args.script.now (dealt (told_nodes c.args.nodes.now)) c.args.told.now (map told_of c.in_ok-queues.queues.items) c.in_ok-queues.ensures.dealt
    (c.is_walked.ensures.other c.if-not-is_walked.true c.args.script.now c.in_ok-core.ensures.after)

pub returns-then-not-are_same : goal.returns-then-not-are_same
returns-then-not-are_same c =
    let walked = c.is_walked.ensures.walked c.if-not-is_walked.false c.args.script.now c.in_ok-core.ensures.after in
    let are : c.outcomes.result.now ≡ outcomes c.args.client c.args.script.now (replies walked.made) = c.outcomes.ensures.tied c.args.client c.args.script.now (replies walked.made) walked.after in
    other_outcomes c.args.client c.args.script.now (dealt (told_nodes c.args.nodes.now)) c.args.told.now (map told_of c.in_ok-queues.queues.items) c.in_ok-queues.ensures.dealt
    c.is_walked.new.core c.outcomes.result.now walked are (c.are_same.ensures.differs c.if-not-are_same.true)

pub returns : goal.returns
returns c =
    let walked = c.is_walked.ensures.walked c.if-not-is_walked.false c.args.script.now c.in_ok-core.ensures.after in
    let are : c.outcomes.result.now ≡ outcomes c.args.client c.args.script.now (replies walked.made) = c.outcomes.ensures.tied c.args.client c.args.script.now (replies walked.made) walked.after in
    is_done c.args.client c.args.script.now (dealt (told_nodes c.args.nodes.now)) c.args.told.now (map told_of c.in_ok-queues.queues.items) c.in_ok-queues.ensures.dealt
    c.is_walked.new.core c.outcomes.result.now walked are (c.are_same.ensures.same c.if-not-are_same.false)
