use Rattle.client_core.proofs.Imports.{ap, sym, ◌∙◌, response_of, after}
use Rattle.client_core.proofs.task.after.Goals as goal

pub returns-in-Call : goal.returns-in-Call
returns-in-Call c = c.after_call.ensures c.in-Call.want ∙ sym (ap (λ task. after task (response_of c.args.reply.now)) c.in-Call.is)

pub returns-in-Write : goal.returns-in-Write
returns-in-Write c = c.after_poll.ensures c.in-Write.node ∙ sym (ap (λ task. after task (response_of c.args.reply.now)) c.in-Write.is)

pub returns-in-Play : goal.returns-in-Play
returns-in-Play c = c.after_pass.ensures (response_of c.args.reply.now) ∙ sym (ap (λ task. after task (response_of c.args.reply.now)) c.in-Play.is)
