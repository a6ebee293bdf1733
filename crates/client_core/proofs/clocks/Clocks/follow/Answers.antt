use Rattle.client_core.proofs.Imports.{rules, ◌≡◌, ℕ, List, subst, sym, ◌∙◌, get_or_default, slice_index_or, response_of, HasFollowed, bytes_after, type_after, NodeClock, uncalled, HaveFollowed}
use Rattle.client_core.proofs.Following.{followed_more}
use Rattle.client_core.proofs.clocks.Clocks.follow.Goals as goal

pub returns-then-node-len-clause-followed : goal.returns-then-node-len-clause-followed
returns-then-node-len-clause-followed c xs have =
    let r = response_of c.args.reply.now in
    let want = c.args.event.now.want in
    let was : c.index_mut.result.now ≡ slice_index_or c.self.inside.nodes.items c.args.event.now.node uncalled =
    c.index_mut.ensures.value ∙ get_or_default c.self.inside.nodes.items c.args.event.now.node c.index_mut.result.now uncalled (search rules) in
    followed_more xs (record { event = c.args.event.now; reply = r }) c.self.inside.nodes.items c.follow.new.self (search rules)
    (subst (λ (k : NodeClock). (bytes : List ℕ) → HasFollowed bytes k.clock → HasFollowed (bytes_after want r bytes) c.follow.new.self.clock) was c.follow.ensures.followed)
    (subst (λ (k : NodeClock). c.follow.new.self.filter_type ≡ type_after want r k.filter_type) was c.follow.ensures.set) (subst (HaveFollowed xs) (sym c.self.view_is) have)
