use Rattle.report_check.proofs.Imports.{◌≡◌, ◌+◌, ◌-◌, ◌∙◌, ◌++◌, ◌∷◌, [], List, Bor, length, map, sym, ap, subst, arith, DEMUX_NODES, ToldEntry, complete, told_nodes, dealt}
use Rattle.std.proofs.lemmas.List.{length-append}
use Rattle.report_check.proofs.Dealt.{told_of, dealt_more, dealt_all}
use Rattle.report_check.proofs.client.dealt.Goals as goal

pub nodes-preserved : goal.nodes-preserved
nodes-preserved c =
    let items : c.push.new.self.items ≡ c.nodes.dealt.items ++ c.entries_of.result.0 ∷ [] = c.in_ok-push.ensures.items in
    record {
      so_far = subst (λ (hs : List (Bor (List ToldEntry))). map told_of hs ++ complete (DEMUX_NODES + 1 - (c.nodes.node + 1)) (c.nodes.node + 1) [] (told_nodes c.entries_of.result.1.now) ≡ dealt (told_nodes c.args.nodes.now)) (sym items)
          (dealt_more (DEMUX_NODES + 1) c.nodes.node c.nodes.dealt.items c.entries_of.result.0 c.nodes.rest.now c.entries_of.result.1.now (dealt (told_nodes c.args.nodes.now)) c.nodes-test.true c.entries_of.ensures c.nodes.invariant.so_far);
      long = ap length items ∙ (length-append c.nodes.dealt.items (c.entries_of.result.0 ∷ []) ∙ ap (λ n. n + 1) c.nodes.invariant.long);
    }

pub returns-clause-dealt : goal.returns-clause-dealt
returns-clause-dealt c = dealt_all (DEMUX_NODES + 1) c.nodes.node c.nodes.dealt.items c.nodes.rest.now (dealt (told_nodes c.args.nodes.now)) (omega arith) c.nodes.invariant.so_far
