use Rattle.adapter.proofs.Imports.{◌∙◌, [], List, subst, map, filter, reverse, get_or, arith, IsPermutation, IsNonDecreasingBy, IsPermutation-trans, IsPermutation-reverse, slice_get_within, get_or_from_slice_get, ToldEntry, is_on, all_of, AreByPlace, AreDealt, AreSorted}
use Rattle.adapter.proofs.trace_merge.histories.Goals as goal

by_place : (logs old new : List (List ToldEntry)) → AreDealt logs old → AreSorted old new → AreByPlace logs new
by_place logs old new dealt sorted =
    let many = dealt.long in let long = sorted.long in
    record {
      many = long ∙ many;
      entries = λ node calls at.
          let low = slice_get_within new node calls at in
          let own = get_or_from_slice_get new node calls [] at in
          let l = filter (is_on node) (all_of logs) in
          IsPermutation-trans l (reverse l) calls (IsPermutation-reverse l)
          (subst (λ x. IsPermutation (reverse l) x) own (subst (λ x. IsPermutation x (get_or new node [])) (dealt.each node (omega (arith, low, long))) (sorted.same node (omega (arith, low, long)))));
      in_order = λ node calls at.
          let low = slice_get_within new node calls at in
          subst (λ x. IsNonDecreasingBy (λ (e : ToldEntry). e.place) x) (get_or_from_slice_get new node calls [] at) (sorted.in_order node (omega (arith, low, long)));
    }

pub returns : goal.returns
returns c = (
  map (λ calls. calls.items) c.sort_all.new.nodes.items,
  by_place (map (λ log. log.items) c.args.logs.items) (map (λ calls. calls.items) c.in_ok-nodes.nodes.items) (map (λ calls. calls.items) c.sort_all.new.nodes.items) c.in_ok-nodes.ensures c.in_ok-sort_all.ensures,
  c.new.ensures,
)
