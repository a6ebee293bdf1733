use Rattle.adapter.proofs.Imports.{◌≡◌, ◌<◌, ◌∙◌, [], ap, sym, subst, length, map, get_or, arith, rules, length-set, IsPermutation, IsNonDecreasingBy, length-map, get_or-map, map-set, IsPermutation-trans, IsNonDecreasingBy-from_sort_by_key, ToldEntry}
use Rattle.adapter.proofs.Dealing.{set-each}
use Rattle.adapter.proofs.trace_merge.sort_all.Goals as goal

pub nodes-preserved : goal.nodes-preserved
nodes-preserved c =
    let raw = c.nodes.nodes.items in
    let lists = map (λ calls. calls.items) raw in
    let before = map (λ calls. calls.items) c.args.nodes.now.items in
    let i = c.nodes.node in
    let sorted = c.sort_by_key.new.self in
    let inv = c.nodes.invariant in
    let long = inv.0 in let under = c.nodes-test.true in let end = c.len-node-end.ensures in
    let there : i < length raw = omega (arith, long, under, end) in
    let m = length-map raw (λ calls. calls.items) in
    let s = length-set raw i sorted in
    let own : get_or lists i [] ≡ c.index_mut.result.now.items = get_or-map (λ calls. calls.items) raw i c.index_mut.result.now [] there ∙ ap (λ v. v.items) (sym c.index_mut.ensures.value) in
    let moved : IsPermutation (get_or before i []) sorted.items =
    IsPermutation-trans (get_or before i []) (get_or lists i []) sorted.items (inv.1 i there) (subst (λ l. IsPermutation l sorted.items) (sym own) c.in_ok-sort_by_key.ensures.permutation) in
    let order : IsNonDecreasingBy (λ (e : ToldEntry). e.place) sorted.items =
    IsNonDecreasingBy-from_sort_by_key (λ (e : ToldEntry). e.place) sorted.items c.in_ok-sort_by_key.ensures.sorted (λ a r q k. search rules) in
    let same = map-set (λ calls. calls.items) raw i sorted in (
      s ∙ long,
      (λ n low. subst (λ l. IsPermutation (get_or before n []) (get_or l n [])) (sym same)
          (set-each (λ n l. IsPermutation (get_or before n []) l) lists i sorted.items (omega (arith, there, m)) moved n (λ _. inv.1 n (omega (arith, low, s))))),
      (λ n low. subst (λ l. IsNonDecreasingBy (λ (e : ToldEntry). e.place) (get_or l n [])) (sym same)
          (set-each (λ n l. IsNonDecreasingBy (λ (e : ToldEntry). e.place) l) lists i sorted.items (omega (arith, there, m)) order n (λ apart. inv.2 n (omega (arith, low, apart))))),
    )
