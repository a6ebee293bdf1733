use Rattle.adapter.proofs.Imports.{◌≡◌, ◌≤◌, ◌<◌, ◌∙◌, ◌++◌, ◌∷◌, [], ap, sym, subst, length, map, set, get_or, arith, length-set, length-map, get_or-map, map-set, ToldEntry, AreOnNodes, all_front}
use Rattle.adapter.proofs.Dealing.{all-last, dealing-more}
use Rattle.adapter.proofs.trace_merge.deal.Goals as goal

pub entries-preserved : goal.entries-preserved
entries-preserved c =
    let raw = c.entries.nodes.items in
    let lists = map (λ calls. calls.items) raw in
    let e = c.in-Some.entry in
    let longer = map (λ calls. calls.items) (set raw e.node c.push.new.self) in
    let many = c.entries.invariant.0 in
    let last : c.entries.left.items ≡ c.pop.new.self.items ++ e ∷ [] = c.in-Some.ensures.items in
    let all : AreOnNodes (c.pop.new.self.items ++ e ∷ []) = subst AreOnNodes last c.entries.invariant.1 in
    let low = all-last (λ (e : ToldEntry). e.node ≤ 32) c.pop.new.self.items e all in
    let there : e.node < length raw = omega (arith, low, many) in
    let m = length-map raw (λ calls. calls.items) in
    let n = length-map (set raw e.node c.push.new.self) (λ calls. calls.items) in
    let s = length-set raw e.node c.push.new.self in
    let own : get_or lists e.node [] ≡ c.index_mut.result.now.items = get_or-map (λ calls. calls.items) raw e.node c.index_mut.result.now [] there ∙ ap (λ v. v.items) (sym c.index_mut.ensures.value) in
    let pushed : c.push.new.self.items ≡ get_or lists e.node [] ++ e ∷ [] = c.in_ok-push.ensures.items ∙ ap (λ l. l ++ e ∷ []) (sym own) in (
      s ∙ many,
      all_front (λ (e : ToldEntry). e.node ≤ 32) c.pop.new.self.items (e ∷ []) all,
      dealing-more lists longer c.entries.left.items c.pop.new.self.items e _ (omega (arith, there, m)) last
          (map-set (λ calls. calls.items) raw e.node c.push.new.self ∙ ap (λ l. set lists e.node l) pushed) (omega (arith, m, n, s)) c.entries.invariant.2,
    )
