use Rattle.serial_core.proofs.Imports.{◌≡◌, ◌+◌, ◌-◌, ◌<◌, ◌≤◌, ◌^◌, refl, sym, ap, subst, ◌∙◌, [], ◌∷◌, ◌++◌, length, vec_len, arith, DEMUX_NODES, call_of, IsAfter, uncalled, answer_by, answered, node_at, IsSeat, acts_on, entries_in}
use Rattle.serial_core.proofs.Pairs.{pair_at, set_pair}
use Rattle.serial_core.proofs.Going.{nodes_called, under_more, under_set, seats_count, seat_under}
use Rattle.serial_core.proofs.nodes.Nodes.call.Goals as goal

pub index_mut-requires : goal.index_mut-requires
index_mut-requires g c =
    let old = c.args.self.now in
    let there : c.args.event.node ≤ DEMUX_NODES = c.requires.node in
    let count : length old.seats.items ≡ DEMUX_NODES + 1 = seats_count old.seats.items old.made c.requires.counted in
    let fits : length old.seats.items ≡ vec_len old.seats = sym old.seats.ok.0 in
    omega (arith, there, count, fits)

pub call-requires-clause-few : goal.call-requires-clause-few
call-requires-clause-few g c =
    let few : c.args.self.now.made < 2 ^ 50 - 1 = c.requires.few in
    rw c.index_mut.ensures.value (omega (arith, few, seat_under c.args.self.now.seats.items c.args.event.node c.args.self.now.made c.index_mut.result.now c.requires.node c.requires.counted))

pub returns-clause-at : goal.returns-clause-at
returns-clause-at g c r moment at =
    let old = c.args.self.now in
    let node = c.args.event.node in
    let count : length old.seats.items ≡ DEMUX_NODES + 1 = seats_count old.seats.items old.made c.requires.counted in
    let there : node < length old.seats.items = omega (arith, count, c.requires.node) in
    let before : IsSeat (acts_on old) c.index_mut.result.now (node_at node r) = rw c.index_mut.ensures.value (pair_at (IsSeat (acts_on old)) node old.seats.items r.nodes c.index_mut.result.now (uncalled node) there at.seats) in
    let same = c.in_ok-call.ensures.call ∙ ap (λ now. call_of c.args.core.now.plays c.args.event.want now) moment in
    let after = subst (λ v. IsSeat (acts_on old) c.call.new.self (answered (c.args.client + 1) c.args.event.step v (node_at node r))) same (c.in_ok-call-2.ensures.at (acts_on old) (node_at node r) before) in
    nodes_called old _ r _ (set_pair (IsSeat (acts_on old)) node old.seats.items r.nodes _ _ after at.seats) refl refl at

pub returns-clause-core : goal.returns-clause-core
returns-clause-core g c r script replies moment at after =
    let old = c.args.self.now in
    let node = c.args.event.node in
    let count : length old.seats.items ≡ DEMUX_NODES + 1 = seats_count old.seats.items old.made c.requires.counted in
    let there : node < length old.seats.items = omega (arith, count, c.requires.node) in
    let before : IsSeat (acts_on old) c.index_mut.result.now (node_at node r) = rw c.index_mut.ensures.value (pair_at (IsSeat (acts_on old)) node old.seats.items r.nodes c.index_mut.result.now (uncalled node) there at.seats) in
    let same = c.in_ok-call.ensures.call ∙ ap (λ now. call_of c.args.core.now.plays c.args.event.want now) moment in
    subst (λ v. IsAfter c.args.client script (replies ++ answer_by (c.args.client + 1) v (node_at node r) ∷ []) c.call.new.client) same
    (c.in_ok-call-2.ensures.client (acts_on old) (node_at node r) c.args.client script replies before after)

pub returns-clause-counted : goal.returns-clause-counted
returns-clause-counted g c =
    let old = c.args.self.now in
    let under : entries_in c.index_mut.result.now.core ≤ old.made = rw c.index_mut.ensures.value (seat_under old.seats.items c.args.event.node old.made c.index_mut.result.now c.requires.node c.requires.counted) in
    under_set old.seats.items c.args.event.node (old.made + 1) c.call.new.self (omega (arith, under, c.in_ok-call-2.ensures.rises)) (under_more old.seats.items old.made (old.made + 1) (omega arith) c.requires.counted)
