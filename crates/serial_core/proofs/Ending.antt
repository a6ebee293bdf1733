-- What a run leaves.
use Rattle.serial_core.proofs.Imports.{◌^◌, length-append, Result, Ok, Err, IfOk, ◌≡◌, refl, sym, ap, subst, ◌∙◌, ℕ, suc, ◌+◌, ◌≤◌, ◌<◌, true, List, [], ◌∷◌, ◌++◌, length, map, add-one, append-nil, arith, slice_index_or, range_with_len, length-map, get_or-replicate, get_or_append_left, IsPacket, cut, map-map, length-range_with_len, DEMUX_NODES, told_entry, Act, feeder_acts, histories_of, woven, woven_nodes, SourceEnd, IsInRange, AreNumbered, Scripted, SerialNode, Nodes, Core, IsAfter, outcomes, all_commands, bytes_written, most_calls, told_head, head_of, Pulls, IsDone, Pulls-done, Pulls-front, Pulls-size, Left, Runner, Node, log_of, Run, begun, replies_of, IsSerialRun, Pairs, IsSeat, IsNodes, acts_on, acts_of, AreInOrder, IsAt, Moves, AreAfter, IsWholeBy, AllOverrunBy, IsLeftBy, IsFreshRunner, AreFreshCores, histories_in, OfStream, are_packets, commands_shared}
use Rattle.std.specs.Prelude.{All}
use Rattle.serial_core.proofs.InOrder.{serial_in_order}
use Rattle.serial_core.proofs.Runs.{within_budget}

-- ------ histories

nodes_woven : (first : ℕ) (acts : List Act) (seats : List SerialNode) (ns : List Node) → Pairs (IsSeat acts) seats ns → map (λ n. n.number) ns ≡ range_with_len first (length ns)
    → woven_nodes first acts (map (λ seat. map told_entry seat.entries.items) seats) ≡ map (λ n. (log_of n).entries) ns
nodes_woven first acts [] [] p numbers = refl
nodes_woven first acts [] (n ∷ ns) p numbers = absurd p
nodes_woven first acts (seat ∷ seats) [] p numbers = absurd p
nodes_woven first acts (seat ∷ seats) (n ∷ ns) p numbers =
    let here : n.number ≡ first = cc in
    let behind : map (λ n. n.number) ns ≡ range_with_len (suc first) (length ns) = rw (sym (add-one first)) (cc) in
    let one : woven first acts (map told_entry seat.entries.items) ≡ (log_of n).entries = subst (λ k. woven k acts (map told_entry seat.entries.items) ≡ (log_of n).entries) here p.0.log in
    rw (one, nodes_woven (suc first) acts seats ns p.1 behind) refl

pub all_woven : (v : Nodes) (r : Run) → IsNodes v r → v.has_ended ≡ true → AreInOrder r → histories_of v.feeding.items (map (λ seat. seat.entries.items) v.seats.items) ≡ histories_in r
all_woven v r at over order =
    let acts : List Act = acts_on v in
    let same : feeder_acts v.feeding.items ≡ acts = sym (ap (acts_of v.feeding.items) over) in
    let count : length r.nodes ≡ DEMUX_NODES + 1 = sym (length-map r.nodes (λ n. n.number)) ∙ (ap length order ∙ length-range_with_len 0 (DEMUX_NODES + 1)) in
    ap (λ a. woven_nodes 0 a (map (λ calls. map told_entry calls) (map (λ seat. seat.entries.items) v.seats.items))) same
    ∙ (ap (woven_nodes 0 acts) (map-map (λ calls. map told_entry calls) (λ seat. seat.entries.items) v.seats.items)
    ∙ nodes_woven 0 acts v.seats.items r.nodes at.seats (order ∙ ap (range_with_len 0) (sym count)))

-- ------ the whole run

no_replies : (packets : List (List ℕ)) (c : ℕ) → c < 8 → replies_of c (begun packets) ≡ []
no_replies packets c lt = get_or-replicate 8 c [] [] lt

fresh_after : (script : Scripted) (packets : List (List ℕ)) (cores : List Core) → AreFreshCores script cores → AreAfter script (begun packets) cores
fresh_after script packets cores fresh c d lt = subst (λ rs. IsAfter c script rs (slice_index_or cores c d)) (sym (no_replies packets c (omega (arith, lt, fresh.few)))) (fresh.after c d lt)

begun_at : (v : Runner) (packets : List (List ℕ)) → IsFreshRunner v → IsAt v (begun packets)
begun_at v packets b = record { nodes = b.nodes packets; first = b.given; moment = b.moment }

module _ (script : Scripted) (batch : ℕ) (x y : SourceEnd) (old new : Runner) (cores : List Core) (begins : IsFreshRunner old) (fresh : AreFreshCores script cores) where
  -- the run that the code has come to, over the packets of whatever bytes stood ahead and were taken
  of_run : (goes : Run → Run → Type 0) (P : (ahead taken : List ℕ) → Type 0) → Moves x y old new goes
      → ((ahead taken : List ℕ) (ps : List (List ℕ)) (r : Run) → Pulls ahead taken ps new.puller → goes (begun ps) r → IsAt new r → P ahead taken) → OfStream x y old.puller P
  of_run goes P moves so = (
    moves.draws.carries.more,
    moves.draws.carries.consumes,
    λ ahead pulls.
        let ps = moves.packets in
        let k = moves.at ahead [] [] [] (begun ps) pulls (λ is. refl) (begun_at old ps begins) (sym (append-nil ps)) in
        so ahead moves.draws.carries.more ps k.0 (moves.draws.carries.pulls ahead [] [] pulls) k.1 k.2,
  )

  pub left_is : (next : List Core) (left : Left) → length next ≡ length cores → Moves x y old new (IsWholeBy batch script.lines cores next) → IsDone new.puller → new.nodes.has_ended ≡ true
      → ((r : Run) → IsNodes new.nodes r → AreInOrder r → left.histories ≡ histories_in r)
      → ((ls : Scripted) (r : Run) → AreAfter ls r next → map (λ those. those.items) left.outcomes.items ≡ map (λ client. outcomes client ls (replies_of client r)) (range_with_len 0 (length next)))
      → ((ahead taken : List ℕ) (given : List (List ℕ)) → Pulls ahead taken given new.puller → told_head left.head ≡ head_of new.puller.cutting.size (ahead ++ taken) left.head.read_fault)
      → OfStream x y old.puller (λ ahead taken. IsLeftBy script batch old.puller.cutting.size (ahead ++ taken) left)
  left_is next left count moves done over histories outs head = of_run (IsWholeBy batch script.lines cores next) (λ ahead taken. IsLeftBy script batch old.puller.cutting.size (ahead ++ taken) left) moves
      (λ ahead taken ps r p goes at.
      let kept : new.puller.cutting.size ≡ old.puller.cutting.size = moves.draws.carries.size in
      let all : (cut old.puller.cutting.size (ahead ++ taken)).packets ≡ ps = ap (λ size. (cut size (ahead ++ taken)).packets) (sym kept) ∙ (Pulls-done ahead taken ps new.puller p done).packets in
      let w = goes script refl (fresh_after script ps cores fresh) in
      let serial : IsSerialRun script batch ps r = (w.before, w.done, w.ends) in
      record {
        run = r;
        serial = subst (λ qs. IsSerialRun script batch qs r) (sym all) serial;
        histories = histories r at.nodes (serial_in_order script batch ps r serial);
        outcomes = outs script r w.after ∙ ap (λ m. map (λ client. outcomes client script (replies_of client r)) (range_with_len 0 m)) (count ∙ fresh.count);
        head = head ahead taken ps p ∙ ap (λ size. head_of size (ahead ++ taken) left.head.read_fault) kept;
      })

  pub overrun_is : All IsInRange script.lines → AreNumbered script → 1 ≤ batch → Moves x y old new (AllOverrunBy batch script.lines cores)
      → OfStream x y old.puller (λ ahead taken. 2 ^ 39 ≤ most_calls (all_commands script.lines) (length ahead + length taken + bytes_written script))
  overrun_is ranges numbered one moves =
      of_run (AllOverrunBy batch script.lines cores) (λ ahead taken. 2 ^ 39 ≤ most_calls (all_commands script.lines) (length ahead + length taken + bytes_written script)) moves
      (λ ahead taken ps r p goes at.
      let front = Pulls-front ahead taken ps new.puller p in
      let packets : All IsPacket ps = All-take_front ps front.0 (subst (λ qs. All IsPacket qs) front.1 (are_packets new.puller.cutting.size (ahead ++ taken))) in
      let o = goes script refl (fresh_after script ps cores fresh) in
      let few = within_budget.moments script batch ps r ranges numbered one packets o.way o.client in
      omega (arith, few, o.calls, commands_shared script script.lines (suc o.client), Pulls-size ahead taken ps new.puller p))
    where
      All-take_front : (xs ys : List (List ℕ)) → All IsPacket (xs ++ ys) → All IsPacket xs
      All-take_front xs ys all k d lt = subst IsPacket (get_or_append_left xs ys d k lt) (all k d (omega (arith, lt, length-append xs ys)))

-- ------ what the answer says

-- three facts of an answer make a fourth
pub ok_by : {T E : Type 0} (r : Result T E) (P Q R S : T → Type 0) → ((x : T) → P x → Q x → R x → S x) → IfOk r P → IfOk r Q → IfOk r R → IfOk r S
ok_by (Ok x) P Q R S so p q r = so x p q r
ok_by (Err e) P Q R S so p q r = tt
