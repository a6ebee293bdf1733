use Rattle.report_check.proofs.Imports.{◌≡◌, ◌<◌, ◌^◌, ◌∙◌, ℕ, List, map, length, sym, ap, subst, arith, length-map, MatchOption, Vec, Global, Outcome, All, clients_in, ToldNode, told_of, AreFewPackets, brought_from, all_played, told_nodes, AreSoundNodes, IsPlayed, dealt, AreDoneAs, HasPassed, left_on}
use Rattle.report_check.proofs.Dealt.{Node}
use Rattle.report_check.proofs.Few.{few_left}
use Rattle.report_check.proofs.Checking.{bounds, sound_all}
use Rattle.report_check.proofs.Ways.{by_other, at_none, at_some}
use Rattle.report_check.proofs.report.odd_part.Goals as goal

pub returns-then-len-clients : goal.returns-then-len-clients
returns-then-len-clients c passed =
    let all : length (map (λ o. o.items) c.args.told.now.outcomes.items) ≡ clients_in c.args.script.now = passed.clients in
    let same : length c.args.told.now.outcomes.items ≡ clients_in c.args.script.now = rw length-map at all in
    c.if-len-clients.true (omega (arith, same, c.args.told.now.outcomes.ok.0))

pub returns-in-Some : goal.returns-in-Some
returns-in-Some c passed =
    let there : AreSoundNodes (clients_in c.args.script.now) (length c.args.packets.now) (map (λ ps. length ps) (all_played c.args.script.now)) (told_nodes c.args.told.now.nodes.items) = passed.nodes in
    let counts : map (λ ps. length ps) (map (λ p. p.items) c.as_slice-played.result.now) ≡ map (λ ps. length ps) (all_played c.args.script.now) =
    ap (λ (xs : List (Vec (List ℕ) Global)). map (λ ps. length ps) (map (λ p. p.items) xs)) c.as_slice-played.ensures.value ∙ ap (λ (xs : List (List (List ℕ))). map (λ ps. length ps) xs) c.in_ok-all.ensures.played in
    c.in-Some.ensures (rw (c.clients-clients.ensures.count, c.deref.ensures.value, counts) there)

pub odd_client-requires-clause-few : goal.odd_client-requires-clause-few
odd_client-requires-clause-few c =
    subst (λ (ns : List Node). left_on (dealt (told_nodes ns)) < 2 ^ 46) (sym c.deref-2.ensures.value) (few_left (told_of c.args.told.now) c.requires.few)

pub returns-in-Some-call : goal.returns-in-Some-call
returns-in-Some-call c passed =
    let Done : List Node → List (Vec Outcome Global) → Type 0 = λ ns os. AreDoneAs c.args.script.now (dealt (told_nodes ns)) 0 (map (λ o. o.items) os) in
    let done : Done c.args.told.now.nodes.items c.args.told.now.outcomes.items = passed.done in
    let there : Done c.deref-2.result.now c.deref-3.result.now =
    subst (λ (ns : List Node). Done ns c.deref-3.result.now) (sym c.deref-2.ensures.value) (subst (λ (os : List (Vec Outcome Global)). Done c.args.told.now.nodes.items os) (sym c.deref-3.ensures.value) done) in
    at_some c.in_ok-call.call c.in-Some-call.odd (Done c.deref-2.result.now c.deref-3.result.now) (Done c.deref-2.result.now c.deref-3.result.now → ⊥) c.in_ok-call.ensures c.in-Some-call.is there

pub odd_play-requires-clause-nodes : goal.odd_play-requires-clause-nodes
odd_play-requires-clause-nodes c = rw c.deref-4.ensures.value (bounds (told_of c.args.told.now) c.requires.range c.requires.few)

pub odd_play-requires-clause-sound : goal.odd_play-requires-clause-sound
odd_play-requires-clause-sound c =
    let counts : List ℕ = map (λ ps. length ps) (map (λ p. p.items) c.as_slice-played.result.now) in
    let sound : AreSoundNodes c.clients-clients.result (length c.args.packets.now) counts (told_nodes c.args.told.now.nodes.items) = rw c.deref.ensures.value at c.in_default.ensures in
    (c.clients-clients.result, rw c.deref-4.ensures.value (sound_all c.clients-clients.result (length c.args.packets.now) counts (told_nodes c.args.told.now.nodes.items) sound))

pub odd_play-requires-clause-played : goal.odd_play-requires-clause-played
odd_play-requires-clause-played c =
    subst (λ (xs : List (Vec (List ℕ) Global)). All AreFewPackets (map (λ p. p.items) xs)) (sym c.as_slice-played.ensures.value) c.in_ok-all.ensures.few

pub returns : goal.returns
returns c =
    let ns : List ToldNode = told_nodes c.args.told.now.nodes.items in
    let all : map (λ p. p.items) c.as_slice-played.result.now ≡ all_played c.args.script.now = ap (λ (xs : List (Vec (List ℕ) Global)). map (λ p. p.items) xs) c.as_slice-played.ensures.value ∙ c.in_ok-all.ensures.played in
    let sound : AreSoundNodes (clients_in c.args.script.now) (length c.args.packets.now) (map (λ ps. length ps) (all_played c.args.script.now)) (told_nodes c.args.told.now.nodes.items) = rw (c.clients-clients.ensures.count, c.deref.ensures.value, all) at c.in_default.ensures in
    let Done : List Node → List (Vec Outcome Global) → Type 0 = λ ns os. AreDoneAs c.args.script.now (dealt (told_nodes ns)) 0 (map (λ o. o.items) os) in
    let there : Done c.deref-2.result.now c.deref-3.result.now =
    at_none c.in_ok-call.call (Done c.deref-2.result.now c.deref-3.result.now) (Done c.deref-2.result.now c.deref-3.result.now → ⊥) c.in_ok-call.ensures c.in-None.is in
    let done : Done c.args.told.now.nodes.items c.args.told.now.outcomes.items =
    subst (λ (ns : List Node). Done ns c.args.told.now.outcomes.items) c.deref-2.ensures.value (subst (λ (os : List (Vec Outcome Global)). Done c.deref-2.result.now os) c.deref-3.ensures.value there) in
    let same : length c.args.told.now.outcomes.items ≡ clients_in c.args.script.now = omega (arith, c.if-len-clients.false, c.args.told.now.outcomes.ok.0) in
    let clients : length (map (λ o. o.items) c.args.told.now.outcomes.items) ≡ clients_in c.args.script.now = rw length-map same in
    let played : MatchOption c.in_ok-reply.reply (All (IsPlayed (brought_from c.args.packets.now (all_played c.args.script.now))) (told_nodes c.args.told.now.nodes.items)) (λ _. All (IsPlayed (brought_from c.args.packets.now (all_played c.args.script.now))) (told_nodes c.args.told.now.nodes.items) → ⊥) = rw (c.deref-4.ensures.value, all) at c.in_ok-reply.ensures in
    by_other c.in_ok-reply.reply (All (IsPlayed (brought_from c.args.packets.now (all_played c.args.script.now))) (told_nodes c.args.told.now.nodes.items)) (HasPassed c.args.script.now c.args.packets.now (told_of c.args.told.now))
    (λ all. record { clients = clients; nodes = sound; done = done; played = all }) (λ passed. passed.played) played
