use Rattle.report_check.proofs.Imports.{◌≡◌, ◌∷◌, ◌++◌, [], List, ℕ, map, sym, ap, subst, ◌∙◌, arith, map-append, map-range_with_len_more, Vec, All, range_with_len, Global, played, AreFewPackets}
use Rattle.report_check.proofs.Players.{all_few}
use Rattle.report_check.proofs.played.all_played.Goals as goal

pub clients-preserved : goal.clients-preserved
clients-preserved c =
    let script = c.args.script.now in
    let n = c.clients.client in
    let packets = c.in_ok-packets.packets in
    ap (map (λ (p : Vec (List ℕ) Global). p.items)) c.in_ok-push.ensures.items ∙ map-append (λ (p : Vec (List ℕ) Global). p.items) c.clients.all.items (packets ∷ [])
    ∙ ap (λ (l : List (List (List ℕ))). l ++ packets.items ∷ []) c.clients.invariant
    ∙ ap (λ (x : List (List ℕ)). ([] ∷ map (λ client. played client script) (range_with_len 0 n)) ++ x ∷ []) c.in_ok-packets.ensures
    ∙ ap (λ (l : List (List (List ℕ))). [] ∷ l) (sym (map-range_with_len_more (λ client. played client script) 0 n n (omega arith)))

pub returns-clause-few : goal.returns-clause-few
returns-clause-few c =
    let eight : c.clients.client ≡ 8 = omega arith in
    subst (λ (l : List (List (List ℕ))). All AreFewPackets l) (sym (c.clients.invariant ∙ ap (λ (n : ℕ). [] ∷ map (λ client. played client c.args.script.now) (range_with_len 0 n)) eight))
    (all_few c.args.script.now c.lines-lines.ensures.known)
