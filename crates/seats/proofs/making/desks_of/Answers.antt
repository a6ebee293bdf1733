use Rattle.seats.proofs.Imports.{rules, ◌≡◌, ◌+◌, ℕ, List, [], ◌∷◌, ◌++◌, length, map, reverse, refl, sym, ap, ◌∙◌, arith, length-append, map-append, append-nil, append_assoc, reverse-append, YieldsList-end, YieldsList-from_vec, Caller, Desk, IsNew, each_more, nil_from_length}
use Rattle.seats.proofs.Going.{ready_desks}
use Rattle.seats.proofs.making.desks_of.Goals as goal

map_same : {A : Type 0} (xs : List A) → map (λ (y : A). y) xs ≡ xs
map_same [] = refl
map_same (x ∷ xs) = ap (λ l. x ∷ l) (map_same xs)

pub clients-preserved : goal.clients-preserved
clients-preserved g c =
    let i = c.clients.invariant in let seat = c.in_ok-seat.ensures in
    let now = c.in_ok-push.ensures.items in
    let popped : c.clients.lines.items ≡ c.pop.new.self.items ++ c.unwrap-line.result ∷ [] = search rules in
    record {
      are = ap (map (λ (d : Desk _). d.seat.client)) now ∙ (map-append (λ (d : Desk _). d.seat.client) c.clients.desks.items (_ ∷ [])
          ∙ (ap (λ (l : List Caller). l ++ c.in_ok-seat.seat.client ∷ []) i.are ∙ ap (λ (z : Caller). c.clients.yielded ++ z ∷ []) seat.0));
      number = ap (λ (n : ℕ). n + 1) i.number ∙ (sym (length-append c.clients.desks.items (_ ∷ [])) ∙ sym (ap length now));
      each = each_more (λ k (d : Desk _). IsNew (k + 1) d.seat) c.clients.desks.items c.push.new.self.items _ c.clients.number now i.number i.each seat.1;
      lines = let a = i.lines in let b = popped in let e = ap length b in let k = length-append c.pop.new.self.items (c.unwrap-line.result ∷ []) in let y = length-append c.clients.yielded (c.in-Some.client ∷ []) in omega (arith, a, e, k, y);
      same = ap (λ (l : List (Desk _)). map (λ (d : Desk _). d.line) l ++ reverse c.pop.new.self.items) now
          ∙ (ap (λ (l : List _). l ++ reverse c.pop.new.self.items) (map-append (λ (d : Desk _). d.line) c.clients.desks.items (_ ∷ []))
          ∙ (append_assoc (map (λ (d : Desk _). d.line) c.clients.desks.items) (c.unwrap-line.result ∷ []) (reverse c.pop.new.self.items)
          ∙ (ap (λ (l : List _). map (λ (d : Desk _). d.line) c.clients.desks.items ++ l) (sym (ap reverse popped ∙ reverse-append c.pop.new.self.items (c.unwrap-line.result ∷ []))) ∙ i.same)));
    }

pub returns-clause-lines : goal.returns-clause-lines
returns-clause-lines g c =
    let b = c.into_iter-client-iterator.ensures.into_iter_gives in
    let t = YieldsList-end (YieldsList-from_vec {s = c.into_iter-client-iterator.result} c.args.clients.items b.0 (b.1 ∙ c.args.clients.ok.0)) c.clients.yielded c.clients.client-iterator c.clients.yielded_by c.next.result c.next.new.self c.in-None.is c.next.ensures.steps in
    let k = t.1 in let a = c.clients.invariant.lines in let r = c.requires.lines in
    let none : c.clients.lines.items ≡ [] = nil_from_length c.clients.lines.items (omega (arith, k, a, r)) in
    sym (append-nil (map (λ (d : Desk _). d.line) c.clients.desks.items)) ∙ (ap (λ (l : List _). map (λ (d : Desk _). d.line) c.clients.desks.items ++ reverse l) (sym none) ∙ c.clients.invariant.same)

pub returns-clause-ready : goal.returns-clause-ready
returns-clause-ready g c locks feeder fresh =
    let b = c.into_iter-client-iterator.ensures.into_iter_gives in
    let t = YieldsList-end (YieldsList-from_vec {s = c.into_iter-client-iterator.result} c.args.clients.items b.0 (b.1 ∙ c.args.clients.ok.0)) c.clients.yielded c.clients.client-iterator c.clients.yielded_by c.next.result c.next.new.self c.in-None.is c.next.ensures.steps in
    ready_desks locks _ feeder c.args.clients.items fresh c.clients.desks.items (c.clients.invariant.are ∙ (sym (map_same c.clients.yielded) ∙ t.0)) c.clients.invariant.each
