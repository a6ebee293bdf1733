use Rattle.adapter.proofs.Imports.{rules, ◌≡◌, ℕ, ◌+◌, ◌≤◌, ◌^◌, ◌∙◌, ◌++◌, ◌∷◌, [], List, length, vec_len, ap, subst, sym, refl, arith, TableId, IsFreshRow, Caller, AreLastFirst, AreFreshClients}
use Rattle.adapter.proofs.Pairs.{fresh_first, fresh_mine, fresh_all}
use Rattle.adapter.proofs.adapter.Adapter.new.Goals as goal

pub make_clients-requires-clause-rest : goal.make_clients-requires-clause-rest
make_clients-requires-clause-rest c =
    let n : ℕ = vec_len c.in-Ok.passes in let locks : List TableId = c.in_ok-demux.demux.items ++ c.in-Ok.dvr ∷ [] in
    let rest = c.pop.new.self.items in let row = c.unwrap-passes.result in
    let e : c.in_ok-all.all.items ≡ rest ++ row ∷ [] = search rules in
    let f : _ = c.in_ok-all.ensures in let long : length c.in_ok-all.all.items ≡ n = search rules in
    let same : length rest ≡ vec_len c.pop.new.self = search rules in
    subst (λ (k : ℕ). AreLastFirst (k + 1) locks rest) same (fresh_first n locks c.in_ok-all.all.items rest row f.1 long e).2

pub invariant_of-feeder : goal.invariant_of-feeder
invariant_of-feeder c =
    let n : ℕ = vec_len c.in-Ok.passes in let locks : List TableId = c.in_ok-demux.demux.items ++ c.in-Ok.dvr ∷ [] in
    let rest = c.pop.new.self.items in let row = c.unwrap-passes.result in
    let e : c.in_ok-all.all.items ≡ rest ++ row ∷ [] = search rules in
    let f : _ = c.in_ok-all.ensures in let long : length c.in_ok-all.all.items ≡ n = search rules in let few : 2 ^ 44 ≤ 2 ^ 44 = omega arith in
    fresh_mine n locks 0 (2 ^ 44) row few (fresh_first n locks c.in_ok-all.all.items rest row f.1 long e).0

pub returns-clause-fresh : goal.returns-clause-fresh
returns-clause-fresh c =
    let n : ℕ = vec_len c.in-Ok.passes in let locks : List TableId = c.in_ok-demux.demux.items ++ c.in-Ok.dvr ∷ [] in
    let rest = c.pop.new.self.items in let row = c.unwrap-passes.result in
    let e : c.in_ok-all.all.items ≡ rest ++ row ∷ [] = search rules in
    let f : _ = c.in_ok-all.ensures in let long : length c.in_ok-all.all.items ≡ n = search rules in let r = fresh_first n locks c.in_ok-all.all.items rest row f.1 long e in
    let callers : n ≡ c.args.clients + 1 = search rules in let same : length rest ≡ vec_len c.pop.new.self = search rules in
    let count : vec_len c.pop.new.self + 1 ≡ c.args.clients + 1 = ap (λ (k : ℕ). k + 1) (sym same) ∙ (r.1 ∙ callers) in let made : _ = c.in_ok-clients.ensures in
    let many : length c.in_ok-clients.clients.items ≡ c.args.clients = search rules in
    record {
      first = record { number = refl; calls = refl; row = subst (λ (k : ℕ). IsFreshRow k 0 locks row) callers r.0 };
      long = many;
      each = subst (λ (k : ℕ). AreFreshClients k locks c.in_ok-clients.clients.items) count made.1;
    }

pub returns-clause-all : goal.returns-clause-all
returns-clause-all c =
    let feeder : Caller = record { who = 0; left = 2 ^ 44; passes = c.unwrap-passes.result } in
    fresh_all (c.in_ok-demux.demux.items ++ c.in-Ok.dvr ∷ []) c.args.clients feeder c.in_ok-clients.clients.items (returns-clause-fresh c)
