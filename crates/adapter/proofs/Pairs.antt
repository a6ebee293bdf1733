-- The passes of the demux nodes and those of the dvr node go to the callers, the last caller first; then the clients are made,
-- the first first.
use Rattle.adapter.proofs.Imports.{◌≡◌, ⊎_elim, ℕ, zero, suc, ◌+◌, ◌<◌, ◌≤◌, ◌^◌, List, [], ◌∷◌, ◌++◌, length, slice_get, Some, ap, sym, ◌∙◌, subst, arith, length-append, slice_get_within, TableId, View, AreFresh, Entry, Fits, IsFreshRow, Caller, IsFreshCaller, AreFreshCallers, AreAllCallers, SomeIs, AreMine, AreLastFirst, AreFreshClients}
use Rattle.adapter.proofs.Lists.{at_place, at_last, at_before, at_end}
use Rattle.adapter.proofs.Deals.{fresh_row}

module _ {V : Type 0} (items : V → List (TableId × View Entry)) (callers : ℕ) (ls : List TableId) (l : TableId) where
  pub record Paired (rows : List V) (dvrs : List (TableId × View Entry)) (all : List (List (TableId × View Entry))) : Type 0 where
    pub same : length rows ≡ length dvrs
    pub count : length all + length rows ≡ callers
    pub left : (who : ℕ) (r : V) → slice_get rows who ≡ Some r → IsFreshRow callers who ls (items r)
    pub fresh : AreFresh l callers dvrs
    pub done : AreLastFirst callers (ls ++ l ∷ []) all

  pub next_pair : (rows ys : List V) (r : V) (dvrs zs : List (TableId × View Entry)) (p : TableId × View Entry) (all : List (List (TableId × View Entry))) (row : List (TableId × View Entry))
      → Paired rows dvrs all → rows ≡ ys ++ r ∷ [] → dvrs ≡ zs ++ p ∷ [] → row ≡ items r ++ p ∷ [] → Paired ys zs (all ++ row ∷ [])
  next_pair rows ys r dvrs zs p all row k e d is =
      let a : length rows ≡ length ys + 1 = ap length e ∙ length-append ys (r ∷ []) in
      let b : length dvrs ≡ length zs + 1 = ap length d ∙ length-append zs (p ∷ []) in
      let s = k.same in let n = k.count in let m = length-append all (row ∷ []) in
      let even : length ys ≡ length zs = omega arith in
      let here_r : slice_get rows (length ys) ≡ Some r = ap (λ (x : List V). slice_get x (length ys)) e ∙ at_last ys r in
      let here_p : slice_get dvrs (length zs) ≡ Some p = ap (λ (x : List (TableId × View Entry)). slice_get x (length zs)) d ∙ at_last zs p in
      record {
        same = even;
        count = omega (arith, m);
        left = λ who x at. k.left who x (ap (λ (z : List V). slice_get z who) e ∙ at_before ys (r ∷ []) who x at);
        fresh = λ i q at. k.fresh i q (ap (λ (z : List (TableId × View Entry)). slice_get z i) d ∙ at_before zs (p ∷ []) i q at);
        done = λ i who x at sum. ⊎_elim (λ old. k.done i who x old sum)
            (λ new. let place : i ≡ length all = new.0 in let number : length ys ≡ who = omega arith in
            subst (IsFreshRow callers who (ls ++ l ∷ [])) (sym is ∙ new.1)
            (fresh_row callers who ls (items r) l p (k.left who r (ap (slice_get rows) (sym number) ∙ here_r)) (k.fresh who p (ap (slice_get dvrs) (sym number ∙ even) ∙ here_p))))
            (at_end all row x i at);
      }

module _ (callers : ℕ) (locks : List TableId) where
  pub record Made (rest : List (List (TableId × View Entry))) (clients : List Caller) : Type 0 where
    pub count : length clients + length rest + 1 ≡ callers
    pub left : AreLastFirst callers locks rest
    pub done : AreFreshClients callers locks clients

  -- the row that is taken is that of the next client
  pub next_row_of : (rest ys : List (List (TableId × View Entry))) (clients : List Caller) (row : List (TableId × View Entry)) → Made rest clients → rest ≡ ys ++ row ∷ [] → IsFreshRow callers (length clients + 1) locks row
  next_row_of rest ys clients row k e =
      let a : length rest ≡ length ys + 1 = ap length e ∙ length-append ys (row ∷ []) in let n = k.count in
      k.left (length ys) (length clients + 1) row (ap (λ (z : List (List (TableId × View Entry))). slice_get z (length ys)) e ∙ at_last ys row) (omega arith)

  pub next_made : (rest ys : List (List (TableId × View Entry))) (clients : List Caller) (row : List (TableId × View Entry)) (c : Caller)
      → Made rest clients → rest ≡ ys ++ row ∷ [] → c.who ≡ length clients + 1 → c.left ≡ 2 ^ 40 → c.passes ≡ row → Made ys (clients ++ c ∷ [])
  next_made rest ys clients row c k e who calls passes =
      let a : length rest ≡ length ys + 1 = ap length e ∙ length-append ys (row ∷ []) in let n = k.count in let m = length-append clients (c ∷ []) in record {
        count = omega (arith, m);
        left = λ i w x at sum. k.left i w x (ap (λ (z : List (List (TableId × View Entry))). slice_get z i) e ∙ at_before ys (row ∷ []) i x at) sum;
        done = λ i x at. ⊎_elim (λ old. k.done i x old)
            (λ new. let place : length clients + 1 ≡ i + 1 = ap (λ (n : ℕ). n + 1) (sym new.0) in
            subst (IsFreshCaller locks callers (i + 1) (2 ^ 40)) new.1
            (record { number = who ∙ place; calls = calls; row = subst (λ (n : ℕ). IsFreshRow callers n locks c.passes) place (subst (IsFreshRow callers (length clients + 1) locks) (sym passes) (next_row_of rest ys clients row k e)) }))
            (at_end clients c x i at);
      }

  -- a fresh row is the caller's, with a call left for each that the caller has
  pub fresh_mine : (who left : ℕ) (row : List (TableId × View Entry)) → left ≤ 2 ^ 44 → IsFreshRow callers who locks row → AreMine who left row
  fresh_mine who left row few f i p at =
      let low = slice_get_within row i p at in let long = f.0 in let l = at_place locks i (omega arith) in let is = f.1 i l.0 p l.1 at in
      let calls : p.1.left ≡ 2 ^ 44 = ap (λ (z : TableId × View Entry). z.1.left) is in (ap (λ (z : TableId × View Entry). z.1.number) is, omega arith)

  fresh_fits : (who : ℕ) (row : List (TableId × View Entry)) → IsFreshRow callers who locks row → Fits locks row
  fresh_fits who row f = (f.0, λ i l p a b. ap (λ (z : TableId × View Entry). z.0) (f.1 i l p a b))

  fresh_numbers : (who : ℕ) (row : List (TableId × View Entry)) → IsFreshRow callers who locks row → (i : ℕ) (p : TableId × View Entry) → slice_get row i ≡ Some p → (p.1.numbers ≡ who ∷ []) × (p.1.callers ≡ callers)
  fresh_numbers who row f i p at =
      let low = slice_get_within row i p at in let long = f.0 in let l = at_place locks i (omega arith) in let is = f.1 i l.0 p l.1 at in
      (ap (λ (z : TableId × View Entry). z.1.numbers) is, ap (λ (z : TableId × View Entry). z.1.callers) is)

  -- what is said of a fresh caller, whatever its number
  pub caller_fits : (who left : ℕ) (c : Caller) → IsFreshCaller locks callers who left c → Fits locks c.passes
  caller_fits who left c f = fresh_fits who c.passes f.row

  caller_numbers : (who left : ℕ) (c : Caller) → IsFreshCaller locks callers who left c → (i : ℕ) (p : TableId × View Entry) → slice_get c.passes i ≡ Some p → (p.1.numbers ≡ c.who ∷ []) × (p.1.callers ≡ callers)
  caller_numbers who left c f i p at = let r = fresh_numbers who c.passes f.row i p at in (r.0 ∙ ap (λ (n : ℕ). n ∷ []) (sym f.number), r.1)

  -- the feeder comes last of all
  pub fresh_first : (all rest : List (List (TableId × View Entry))) (row : List (TableId × View Entry)) → AreLastFirst callers locks all → length all ≡ callers → all ≡ rest ++ row ∷ [] → IsFreshRow callers 0 locks row × (length rest + 1 ≡ callers) × AreLastFirst (length rest + 1) locks rest
  fresh_first all rest row f long e =
      let a : length all ≡ length rest + 1 = ap length e ∙ length-append rest (row ∷ []) in let n : length rest + 1 ≡ callers = sym a ∙ long in (
        f (length rest) 0 row (ap (λ (z : List (List (TableId × View Entry))). slice_get z (length rest)) e ∙ at_last rest row) (omega arith),
        n,
        subst (λ (m : ℕ). AreLastFirst m locks rest) (sym n) (λ i who x at sum. f i who x (ap (λ (z : List (List (TableId × View Entry))). slice_get z i) e ∙ at_before rest (row ∷ []) i x at) sum),
      )

module _ (locks : List TableId) (clients : ℕ) (feeder : Caller) (others : List Caller) (f : AreFreshCallers locks clients feeder others) where
  of_each : (P : Caller → Type 0) → ((who left : ℕ) (c : Caller) → IsFreshCaller locks (clients + 1) who left c → P c) → (k : ℕ) (c : Caller) → slice_get (others ++ feeder ∷ []) k ≡ Some c → P c
  of_each P means k c at = ⊎_elim (λ old. means (k + 1) (2 ^ 40) c (f.each k c old)) (λ new. subst P new.1 (means 0 (2 ^ 44) feeder f.first)) (at_end others feeder c k at)

  some_is : (w : ℕ) → w < clients + 1 → SomeIs (others ++ feeder ∷ []) w
  some_is zero below = (length others, feeder, at_last others feeder, f.first.number)
  some_is (suc v) below = let long = f.long in let c = at_place others v (omega arith) in (v, c.0, at_before others (feeder ∷ []) v c.0 c.1, (f.each v c.0 c.1).number ∙ one_more v) where
    one_more : (n : ℕ) → n + 1 ≡ suc n
    one_more n = omega arith

  -- a fresh adapter's callers are all its callers
  pub fresh_all : AreAllCallers locks (others ++ feeder ∷ [])
  fresh_all = record {
    fits = λ k c at. of_each (λ c. Fits locks c.passes) (caller_fits (clients + 1) locks) k c at;
    own = λ k c at i p is. (of_each (λ c. (i : ℕ) (p : TableId × View Entry) → slice_get c.passes i ≡ Some p → (p.1.numbers ≡ c.who ∷ []) × (p.1.callers ≡ clients + 1)) (caller_numbers (clients + 1) locks) k c at i p is).0;
    all = λ k c at i p is w below. some_is w (subst (λ (n : ℕ). w < n) (of_each (λ c. (i : ℕ) (p : TableId × View Entry) → slice_get c.passes i ≡ Some p → (p.1.numbers ≡ c.who ∷ []) × (p.1.callers ≡ clients + 1)) (caller_numbers (clients + 1) locks) k c at i p is).1 below);
  }
