-- All packets pass each node in the same batches, one after another, and then End.
use Rattle.serial_core.proofs.Imports.{◌≡◌, ◌≢◌, sym, ap, ◌∙◌, ℕ, suc, ◌+◌, ◌≤◌, Bool, true, false, nat_eq, List, [], ◌∷◌, ◌++◌, length, map, append-nil, arith, length-append, sum, All, map-append, sum_by-append, sum_by-cons, All-nil, All-cons, All-append, nat_tests, Frontend, DEMUX_NODES, passing, EndAct, LogEntry, Batch, Step, feeding, steps_of, one_if, filter_more, by_caller}

-- ------ the feeder's calls in a log

abbrev pub step_of : LogEntry → Step
step_of e = record { step = e.step; act = e.act }

pub more_fed : (h : List LogEntry) (x : LogEntry) → x.who ≡ 0 → steps_of 0 (h ++ x ∷ []) ≡ steps_of 0 h ++ record { step = x.step; act = x.act } ∷ []
more_fed h x is =
    let own : nat_eq x.who 0 ≡ true = grind (arith, nat_tests, is) in
    ap (map step_of) (filter_more (λ (e : LogEntry). nat_eq e.who 0) h x true own) ∙ map-append step_of (by_caller 0 h) (x ∷ [])

pub none_fed : (h : List LogEntry) (x : LogEntry) → x.who ≢ 0 → steps_of 0 (h ++ x ∷ []) ≡ steps_of 0 h
none_fed h x not =
    let other : nat_eq x.who 0 ≡ false = grind (arith, nat_tests, not) in
    ap (map step_of) (filter_more (λ (e : LogEntry). nat_eq e.who 0) h x false other ∙ append-nil (by_caller 0 h))

-- ------ batches

-- the passes of these batches
abbrev pub passes_of : (first step : ℕ) → List Batch → List Step
passes_of first step [] = []
passes_of first step (b ∷ bs) = record { step = step; act = passing Frontend first b.size b.moment } ∷ passes_of (first + b.size) (suc step) bs

abbrev pub sizes_of : List Batch → ℕ
sizes_of bs = sum (map (λ b. b.size) bs)

pub sizes_more : (bs : List Batch) (b : Batch) → sizes_of (bs ++ b ∷ []) ≡ sizes_of bs + b.size
sizes_more bs b =
    ap sum (map-append (λ b. b.size) bs (b ∷ [])) ∙ sum_by-append (λ n. n) (map (λ b. b.size) bs) (b.size ∷ []) ∙ ap (λ n. sizes_of bs + n) (omega (arith, sum_by-cons (λ n. n) b.size []))

size_first : (b : Batch) (bs : List Batch) → sizes_of (b ∷ bs) ≡ b.size + sizes_of bs
size_first b bs = sum_by-cons (λ n. n) b.size (map (λ b. b.size) bs)

pub passes_more : (first step : ℕ) (bs : List Batch) (b : Batch)
    → passes_of first step (bs ++ b ∷ []) ≡ passes_of first step bs ++ record { step = step + length bs; act = passing Frontend (first + sizes_of bs) b.size b.moment } ∷ []
passes_more first step [] b =
    let f : first ≡ first + sizes_of [] = omega arith in
    let s : step ≡ step + length {A = Batch} [] = omega arith in
    ap (λ n. record { step = n; act = passing Frontend first b.size b.moment } ∷ []) s ∙ ap (λ n. record { step = step + 0; act = passing Frontend n b.size b.moment } ∷ []) f
passes_more first step (c ∷ bs) b =
    let f : first + c.size + sizes_of bs ≡ first + sizes_of (c ∷ bs) = omega (arith, size_first c bs) in
    let s : suc step + length bs ≡ step + length (c ∷ bs) = omega arith in
    ap (λ l. record { step = step; act = passing Frontend first c.size c.moment } ∷ l) (passes_more (first + c.size) (suc step) bs b
    ∙ ap (λ n. passes_of (first + c.size) (suc step) bs ++ record { step = n; act = passing Frontend (first + c.size + sizes_of bs) b.size b.moment } ∷ []) s
    ∙ ap (λ n. passes_of (first + c.size) (suc step) bs ++ record { step = step + length (c ∷ bs); act = passing Frontend n b.size b.moment } ∷ []) f)

abbrev pub end_of : (step : ℕ) → Bool → List Step
end_of step true = record { step = step; act = EndAct } ∷ []
end_of step false = []

pub all_fed : (first step : ℕ) (bs : List Batch) → feeding first step bs ≡ passes_of first step bs ++ end_of (step + length bs) true
all_fed first step [] = let s : step ≡ step + length {A = Batch} [] = omega arith in ap (λ n. record { step = n; act = EndAct } ∷ []) s
all_fed first step (b ∷ bs) =
    let s : suc step + length bs ≡ step + length (b ∷ bs) = omega arith in
    ap (λ l. record { step = step; act = passing Frontend first b.size b.moment } ∷ l) (all_fed (first + b.size) (suc step) bs ∙ ap (λ n. passes_of (first + b.size) (suc step) bs ++ end_of n true) s)

-- ------ so far

-- what the feeder has done on each node, by the nodes' logs, its turns, the packets that have passed, and whether the end has
pub record AreFed (most : ℕ) (logs : ℕ → List LogEntry) (turns first : ℕ) (has_ended : Bool) : Type 0 where
  pub batches : List Batch
  pub each_size : All (λ b. (1 ≤ b.size) × (b.size ≤ most)) batches
  pub whole : sizes_of batches ≡ first
  pub counted : turns ≡ length batches + one_if has_ended
  pub on_each : (node : ℕ) → node ≤ DEMUX_NODES → steps_of 0 (logs node) ≡ passes_of 0 0 batches ++ end_of (length batches) has_ended

module _ (most : ℕ) (logs after : ℕ → List LogEntry) where
  -- a batch passes
  pub fed_pass : (turns first size moment : ℕ) → 1 ≤ size → size ≤ most → AreFed most logs turns first false
      → ((node : ℕ) → node ≤ DEMUX_NODES → (x : LogEntry) × (after node ≡ logs node ++ x ∷ []) × (x.who ≡ 0) × (x.step ≡ turns) × (x.act ≡ passing Frontend first size moment))
      → AreFed most after (turns + 1) (first + size) false
  fed_pass turns first size moment some within f each =
      let b : Batch = record { size = size; moment = moment } in
      record {
        batches = f.batches ++ b ∷ [];
        each_size = All-append (λ b. (1 ≤ b.size) × (b.size ≤ most)) f.batches (b ∷ []) f.each_size (All-cons (λ b. (1 ≤ b.size) × (b.size ≤ most)) b [] (some, within) (All-nil (λ b. (1 ≤ b.size) × (b.size ≤ most))));
        whole = sizes_more f.batches b ∙ ap (λ n. n + size) f.whole;
        counted = omega (arith, f.counted, length-append f.batches (b ∷ []));
        on_each = λ node le. on node (each node le) (f.on_each node le);
      } where
        on : (node : ℕ) → (x : LogEntry) × (after node ≡ logs node ++ x ∷ []) × (x.who ≡ 0) × (x.step ≡ turns) × (x.act ≡ passing Frontend first size moment)
            → steps_of 0 (logs node) ≡ passes_of 0 0 f.batches ++ []
            → steps_of 0 (after node) ≡ passes_of 0 0 (f.batches ++ record { size = size; moment = moment } ∷ []) ++ []
        on node (x, more, who, step, act) before =
            let s : x.step ≡ 0 + length f.batches = omega (arith, step, f.counted) in
            let p : first ≡ 0 + sizes_of f.batches = omega (arith, f.whole) in
            ap (steps_of 0) more ∙ more_fed (logs node) x who
            ∙ ap (λ l. l ++ record { step = x.step; act = x.act } ∷ []) (before ∙ append-nil (passes_of 0 0 f.batches))
            ∙ ap (λ n. passes_of 0 0 f.batches ++ record { step = n; act = x.act } ∷ []) s
            ∙ ap (λ a. passes_of 0 0 f.batches ++ record { step = 0 + length f.batches; act = a } ∷ []) (act ∙ ap (λ n. passing Frontend n size moment) p)
            ∙ sym (passes_more 0 0 f.batches (record { size = size; moment = moment }))
            ∙ sym (append-nil (passes_of 0 0 (f.batches ++ record { size = size; moment = moment } ∷ [])))

  -- the end passes
  pub fed_end : (turns first : ℕ) → AreFed most logs turns first false
      → ((node : ℕ) → node ≤ DEMUX_NODES → (x : LogEntry) × (after node ≡ logs node ++ x ∷ []) × (x.who ≡ 0) × (x.step ≡ turns) × (x.act ≡ EndAct))
      → AreFed most after (turns + 1) first true
  fed_end turns first f each = record {
    batches = f.batches;
    each_size = f.each_size;
    whole = f.whole;
    counted = omega (arith, f.counted);
    on_each = λ node le. on node (each node le) (f.on_each node le);
  } where
    on : (node : ℕ) → (x : LogEntry) × (after node ≡ logs node ++ x ∷ []) × (x.who ≡ 0) × (x.step ≡ turns) × (x.act ≡ EndAct)
        → steps_of 0 (logs node) ≡ passes_of 0 0 f.batches ++ [] → steps_of 0 (after node) ≡ passes_of 0 0 f.batches ++ record { step = length f.batches; act = EndAct } ∷ []
    on node (x, more, who, step, act) before =
        let s : x.step ≡ length f.batches = omega (arith, step, f.counted) in
        ap (steps_of 0) more ∙ more_fed (logs node) x who
        ∙ ap (λ l. l ++ record { step = x.step; act = x.act } ∷ []) (before ∙ append-nil (passes_of 0 0 f.batches))
        ∙ ap (λ n. passes_of 0 0 f.batches ++ record { step = n; act = x.act } ∷ []) s
        ∙ ap (λ a. passes_of 0 0 f.batches ++ record { step = length f.batches; act = a } ∷ []) act

  -- a client calls
  pub fed_other : (turns first : ℕ) (ended : Bool) → AreFed most logs turns first ended → ((node : ℕ) → node ≤ DEMUX_NODES → steps_of 0 (after node) ≡ steps_of 0 (logs node)) → AreFed most after turns first ended
  fed_other turns first ended f same = record {
    batches = f.batches;
    each_size = f.each_size;
    whole = f.whole;
    counted = f.counted;
    on_each = λ node le. same node le ∙ f.on_each node le;
  }
