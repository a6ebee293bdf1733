-- The packets that a node's history brings and the bytes that it answers, entry by entry.
use Rattle.script_run.proofs.Imports.{◌≡◌, refl, sym, ap, subst, ℕ, suc, ◌+◌, ◌*◌, ◌≤◌, Bool, true, false, nat_eq, nat_lt, List, [], ◌∷◌, ◌++◌, length, map, filter, drop, arith, length-append, sum, if◌then◌else◌, All, reverse-append, length-map, sum_by-cons, All-nil, All-append, All-take, All-drop, All-head, All-tail, IsPacket, Act, DEMUX_NODES, brought, Entry, History, brought_by, LogEntry, Sources, filled, filled_act, filled_entry, Input, demux, dvr, IsLegalFor, bytes_answered, demux_answers_fit, dvr_answers_fit, bytes_in, Batch, Step, feeding, steps_of, rules_at}
use Rattle.dmx_calls.specs.declared.call.Call.TheVariants as act
use Rattle.script_run.proofs.Events.{brings_few, count_of}
use Rattle.script_run.proofs.Counting.{sum_of, weigh_append, weigh_reverse, weigh_map}
use Rattle.script_run.proofs.ReadReplies.{bytes_same}

-- ------ one history

abbrev packets_in : Entry → ℕ
packets_in e = length (brought e.invocation)

abbrev answers_in : Entry → ℕ
answers_in e = bytes_in e.response

count_brought : (h : History) → length (brought_by h) ≡ sum_of packets_in h
count_brought [] = refl
count_brought (e ∷ h) = omega (arith, length-append (brought_by h) (brought e.invocation), count_brought h)

count_bytes : (h : History) → bytes_answered h ≡ sum_of answers_in h
count_bytes [] = refl
count_bytes (e ∷ h) = omega (arith, bytes_same e.who e.invocation e.response h, count_bytes h)

answers_fit : (node : ℕ) (h : History) → IsLegalFor (rules_at node) h → All IsPacket (brought_by h) → bytes_answered h ≤ 188 * length (brought_by h)
unfolding rules_at
answers_fit node h legal are = go (nat_lt node DEMUX_NODES) legal where
  go : (b : Bool) → IsLegalFor (if b then demux else dvr) h → bytes_answered h ≤ 188 * length (brought_by h)
  go true l = demux_answers_fit h l are
  go false l = dvr_answers_fit h l are

-- ------ filled with the packets that passes bring

-- how many packets an entry brings
abbrev pub packets_of : LogEntry → ℕ
packets_of e = count_of e.act

abbrev step_packets : Step → ℕ
step_packets s = count_of s.act

fed_packets : (first step : ℕ) (bs : List Batch) → sum_of step_packets (feeding first step bs) ≤ sum (map (λ b. b.size) bs)
fed_packets first step [] = omega arith
fed_packets first step (b ∷ bs) = omega (arith, sum_by-cons (λ n. n) b.size (map (λ b. b.size) bs), fed_packets (first + b.size) (suc step) bs)

-- the feeder brings no more than the batches have
pub feeder_brings : (es : List LogEntry) (bs : List Batch) → (later : List Step) × (steps_of 0 es ++ later ≡ feeding 0 0 bs) → sum_of packets_of (filter (λ e. nat_eq e.who 0) es) ≤ sum (map (λ b. b.size) bs)
feeder_brings es bs fed =
    omega (
      arith,
      weigh_map step_packets (λ (e : LogEntry). step_at e) packets_of (λ e. refl) (filter (λ e. nat_eq e.who 0) es),
      weigh_append step_packets (steps_of 0 es) fed.0,
      ap (sum_of step_packets) fed.1,
      fed_packets 0 0 bs,
    ) where
      step_at : LogEntry → Step
      step_at e = record { step = e.step; act = e.act }

module _ (packets : Sources) (are : (who : ℕ) (input : Input) → All IsPacket (packets who input)) where
  act_brings : (who : ℕ) (a : Act) → All IsPacket (brought (filled_act (packets who) a))
  act_brings who (act.Pass input batch now) = All-take IsPacket batch.count (drop batch.first (packets who input)) (All-drop IsPacket batch.first (packets who input) (are who input))
  act_brings who _ = All-nil IsPacket

  -- each entry brings packets
  abbrev BringPackets : History → Type 0
  BringPackets [] = Unit {0}
  BringPackets (e ∷ h) = All IsPacket (brought e.invocation) × BringPackets h

  both_bring : (g h : History) → BringPackets g → BringPackets h → BringPackets (g ++ h)
  both_bring [] h a b = b
  both_bring (e ∷ g) h a b = (a.0, both_bring g h a.1 b)

  filled_brings : (es : List LogEntry) → BringPackets (filled packets es)
  filled_brings [] = tt
  filled_brings (e ∷ es) =
      subst BringPackets (sym (reverse-append (filled_entry packets e ∷ []) (map (filled_entry packets) es)))
      (both_bring (filled packets es) (filled_entry packets e ∷ []) (filled_brings es) (act_brings e.who e.act, tt))

  all_brought : (h : History) → BringPackets h → All IsPacket (brought_by h)
  all_brought [] bring = All-nil IsPacket
  all_brought (e ∷ h) bring = All-append IsPacket (brought_by h) (brought e.invocation) (all_brought h bring.1) bring.0

  few_packets : (es : List LogEntry) → sum_of (λ e. packets_in (filled_entry packets e)) es ≤ sum_of packets_of es
  few_packets [] = omega arith
  few_packets (e ∷ es) = omega (arith, brings_few (packets e.who) e.act, few_packets es)

  -- The node answers no more bytes than the packets have that its entries bring.
  pub bytes_fit : (node : ℕ) (es : List LogEntry) (most : ℕ) → IsLegalFor (rules_at node) (filled packets es) → sum_of packets_of es ≤ most
      → sum_of (λ e. bytes_in e.response) es ≤ 188 * most
  bytes_fit node es most legal le =
      omega (
        arith,
        answers_fit node (filled packets es) legal (all_brought (filled packets es) (filled_brings es)),
        count_bytes (filled packets es),
        weigh_reverse answers_in (map (filled_entry packets) es),
        weigh_map answers_in (filled_entry packets) (λ e. bytes_in e.response) (λ e. refl) es,
        count_brought (filled packets es),
        weigh_reverse packets_in (map (filled_entry packets) es),
        weigh_map packets_in (filled_entry packets) (λ e. packets_in (filled_entry packets e)) (λ e. refl) es,
        few_packets es,
        le,
      )

-- ------ how many entries the feeder has made

fed_long : (first step : ℕ) (bs : List Batch) → All (λ b. 1 ≤ b.size) bs → length (feeding first step bs) ≤ sum (map (λ b. b.size) bs) + 1
fed_long first step [] some = omega arith
fed_long first step (b ∷ bs) some =
    omega (arith, All-head (λ b. 1 ≤ b.size) b bs some, sum_by-cons (λ n. n) b.size (map (λ b. b.size) bs), fed_long (first + b.size) (suc step) bs (All-tail (λ b. 1 ≤ b.size) b bs some))

pub feeder_long : (es : List LogEntry) (bs : List Batch) → All (λ b. 1 ≤ b.size) bs → (later : List Step) × (steps_of 0 es ++ later ≡ feeding 0 0 bs)
    → length (filter (λ e. nat_eq e.who 0) es) ≤ sum (map (λ b. b.size) bs) + 1
feeder_long es bs some fed =
    omega (arith, length-map (filter (λ e. nat_eq e.who 0) es) (λ e. step_at e), length-append (steps_of 0 es) fed.0, ap (λ l. length l) fed.1, fed_long 0 0 bs some) where
      step_at : LogEntry → Step
      step_at e = record { step = e.step; act = e.act }
