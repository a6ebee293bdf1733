-- A node answers no more bytes than its passes bring.
use Rattle.node_laws.proofs.Imports.{ℕ, ◌+◌, ◌*◌, ◌≤◌, ◌≡◌, refl, sym, ap, ◌∙◌, subst, Bool, true, false, List, [], ◌∷◌, ◌++◌, Option, Some, None, length, drop, take, arith, length-drop, length-append, if◌then◌else◌, nat_eq, nat_le, filter, filter_map, sum_by, option_or, IfSome, All, concat, list_any, concat-append, sum_by-cons, All-filter, All-append, All-head, All-tail, all_front, all_behind, IsPacket, payload_start, has_payload, sections, fit, Input, Frontend, Output, Decoder, Tap, TsTap, TsdemuxTap, SectionParams, PesParams, Invocation, brought, Open, Close, SetFilter, SetPes, AddPid, RemovePid, Start, Stop, SetSize, Read, Poll, Pass, End, Attach, Detach, Response, Done, Busy, Refused, NoMemory, Data, Again, Overflow, TimedOut, Ready, Passed, is_accepted, Entry, Event, History, is_empty, event, after_of, entry_of, brought_by, Params, Empty, Section, Pes, params, pids, capture, stops, unstopped, started, dvr_capture, packets_in, packets_of, selects, is_oneshot, picked, pes_items, item_of, is_named, selected, timeout_of, clock_of, Expiry, expiry_at, expiry_in, offered_of, is_same_input, is_tapped, tapped, Rules, demux, dvr, answered_in, facts, with_call, May, IsLegalFor, Fits, bytes_answered, AnswersFitThePackets, answered_more, total_more, Goes, gone, anew, onward, Keeps, demux_keeps, dvr_keeps, live, section_items, expiry, offered, items, dvr_items}
use Rattle.dmx_calls.specs.Ledger.{joined, total, answered}
use Rattle.node_laws.proofs.Fitting.{allowed_response, response_fits, answers_unread}
use Rattle.node_laws.proofs.Pending.{Pending, within, pending}

-- ------ the packets that a history brings, entry by entry

-- how many packets its passes bring
abbrev packets_brought : History → ℕ
packets_brought [] = 0
packets_brought (e ∷ h) = length (brought e.invocation) + packets_brought h

-- they are packets
abbrev BringsPackets : History → Type 0
BringsPackets [] = Unit {0}
BringsPackets (e ∷ h) = BringsPackets h × All IsPacket (brought e.invocation)

count_brought : (h : History) → length (brought_by h) ≡ packets_brought h
count_brought [] = refl
count_brought (e ∷ h) = omega (arith, length-append (brought_by h) (brought e.invocation), count_brought h)

each_brought : (h : History) → All IsPacket (brought_by h) → BringsPackets h
each_brought [] all = tt
each_brought (e ∷ h) all = (each_brought h (all_front IsPacket (brought_by h) (brought e.invocation) all), all_behind IsPacket (brought_by h) (brought e.invocation) all)

-- how many packets these events bring, and that they are packets
pub packets_at : List Event → ℕ
packets_at [] = 0
packets_at (ev ∷ evs) = length (brought ev.entry.invocation) + packets_at evs

pub ArePackets : List Event → Type 0
ArePackets [] = Unit {0}
ArePackets (ev ∷ evs) = ArePackets evs × All IsPacket (brought ev.entry.invocation)

module _ (node : Rules) where
  -- what isn't accepted answers nothing
  pub answers_none : (h : History) (who : ℕ) (call : Invocation) (r : Response) → is_accepted r ≡ false → answered_in (event (entry_of who call r) h) ≡ 0
  answers_none h who call (Done a b tap) nay = refl
  answers_none h who call (Busy o) nay = refl
  answers_none h who call (Refused x) nay = refl
  answers_none h who call NoMemory nay = refl
  answers_none h who call (Data d) nay = absurd (cc)
  answers_none h who call (Again b) nay = refl
  answers_none h who call (Overflow from to item need room) nay = absurd (cc)
  answers_none h who call (TimedOut a b c) nay = refl
  answers_none h who call (Ready a b c d) nay = refl
  answers_none h who call Passed nay = refl

  pub captured : History → ℕ
  captured h = packets_at (after_of (node.capture h))

  record Paid (h : History) : Type 0 where
    le : answered node h ≤ total node h
    bytes : bytes_answered h + 188 * captured h ≤ 188 * packets_brought h + answered node h
    packets : ArePackets (after_of (node.capture h))

  module _ (keeps : Keeps node) (fits : (h : History) → ArePackets (after_of (node.capture h)) → total node h ≤ 188 * captured h) where
    fresh_paid : (e : Entry) (h : History) → All IsPacket (brought e.invocation) → Paid h → answered_in (event e h) + answered node h ≤ total node h
        → after_of (node.capture (e ∷ h)) ≡ [] → Paid (e ∷ h)
    unfolding answered captured packets_at ArePackets
    fresh_paid e h ps p unread is = record {
      le = rw is (omega arith);
      bytes = rw is (omega (arith, p.bytes, unread, fits h p.packets));
      packets = rw is tt;
    }

    next_paid : (e : Entry) (h : History) → Goes node e h → All IsPacket (brought e.invocation) → Paid h → answered_in (event e h) + answered node h ≤ total node h → Paid (e ∷ h)
    unfolding captured packets_at ArePackets
    next_paid e h (gone is) ps p unread = fresh_paid e h ps p unread (ap after_of is)
    next_paid e h (anew is) ps p unread = fresh_paid e h ps p unread (ap after_of is)
    next_paid e h (onward s runs longer set new arrive) ps p unread =
        let here : packets_at (after_of (node.capture h)) ≡ packets_at s.after = ap (λ o. packets_at (after_of o)) runs in
        let there : packets_at (after_of (node.capture (e ∷ h))) ≡ length (brought e.invocation) + packets_at s.after = ap (λ o. packets_at (after_of o)) longer in
        let a = answered_more node e h s runs longer in
        record {
          le = omega (arith, unread, a, total_more node e h s runs longer new arrive);
          bytes = omega (arith, p.bytes, here, there, a);
          packets = subst (λ o. ArePackets (after_of o)) (sym longer) (subst (λ o. ArePackets (after_of o)) runs p.packets, ps);
        }

    refused_paid : (e : Entry) (h : History) → is_accepted e.response ≡ false → Paid h → Paid (e ∷ h)
    unfolding captured answered total joined
    refused_paid e h nay p =
        let same = keeps.refused e h nay in
        let none : answered_in (event e h) ≡ 0 = answers_none h e.who e.invocation e.response nay in
        record {
          le = rw (same.0, same.1) p.le;
          bytes = rw same.0 (omega (arith, p.bytes, none));
          packets = rw same.0 p.packets;
        }

    any_paid : (e : Entry) (h : History) → Pending node h → May node h e.who e.invocation e.response → All IsPacket (brought e.invocation) → Paid h → (b : Bool) → is_accepted e.response ≡ b → Paid (e ∷ h)
    any_paid e h q may ps p true ok =
        let P : Response → Type 0 = Fits node (joined node h) h in
        let fitting : P e.response = subst P (sym (allowed_response node h e.who e.invocation e.response may ok)) (response_fits node h q.le (within node h q) (facts node (with_call h e.who e.invocation)) e.invocation) in
        next_paid e h (keeps.accepted e h ok) ps p (answers_unread node h e.who e.invocation e.response q.le (within node h q) fitting)
    any_paid e h q may ps p false nay = refused_paid e h nay p

    paid : (h : History) → IsLegalFor node h → BringsPackets h → Paid h
    unfolding captured packets_at ArePackets answered total
    paid [] legal ps = record { le = rw keeps.empty (omega arith); bytes = rw keeps.empty (omega arith); packets = rw keeps.empty tt }
    paid (e ∷ h) legal ps = any_paid e h (pending node keeps h legal.0) legal.1 ps.1 (paid h legal.0 ps.0) (is_accepted e.response) refl

    pub answers_fit : AnswersFitThePackets node
    answers_fit h legal all =
        let p = paid h legal (each_brought h all) in let many = count_brought h in
        omega (arith, p.bytes, p.le, fits h p.packets, many)

-- ------ lists

length-concat_append : (xs ys : List (List ℕ)) → length (concat (xs ++ ys)) ≡ length (concat xs) + length (concat ys)
length-concat_append xs ys = ap length (concat-append xs ys) ∙ length-append (concat xs) (concat ys)

concat-length : (xs : List (List ℕ)) → length (concat xs) ≡ sum_by length xs
concat-length [] = refl
concat-length (x ∷ xs) = omega (arith, length-append x (concat xs), concat-length xs, sum_by-cons length x xs)

filter-few : (p : List ℕ → Bool) (xs : List (List ℕ)) → length (concat (filter p xs)) ≤ length (concat xs)
filter-few p [] = omega arith
filter-few p (x ∷ xs) = go (p x) refl (filter-few p xs) where
  go : (b : Bool) → p x ≡ b → length (concat (filter p xs)) ≤ length (concat xs) → length (concat (filter p (x ∷ xs))) ≤ length (concat (x ∷ xs))
  go true yea le = rw yea (omega (arith, le, length-append x (concat (filter p xs)), length-append x (concat xs)))
  go false nay le = rw nay (omega (arith, le, length-append x (concat xs)))

take_one-few : (xs : List (List ℕ)) → length (concat (take 1 xs)) ≤ length (concat xs)
take_one-few [] = omega arith
take_one-few (x ∷ xs) = omega (arith, length-append x [], length-append x (concat xs))

packets-length : (ps : List (List ℕ)) → All IsPacket ps → length (concat ps) ≤ 188 * length ps
packets-length [] all = omega arith
packets-length (p ∷ ps) all =
    omega (arith, length-append p (concat ps), (All-head IsPacket p ps all).size, packets-length ps (All-tail IsPacket p ps all))

-- ------ the packets of one input

record Part (part whole : List (List ℕ)) : Type 0 where
  few : length part ≤ length whole
  are : All IsPacket part

none_part : (whole : List (List ℕ)) → Part [] whole
none_part whole = record { few = omega arith; are = λ k d below. absurd (omega (arith, below)) }

if_part : (b : Bool) (ps : List (List ℕ)) → All IsPacket ps → Part (if b then ps else []) ps
if_part true ps all = record { few = omega arith; are = all }
if_part false ps all = none_part ps

part_in : (input : Input) (who : ℕ) (call : Invocation) (r : Response) (h : History) → All IsPacket (brought call) → Part (packets_in input (event (entry_of who call r) h)) (brought call)
part_in input who (Pass from first ps now) r h all = if_part (is_same_input from input) ps all
part_in input who Open r h all = none_part []
part_in input who Close r h all = none_part []
part_in input who (SetFilter p now) r h all = none_part []
part_in input who (SetPes p now) r h all = none_part []
part_in input who (AddPid n) r h all = none_part []
part_in input who (RemovePid n) r h all = none_part []
part_in input who (Start now) r h all = none_part []
part_in input who Stop r h all = none_part []
part_in input who (SetSize n) r h all = none_part []
part_in input who (Read now count) r h all = none_part []
part_in input who (Poll now) r h all = none_part []
part_in input who End r h all = none_part []
part_in input who (Attach n ps) r h all = none_part []
part_in input who (Detach n) r h all = none_part []

part_of : (input : Input) (ev : Event) → All IsPacket (brought ev.entry.invocation) → Part (packets_in input ev) (brought ev.entry.invocation)
part_of input ev all = part_in input ev.entry.who ev.entry.invocation ev.entry.response ev.before all

-- ------ the dvr node

tapped_few : (evs : List Event) → ArePackets evs → length (concat (tapped evs)) ≤ 188 * packets_at evs
unfolding ArePackets packets_at
tapped_few [] are = omega arith
tapped_few (ev ∷ evs) are =
    let part : Part (packets_in Frontend ev) (brought ev.entry.invocation) = part_of Frontend ev are.1 in
    omega (arith, tapped_few evs are.0, length-concat_append (tapped evs) (filter (is_tapped ev.before) (packets_in Frontend ev)), filter-few (is_tapped ev.before) (packets_in Frontend ev), packets-length (packets_in Frontend ev) part.are, part.few)

dvr_fits : (h : History) → ArePackets (after_of (dvr_capture h)) → total dvr h ≤ 188 * captured dvr h
unfolding total joined dvr_items captured
dvr_fits h are = tapped_few (after_of (dvr_capture h)) are

pub dvr_answers_fit : AnswersFitThePackets dvr
dvr_answers_fit = answers_fit dvr dvr_keeps dvr_fits

-- ------ demux nodes

packets_few : (evs : List Event) → ArePackets evs → Part (packets_of Frontend evs) (packets_of Frontend evs) × (length (packets_of Frontend evs) ≤ packets_at evs)
unfolding ArePackets packets_at
packets_few [] are = (none_part [], omega arith)
packets_few (ev ∷ evs) are =
    let part : Part (packets_in Frontend ev) (brought ev.entry.invocation) = part_of Frontend ev are.1 in
    let before = packets_few evs are.0 in (
      record { few = omega arith; are = All-append IsPacket (packets_of Frontend evs) (packets_in Frontend ev) before.0.are part.are },
      omega (arith, before.1, part.few, length-append (packets_of Frontend evs) (packets_in Frontend ev)),
    )

once_few : (b : Bool) (xs : List (List ℕ)) → length (concat (if b then take 1 xs else xs)) ≤ length (concat xs)
once_few true xs = take_one-few xs
once_few false xs = omega arith

section_few : (p : SectionParams) (evs : List Event) → ArePackets evs → length (concat (section_items p evs)) ≤ 188 * packets_at evs
unfolding section_items
section_few p evs are =
    let packets = packets_few evs are in
    let found = sections (packets_of Frontend evs) p.pid in
    omega (arith, once_few (is_oneshot p) (filter (selects p) found), filter-few (selects p) found, concat-length found, fit (packets_of Frontend evs) p.pid packets.0.are, packets.1)

abbrev pub IsShort : Option (List ℕ) → Type 0
IsShort o = IfSome o (λ item. length item ≤ 188)

mapped_few : (f : List ℕ → Option (List ℕ)) (ps : List (List ℕ)) → All (λ p. IsShort (f p)) ps → length (concat (filter_map f ps)) ≤ 188 * length ps
mapped_few f [] all = omega arith
mapped_few f (p ∷ ps) all = go (f p) refl (All-head (λ p. IsShort (f p)) p ps all) (mapped_few f ps (All-tail (λ p. IsShort (f p)) p ps all)) where
  go : (o : Option (List ℕ)) → f p ≡ o → IsShort o → length (concat (filter_map f ps)) ≤ 188 * length ps → length (concat (filter_map f (p ∷ ps))) ≤ 188 * length (p ∷ ps)
  go None none short le = rw none (omega (arith, le))
  go (Some item) some short le = rw some (omega (arith, le, short, length-append item (concat (filter_map f ps))))

payload_short : (p : List ℕ) → IsPacket p → (b : Bool) (start : ℕ) → IsShort (if b then Some (drop start p) else None)
payload_short p is true start = omega (arith, is.size, length-drop start p)
payload_short p is false start = tt

item_short : (output : Output) (p : List ℕ) → IsPacket p → IsShort (item_of output p)
item_short Decoder p is = tt
item_short Tap p is = payload_short p is (has_payload p) (payload_start p)
item_short TsTap p is = tt
item_short TsdemuxTap p is = omega (arith, is.size)

fewer : (q : List ℕ → Bool) (ps : List (List ℕ)) → length (filter q ps) ≤ length ps
fewer q [] = omega arith
fewer q (p ∷ ps) = go (q p) refl (fewer q ps) where
  go : (b : Bool) → q p ≡ b → length (filter q ps) ≤ length ps → length (filter q (p ∷ ps)) ≤ length (p ∷ ps)
  go true yea le = rw yea (omega (arith, le))
  go false nay le = rw nay (omega (arith, le))

picked_few : (output : Output) (names : List ℕ) (ps : List (List ℕ)) → All IsPacket ps → length (concat (picked output names ps)) ≤ 188 * length ps
picked_few output names ps all =
    let named : All IsPacket (filter (is_named names) ps) = All-filter (is_named names) IsPacket ps all in
    omega (arith, fewer (is_named names) ps, mapped_few (item_of output) (filter (is_named names) ps) (λ k d below. item_short output _ (named k d below)))

pes_few : (p : PesParams) (evs : List Event) → ArePackets evs → length (concat (pes_items p evs)) ≤ 188 * packets_at evs
unfolding ArePackets packets_at
pes_few p [] are = omega arith
pes_few p (ev ∷ evs) are =
    let part : Part (packets_in p.input ev) (brought ev.entry.invocation) = part_of p.input ev are.1 in
    omega (arith, pes_few p evs are.0, length-concat_append (pes_items p evs) (picked p.output (pids ev.before) (packets_in p.input ev)), picked_few p.output (pids ev.before) (packets_in p.input ev) part.are, part.few)

selected_few : (set : Params) (evs : List Event) → ArePackets evs → length (concat (selected set evs)) ≤ 188 * packets_at evs
selected_few Empty evs are = omega arith
selected_few (Section p) evs are = section_few p evs are
selected_few (Pes p) evs are = pes_few p evs are

-- the first of these events
record Some_of (part whole : List Event) : Type 0 where
  few : packets_at part ≤ packets_at whole
  are : ArePackets whole → ArePackets part

all_of : (evs : List Event) → Some_of evs evs
all_of evs = record { few = omega arith; are = λ a. a }

one_less : (ev : Event) (part evs : List Event) → Some_of part evs → Some_of part (ev ∷ evs)
unfolding ArePackets packets_at
one_less ev part evs s = record { few = omega (arith, s.few); are = λ a. s.are a.0 }

unstopped_some : (evs : List Event) → Some_of (unstopped evs) evs
unstopped_some [] = all_of []
unstopped_some (ev ∷ evs) = go (list_any stops (ev ∷ evs)) (unstopped_some evs) where
  go : (b : Bool) → Some_of (unstopped evs) evs → Some_of (if b then unstopped evs else ev ∷ evs) (ev ∷ evs)
  go true s = one_less ev (unstopped evs) evs s
  go false s = all_of (ev ∷ evs)

expiry_some : (set : Params) (due : ℕ) (evs : List Event) (o : Option Expiry) → expiry_in set due evs ≡ o → IfSome o (λ x. Some_of x.before evs)
expiry_some set due [] o is = subst (λ o. IfSome o (λ x. Some_of x.before [])) is tt
expiry_some set due (ev ∷ evs) o is = subst (λ o. IfSome o (λ x. Some_of x.before (ev ∷ evs))) is (go (expiry_in set due evs) (expiry_some set due evs (expiry_in set due evs) refl) (is_empty (selected set evs)) (clock_of ev)) where
  at : (now : Option ℕ) → IfSome {T = Expiry} (expiry_at due now evs) (λ x. Some_of x.before (ev ∷ evs))
  at None = tt
  at (Some now) = by_due (nat_le due now) where
    by_due : (b : Bool) → IfSome {T = Expiry} (if b then Some (record { now = now; before = evs }) else None) (λ x. Some_of x.before (ev ∷ evs))
    by_due true = one_less ev evs evs (all_of evs)
    by_due false = tt

  go : (before : Option Expiry) → IfSome before (λ x. Some_of x.before evs) → (b : Bool) (now : Option ℕ)
      → IfSome (option_or before (if b then expiry_at due now evs else None)) (λ x. Some_of x.before (ev ∷ evs))
  go (Some x) s b now = one_less ev x.before evs s
  go None s true now = at now
  go None s false now = tt

offered_some : (evs : List Event) (o : Option Expiry) → IfSome o (λ x. Some_of x.before evs) → Some_of (offered_of evs o) evs
offered_some evs None s = all_of evs
offered_some evs (Some x) s = s

expiry_when : (set : Params) (due : ℕ) (evs : List Event) (b : Bool) → IfSome (if b then None else expiry_in set due evs) (λ x. Some_of x.before evs)
expiry_when set due evs true = tt
expiry_when set due evs false = expiry_some set due evs (expiry_in set due evs) refl

demux_fits : (h : History) → ArePackets (after_of (capture h)) → total demux h ≤ 188 * captured demux h
unfolding total joined items offered expiry live captured
demux_fits h are =
    let evs = after_of (capture h) in
    let l : Some_of (unstopped evs) evs = unstopped_some evs in
    let o : Some_of (offered h) (unstopped evs) = offered_some (unstopped evs) (expiry h) (expiry_when (params h) (started h + timeout_of (params h)) (unstopped evs) (nat_eq (timeout_of (params h)) 0)) in
    omega (arith, selected_few (params h) (offered h) (o.are (l.are are)), o.few, l.few)

pub demux_answers_fit : AnswersFitThePackets demux
demux_answers_fit = answers_fit demux demux_keeps demux_fits
