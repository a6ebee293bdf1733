-- The packets that clients play, as a report is checked.
use Rattle.report_check.proofs.Imports.{◌≡◌, ◌<◌, ◌≤◌, ◌+◌, ◌*◌, ◌^◌, ◌⊎◌, inl, inr, refl, sym, ap, subst, ◌∙◌, ℕ, zero, suc, List, [], ◌∷◌, ◌++◌, length, map, arith, length-append, Vec, slice_index_or, All, flat_map, range_with_len, Global, cases_lt, flat_map-append, get_or_past, All-nil, All-cons, All-head, All-tail, get_or-map-range_with_len, length-map-range_with_len, IsPacket, cut, Of188, Packets, packets_in, Playing, batch_of, cut_of, joined, with_write, are_joined, are_packets, few_in, Input, Frontend, FromDvr, Scripted, IsScript, AreWritten, writes_of, IsWritten, played, sources, AreFewPackets, brought_from, all_played}
use Rattle.std.proofs.Common.{Option, None}
use Rattle.std.proofs.lemmas.List.{append-nil}

-- ------ the packets of a caller

pub at_caller : (played : List (Vec (List ℕ) Global)) (who : ℕ) (packets : Vec (List ℕ) Global) → who < length played → packets ≡ slice_index_or played who packets
    → slice_index_or (map (λ p. p.items) played) who [] ≡ packets.items
at_caller [] who packets lt is = absurd (omega (arith, lt))
at_caller (p ∷ played) zero packets lt is = ap (λ (v : Vec (List ℕ) Global). v.items) (sym is)
at_caller (p ∷ played) (suc who) packets lt is = at_caller played who packets (omega (arith, lt)) is

pub at_none : (played : List (Vec (List ℕ) Global)) (who : ℕ) → length played ≤ who → slice_index_or (map (λ p. p.items) played) who [] ≡ []
at_none [] who past = refl
at_none (p ∷ played) zero past = absurd (omega (arith, past))
at_none (p ∷ played) (suc who) past = at_none played who (omega (arith, past))

pub are_few : (stream : List (List ℕ)) (played : List (List (List ℕ))) (who : ℕ) (input : Input) → AreFewPackets stream → All AreFewPackets played → AreFewPackets (brought_from stream played who input)
are_few stream played who Frontend few all = few
are_few stream played who FromDvr few all = go (cases_lt who (length played)) where
  go : (who < length played) ⊎ (length played ≤ who) → AreFewPackets (slice_index_or played who [])
  go (inl there) = all who [] there
  go (inr past) = subst AreFewPackets (sym (get_or_past played who [] past)) (All-nil IsPacket, omega arith)

-- ------ how many there are

pub length_at : (xs : List (List (List ℕ))) (i : ℕ) → slice_index_or (map (λ ps. length ps) xs) i 0 ≡ length (slice_index_or xs i [])
length_at [] i = refl
length_at (x ∷ xs) zero = refl
length_at (x ∷ xs) (suc i) = length_at xs i

pub count_at : (played : List (Vec (List ℕ) Global)) (who : ℕ) (packets : Vec (List ℕ) Global) → who < length played → packets ≡ slice_index_or played who packets
    → slice_index_or (map (λ ps. length ps) (map (λ p. p.items) played)) who 0 ≡ length packets.items
count_at played who packets lt is = length_at (map (λ p. p.items) played) who ∙ ap length (at_caller played who packets lt is)

pub none_at : (played : List (Vec (List ℕ) Global)) (who : ℕ) → length played ≤ who → slice_index_or (map (λ ps. length ps) (map (λ p. p.items) played)) who 0 ≡ 0
none_at played who past = length_at (map (λ p. p.items) played) who ∙ ap length (at_none played who past)

-- ------ the packets of all callers are those of a run

nothing_played : (script : Scripted) (c : ℕ) → length script.writes ≡ 8 → 8 ≤ c → played c script ≡ []
nothing_played script c eight past =
    ap (λ ws. (cut_of ws).packets) (get_or_past script.writes c [] (omega (arith, eight, past))) ∙ sym (are_joined [])

pub same_sources : (script : Scripted) → length script.writes ≡ 8 → (packets : List (List ℕ)) (who : ℕ) (input : Input) → brought_from packets (all_played script) who input ≡ sources script packets who input
same_sources script eight packets who Frontend = refl
same_sources script eight packets zero FromDvr = refl
same_sources script eight packets (suc c) FromDvr = go (cases_lt c 8) where
  all : List (List (List ℕ))
  all = map (λ client. played client script) (range_with_len 0 8)

  go : (c < 8) ⊎ (8 ≤ c) → slice_index_or (map (λ client. played client script) (range_with_len 0 8)) c [] ≡ played c script
  go (inl low) = get_or-map-range_with_len (λ client. played client script) 0 8 c c [] low (omega arith)
  go (inr past) =
      get_or_past all c [] (omega (arith, past, length-map-range_with_len (λ client. played client script) 0 8)) ∙ sym (nothing_played script c eight past)

-- ------ there are few of each

few_bytes : (writes : List (List ℕ)) → All IsWritten writes → length (joined writes) ≤ 12032 * length writes
few_bytes [] all = omega arith
few_bytes (bytes ∷ writes) all =
    let one = (All-head IsWritten bytes writes all).few in
    omega (arith, one, length-append bytes (joined writes), few_bytes writes (All-tail IsWritten bytes writes all))

few_of : (script : Scripted) (c : ℕ) → IsScript script → AreFewPackets (played c script)
few_of script c is = (are_packets (joined (writes_of c script.writes)), go (cases_lt c (length script.writes))) where
  go : (c < length script.writes) ⊎ (length script.writes ≤ c) → length (played c script) < 2 ^ 63
  go (inl there) =
      let w : AreWritten (writes_of c script.writes) = is.writes c [] there in
      omega (arith, few_in (joined (writes_of c script.writes)), few_bytes (writes_of c script.writes) w.each, w.few)
  go (inr past) = let none = ap length (nothing_played script c is.clients (omega (arith, past, is.clients))) in omega (arith, none)

few_each : (script : Scripted) (cs : List ℕ) → IsScript script → All AreFewPackets (map (λ client. played client script) cs)
few_each script [] is = All-nil AreFewPackets
few_each script (c ∷ cs) is = All-cons AreFewPackets (played c script) (map (λ client. played client script) cs) (few_of script c is) (few_each script cs is)

pub all_few : (script : Scripted) → IsScript script → All AreFewPackets (all_played script)
all_few script is = All-cons AreFewPackets [] (map (λ client. played client script) (range_with_len 0 8)) (All-nil IsPacket, omega arith) (few_each script (range_with_len 0 8) is)

-- ------ a write more

last_of : (before : List (Option Packets)) (last : Option Packets) → slice_index_or (before ++ last ∷ []) (length before) None ≡ last
last_of [] last = refl
last_of (b ∷ before) last = last_of before last

pub batches_more : (old new : Playing) (bytes : List ℕ) → new ≡ with_write bytes old → length new.batches ≡ length old.batches + 1
batches_more old new bytes made =
    ap (λ (p : Playing). length p.batches) made ∙ length-append old.batches (batch_of old.count (cut Of188 (old.rest ++ bytes)).packets ∷ [])

-- the packets of the writes' batches, with those of the write that was made last
pub batch_more : (old new : Playing) (bytes : List ℕ) (i : ℕ) → length old.batches ≡ i → new ≡ with_write bytes old
    → flat_map packets_in new.batches ≡ flat_map packets_in old.batches ++ packets_in (slice_index_or new.batches i None)
batch_more old new bytes i count made =
    let last : Option Packets = batch_of old.count (cut Of188 (old.rest ++ bytes)).packets in
    let more : new.batches ≡ old.batches ++ last ∷ [] = ap (λ (p : Playing). p.batches) made in
    let there : slice_index_or new.batches i None ≡ last = ap (λ (bs : List (Option Packets)). slice_index_or bs i None) more ∙ ap (λ n. slice_index_or (old.batches ++ last ∷ []) n None) (sym count) ∙ last_of old.batches last in
    ap (flat_map packets_in) more ∙ flat_map-append packets_in old.batches (last ∷ [])
    ∙ ap (λ (l : List (List ℕ)). flat_map packets_in old.batches ++ l) (append-nil (packets_in last) ∙ ap packets_in (sym there))
