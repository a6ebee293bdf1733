-- How the batches of writes come from the bytes of all.
use Rattle.client_core.proofs.Imports.{◌≡◌, refl, sym, ap, subst, ◌∙◌, ℕ, zero, suc, ◌+◌, ◌-◌, ◌*◌, ◌<◌, ◌≤◌, List, [], ◌∷◌, ◌++◌, Option, Some, length, take, drop, inl, inr, arith, length-append, slice_get, flat_map, IfSome, All-nil, All-cons, All-head, All-tail, cases_lt, flat_map-append, drop-drop, length-drop, length-take-le, take-append-drop, drop-append_seam, drop-append-add, take-append_seam, take-length, Cut, only_rest, join, Cutting, Cuts, IsRest, fresh, IsPacket, Piece, packet, skipped, IsPiece, bytes_of, packets_of, Of188, cut-append, cut-rest, cut_after-is_rest, cut_after-size, has-pieces, Packets, batch_of, plays_from, plays, joined, cut_of, Playing, unplayed, with_write, HasPlayed, most_bytes, AreJoined, AreCounted, AreCompleted, ArePlaced, IsPlayed, StandsAmong, packets_in, whole_by, nil_from_length, cut, cut_after, in_bytes}
use Rattle.std.proofs.Common.{append_assoc, append-nil}
use Rattle.std.specs.Prelude.{All}
use Rattle.client_core.specs.PlayLaws.{AreFew}

-- ------ the cutting

-- what is left begins a packet that isn't whole
pub is_rest : (xs : List ℕ) → IsRest Of188 (cut Of188 xs).rest
unfolding cut
is_rest xs = cut_after-is_rest Of188 0 xs

pub no_rest : IsRest Of188 []
unfolding cut cut_after
no_rest = is_rest []

-- which is shorter than a packet
short_rest : (rest : List ℕ) → IsRest Of188 rest → length rest < 188
unfolding in_bytes
short_rest rest is = is.short

pub few_in : (xs : List ℕ) → 188 * length (cut Of188 xs).packets + (cut Of188 xs).skipped + length (cut Of188 xs).rest ≤ length xs
unfolding cut
few_in xs = let h = cut_after-size Of188 0 xs (omega arith) in omega (arith, h)

pub short : (xs : List ℕ) → length (cut Of188 xs).rest < 188
short xs = short_rest (cut Of188 xs).rest (is_rest xs)

-- nothing more was written
none_more : (rest : List ℕ) → IsRest Of188 rest → cut Of188 (rest ++ []) ≡ only_rest rest
none_more rest is = ap (cut Of188) (append-nil rest) ∙ cut-rest Of188 rest is

-- one write, and others behind it
one_more : (rest bytes : List ℕ) (writes : List (List ℕ))
    → cut Of188 (rest ++ joined (bytes ∷ writes)) ≡ join (cut Of188 (rest ++ bytes)) (cut Of188 ((cut Of188 (rest ++ bytes)).rest ++ joined writes))
one_more rest bytes writes = ap (cut Of188) (sym (append_assoc rest bytes (joined writes))) ∙ cut-append Of188 (rest ++ bytes) (joined writes)

-- ------ joined

in_batch : (first : ℕ) (ps : List (List ℕ)) → packets_in (batch_of first ps) ≡ ps
in_batch first [] = refl
in_batch first (p ∷ ps) = refl

joined_from : (first : ℕ) (rest : List ℕ) (writes : List (List ℕ)) → IsRest Of188 rest
    → flat_map packets_in (plays_from first rest writes) ≡ (cut Of188 (rest ++ joined writes)).packets
joined_from first rest [] is = sym (ap (λ c. c.packets) (none_more rest is))
joined_from first rest (bytes ∷ writes) is =
    let c : Cut = cut Of188 (rest ++ bytes) in
    ap (λ ps. ps ++ flat_map packets_in (plays_from (first + length c.packets) c.rest writes)) (in_batch first c.packets)
    ∙ ap (λ ps. c.packets ++ ps) (joined_from (first + length c.packets) c.rest writes (is_rest (rest ++ bytes)))
    ∙ sym (ap (λ d. d.packets) (one_more rest bytes writes))

pub are_joined : AreJoined
are_joined writes = joined_from 0 [] writes no_rest

counted_from : (first : ℕ) (rest : List ℕ) (writes : List (List ℕ)) → length (plays_from first rest writes) ≡ length writes
counted_from first rest [] = refl
counted_from first rest (bytes ∷ writes) = let c : Cut = cut Of188 (rest ++ bytes) in let more = counted_from (first + length c.packets) c.rest writes in omega (arith, more)

pub are_counted : AreCounted
are_counted writes = counted_from 0 [] writes

-- ------ one write more

-- the batch of a write behind others
abbrev next : (first : ℕ) → Cut → (bytes : List ℕ) → Option Packets
next first c bytes = batch_of (first + length c.packets) (cut Of188 (c.rest ++ bytes)).packets

plays_more : (first : ℕ) (rest : List ℕ) (writes : List (List ℕ)) (bytes : List ℕ) → IsRest Of188 rest
    → plays_from first rest (writes ++ bytes ∷ []) ≡ plays_from first rest writes ++ next first (cut Of188 (rest ++ joined writes)) bytes ∷ []
plays_more first rest [] bytes is =
    let now : first + 0 ≡ first = omega arith in
    ap (λ n. batch_of n (cut Of188 (rest ++ bytes)).packets ∷ []) (sym now) ∙ ap (λ c. next first c bytes ∷ []) (sym (none_more rest is))
plays_more first rest (b ∷ writes) bytes is =
    let c : Cut = cut Of188 (rest ++ b) in
    let d : Cut = cut Of188 (c.rest ++ joined writes) in
    let count : first + length c.packets + length d.packets ≡ first + length (c.packets ++ d.packets) = omega (arith, length-append c.packets d.packets) in
    let later = plays_more (first + length c.packets) c.rest writes bytes (is_rest (rest ++ b)) in
    ap (λ bs. batch_of first c.packets ∷ bs) (later ∙ ap (λ n. plays_from (first + length c.packets) c.rest writes ++ batch_of n (cut Of188 (d.rest ++ bytes)).packets ∷ []) count
    ∙ ap (λ e. plays_from (first + length c.packets) c.rest writes ++ next first e bytes ∷ []) (sym (one_more rest b writes)))

joined_more : (writes : List (List ℕ)) (bytes : List ℕ) → joined (writes ++ bytes ∷ []) ≡ joined writes ++ bytes
joined_more writes bytes = flat_map-append (λ (x : List ℕ). x) writes (bytes ∷ []) ∙ ap (λ xs. joined writes ++ xs) (append-nil bytes)

played_more : (writes : List (List ℕ)) (bytes : List ℕ) (p : Playing) → HasPlayed writes p → HasPlayed (writes ++ bytes ∷ []) (with_write bytes p)
played_more writes bytes p has =
    let c : Cut = cut_of writes in
    let whole : cut_of (writes ++ bytes ∷ []) ≡ join c (cut Of188 (c.rest ++ bytes)) = ap (cut Of188) (joined_more writes bytes) ∙ cut-append Of188 (joined writes) bytes in
    let here : cut Of188 (p.rest ++ bytes) ≡ cut Of188 (c.rest ++ bytes) = ap (λ r. cut Of188 (r ++ bytes)) has.rest in
    let now : 0 + length c.packets ≡ p.count = omega (arith, has.count) in
    record {
      rest = ap (λ d. d.rest) here ∙ sym (ap (λ d. d.rest) whole);
      count = ap (λ d. p.count + length d.packets) here ∙ (let k = length-append c.packets (cut Of188 (c.rest ++ bytes)).packets in let sum : p.count + length (cut Of188 (c.rest ++ bytes)).packets ≡ length (c.packets ++ (cut Of188 (c.rest ++ bytes)).packets) = omega (arith, k, has.count) in sum)
          ∙ sym (ap (λ d. length d.packets) whole);
      batches = ap (λ bs. bs ++ batch_of p.count (cut Of188 (p.rest ++ bytes)).packets ∷ []) has.batches
          ∙ ap (λ d. plays writes ++ batch_of p.count d.packets ∷ []) here
          ∙ ap (λ n. plays writes ++ batch_of n (cut Of188 (c.rest ++ bytes)).packets ∷ []) (sym now)
          ∙ sym (plays_more 0 [] writes bytes no_rest);
    }

pub tied_by : (writes : List (List ℕ)) (bytes : List ℕ) (old new : Playing) → new ≡ with_write bytes old → HasPlayed writes old → HasPlayed (writes ++ bytes ∷ []) new
tied_by writes bytes old new is has = subst (λ (p : Playing). HasPlayed (writes ++ bytes ∷ []) p) (sym is) (played_more writes bytes old has)

-- nothing was written
pub played_none : (p : Playing) → p ≡ unplayed → HasPlayed [] p
unfolding cut cut_after
played_none p is = record { rest = ap (λ (q : Playing). q.rest) is; count = ap (λ (q : Playing). q.count) is; batches = ap (λ (q : Playing). q.batches) is }

-- ------ the batch of one write

-- what the write at a place completes, where a rest was there before
abbrev done_at : (first : ℕ) → (before after : Cut) → Option Packets
done_at first before after = batch_of (first + length before.packets) (drop (length before.packets) after.packets)

completed_from : (first : ℕ) (rest : List ℕ) (writes : List (List ℕ)) (place : ℕ) → IsRest Of188 rest → place < length writes
    → slice_get (plays_from first rest writes) place ≡ Some (done_at first (cut Of188 (rest ++ joined (take place writes))) (cut Of188 (rest ++ joined (take (suc place) writes))))
completed_from first rest [] place is lt = absurd (omega (arith, lt))
completed_from first rest (bytes ∷ writes) zero is lt =
    let now : first + 0 ≡ first = omega arith in
    let all : cut Of188 (rest ++ (bytes ++ [])) ≡ cut Of188 (rest ++ bytes) = ap (λ xs. cut Of188 (rest ++ xs)) (append-nil bytes) in
    ap (λ n. Some (batch_of n (cut Of188 (rest ++ bytes)).packets)) (sym now)
    ∙ ap (λ c. Some (done_at first c (cut Of188 (rest ++ bytes)))) (sym (none_more rest is))
    ∙ ap (λ c. Some (done_at first (cut Of188 (rest ++ [])) c)) (sym all)
completed_from first rest (bytes ∷ writes) (suc place) is lt =
    let c : Cut = cut Of188 (rest ++ bytes) in
    let before : Cut = cut Of188 (c.rest ++ joined (take place writes)) in
    let after : Cut = cut Of188 (c.rest ++ joined (take (suc place) writes)) in
    let count : first + length c.packets + length before.packets ≡ first + length (c.packets ++ before.packets) = omega (arith, length-append c.packets before.packets) in
    let behind : drop (length before.packets) after.packets ≡ drop (length (c.packets ++ before.packets)) (c.packets ++ after.packets) =
    sym (ap (λ n. drop n (c.packets ++ after.packets)) (length-append c.packets before.packets) ∙ drop-append-add c.packets after.packets (length before.packets)) in
    completed_from (first + length c.packets) c.rest writes place (is_rest (rest ++ bytes)) (omega (arith, lt))
    ∙ ap (λ n. Some (batch_of n (drop (length before.packets) after.packets))) count
    ∙ ap (λ ps. Some (batch_of (first + length (c.packets ++ before.packets)) ps)) behind
    ∙ ap (λ d. Some (done_at first d (join c after))) (sym (one_more rest bytes (take place writes)))
    ∙ ap (λ d. Some (done_at first (cut Of188 (rest ++ joined (bytes ∷ take place writes))) d)) (sym (one_more rest bytes (take (suc place) writes)))

pub are_completed : AreCompleted
are_completed writes place lt =
    let next : suc place ≡ place + 1 = omega arith in
    let now : 0 + length (whole_by place writes) ≡ length (whole_by place writes) = omega arith in
    completed_from 0 [] writes place no_rest lt
    ∙ ap (λ n. Some (batch_of (0 + length (whole_by place writes)) (drop (length (whole_by place writes)) (whole_by n writes)))) next
    ∙ ap (λ n. Some (batch_of n (drop (length (whole_by place writes)) (whole_by (place + 1) writes)))) now

-- ------ packets

of_pieces : (pieces : List Piece) → All (IsPiece Of188) pieces → All IsPacket (packets_of pieces)
of_pieces [] are = All-nil IsPacket
of_pieces (packet bytes over ∷ pieces) are =
    All-cons IsPacket bytes (packets_of pieces) (All-head (IsPiece Of188) (packet bytes over) pieces are).0 (of_pieces pieces (All-tail (IsPiece Of188) (packet bytes over) pieces are))
of_pieces (skipped byte ∷ pieces) are = of_pieces pieces (All-tail (IsPiece Of188) (skipped byte) pieces are)

pub are_packets : (xs : List ℕ) → All IsPacket (cut Of188 xs).packets
unfolding cut
are_packets xs =
    let h = has-pieces Of188 0 xs (omega arith) in
    subst (λ (ps : List (List ℕ)). All IsPacket ps) (sym h.cuts.packets) (of_pieces h.pieces h.made.pieces_are)

batch_few : (first : ℕ) (ps : List (List ℕ)) → length ps ≤ 64 → All IsPacket ps → IfSome (batch_of first ps) IsPlayed
batch_few first [] few are = tt
batch_few first (p ∷ ps) few are = record { some = omega arith; few = few; packets = are }

few_from : (first : ℕ) (rest : List ℕ) (writes : List (List ℕ)) → IsRest Of188 rest → All (λ bytes. length bytes ≤ most_bytes) writes
    → All (λ batch. IfSome batch IsPlayed) (plays_from first rest writes)
few_from first rest [] is short = All-nil (λ (batch : Option Packets). IfSome batch IsPlayed)
few_from first rest (bytes ∷ writes) is short =
    let c : Cut = cut Of188 (rest ++ bytes) in
    let here : length bytes ≤ most_bytes = All-head (λ (b : List ℕ). length b ≤ most_bytes) bytes writes short in
    let few : length c.packets ≤ 64 = omega (arith, few_in (rest ++ bytes), length-append rest bytes, here, short_rest rest is) in
    All-cons (λ (batch : Option Packets). IfSome batch IsPlayed) (batch_of first c.packets) (plays_from (first + length c.packets) c.rest writes) (batch_few first c.packets few (are_packets (rest ++ bytes)))
    (few_from (first + length c.packets) c.rest writes (is_rest (rest ++ bytes)) (All-tail (λ (b : List ℕ). length b ≤ most_bytes) bytes writes short))

pub are_few : AreFew
are_few writes short = few_from 0 [] writes no_rest short

-- ------ their places

batch_placed : (all : List (List ℕ)) (first : ℕ) (ps more : List (List ℕ)) → drop first all ≡ ps ++ more → IfSome (batch_of first ps) (StandsAmong all)
batch_placed all first [] more at = tt
batch_placed all first (p ∷ ps) more at = sym (ap (λ xs. take (length (p ∷ ps)) xs) at ∙ take-append_seam (p ∷ ps) more)

placed_from : (all : List (List ℕ)) (first : ℕ) (rest : List ℕ) (writes : List (List ℕ)) → drop first all ≡ (cut Of188 (rest ++ joined writes)).packets
    → All (λ batch. IfSome batch (StandsAmong all)) (plays_from first rest writes)
placed_from all first rest [] at = All-nil (λ (batch : Option Packets). IfSome batch (StandsAmong all))
placed_from all first rest (bytes ∷ writes) at =
    let c : Cut = cut Of188 (rest ++ bytes) in
    let d : Cut = cut Of188 (c.rest ++ joined writes) in
    let here : drop first all ≡ c.packets ++ d.packets = at ∙ ap (λ e. e.packets) (one_more rest bytes writes) in
    let later : drop (first + length c.packets) all ≡ d.packets =
    sym (drop-drop (length c.packets) first all) ∙ ap (λ ps. drop (length c.packets) ps) here ∙ drop-append_seam c.packets d.packets in
    All-cons (λ (batch : Option Packets). IfSome batch (StandsAmong all)) (batch_of first c.packets) (plays_from (first + length c.packets) c.rest writes)
    (batch_placed all first c.packets d.packets here) (placed_from all (first + length c.packets) c.rest writes later)

pub are_placed : ArePlaced
are_placed writes = placed_from (cut_of writes).packets 0 [] writes refl

-- ------ what is left

-- what is left are the last bytes
pub last_bytes : (xs : List ℕ) → drop (length xs - length (cut Of188 xs).rest) xs ≡ (cut Of188 xs).rest
unfolding cut
last_bytes xs =
    let h = has-pieces Of188 0 xs (omega arith) in
    let front : List ℕ = flat_map bytes_of h.pieces in
    let rest : List ℕ = (cut_after Of188 0 xs).rest in
    let whole : xs ≡ front ++ rest = h.made.whole in
    let count : length xs - length rest ≡ length front = omega (arith, ap length whole, length-append front rest) in
    ap (λ n. drop n xs) count ∙ ap (λ ys. drop (length front) ys) whole ∙ drop-append_seam front rest

-- ------ all at once

-- Two pushes into a room for 64 packets each: the first takes all packets of few bytes, and the second, which is for the bytes
-- behind 64 packets, finds none and takes all bytes.
module _ (bytes : List ℕ) (taken again : ℕ) (found none : List (List ℕ)) (mid end : Cutting) (few : length bytes ≤ 12219)
    (left : List ℕ) (are : left ≡ drop taken bytes) (within : taken ≤ length bytes) (stops : taken < length bytes → 64 ≤ length found)
    (within_again : again ≤ length left) (stops_again : again < length left → 64 ≤ length none)
    (first : Cuts (fresh Of188) (take taken bytes) found mid)
    (second : Cuts (fresh Of188) (take taken bytes ++ take again left) (found ++ none) end) where
  left_count : length left ≡ length bytes - taken
  left_count = ap length are ∙ length-drop taken bytes

  abbrev all : List ℕ
  all = take taken bytes ++ take again left

  at_most : 188 * length (found ++ none) ≤ 12219
  at_most =
      let same : (cut Of188 all).packets ≡ found ++ none = second.packets in
      let count : length all ≡ taken + again =
      omega (arith, length-append (take taken bytes) (take again left), length-take-le taken bytes within, length-take-le again left within_again) in
      omega (arith, few_in all, ap length same, few, within, within_again, count, left_count)

  none_behind : taken ≡ length bytes → length none ≡ 0
  none_behind is =
      let gone : length left ≡ 0 = omega (arith, left_count, is) in
      let short : length (take again left) ≡ 0 = omega (arith, length-take-le again left within_again, within_again, gone) in
      let same : all ≡ take taken bytes = ap (λ xs. take taken bytes ++ xs) (nil_from_length (take again left) short) ∙ append-nil (take taken bytes) in
      omega (arith, length-append found none, ap length (sym second.packets ∙ ap (λ xs. (cut Of188 xs).packets) same ∙ first.packets))

  none_more_found : length none ≡ 0
  none_more_found = elim (cases_lt taken (length bytes)) [
    | inl lt ↦ omega (arith, stops lt, length-append found none, at_most)
    | inr le ↦ none_behind (omega (arith, le, within))
  ]

  takes_all : all ≡ bytes
  takes_all =
      let whole : again ≡ length left = elim (cases_lt again (length left)) [
        | inl lt ↦ absurd (omega (arith, stops_again lt, none_more_found))
        | inr le ↦ omega (arith, le, within_again)
      ] in
      ap (λ n. take taken bytes ++ take n left) whole ∙ ap (λ xs. take taken bytes ++ xs) (take-length left ∙ are) ∙ take-append-drop taken bytes

  pub all_found : found ≡ (cut Of188 bytes).packets
  all_found = sym (append-nil found) ∙ ap (λ ps. found ++ ps) (sym (nil_from_length none none_more_found)) ∙ sym second.packets ∙ ap (λ xs. (cut Of188 xs).packets) takes_all

  pub all_left : end.rest ≡ (cut Of188 bytes).rest
  all_left = second.rest ∙ ap (λ xs. (cut Of188 xs).rest) takes_all
