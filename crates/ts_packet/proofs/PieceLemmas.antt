-- A stream is made of its packets and skipped bytes, then a rest, in one way.
use Rattle.ts_packet.proofs.Imports.{◌≡◌, ◌≢◌, ℕ, zero, suc, ◌+◌, ◌-◌, ◌≤◌, List, [], ◌∷◌, ◌++◌, length, take, drop, get_or, refl, sym, ap, inl, inr, ◌∙◌, arith, length-append, append_assoc, take-append_seam, take-add, All-nil, All-cons, All-head, All-tail, flat_map, append_cancel_left, take-append-drop, length-take-le, length-drop, cases_eq, cases_lt, in_bytes, IsRest, IsPacket, Piece, packet, skipped, IsPiece, bytes_of, IsMadeOf, IsCutOf, PacketSize, cut_after}
use Rattle.ts_packet.proofs.CutLemmas.{at_least, cut_after-skip, cut_after-packet, cut_after-rest}

-- the pieces of what stands behind the first n bytes
pub record HasPieces (size : PacketSize) (n : ℕ) (stream : List ℕ) : Type 0 where
  pub pieces : List Piece
  pub made : IsMadeOf size (drop n stream) pieces (cut_after size n stream).rest
  pub cuts : IsCutOf pieces (cut_after size n stream).rest (cut_after size n stream)

no_rest : (size : PacketSize) → IsRest size []
no_rest size = let least = at_least size in record { short = omega arith; sync = λ h. absurd (omega arith) }

-- the bytes that are passed over behind the packet in front of a byte and these
abbrev over : PacketSize → List ℕ → List ℕ
over size xs = take (in_bytes size - 188) (drop 187 xs)

-- the packet in front of these bytes, with those that are passed over
piece_of : (size : PacketSize) (x : ℕ) (xs : List ℕ) → x ≡ 71 → in_bytes size ≤ suc (length xs) → IsPiece size (packet (take 188 (x ∷ xs)) (over size xs))
piece_of size x xs e h =
    let least = at_least size in
    let n : length (over size xs) ≡ in_bytes size - 188 = length-take-le (in_bytes size - 188) (drop 187 xs) (omega (arith, length-drop 187 xs)) in
    (record { size = length-take-le 188 (x ∷ xs) (omega arith); sync = e }, omega arith)

-- what these take up is the front of the bytes
over_whole : (size : PacketSize) (xs : List ℕ) → take 187 xs ++ over size xs ≡ take (in_bytes size - 1) xs
over_whole size xs =
    let least = at_least size in
    let e : 187 + (in_bytes size - 188) ≡ in_bytes size - 1 = omega arith in
    sym (take-add 187 (in_bytes size - 188) xs) ∙ ap (λ n. take n xs) e

pub has-pieces : (size : PacketSize) (n : ℕ) (xs : List ℕ) → n ≤ length xs → HasPieces size n xs
unfolding cut_after
has-pieces size zero [] h = record { pieces = []; made = record { pieces_are = All-nil (IsPiece size); rest_is = no_rest size; whole = refl }; cuts = record { packets = refl; skips = refl; left = refl } }
has-pieces size (suc n) [] h = absurd (omega arith)
has-pieces size (suc n) (x ∷ xs) h = let i = has-pieces size n xs (omega arith) in record { pieces = i.pieces; made = i.made; cuts = i.cuts }
has-pieces size zero (x ∷ xs) h =
    elim (cases_eq x 71) [
      | inl e ↦ elim (cases_lt (suc (length xs)) (in_bytes size)) [
        | inl short ↦
            let c = cut_after-rest size x xs e short in
            record {
              pieces = [];
              made = rw c (record { pieces_are = All-nil (IsPiece size); rest_is = record { short = short; sync = λ _. e }; whole = refl });
              cuts = rw c (record { packets = refl; skips = refl; left = refl });
            }
        | inr long ↦
            let c = cut_after-packet size x xs e long in
            let k = in_bytes size - 1 in
            let i = has-pieces size k xs (omega arith) in
            let front : (take 188 (x ∷ xs) ++ over size xs) ++ drop k xs ≡ x ∷ xs = ap (λ ys. x ∷ (ys ++ drop k xs)) (over_whole size xs) ∙ ap (λ ys. x ∷ ys) (take-append-drop k xs) in
            record {
              pieces = packet (take 188 (x ∷ xs)) (over size xs) ∷ i.pieces;
              made = rw c (record { pieces_are = All-cons (IsPiece size) (packet (take 188 (x ∷ xs)) (over size xs)) i.pieces (piece_of size x xs e long) i.made.pieces_are; rest_is = i.made.rest_is; whole = sym front ∙ ap (λ ys. (take 188 (x ∷ xs) ++ over size xs) ++ ys) i.made.whole ∙ sym (append_assoc (take 188 (x ∷ xs) ++ over size xs) (flat_map bytes_of i.pieces) (cut_after size k xs).rest) });
              cuts = rw c (record { packets = ap (λ ps. take 188 (x ∷ xs) ∷ ps) i.cuts.packets; skips = i.cuts.skips; left = refl });
            }
      ]
      | inr ne ↦
          let c = cut_after-skip size x xs ne in
          let i = has-pieces size 0 xs (omega arith) in
          record {
            pieces = skipped x ∷ i.pieces;
            made = rw c (record { pieces_are = All-cons (IsPiece size) (skipped x) i.pieces ne i.made.pieces_are; rest_is = i.made.rest_is; whole = ap (λ ys. x ∷ ys) i.made.whole });
            cuts = rw c (record { packets = i.cuts.packets; skips = ap (λ n. n + 1) i.cuts.skips; left = refl });
          }
    ]

-- two fronts of one stream that are as long as each other are the same
fronts_same : (p q xs ys : List ℕ) → length p ≡ length q → p ++ xs ≡ q ++ ys → (p ≡ q) × (xs ≡ ys)
fronts_same p q xs ys n e =
    let same : p ≡ q = sym (take-append_seam p xs) ∙ ap (take (length p)) e ∙ ap (λ (k : ℕ). take k (q ++ ys)) n ∙ take-append_seam q ys in
    (same, append_cancel_left p xs ys (e ∙ ap (λ z. z ++ ys) (sym same)))

-- two packets in front of one stream are the same, and so is what is passed over behind them
packets-same : (size : PacketSize) (p q o u xs ys : List ℕ) → IsPiece size (packet p o) → IsPiece size (packet q u) → (p ++ o) ++ xs ≡ (q ++ u) ++ ys → (packet p o ≡ packet q u) × (xs ≡ ys)
packets-same size p q o u xs ys h i e =
    let n : length p ≡ length q = (h.0).size ∙ sym (i.0).size in
    let first = fronts_same p q (o ++ xs) (u ++ ys) n (sym (append_assoc p o xs) ∙ e ∙ append_assoc q u ys) in
    let m : length o ≡ length u = omega (arith, h.1, i.1) in
    let second = fronts_same o u xs ys m first.1 in
    (let a = first.0 in let b = second.0 in cc, second.1)

-- a packet doesn't begin with a byte that is skipped
packet-first : (p o xs ys : List ℕ) (b : ℕ) → IsPacket p → b ≢ 71 → (p ++ o) ++ xs ≡ b ∷ ys → ⊥
packet-first [] o xs ys b h ne e = absurd (let s : 0 ≡ 188 = h.size in omega arith)
packet-first (x ∷ p) o xs ys b h ne e = ne (sym (ap (λ (z : List ℕ). get_or z 0 0) e) ∙ h.sync)

-- what begins with a piece is no rest
module _ (size : PacketSize) where
  rest-alone : (rest left : List ℕ) (piece : Piece) (pieces : List Piece) → IsRest size rest → IsPiece size piece → rest ≡ flat_map bytes_of (piece ∷ pieces) ++ left → ⊥
  rest-alone rest left (packet p o) pieces h i e =
      let n : length rest ≡ length (((p ++ o) ++ flat_map bytes_of pieces) ++ left) = ap length e in
      let first = (i.0).size in
      let all = i.1 in
      let short = h.short in
      absurd (omega (arith, length-append ((p ++ o) ++ flat_map bytes_of pieces) left, length-append (p ++ o) (flat_map bytes_of pieces), length-append p o))
  rest-alone rest left (skipped b) pieces h i e =
      let n : length rest ≡ suc (length (flat_map bytes_of pieces ++ left)) = ap length e in
      i (sym (ap (λ (z : List ℕ). get_or z 0 0) e) ∙ h.sync (omega arith))

  pub same-pieces : (stream : List ℕ) (pieces others : List Piece) (rest left : List ℕ) → IsMadeOf size stream pieces rest → IsMadeOf size stream others left → (pieces ≡ others) × (rest ≡ left)
  same-pieces stream [] [] rest left h i = (refl, sym h.whole ∙ i.whole)
  same-pieces stream [] (o ∷ others) rest left h i = absurd (rest-alone rest left o others h.rest_is (All-head (IsPiece size) o others i.pieces_are) (sym h.whole ∙ i.whole))
  same-pieces stream (p ∷ pieces) [] rest left h i = absurd (rest-alone left rest p pieces i.rest_is (All-head (IsPiece size) p pieces h.pieces_are) (sym i.whole ∙ h.whole))
  same-pieces stream (packet p o ∷ pieces) (packet q u ∷ others) rest left h i =
      let e : (p ++ o) ++ (flat_map bytes_of pieces ++ rest) ≡ (q ++ u) ++ (flat_map bytes_of others ++ left) =
      sym (append_assoc (p ++ o) (flat_map bytes_of pieces) rest) ∙ sym h.whole ∙ i.whole ∙ append_assoc (q ++ u) (flat_map bytes_of others) left in
      let k = packets-same size p q o u (flat_map bytes_of pieces ++ rest) (flat_map bytes_of others ++ left) (All-head (IsPiece size) (packet p o) pieces h.pieces_are) (All-head (IsPiece size) (packet q u) others i.pieces_are) e in
      let r = same-pieces (flat_map bytes_of pieces ++ rest) pieces others rest left (record { pieces_are = (All-tail (IsPiece size) (packet p o) pieces h.pieces_are); rest_is = h.rest_is; whole = refl }) (record { pieces_are = (All-tail (IsPiece size) (packet q u) others i.pieces_are); rest_is = i.rest_is; whole = k.1 }) in
      (let a = k.0 in let b = r.0 in cc, r.1)
  same-pieces stream (packet p o ∷ pieces) (skipped b ∷ others) rest left h i =
      absurd (packet-first p o (flat_map bytes_of pieces ++ rest) (flat_map bytes_of others ++ left) b (All-head (IsPiece size) (packet p o) pieces h.pieces_are).0 (All-head (IsPiece size) (skipped b) others i.pieces_are) (sym (append_assoc (p ++ o) (flat_map bytes_of pieces) rest) ∙ sym h.whole ∙ i.whole))
  same-pieces stream (skipped b ∷ pieces) (packet q u ∷ others) rest left h i =
      absurd (packet-first q u (flat_map bytes_of others ++ left) (flat_map bytes_of pieces ++ rest) b (All-head (IsPiece size) (packet q u) others i.pieces_are).0 (All-head (IsPiece size) (skipped b) pieces h.pieces_are) (sym (append_assoc (q ++ u) (flat_map bytes_of others) left) ∙ sym i.whole ∙ h.whole))
  same-pieces stream (skipped b ∷ pieces) (skipped d ∷ others) rest left h i =
      let e : b ∷ (flat_map bytes_of pieces ++ rest) ≡ d ∷ (flat_map bytes_of others ++ left) = sym h.whole ∙ i.whole in
      let first : b ≡ d = ap (λ (z : List ℕ). get_or z 0 0) e in
      let r = same-pieces (flat_map bytes_of pieces ++ rest) pieces others rest left (record { pieces_are = (All-tail (IsPiece size) (skipped b) pieces h.pieces_are); rest_is = h.rest_is; whole = refl }) (record { pieces_are = (All-tail (IsPiece size) (skipped d) others i.pieces_are); rest_is = i.rest_is; whole = ap (drop 1) e }) in
      (let b = r.0 in cc, r.1)
