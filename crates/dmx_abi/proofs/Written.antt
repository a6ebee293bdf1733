-- What is written of a request asks for it.
use Rattle.std.proofs.Common.{◌≡◌, ℕ, ◌+◌, List, [], ◌∷◌, ◌++◌, length, take, drop, replicate, refl, sym, ap, ◌∙◌, arith, length-append}
use Rattle.std.proofs.Math.Seq.{drop-append-add, take-append_seam}
use Rattle.byteorder.specs.Endian.{little_number, little_bytes}
use Rattle.byteorder.specs.Numbers.{little_number-reads_back}
use Rattle.dmx_abi.specs.declared.request.Request.TheVariants as request
use Rattle.dmx_abi.specs.Laws.{WrittenSpells}

-- what stands behind a row of this length
dropped : (n m : ℕ) (xs ys : List ℕ) → length xs ≡ n → drop (n + m) (xs ++ ys) ≡ drop m ys
dropped n m xs ys h = ap (λ k. drop (k + m) (xs ++ ys)) (sym h) ∙ drop-append-add xs ys m

-- the row itself
taken : (n : ℕ) (xs ys : List ℕ) → length xs ≡ n → take n (xs ++ ys) ≡ xs
taken n xs ys h = ap (λ k. take k (xs ++ ys)) (sym h) ∙ take-append_seam xs ys

-- three rows of 16 bytes, with others behind them
module _ (filter mask mode ys : List ℕ) (f : length filter ≡ 16) (m : length mask ≡ 16) (n : length mode ≡ 16) where
  second : take 16 (drop 16 (filter ++ (mask ++ (mode ++ ys)))) ≡ mask
  second = ap (λ xs. take 16 xs) (dropped 16 0 filter (mask ++ (mode ++ ys)) f) ∙ taken 16 mask (mode ++ ys) m

  third : take 16 (drop 32 (filter ++ (mask ++ (mode ++ ys)))) ≡ mode
  third = ap (λ xs. take 16 xs) (dropped 16 16 filter (mask ++ (mode ++ ys)) f ∙ dropped 16 0 mask (mode ++ ys) m)
      ∙ taken 16 mode ys n

  behind : (k : ℕ) → drop (16 + (16 + (16 + k))) (filter ++ (mask ++ (mode ++ ys))) ≡ drop k ys
  behind k = dropped 16 (16 + (16 + k)) filter (mask ++ (mode ++ ys)) f
      ∙ dropped 16 (16 + k) mask (mode ++ ys) m ∙ dropped 16 k mode ys n

  rows_len : length (filter ++ (mask ++ (mode ++ ys))) ≡ 48 + length ys
  rows_len =
      let a = length-append filter (mask ++ (mode ++ ys)) in
      let b = length-append mask (mode ++ ys) in
      let c = length-append mode ys in
      omega (arith, a, b, c, f, m, n)

pub written_spells : WrittenSpells
written_spells request.Start r = (refl, refl)
written_spells request.Stop r = (refl, refl)
written_spells (request.SetSize size) r = (refl, refl, sym (little_number-reads_back 4 size [] r))
written_spells (request.AddPid pid) r = (refl, refl, sym (little_number-reads_back 2 pid [] r))
written_spells (request.RemovePid pid) r = (refl, refl, sym (little_number-reads_back 2 pid [] r))
written_spells (request.GetStc num) r = (refl, refl, sym (little_number-reads_back 4 num (replicate 12 0) r))
written_spells (request.SetPes pid input output pes_type flags) r = (
  refl,
  refl,
  sym (little_number-reads_back 2 pid [] r.0),
  sym (little_number-reads_back 4 input [] r.1),
  sym (little_number-reads_back 4 output [] r.2),
  sym (little_number-reads_back 4 pes_type [] r.3),
  sym (little_number-reads_back 4 flags [] r.4),
)
written_spells (request.SetFilter pid filter mask mode timeout flags) r =
    let ys = 0 ∷ 0 ∷ (little_bytes 4 timeout ++ little_bytes 4 flags) in (
      refl,
      (let e = rows_len filter mask mode ys r.1 r.2 r.3 in omega (arith, e)),
      sym (little_number-reads_back 2 pid [] r.0),
      sym (taken 16 filter (mask ++ (mode ++ ys)) r.1),
      sym (second filter mask mode ys r.1 r.2 r.3),
      sym (third filter mask mode ys r.1 r.2 r.3),
      sym (ap (λ xs. little_number 4 xs) (behind filter mask mode ys r.1 r.2 r.3 2)
          ∙ little_number-reads_back 4 timeout (little_bytes 4 flags) r.4),
      sym (ap (λ xs. little_number 4 xs) (behind filter mask mode ys r.1 r.2 r.3 6)
          ∙ little_number-reads_back 4 flags [] r.5),
    )
