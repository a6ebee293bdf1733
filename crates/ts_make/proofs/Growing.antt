-- The steps of a session: one more word, one more packet.
use Rattle.std.specs.Prelude.{if◌then◌else◌}
use Rattle.std.proofs.Common.{◌≡◌, ℕ, ◌+◌, ◌%◌, ◌==◌, List, [], ◌∷◌, ◌++◌, refl, ap, ◌∙◌, arith, add-one, append_assoc}
use Rattle.rand_pcg.specs.Lcg.{started}
use Rattle.rand_pcg.specs.Pcg.{pcg32, multiplier_64}
use Rattle.ts_make.specs.declared.kind.Kind.{Kind}
use Rattle.ts_make.specs.declared.kind.Kind.TheVariants.{Association, Video, Audio, Service, Null}
use Rattle.ts_make.specs.Made.{kind_of, pid_of, generator, word, packets_of, packets, packet, packet_at, payload}
use Rattle.ts_make.specs.Inside.Counting.{counter_in, risen, counters_of, all_zero}

pub generator-next : (number n : ℕ) → generator number (n + 1) ≡ (pcg32 (generator number n)).1
unfolding generator
generator-next number n = rw add-one refl

pub packets-next : (number n : ℕ) → packets number (n + 1) ≡ packets number n ++ packet_at number n
unfolding packets
packets-next number n = rw add-one refl

pub packets-none : (number : ℕ) → packets number 0 ≡ []
unfolding packets
packets-none number = refl

pub payload-next : (place n : ℕ) → payload place (n + 1) ≡ payload place n ++ (place + n) % 256 ∷ []
unfolding payload
payload-next place n = rw add-one refl

pub payload-none : (place : ℕ) → payload place 0 ≡ []
unfolding payload
payload-none place = refl

mod-next : (n : ℕ) → (n % 16 + 1) % 16 ≡ (n + 1) % 16
mod-next n = omega arith

pub counters-none : (number : ℕ) → all_zero ≡ counters_of number 0
unfolding packets_of
counters-none number = refl

pub counter-is : (number n : ℕ) (kind : Kind) → counter_in (counters_of number n) kind ≡ packets_of number (pid_of kind) n % 16
counter-is number n Association = refl
counter-is number n Video = refl
counter-is number n Audio = refl
counter-is number n Service = refl
counter-is number n Null = refl

-- one more packet of a PID, and none
counted : (number pid n : ℕ) (kind : Kind) → kind_of (word number n) ≡ kind → packets_of number pid (n + 1) ≡ (if pid_of kind == pid then packets_of number pid n + 1 else packets_of number pid n)
unfolding packets_of
counted number pid n kind e = rw (add-one, e) refl

pub counters-next : (number n : ℕ) (kind : Kind) → kind_of (word number n) ≡ kind → risen (counters_of number n) kind ≡ counters_of number (n + 1)
counters-next number n Association e = rw (counted number 0 n Association e, counted number 256 n Association e, counted number 257 n Association e, counted number 512 n Association e, counted number 8191 n Association e, mod-next (packets_of number 0 n)) refl
counters-next number n Video e = rw (counted number 0 n Video e, counted number 256 n Video e, counted number 257 n Video e, counted number 512 n Video e, counted number 8191 n Video e, mod-next (packets_of number 256 n)) refl
counters-next number n Audio e = rw (counted number 0 n Audio e, counted number 256 n Audio e, counted number 257 n Audio e, counted number 512 n Audio e, counted number 8191 n Audio e, mod-next (packets_of number 257 n)) refl
counters-next number n Service e = rw (counted number 0 n Service e, counted number 256 n Service e, counted number 257 n Service e, counted number 512 n Service e, counted number 8191 n Service e, mod-next (packets_of number 512 n)) refl
counters-next number n Null e = rw (counted number 0 n Null e, counted number 256 n Null e, counted number 257 n Null e, counted number 512 n Null e, counted number 8191 n Null e, mod-next (packets_of number 8191 n)) refl

-- the generator before its first word
pub generator-none : (number : ℕ) → started 64 multiplier_64 number 109 ≡ generator number 0
unfolding generator
generator-none number = refl

-- what was put behind what
pub two-behind : (out a b one two : List ℕ) → one ≡ out ++ a → two ≡ one ++ b → two ≡ out ++ (a ++ b)
two-behind out a b one two e f = f ∙ ap (λ (l : List ℕ). l ++ b) e ∙ append_assoc out a b

pub packet-same : (k j : Kind) (place w v c d : ℕ) → k ≡ j → w ≡ v → c ≡ d → packet k place w c ≡ packet j place v d
packet-same k j place w v c d e f g = rw (e, f, g) refl
