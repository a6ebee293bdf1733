use Rattle.std.proofs.Common.{◌≡◌, ◌%◌, ◌++◌, ◌∙◌, List, ℕ, refl, sym, ap, arith}
use Rattle.rand_pcg.specs.Lcg.{Lcg}
use Rattle.rand_pcg.specs.Pcg.{pcg32}
use Rattle.ts_make.specs.Script.{script}
use Rattle.ts_make.specs.Made.{packets, packet_at, packets_of, made, word, kind_of, pid_of}
use Rattle.ts_make.proofs.Growing.{generator-none, generator-next, packets-next, packets-none, counters-none, counters-next, counter-is, two-behind, packet-same}
use Rattle.ts_make.proofs.making.session.Goals as goal

pub packets-init : goal.packets-init
unfolding script
packets-init c = record {
  words = c.new-words.ensures ∙ generator-none c.args.number;
  counters = c.new-counters.ensures ∙ counters-none c.args.number;
  bytes = rw (c.in_ok-extend_from_slice.ensures.items, c.in_ok-bytes.ensures.items, c.as_bytes.ensures.value, packets-none c.args.number) refl;
}

pub packets-preserved : goal.packets-preserved
packets-preserved c =
    let number = c.args.number in
    let place = c.packets.place in
    let i = c.packets.invariant in
    let chosen = kind_of (word number place) in
    let after : c.next_word-word.new.self ≡ (pcg32 c.packets.words).1 = ap (λ (p : ℕ × Lcg). p.1) c.next_word-word.ensures in
    let drawn : c.next_word-word.result ≡ word number place = ap (λ (p : ℕ × Lcg). p.0) c.next_word-word.ensures ∙ ap (λ (g : Lcg). (pcg32 g).0) i.words in
    let kind : c.of-kind.result ≡ chosen = c.of-kind.ensures ∙ ap kind_of drawn in
    let counter : c.next-counter.result ≡ packets_of number (pid_of chosen) place % 16 = rw (c.next-counter.ensures.was, i.counters, kind) (counter-is number place chosen) in
    let put = c.in_ok-put_packet.ensures ∙ ap (λ (l : List ℕ). c.packets.bytes.items ++ l) (packet-same c.of-kind.result chosen place c.next_word-word.result (word number place) c.next-counter.result (packets_of number (pid_of chosen) place % 16) kind drawn counter) in
    record {
      words = after ∙ ap (λ (g : Lcg). (pcg32 g).1) i.words ∙ sym (generator-next number place);
      counters = rw (c.next-counter.ensures.risen, i.counters, kind) (counters-next number place chosen refl);
      bytes = two-behind script (packets number place) (packet_at number place) c.packets.bytes.items c.put_packet.new.out.items i.bytes put ∙ ap (λ (l : List ℕ). script ++ l) (sym (packets-next number place));
    }

pub returns : goal.returns
unfolding made
returns c = (let all : c.packets.place ≡ 65536 = omega (arith, c.packets-test.false, c.packets.auto.place-end) in rw all at c.packets.invariant.bytes)
