-- A Read, by what is known before it.
use Rattle.dvr_core.proofs.Imports.{rules, ◌≡◌, ◌∙◌, ap, List, Option, inl, false, Some, option_map, response_of, Empty, Tap, terms_of, read_by, with_response, Knows, knows_in, ℕ, refl, sym, true, None, Read, Response, Passed, is_accepted, Ledger, read_response, expired_of, read_accepted, read_now, next, reply_to}
use Rattle.dvr_core.proofs.tenure.DvrTenure.read.Goals as goal

as_before : (o : Option Ledger) → option_map (with_response false Passed) o ≡ o
as_before None = refl
as_before (Some l) = refl

module _ (k : Knows) (count : ℕ) (r : Response) (said : r ≡ read_by k.facts.has_ended (terms_of k.facts.params) k.facts.ledger count) where
  by_facts : r ≡ read_response k.facts k.facts.ledger (expired_of k.facts.ledger) count
  by_facts = said ∙ read_now k.facts k.facts.ledger count

  pub read-said : r ≡ reply_to k 0 (Read 0 count)
  read-said = by_facts ∙ ap (λ o. read_response k.facts k.facts.ledger (expired_of o) count) (sym (as_before k.facts.ledger))

  pub read-after : (left : Option Ledger) → left ≡ option_map (with_response false r) k.facts.ledger → record k { facts = record k.facts { ledger = left } } ≡ next k 0 (Read 0 count) r
  read-after left after =
      let ok : is_accepted r ≡ true = ap is_accepted by_facts ∙ read_accepted k.facts k.facts.ledger (expired_of k.facts.ledger) count in
      rw (ok, after) refl

pub returns : goal.returns
returns c =
    let k : List (Option Tap) → Knows = λ taps. knows_in c.args.ended taps (Some c.args.self.now) in
    let r = response_of c.read.result in
    let t = c.args.self.now in
    let said : r ≡ read_by c.args.ended (terms_of Empty) t.buffer.ledger c.args.buf.count =
    c.read.ensures.said ∙ ap (λ s. read_by c.args.ended s t.buffer.ledger c.args.buf.count) t.told in
    let after : c.read.new.self.ledger ≡ option_map (with_response false r) t.buffer.ledger =
    ap (λ b. b.ledger) c.read.ensures.after ∙ ap (λ s. option_map (with_response s.by_section r) t.buffer.ledger) t.told in
    let size : c.read.new.self.size ≡ c.args.self.now.buffer.size = ap (λ b. b.size) c.read.ensures.after in
    record {
      does = λ now. record {
        said = λ taps. inl (read-said (k taps) c.args.buf.count r said);
        after = λ taps. rw size (read-after (k taps) c.args.buf.count r said c.read.new.self.ledger after);
        sound = c.read.ensures.holds;
        bytes = search rules;
      };
    }
