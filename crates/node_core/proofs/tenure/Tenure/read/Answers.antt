use Rattle.node_core.proofs.Imports.{◌≡◌, ◌∙◌, ap, arith, inl, Some, option_map, params_of, response_of, timeout_of, is_section, terms_of, expiring, with_response, read_by, Knows, knows_in, total-read}
use Rattle.node_core.proofs.ByValues.{read-said, read-after, read-sound}
use Rattle.node_core.proofs.tenure.Tenure.read.Goals as goal

pub returns : goal.returns
returns c =
    let t = c.args.self.now in
    let k : Knows = knows_in c.args.ended (Some t) in
    let r = response_of c.read.result in
    let left = c.read.new.self.ledger in
    let terms : c.expire.new.self.terms ≡ terms_of (params_of t.params) = ap (λ b. b.terms) c.expire.ensures.after ∙ t.told in
    let mid : c.expire.new.self.ledger ≡ option_map (expiring (timeout_of (params_of t.params)) c.args.now) t.buffer.ledger =
    ap (λ b. b.ledger) c.expire.ensures.after ∙ ap (λ s. option_map (expiring s.timeout c.args.now) t.buffer.ledger) t.told in
    let said : r ≡ read_by c.args.ended (terms_of (params_of t.params)) c.expire.new.self.ledger c.args.buf.count =
    c.read.ensures.said ∙ ap (λ s. read_by c.args.ended s c.expire.new.self.ledger c.args.buf.count) terms in
    let after : left ≡ option_map (with_response (is_section (params_of t.params)) r) c.expire.new.self.ledger =
    ap (λ b. b.ledger) c.read.ensures.after ∙ ap (λ s. option_map (with_response s.by_section r) c.expire.new.self.ledger) terms in
    let size : c.read.new.self.size ≡ t.buffer.size = ap (λ b. b.size) c.read.ensures.after ∙ ap (λ b. b.size) c.expire.ensures.after in
    let same = total-read (is_section (params_of t.params)) r (timeout_of (params_of t.params)) c.args.now t.buffer.ledger c.expire.new.self.ledger left mid after in
    record {
      does = record {
        said = inl (read-said k c.args.now c.args.buf.count c.expire.new.self.ledger r mid said);
        after = rw size (read-after k c.args.now c.args.buf.count c.expire.new.self.ledger left r mid said after);
        sound = record {
          facts = read-sound (params_of t.params) r c.args.now t.buffer.ledger c.expire.new.self.ledger left mid after c.requires.sound.facts c.read.ensures.holds;
          selecting = record {
            choice = c.requires.sound.selecting.choice;
            given = c.requires.sound.selecting.given;
          };
        };
        bytes = omega (arith, same);
      };
    }
