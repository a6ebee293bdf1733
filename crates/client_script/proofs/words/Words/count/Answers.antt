use Rattle.client_script.proofs.Imports.{◌≡◌, sym, ◌∙◌, ap, ◌+◌, length, rules, words_of}
use Rattle.client_script.proofs.Cuts.{length-words_of}
use Rattle.client_script.proofs.words.Words.count.Goals as goal

pub returns-in-Some-clause-count : goal.returns-in-Some-clause-count
returns-in-Some-clause-count c =
    let words : c.args.self.now ≡ words_of c.in-Some.rest.now = search rules in
    ap (λ n. n + 1) c.spaces.ensures.count ∙ sym (ap length words ∙ length-words_of c.in-Some.rest.now)
