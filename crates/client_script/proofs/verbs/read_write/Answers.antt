use Rattle.client_script.proofs.Imports.{◌≡◌, rules, Some, written_named}
use Rattle.client_script.proofs.Writing.{written_is}
use Rattle.client_script.proofs.verbs.read_write.Goals as goal

pub returns-clause-range : goal.returns-clause-range
returns-clause-range c =
    let spells : written_named c.in_ok-word.word.now ≡ Some c.in_ok-bytes.bytes = search rules in
    (c.requires.number.0, c.requires.number.1, c.requires.client, written_is c.in_ok-word.word.now c.in_ok-bytes.bytes spells)
