use Rattle.client_script.proofs.Imports.{◌≡◌, rules, script_len, whole_lines}
use Rattle.client_script.proofs.Searching.{end-within}
use Rattle.client_script.proofs.part.ScriptPart.end.Goals as goal

pub returns-clause-within : goal.returns-clause-within
returns-clause-within c =
    let found : c.self.inside.end ≡ script_len (whole_lines c.args.self.now) = search rules in
    end-within c.args.self.now c.self.inside.end found
