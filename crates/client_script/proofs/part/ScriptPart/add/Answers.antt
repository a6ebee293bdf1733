use Rattle.client_script.proofs.Imports.{◌≡◌, ◌≤◌, ◌-◌, ◌++◌, ◌∙◌, ap, length, take, drop, true, false, rules, take_rest, is_none, HasNoFeed, Passes}
use Rattle.client_script.proofs.Searching.{searched-on, searched-kept, none_by_test}
use Rattle.client_script.proofs.part.ScriptPart.add.Goals as goal

pub invariant_of-self-else-found : goal.invariant_of-self-else-found
invariant_of-self-else-found c =
    let is : c.extend_from_slice.new.self.items ≡ c.self.inside.bytes.items ++ c.args.piece.now = search rules in
    let test : is_none c.self.inside.end ≡ true = search rules in
    let rest : take (length c.deref.result.now - c.self.inside.begun) (drop c.self.inside.begun c.deref.result.now) ≡ drop c.self.inside.begun c.extend_from_slice.new.self.items
    = take_rest c.deref.result.now c.self.inside.begun ∙ ap (drop c.self.inside.begun) c.deref.ensures.value in
    let passes : Passes c.pass_lines-passed.result.0 (drop c.self.inside.begun c.extend_from_slice.new.self.items)
    = rw (← rest) (c.pass_lines-passed.ensures.passed c.if-found.false) in
    let line : HasNoFeed (drop c.pass_lines-passed.result.0 (drop c.self.inside.begun c.extend_from_slice.new.self.items))
    = rw (← rest) (c.pass_lines-passed.ensures.line c.if-found.false) in
    let fits : c.pass_lines-passed.result.0 ≤ length (drop c.self.inside.begun c.extend_from_slice.new.self.items)
    = rw (← rest) c.pass_lines-passed.ensures.front in
    searched-on c.self.inside.bytes.items c.args.piece.now c.extend_from_slice.new.self.items c.self.inside.begun c.pass_lines-passed.result.0 c.self.inside.end c.self.invariant (none_by_test c.self.inside.end test) is passes line fits

pub invariant_of-self-else-is_none : goal.invariant_of-self-else-is_none
invariant_of-self-else-is_none c =
    let is : c.extend_from_slice.new.self.items ≡ c.self.inside.bytes.items ++ c.args.piece.now = search rules in
    let test : is_none c.self.inside.end ≡ false = search rules in
    searched-kept c.self.inside.bytes.items c.args.piece.now c.extend_from_slice.new.self.items c.self.inside.begun c.self.inside.end c.self.invariant test is
