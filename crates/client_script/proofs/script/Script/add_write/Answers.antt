use Rattle.client_script.proofs.Imports.{rules, ◌≡◌, ◌<◌, ◌∷◌, ◌++◌, [], length, refl, ap, ◌∙◌, List, ℕ, arith, get_or_default, slice_index_or, Scripted, writes_of, Dvr, Command, Write}
use Rattle.client_script.proofs.Taking.{script_write}
use Rattle.client_script.proofs.script.Script.add_write.Goals as goal

pub invariant_of-self-2 : goal.invariant_of-self-2
invariant_of-self-2 c =
    let s : Scripted = record { lines = c.self.inside.lines.items; writes = c.self.inside.writes } in
    let there : c.args.client < length c.self.inside.writes = omega (arith, c.self.invariant.clients, c.requires.client) in
    let same : slice_index_or c.self.inside.writes c.args.client c.index-self-client.result ≡ writes_of c.args.client c.self.inside.writes
    = get_or_default c.self.inside.writes c.args.client c.index-self-client.result [] there in
    let bytes : c.push.new.self ≡ writes_of c.args.client c.self.inside.writes ++ c.args.bytes.items ∷ []
    = c.in_ok-push.ensures.added ∙ ap (λ (writes : List (List ℕ)). writes ++ c.args.bytes.items ∷ []) same in
    let count : c.len.result ≡ length (writes_of c.args.client c.self.inside.writes) = c.len.ensures ∙ ap length same in
    let kept : c.reserve.new.self.items ≡ c.self.inside.lines.items = search rules in
    let lines : c.push_reserved.new.self.items ≡ c.self.inside.lines.items ++ Command c.args.line c.args.client Dvr (Write (length (writes_of c.args.client c.self.inside.writes))) ∷ []
    = rw (c.push_reserved.ensures.items, kept, count) refl in
    rw (lines, bytes) (script_write s c.args.line c.args.client c.args.bytes.items c.self.invariant (search rules) (search rules) c.requires.number c.requires.client c.requires.range)
