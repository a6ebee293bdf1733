use Rattle.client_core.proofs.Imports.{◌≡◌, ◌∙◌, ◌-◌, ◌++◌, ℕ, List, [], ap, sym, subst, length, take, drop, length-drop, take-length, Cutting, Cuts, fresh, Of188}
use Rattle.client_core.proofs.Joining.{all_found, all_left, last_bytes}
use Rattle.client_core.proofs.dvr_play.plays.cut_all.Goals as goal

-- the slice from a place on
behind : (at : ℕ) (xs : List ℕ) → take (length xs - at) (drop at xs) ≡ drop at xs
behind at xs = ap (λ n. take n (drop at xs)) (sym (length-drop at xs)) ∙ take-length (drop at xs)

-- nothing was in the room before
from_none : (bytes : List ℕ) (before old new : List (List ℕ)) (c : Cutting) → old ≡ [] → Cuts (fresh Of188) bytes (before ++ drop (length old) new) c → Cuts (fresh Of188) bytes (before ++ new) c
from_none bytes before old new c is cuts = subst (λ (xs : List (List ℕ)). Cuts (fresh Of188) bytes (before ++ drop (length xs) new) c) is cuts

pub returns-clause-packets : goal.returns-clause-packets
returns-clause-packets c =
    let a = c.push-taken.ensures in
    let b = c.push.ensures in
    let front : List ℕ = take c.push-taken.result c.args.bytes.now in
    let first = from_none front [] c.args.found.now c.push-taken.new.out c.push-taken.new.self c.requires.empty (a.stream Of188 [] [] c.new-cutter.ensures.stream) in
    let second = from_none _ c.push-taken.new.out c.new-none.result c.push.new.out c.push.new.self c.new-none.ensures (b.stream Of188 front c.push-taken.new.out first) in
    all_found c.args.bytes.now c.push-taken.result c.push.result c.push-taken.new.out c.push.new.out c.push-taken.new.self c.push.new.self c.requires.few
    _ (behind c.push-taken.result c.args.bytes.now) a.within a.stops b.within b.stops first second

pub returns-clause-rest : goal.returns-clause-rest
returns-clause-rest c =
    let a = c.push-taken.ensures in
    let b = c.push.ensures in
    let front : List ℕ = take c.push-taken.result c.args.bytes.now in
    let first = from_none front [] c.args.found.now c.push-taken.new.out c.push-taken.new.self c.requires.empty (a.stream Of188 [] [] c.new-cutter.ensures.stream) in
    let second = from_none _ c.push-taken.new.out c.new-none.result c.push.new.out c.push.new.self c.new-none.ensures (b.stream Of188 front c.push-taken.new.out first) in
    let left = all_left c.args.bytes.now c.push-taken.result c.push.result c.push-taken.new.out c.push.new.out c.push-taken.new.self c.push.new.self c.requires.few
    _ (behind c.push-taken.result c.args.bytes.now) a.within a.stops b.within b.stops first second in
    behind (length c.args.bytes.now - c.finish-rest.result.rest) c.args.bytes.now
    ∙ ap (λ n. drop (length c.args.bytes.now - n) c.args.bytes.now) (c.finish-rest.ensures.rest ∙ ap length left)
    ∙ last_bytes c.args.bytes.now
