-- Moves one after another.
use Rattle.serial_core.proofs.Imports.{◌≡◌, refl, ap, subst, ◌∙◌, ℕ, [], ◌++◌, append_assoc, Result, Ok, Err, OnErr, IsErrAnd, SourceEnd, Pulling, Runner, Run, HasDrawn, IsReady, IsSound, Moves, draws_none, draws_then, on_err}

pub moves_none : (x : SourceEnd) (v : Runner) (goes : Run → Run → Type 0) → IsSound v → ((r : Run) → goes r r) → Moves x x v v goes
moves_none x v goes sound same = record {
  packets = [];
  draws = draws_none x v.puller;
  at = λ ahead taken given later r pulls stops at left. (r, same r, at, left);
  done = λ ahead taken given pulls done. (done, refl);
  sound = sound;
}

pub moves_then : (x y z : SourceEnd) (a b c : Runner) (G H K : Run → Run → Type 0) → ((r s t : Run) → G r s → H s t → K r t)
    → Moves x y a b G → Moves y z b c H → Moves x z a c K
moves_then x y z a b c G H K both g h = record {
  packets = g.packets ++ h.packets;
  draws = draws_then x y z a.puller b.puller c.puller g.packets h.packets g.draws h.draws;
  at = λ ahead taken given later r pulls stops at left.
      let more = g.draws.carries.pulls ahead taken given pulls in
      let first = g.at ahead taken given (h.packets ++ later) r pulls
      (λ done. let k = h.done ahead (taken ++ g.draws.carries.more) (given ++ g.packets) more done in ap (λ ps. ps ++ later) k.1 ∙ stops k.0)
      at (left ∙ append_assoc g.packets h.packets later) in
      let next = h.at ahead (taken ++ g.draws.carries.more) (given ++ g.packets) later first.0 more stops first.2 first.3 in
      (next.0, both r first.0 next.0 first.1 next.1, next.2, next.3);
  done = λ ahead taken given pulls done.
      let k = g.done ahead taken given pulls done in
      let e = h.done ahead (taken ++ g.draws.carries.more) (given ++ g.packets) (g.draws.carries.pulls ahead taken given pulls) k.0 in
      (e.0, rw (k.1, e.1) refl);
  sound = h.sound;
}

pub moves_by : (x y : SourceEnd) (a b : Runner) (G K : Run → Run → Type 0) → ((r s : Run) → G r s → K r s) → Moves x y a b G → Moves x y a b K
moves_by x y a b G K so g = record {
  packets = g.packets;
  draws = g.draws;
  at = λ ahead taken given later r pulls stops at left. let k = g.at ahead taken given later r pulls stops at left in (k.0, so r k.0 k.1, k.2, k.3);
  done = g.done;
  sound = g.sound;
}

-- the feeder may have its next turn
pub ready_on : (batch : ℕ) (x y : SourceEnd) (a b : Runner) (G : Run → Run → Type 0) → Moves x y a b G → IsReady batch a → IsReady batch b
ready_on batch x y a b G moves ready = record {
  some = ready.some;
  few = ready.few;
  sound = moves.sound;
}

-- what was drawn before and now
pub drawn_then : {T E : Type 0} (x y z : SourceEnd) (a b : Runner) (c : Pulling) (G : Run → Run → Type 0) (r : Result T E) → Moves x y a b G → HasDrawn y z b.puller c → OnErr r (HasDrawn x z a.puller c)
drawn_then x y z a b c G r moves d = on_err r (HasDrawn x z a.puller c) (_, draws_then x y z a.puller b.puller c moves.packets d.0 moves.draws d.1)

-- what is so of an error
pub err_and : {T E : Type 0} (r : Result T E) (P : E → Type 0) (e : E) → r ≡ Err e → IsErrAnd r P → P e
err_and (Ok x) P e is h = absurd (cc)
err_and (Err d) P e is h = let same : d ≡ e = cc in subst P same h
