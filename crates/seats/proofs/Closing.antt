-- A seat closes no node that it doesn't hold.
use Rattle.seats.proofs.Imports.{◌≡◌, ◌≤◌, ℕ, true, List, [], ◌∷◌, ◌++◌, map, Some, ap, sym, ◌∙◌, subst, slice_get, append-nil, append_assoc, DEMUX_NODES, CloseAct, AttachAct, DetachAct, KeepTap, AttachTap, DetachTap, response_of, LogEntry, TapChange, Seat, act_by_tap, tap_by, IsBehind, DoesCommand, ClosesHeld, holds, CloseHeld, log_of, told_made, GoesOn}
use Rattle.seats.proofs.Doing.{log_more}
use Rattle.seats.proofs.Keeping.{the_calls}
use Rattle.seats.proofs.Marking.{marked_is}

-- calls behind others
held_both : (before xs ys : List LogEntry) → CloseHeld before xs → CloseHeld (before ++ xs) ys → CloseHeld before (xs ++ ys)
held_both before [] ys a b = subst (λ (l : List LogEntry). CloseHeld l ys) (append-nil before) b
held_both before (x ∷ xs) ys a b = (a.0, held_both (before ++ x ∷ []) xs ys a.1 (subst (λ (l : List LogEntry). CloseHeld l ys) (sym (append_assoc before (x ∷ []) xs)) b))

-- what the dvr node is asked is no Close
behind_held : (before : List LogEntry) (node : ℕ) (tap : TapChange) (behind : List LogEntry) → IsBehind (act_by_tap node tap) behind → CloseHeld before behind
behind_held before node KeepTap behind is = subst (CloseHeld before) (sym is) tt
behind_held before node (AttachTap pids) behind is = subst (CloseHeld before) (sym is.1) (λ close. absurd (let both : AttachAct node pids ≡ CloseAct = sym is.3 ∙ close in cc both), tt)
behind_held before node DetachTap behind is = subst (CloseHeld before) (sym is.1) (λ close. absurd (let both : DetachAct node ≡ CloseAct = sym is.3 ∙ close in cc both), tt)

-- ------ a seat

-- no call
pub closes_none : (old new : Seat) → log_of new ≡ log_of old → ClosesHeld old new
closes_none old new same gone calls m is = subst (CloseHeld (gone ++ log_of old)) (sym (the_calls old new calls [] is (same ∙ sym (append-nil (log_of old))))) tt

-- a node that it holds
pub closes_one : (node at : ℕ) (old new : Seat) → DoesCommand node CloseAct at old new → node ≤ DEMUX_NODES → slice_get old.held node ≡ Some true → ClosesHeld old new
closes_one node at old new d low held gone calls m is =
    let own = told_made old.who d.own in let behind = map (told_made old.who) d.behind in
    subst (CloseHeld (gone ++ log_of old)) (sym (the_calls old new calls (own ∷ behind) is (log_more old new (d.own ∷ d.behind) d.has)))
    (λ close. ap (holds (gone ++ log_of old)) d.node ∙ marked_is (gone ++ log_of old) old.held node true m low held, behind_held ((gone ++ log_of old) ++ own ∷ []) node (tap_by node (response_of d.own.reply)) behind d.is)

-- one after another
pub closes_more : (a b c : Seat) → GoesOn a b → GoesOn b c → ClosesHeld a b → ClosesHeld b c → ClosesHeld a c
closes_more a b c x y k l gone calls m is =
    let before : gone ++ log_of b ≡ (gone ++ log_of a) ++ x.calls = ap (λ (z : List LogEntry). gone ++ z) x.log ∙ sym (append_assoc gone (log_of a) x.calls) in
    subst (CloseHeld (gone ++ log_of a)) (sym (the_calls a c calls (x.calls ++ y.calls) is (y.log ∙ (ap (λ (z : List LogEntry). z ++ y.calls) x.log ∙ append_assoc (log_of a) x.calls y.calls))))
    (held_both (gone ++ log_of a) x.calls y.calls (k gone x.calls m x.log) (subst (λ (z : List LogEntry). CloseHeld z y.calls) before (l gone y.calls (x.marks gone m) y.log)))
