use Rattle.report_text.proofs.Imports.{◌≡◌, ◌+◌, ◌++◌, ◌<◌, ◌∷◌, [], ◌∙◌, ℕ, List, refl, ap, sym, length, arith, slice_index, vec_len, vec_capacity, flat_map, flat_map_more, next_pid_text}
use Rattle.report_text.proofs.Texts.{behind_first, behind_first-next}
use Rattle.report_text.proofs.acts.add_set.Goals as goal
use Rattle.report_text.proofs.acts.add_set.Goals.{in-Some-get+in_ok-add_field, in_default-get}

-- one more PID
one_more : (start before after pids : List ℕ) (place pid : ℕ) → 0 < place → place < length pids → pid ≡ slice_index pids place
    → before ≡ start ++ flat_map next_pid_text (behind_first place pids) → after ≡ before ++ next_pid_text pid → after ≡ start ++ flat_map next_pid_text (behind_first (place + 1) pids)
one_more start before after pids place pid some there is so_far added =
    let next : behind_first (place + 1) pids ≡ behind_first place pids ++ pid ∷ [] = behind_first-next pids place pid some there is in
    added ∙ (ap (λ text. text ++ next_pid_text pid) so_far ∙ (flat_map_more next_pid_text start (behind_first place pids) pid ∙ ap (λ ps. start ++ flat_map next_pid_text ps) (sym next)))

pub pids-preserved : goal.pids-preserved
pids-preserved c =
    elim c.match-get-2.branch [
      | in-Some-get+in_ok-add_field w ↦ record {
        items = one_more c.write_decimal.new.out.items c.pids.out.items c.match-get-2.out.items c.args.pids.now c.pids.place w.in-Some-get.pid
            (omega (arith, c.pids.auto.place)) (omega (arith, c.pids-test.true, c.len-place-end.ensures.value)) w.in-Some-get.ensures.value c.pids.invariant.items (ap (λ v. v.items) w.out-is ∙ w.in_ok-add_field.ensures.items);
        few = omega (arith, ap (λ v. vec_len v) w.out-is, w.in_ok-add_field.ensures.few, c.pids.invariant.few);
        room = omega (arith, ap (λ v. vec_capacity v) w.out-is, w.in_ok-add_field.ensures.room, c.pids.invariant.room);
      }
      | in_default-get w ↦ absurd (omega (arith, w.in_default-get.ensures.none.0 refl, c.pids-test.true, c.len-place-end.ensures.value))
    ]
