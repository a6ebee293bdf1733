-- A stream that is read to its end, or isn't.
use Rattle.emu_top.proofs.Imports.{◌≡◌, rules, fault_of, ◌≤◌, ◌+◌, refl, sym, ap, subst, ◌∙◌, ℕ, false, List, [], ◌++◌, SourceEnd, told_head, head_of, Reading, Going, Ended, Failed, TooMany, Pulling, Pulls, HasGivenAll, has_failed, Draws, OfStream, many_reads, IsCutOff, IsWholeOf, Stream, TooLong}
use Rattle.std.proofs.Common.{None, Some}
use Rattle.feed_pull.specs.declared.fault.PullFault.TheVariants as pull
use Rattle.emu_top.proofs.stream.read_counted.Goals as goal

-- the packets and the head of all that was taken
pub whole_of : (x y : SourceEnd) (old new : Pulling) (stream : Stream) → Draws x y old new stream.packets.items → HasGivenAll new → has_failed new.reading ≡ false
    → ((ahead taken : List ℕ) (given : List (List ℕ)) → Pulls ahead taken given new → told_head stream.head ≡ head_of new.cutting.size (ahead ++ taken) (has_failed new.reading))
    → OfStream x y old (λ ahead taken. IsWholeOf old.cutting.size (ahead ++ taken) stream)
whole_of x y old new stream draws all well head = (
  draws.carries.more,
  draws.carries.consumes,
  λ ahead pulls.
      let p : Pulls ahead ([] ++ draws.carries.more) ([] ++ stream.packets.items) new = draws.carries.pulls ahead [] [] pulls in
      subst (λ size. IsWholeOf size (ahead ++ draws.carries.more) stream) draws.carries.size (record {
        packets = sym (all ahead draws.carries.more stream.packets.items p);
        head = head ahead draws.carries.more stream.packets.items p ∙ ap (head_of new.cutting.size (ahead ++ draws.carries.more)) well;
      }),
)

pub unfailed_of : (r : Reading) → fault_of r ≡ None → has_failed r ≡ false
unfailed_of Going is = refl
unfailed_of Ended is = refl
unfailed_of Failed is = absurd (cc)
unfailed_of TooMany is = refl

turns_of : (r : Reading) (turns : ℕ) → fault_of r ≡ Some (pull.TooLong turns) → (r ≡ TooMany) × (turns ≡ 4294967296)
turns_of Going turns is = absurd (cc)
turns_of Ended turns is = absurd (cc)
turns_of Failed turns is = absurd (cc)
turns_of TooMany turns is = (refl, cc)

-- too many reads were made
pub reads_cut_off : (x y : SourceEnd) (old new : Pulling) (packets : List (List ℕ)) (turns : ℕ) → Draws x y old new packets → fault_of new.reading ≡ Some (pull.TooLong turns)
    → (new.reading ≡ TooMany → 4294967296 ≤ new.start + new.taken) → IsCutOff x y old (TooLong turns)
reads_cut_off x y old new packets turns draws is many =
    let t = turns_of new.reading turns is in
    (t.1, rw t.1 (many_reads x y old new packets draws (many t.0)))

pub returns-in-Some-TooLong-clause-cut_off : goal.returns-in-Some-TooLong-clause-cut_off
returns-in-Some-TooLong-clause-cut_off g c =
    let is : fault_of c.pull_all.new.puller.reading ≡ Some (pull.TooLong c.in-Some-TooLong.turns) = search rules in
    rw c.in-Some-TooLong.turns-is (reads_cut_off _ _ c.args.puller c.pull_all.new.puller c.in-Ok.packets.items c.in-Some-TooLong.turns c.in-Ok.ensures.draws is c.fault.ensures.too_many)

pub returns-in-Ok-head-clause-whole : goal.returns-in-Ok-head-clause-whole
returns-in-Ok-head-clause-whole g c =
    let is : fault_of c.pull_all.new.puller.reading ≡ None = search rules in
    whole_of _ _ c.args.puller c.pull_all.new.puller _ c.in-Ok.ensures.draws c.in-Ok.ensures.all (unfailed_of c.pull_all.new.puller.reading is) c.in-Ok-head.ensures.head
