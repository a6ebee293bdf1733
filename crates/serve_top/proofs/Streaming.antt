-- How the stream was read.
use Rattle.serve_top.proofs.Imports.{◌≡◌, ◌≢◌, inl, inr, ℕ, ◌+◌, ◌≤◌, ◌^◌, List, [], ◌++◌, refl, arith, cases_lt, SourceEnd, Reading, Going, TooMany, Pulling, Pulls, has_failed, Follows, Draws, HasReadTo, HasReadTooOften}
use Rattle.feed_pull.specs.declared.fault.Reading.TheVariants.{Ended, Failed}

-- reading that has stopped, and not since too many reads were made
pub read_to : (old new : Reading) (x y : SourceEnd) → Follows old new x y → old ≡ Going → new ≢ Going → new ≢ TooMany → HasReadTo (has_failed new) x y
read_to old Going x y f going stopped few = absurd (stopped refl)
read_to old Ended x y f going stopped few = elim (cases_lt x.faults y.faults) [
  | inl rose ↦ absurd (let both : Ended ≡ Failed = f.rose rose in cc)
  | inr still ↦ (let later = f.later in omega (arith, later, still), f.ends going refl)
]
read_to old Failed x y f going stopped few = let rose = f.fails going refl in let once = f.once in omega (arith, rose, once)
read_to old TooMany x y f going stopped few = absurd (few refl)

-- so many reads were made, each of which took a byte
pub too_often : (x y : SourceEnd) (old new : Pulling) (packets : List (List ℕ)) → Draws x y old new packets → Pulls [] [] [] old → old.start ≡ 0
    → 2 ^ 32 ≤ new.start + new.taken → HasReadTooOften x y
too_often x y old new packets draws pulls none many =
    let p : Pulls [] ([] ++ draws.carries.more) ([] ++ packets) new = draws.carries.pulls [] [] [] pulls in
    let start = draws.start in let size = p.size in
    record { taken = draws.carries.more; consumes = draws.carries.consumes; many = omega (arith, many, start, none, size) }
