-- How reading stops, and what is then so of the source and of its stream.
use Rattle.feed_pull.proofs.Imports.{◌≡◌, ◌≢◌, refl, sym, ap, ◌∙◌, ℕ, ◌+◌, ◌<◌, ◌≤◌, Bool, true, false, List, [], ◌++◌, length, Result, Ok, Err, OnErr, IsTrue, arith, ◌↔◌, IsAtEnd, SourceEnd, Reading, Going, Ended, Failed, TooMany, Pulling, Pulls, has_failed, Follows, Draws, OfStream}

failed_by : (r : Reading) → has_failed r ≡ true → r ≡ Failed
failed_by Going is = absurd (cc)
failed_by Ended is = absurd (cc)
failed_by Failed is = refl
failed_by TooMany is = absurd (cc)

-- reading that has stopped, and neither failed nor made too many reads, is at the end
ended_by : (r : Reading) → r ≢ Going → r ≢ TooMany → has_failed r ≡ false → r ≡ Ended
ended_by Going stopped few is = absurd (stopped refl)
ended_by Ended stopped few is = refl
ended_by Failed stopped few is = absurd (cc)
ended_by TooMany stopped few is = absurd (few refl)

-- the source failed just where its count rose
pub rose_by : (b : Bool) (old new : Reading) (x y : SourceEnd) → Follows old new x y → old ≡ Going → b ≡ has_failed new → IsTrue b ↔ (x.faults < y.faults)
rose_by b old new x y f going is = (
  λ t. f.fails going (failed_by new (sym is ∙ t)),
  λ lt. is ∙ ap has_failed (f.rose lt),
)

-- else it has nothing left
pub end_by : (b : Bool) (old new : Reading) (x y : SourceEnd) → Follows old new x y → old ≡ Going → b ≡ has_failed new → new ≢ Going → new ≢ TooMany → b ≡ false → IsAtEnd y.left
end_by b old new x y f going is stopped few unfailed = f.ends going (ended_by new stopped few (sym is ∙ unfailed))

-- so many reads were made, each of which took a byte
pub many_reads : (x y : SourceEnd) (old new : Pulling) (packets : List (List ℕ)) → Draws x y old new packets
    → 4294967296 ≤ new.start + new.taken → OfStream x y old (λ ahead taken. 4294967296 ≤ old.start + length taken)
many_reads x y old new packets draws many = (
  draws.carries.more,
  draws.carries.consumes,
  λ ahead pulls.
      let p : Pulls ahead ([] ++ draws.carries.more) ([] ++ packets) new = draws.carries.pulls ahead [] [] pulls in
      omega (arith, many, draws.start, p.size),
)

-- one fact of the stream makes another
pub of_stream : (x y : SourceEnd) (old : Pulling) (P Q : List ℕ → List ℕ → Type 0) → ((ahead taken : List ℕ) → P ahead taken → Q ahead taken) → OfStream x y old P → OfStream x y old Q
of_stream x y old P Q so of = (of.0, of.1, λ ahead pulls. so ahead of.0 (of.2 ahead pulls))

-- what is so anyway is so where a run stops
pub on_err : {T E : Type 0} (r : Result T E) (P : Type 0) → P → OnErr r P
on_err (Ok x) P p = tt
on_err (Err e) P p = p
