-- What pulls take from a source, and the stream that is made of it.
use Rattle.std.specs.Prelude.{◌≡◌, ℕ, List, []}
use Rattle.feed_pull.specs.Imports.{Consumes, SourceEnd}
use Rattle.feed_pull.specs.Pulling.{Pulling, Pulls}
use Rattle.feed_pull.specs.Steps.{Carries, Follows}

-- What pulls do to a source and a puller: these packets were given, with the bytes that the source gave for them.
pub record Draws (before after : SourceEnd) (old new : Pulling) (packets : List (List ℕ)) : Type 0 where
  pub carries : Carries before after old packets new
  pub follows : Follows old.reading new.reading before after
  pub start : new.start ≡ old.start

-- So many bytes were taken from the source, and whatever bytes stand ahead of them in the
-- puller, it is so of the stream of both.
abbrev pub OfStream : (before after : SourceEnd) → Pulling → ((ahead taken : List ℕ) → Type 0) → Type 0
OfStream before after puller P =
    (taken : List ℕ) × Consumes before.left after.left taken
    × ((ahead : List ℕ) → Pulls ahead [] [] puller → P ahead taken)
