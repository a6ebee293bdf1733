-- The feeder at work.
use Rattle.std.specs.Prelude.{◌≡◌, ◌≢◌, ◌⊎◌, ◌≤◌, ◌+◌, ◌-◌, ◌^◌, ℕ, Bool, false, List, [], ◌∷◌, length, slice_get, None, Some, All}
use Rattle.workers.specs.Imports.{DEMUX_NODES, Draws, Entry, Fed, Fits, IsDone, IsSameCaller, NoMemory, Pulling, Pulls, SourceEnd, TableId, TooLong, TooMany, View, ended}
use Rattle.workers.specs.declared.feeder_worker.FeederWorker.{FeederWorker}
use Rattle.workers.specs.Feeding.{AreFullBatches, HasEnded, HasFed, IsReadBehind}

-- It has a pass of each of these locks, and made no more calls than packets were given.
pub record IsFitFeeder (locks : List TableId) (f : FeederWorker) : Type 0 where
  pub fits : Fits locks f.feeder.passes
  pub left : 2 ^ 44 ≤ f.feeder.left + f.puller.given
  pub count : f.count ≤ f.puller.given
  pub given : f.puller.given ≤ 2 ^ 41

-- What holds whenever it may pass a batch, which has 1 to 64 packets.
pub record MayPass (most : ℕ) (locks : List TableId) (f : FeederWorker) : Type 0 where
  pub some : 1 ≤ most
  pub few : most ≤ 64
  pub fit : IsFitFeeder locks f

-- the passes of the nodes that are not among these are as they were
abbrev pub LeavesOthers : (among : ℕ → Bool) → (old new : List (TableId × View Entry)) → Type 0
LeavesOthers among old new = (node : ℕ) → among node ≡ false → slice_get new node ≡ slice_get old node

-- What keeps batches says whether it was told of these, and of no others, between one state and another.
module _ {B : Type 0} (among : ℕ → Bool) (most : ℕ) (may : ℕ → Bool) (behind : SourceEnd → ℕ → Bool)
    (took : List Fed → B → B → Type 0) where
  -- It has passed the packets that were drawn from the source, from this puller on, through the nodes that are among these, in
  -- full batches but for the last; and these were told.
  pub record HasPassed (before after : SourceEnd) (first : Pulling) (was now : B) (f : FeederWorker) : Type 0 where
    pub feeding : List Fed
    pub told : took feeding was now
    pub clock : All (IsReadBehind behind before first) feeding
    pub packets : List (List ℕ)
    pub draws : Draws before after first f.puller packets
    pub given : f.puller.given ≡ length packets
    pub fed : HasFed among most may packets [] f.feeder feeding
    -- all batches were full, or the puller has nothing more
    pub full : (ahead taken : List ℕ) (given : List (List ℕ)) → Pulls ahead taken given first
        → AreFullBatches most feeding × (IsDone f.puller ⊎ All (λ fed. fed.count ≡ most) feeding)

  -- All packets of the source have passed these nodes, from this puller on, and then the end of the stream; and the batches were
  -- told.
  pub record HasPassedAll (before after : SourceEnd) (first : Pulling) (was now : B) (f : FeederWorker) : Type 0 where
    pub feeding : List Fed
    pub told : took feeding was now
    pub clock : All (IsReadBehind behind before first) feeding
    pub packets : List (List ℕ)
    pub draws : Draws before after first f.puller packets
    pub done : IsDone f.puller
    pub fed : HasFed among most may packets (ended ∷ []) f.feeder feeding
    pub full : (ahead taken : List ℕ) (given : List (List ℕ)) → Pulls ahead taken given first
        → AreFullBatches most feeding

  -- The feeder has worked to its end: whatever stopped it, its last call on each of these nodes is End, and it has called no
  -- other. Where memory wasn't refused the whole stream has passed before; it answers TooLong only where so many reads were made.
  pub record HasFedToEnd (before after : SourceEnd) (was now : B) (old new : FeederWorker) : Type 0 where
    pub same : IsSameCaller old.feeder new.feeder
    pub draws : (packets : List (List ℕ)) × Draws before after old.puller new.puller packets
    pub nodes : length new.feeder.passes ≡ DEMUX_NODES + 1
    pub ended : HasEnded among new.feeder
    pub all : new.stop ≢ Some NoMemory → HasPassedAll before after old.puller was now new
    pub few : new.stop ≡ None → new.puller.reading ≢ TooMany
    pub too_long : (turns : ℕ) → new.stop ≡ Some (TooLong turns)
        → (turns ≡ 2 ^ 32) × (2 ^ 32 ≤ new.puller.start + new.puller.taken)
