-- What the feeder has done, and how it is tied to what its passes know.
use Rattle.std.specs.Prelude.{◌≡◌, ◌<◌, ◌≤◌, ◌+◌, ℕ, Bool, true, false, IsTrue, if◌then◌else◌, List, [], ◌∷◌, ◌++◌, length, map, take, drop, slice_get, Some, All}
use Rattle.workers.specs.Imports.{AreFull, Batch, Caller, DEMUX_NODES, Draws, Entry, Fed, Frontend, Pass, Passed, Pulling, SourceEnd, TableId, View, ended, entry_of, get_elem?, some}

-- the entry of a batch of these packets' stream
abbrev pub fed_entry : (stream : List (List ℕ)) → Fed → Entry
fed_entry stream fed = entry_of 0 (Pass Frontend fed.first (take fed.count (drop fed.first stream)) fed.now) Passed

abbrev pub fed_entries : (stream : List (List ℕ)) → List Fed → List Entry
fed_entries stream feeding = map (fed_entry stream) feeding

-- The batches tile the packets from this number on up to that: each has 1 to `most`, and begins where the one before it
-- ends.
abbrev pub Tiles : (most first end : ℕ) → List Fed → Type 0
Tiles most first end [] = first ≡ end
Tiles most first end (fed ∷ feeding) =
    (fed.first ≡ first) × (1 ≤ fed.count) × (fed.count ≤ most) × Tiles most (first + fed.count) end feeding

-- a batch as a run tells it
abbrev pub batch_of : Fed → Batch
batch_of fed = record { size = fed.count; moment = fed.now }

-- every batch but the last has `most` packets
abbrev pub AreFullBatches : (most : ℕ) → List Fed → Type 0
AreFullBatches most feeding = AreFull most (map batch_of feeding)

-- these entries stand in the history at these places
abbrev pub StandAt : List Entry → (entries : List Entry) → (places : List ℕ) → Type 0
StandAt h [] [] = Unit {0}
StandAt h (x ∷ xs) (place ∷ places) = (get_elem? h place ≡ some x) × StandAt h xs places
StandAt h _ _ = ⊥

-- The clock may give the moment of this batch where the source stands behind its packets: those that were drawn there, from this
-- puller on, are just these and the ones before them.
pub record IsReadBehind (behind : SourceEnd → ℕ → Bool) (before : SourceEnd) (first : Pulling) (fed : Fed) : Type 0 where
  pub at : SourceEnd
  pub puller : Pulling
  pub packets : List (List ℕ)
  pub draws : Draws before at first puller packets
  pub count : fed.first + fed.count ≡ length packets
  pub moment : IsTrue (behind at fed.now)

-- a pass of the feeder has made just these entries, in this order
pub record HasMade (entries : List Entry) (p : TableId × View Entry) : Type 0 where
  pub places : List ℕ
  pub number : p.1.number ≡ 0
  pub own : p.1.own ≡ map (λ place. (0, place)) places
  pub stand : StandAt p.1.seen entries places
  pub rise : (i j place later : ℕ) → i < j → slice_get places i ≡ Some place → slice_get places j ≡ Some later
      → place < later

-- The feeder has passed these packets through the nodes that are among these, in these batches, each at a moment that the
-- clock may give, and has made these entries behind them; on every other node it has made no call.
pub record HasFed (among : ℕ → Bool) (most : ℕ) (may : ℕ → Bool) (packets : List (List ℕ)) (behind : List Entry)
    (c : Caller) (feeding : List Fed) : Type 0 where
  pub who : c.who ≡ 0
  pub tiles : Tiles most 0 (length packets) feeding
  pub moments : All (λ fed. IsTrue (may fed.now)) feeding
  pub made : (node : ℕ) (p : TableId × View Entry) → slice_get c.passes node ≡ Some p
      → HasMade (if among node then fed_entries packets feeding ++ behind else []) p

-- the last call of this pass is that the stream has ended
pub record HasEndedBy (p : TableId × View Entry) : Type 0 where
  pub before : List (ℕ × ℕ)
  pub place : ℕ
  pub own : p.1.own ≡ before ++ (p.1.number, place) ∷ []
  pub at : get_elem? p.1.seen place ≡ some ended

-- Whatever the feeder has passed, its last call on each of the 33 nodes that is among these is End, and it has made no call on
-- any other.
pub record HasEnded (among : ℕ → Bool) (c : Caller) : Type 0 where
  pub ended : (node : ℕ) → node ≤ DEMUX_NODES → among node ≡ true
      → (p : TableId × View Entry) × (slice_get c.passes node ≡ Some p) × HasEndedBy p
  pub idle : (node : ℕ) (p : TableId × View Entry) → slice_get c.passes node ≡ Some p → among node ≡ false
      → p.1.own ≡ []

-- The whole stream has passed the nodes that are among these, in full batches but for the last, and then its end.
pub record HasFedAll (among : ℕ → Bool) (most : ℕ) (may : ℕ → Bool) (stream : List (List ℕ)) (c : Caller)
    (feeding : List Fed) : Type 0 where
  pub fed : HasFed among most may stream (ended ∷ []) c feeding
  pub full : AreFullBatches most feeding
