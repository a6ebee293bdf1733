-- What a contract sees of a puller, and what it stands for.
use Rattle.std.specs.Prelude.{◌≡◌, ◌≢◌, ℕ, ◌+◌, ◌*◌, ◌<◌, ◌≤◌, Bool, true, false, List, [], ◌++◌, length, Result, None, Some, Ok, Err}
use Rattle.feed_pull.specs.Imports.{Cuts, Cutting, IsRest, Option, PacketSize, Watched, Watching, bytes_counted, cut, fresh}
use Rattle.feed_pull.specs.declared.fault.Reading.{Reading}
use Rattle.feed_pull.specs.declared.fault.Reading.TheVariants.{Going, Ended, Failed, TooMany}
use Rattle.feed_pull.specs.declared.fault.PullFault.{PullFault}
use Rattle.feed_pull.specs.declared.fault.PullFault.TheVariants.{ReadFault, TooLong}

-- what a puller has
pub record Pulling : Type 0 where
  -- how many bytes a packet takes up, and where the cutting stands
  pub cutting : Cutting
  -- the packets that wait to be given
  pub waiting : List (List ℕ)
  -- how many packets there is room for, those that wait among them
  pub room : ℕ
  -- the bytes that were read and aren't cut yet
  pub unread : List ℕ
  -- how many packets were given
  pub given : ℕ
  -- how many had been found when the last bytes were read
  pub found_before_last_read : ℕ
  -- how many reads were made before the puller was
  pub start : ℕ
  -- how many bytes its reads took
  pub taken : ℕ
  -- how many reads were made in all
  pub reads : ℕ
  -- how reading goes
  pub reading : Reading
  -- what was counted of the packets that were found
  pub watch : Watching

-- What is true of each puller. The numbers of bytes and of reads are bounded, a read took at most 65,536 bytes, and
-- each read but the last took at least one.
pub record IsPulling (p : Pulling) : Type 0 where
  pub few : length p.waiting ≤ 64
  pub rest : IsRest p.cutting.size p.cutting.rest
  pub found : p.cutting.packets ≡ p.given + length p.waiting
  pub found_before_last_read : p.found_before_last_read ≤ p.given + length p.waiting
  pub watched : p.watch.watched ≡ p.given + length p.waiting
  pub bytes : bytes_counted p.cutting + length p.unread ≤ 65536 + p.taken
  pub piece : length p.unread ≤ 65536
  pub taken : p.taken ≤ 65536 * p.reads
  pub reads : p.reads ≤ 4294967296
  pub going : p.reading ≡ Going → p.reads ≤ p.start + p.taken
  pub too_many : p.reading ≡ TooMany → 4294967296 ≤ p.start + p.taken

-- The puller stands behind a stream: these bytes ahead, and behind them these that its pulls took. It has given these
-- packets, and has watched them and those that wait.
pub record Pulls (ahead taken : List ℕ) (given : List (List ℕ)) (p : Pulling) : Type 0 where
  -- the bytes that were cut; they have the packets given and those that wait, and the unread bytes are the rest
  pub passed : List ℕ
  -- the bytes of the reads before the last one, and those of the last
  pub before : List ℕ
  pub latest : List ℕ
  pub count : p.given ≡ length given
  pub watch : Watched (given ++ p.waiting) p.watch
  pub size : p.taken ≡ length taken
  pub cuts : Cuts (fresh p.cutting.size) passed (given ++ p.waiting) p.cutting
  pub stream : passed ++ p.unread ≡ ahead ++ taken
  pub last : taken ≡ before ++ latest
  pub piece : length latest ≤ 65536
  -- once more bytes were taken than one read may leave behind a packet, it knows how many packets there are in front of
  -- the last read
  pub found_before_last_read : 65535 < length taken
      → p.found_before_last_read ≡ length (cut p.cutting.size (ahead ++ before)).packets

-- reading has stopped, and nothing is left to be given
pub record IsDone (p : Pulling) : Type 0 where
  pub stopped : p.reading ≢ Going
  pub waiting : p.waiting ≡ []
  pub unread : p.unread ≡ []

-- whatever stream the puller stands behind, all its packets were given
abbrev pub HasGivenAll : Pulling → Type 0
HasGivenAll p = (ahead taken : List ℕ) (given : List (List ℕ)) → Pulls ahead taken given p
    → (cut p.cutting.size (ahead ++ taken)).packets ≡ given

-- .. and they were watched
abbrev pub HasWatchedAll : Pulling → Type 0
HasWatchedAll p = (ahead taken : List ℕ) (given : List (List ℕ)) → Pulls ahead taken given p
    → Watched (cut p.cutting.size (ahead ++ taken)).packets p.watch

-- a read failed
abbrev pub has_failed : Reading → Bool
has_failed Going = false
has_failed Ended = false
has_failed Failed = true
has_failed TooMany = false

-- the fault that stopped reading, if one did
abbrev pub fault_of : Reading → Option PullFault
fault_of Going = None
fault_of Ended = None
fault_of Failed = Some ReadFault
fault_of TooMany = Some (TooLong 4294967296)

-- the packets of the batch that a pull gave: none where it gave no batch
abbrev pub given_by : {T E : Type 0} → Result (Option T) E → (T → List (List ℕ)) → List (List ℕ)
given_by (Ok None) packets = []
given_by (Ok (Some batch)) packets = packets batch
given_by (Err e) packets = []

-- before the last read fewer than so many packets were in hand
abbrev pub HadFewer : (most : ℕ) → Pulling → Type 0
HadFewer most p = p.found_before_last_read < p.given + most

-- At most 65,535 of the bytes taken stand behind what the last of these packets takes up: a stream that lacks more of
-- them at its end has fewer packets.
abbrev pub IsNear : PacketSize → List ℕ → List ℕ → List (List ℕ) → Type 0
IsNear size ahead taken given = (earlier later : List ℕ) → taken ≡ earlier ++ later → 65535 < length later
    → length (cut size (ahead ++ earlier)).packets < length given

-- whatever stream the puller stands behind, at most 65,535 of the bytes taken stand behind the packets given
abbrev pub IsNearEnd : Pulling → Type 0
IsNearEnd p = (ahead taken : List ℕ) (given : List (List ℕ)) → Pulls ahead taken given p
    → IsNear p.cutting.size ahead taken given
