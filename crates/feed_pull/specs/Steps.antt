-- The steps of a pull.
use Rattle.std.specs.Prelude.{◌≡◌, ◌≢◌, ◌⊎◌, ℕ, ◌+◌, ◌-◌, ◌*◌, ◌<◌, ◌≤◌, List, [], ◌++◌, length}
use Rattle.feed_pull.specs.Imports.{Consumes, Cuts, IsAtEnd, SourceEnd, Watched, cut}
use Rattle.feed_pull.specs.declared.fault.Reading.{Reading}
use Rattle.feed_pull.specs.declared.fault.Reading.TheVariants.{Going, Ended, Failed, TooMany}
use Rattle.feed_pull.specs.Pulling.{Pulling, Pulls}

-- how many packets are found in all once the unread bytes and these behind them are cut
abbrev pub found_with : Pulling → List ℕ → ℕ
found_with p bytes = p.cutting.packets + length (cut p.cutting.size (p.cutting.rest ++ (p.unread ++ bytes))).packets

-- `more` ends with the bytes of the last read, and this many packets had been found before it
pub record Reads (old : Pulling) (more : List ℕ) (earlier : ℕ) : Type 0 where
  pub front : List ℕ
  pub latest : List ℕ
  pub whole : more ≡ front ++ latest
  pub piece : length latest ≤ 65536
  pub count : earlier ≡ found_with old front

-- The bytes `more` came behind the unread ones, and bytes were cut from their front. The packets found wait behind
-- those that waited, and were watched. Either nothing was read, or `more` ends with the bytes of the last read.
pub record Goes (old : Pulling) (more : List ℕ) (new : Pulling) : Type 0 where
  pub passed : List ℕ
  pub found : List (List ℕ)
  pub bytes : passed ++ new.unread ≡ old.unread ++ more
  pub cuts : Cuts old.cutting passed found new.cutting
  pub waiting : new.waiting ≡ old.waiting ++ found
  pub given : new.given ≡ old.given
  pub start : new.start ≡ old.start
  pub taken : new.taken ≡ old.taken + length more
  pub watch : (before : List (List ℕ)) → Watched before old.watch → Watched (before ++ found) new.watch
  pub last : ((more ≡ []) × (new.found_before_last_read ≡ old.found_before_last_read))
      ⊎ Reads old more new.found_before_last_read

-- the puller once there is room for so many packets
abbrev pub with_room : Pulling → ℕ → Pulling
with_room p room = record {
  cutting = p.cutting;
  waiting = p.waiting;
  room = room;
  unread = p.unread;
  given = p.given;
  found_before_last_read = p.found_before_last_read;
  start = p.start;
  taken = p.taken;
  reads = p.reads;
  reading = p.reading;
  watch = p.watch;
}

-- no read was made
pub record ReadsNothing (old new : Pulling) : Type 0 where
  pub taken : new.taken ≡ old.taken
  pub reads : new.reads ≡ old.reads

-- the bytes that came were taken from a source that told this before and after
pub record Gathers (before after : SourceEnd) (old new : Pulling) : Type 0 where
  pub more : List ℕ
  pub consumes : Consumes before.left after.left more
  pub goes : Goes old more new

-- How reading goes before and after, and what a source tells before and after. Once stopped it stays so, and the source
-- is left alone. It ends where nothing is left. It fails where the count of faults rose, and only there, and the count
-- rises at most by one: after a failed read nothing more is read. While it goes on the count stands.
pub record Follows (old new : Reading) (before after : SourceEnd) : Type 0 where
  pub stays : old ≢ Going → new ≡ old
  pub still : old ≢ Going → after ≡ before
  pub ends : old ≡ Going → new ≡ Ended → IsAtEnd after.left
  pub later : before.faults ≤ after.faults
  pub once : after.faults ≤ before.faults + 1
  pub fails : old ≡ Going → new ≡ Failed → before.faults < after.faults
  pub rose : before.faults < after.faults → new ≡ Failed
  pub went : new ≡ Going → (old ≡ Going) × (after.faults ≡ before.faults)

-- a measure of the reading that may still come
abbrev pub to_read : Reading → ℕ → ℕ
to_read Going reads = 65537 * (4294967297 - reads)
to_read Ended reads = 0
to_read Failed reads = 0
to_read TooMany reads = 0

-- how much may still be done before nothing is left
abbrev pub work : Pulling → ℕ
work p = to_read p.reading p.reads + length p.unread

-- the puller's state after these packets were given from the front of those that wait
pub record HasGiven (packets : List (List ℕ)) (old new : Pulling) : Type 0 where
  pub waiting : old.waiting ≡ packets ++ new.waiting
  pub given : new.given ≡ old.given + length packets
  pub watch : new.watch ≡ old.watch
  pub cutting : new.cutting ≡ old.cutting
  pub unread : new.unread ≡ old.unread
  pub found_before_last_read : new.found_before_last_read ≡ old.found_before_last_read
  pub start : new.start ≡ old.start
  pub taken : new.taken ≡ old.taken
  pub reads : new.reads ≡ old.reads
  pub reading : new.reading ≡ old.reading

-- Whatever stream the puller stood behind and whatever it had given, it now stands behind that stream with more bytes
-- taken, which are those that the source gave, and has given these packets too. What a packet takes up stays.
pub record Carries (before after : SourceEnd) (old : Pulling) (packets : List (List ℕ))
    (new : Pulling) : Type 0 where
  pub more : List ℕ
  pub size : new.cutting.size ≡ old.cutting.size
  pub consumes : Consumes before.left after.left more
  pub pulls : (ahead taken : List ℕ) (given : List (List ℕ)) → Pulls ahead taken given old
      → Pulls ahead (taken ++ more) (given ++ packets) new
