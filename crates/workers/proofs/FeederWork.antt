-- The turns of the feeder.
use Rattle.workers.proofs.Imports.{◌≡◌, ◌≢◌, ◌⊎◌, inl, inr, ⊎_elim, refl, sym, ap, subst, ◌∙◌, ℕ, Bool, ◌+◌, ◌<◌, ◌≤◌, List, [], ◌∷◌, ◌++◌, length, length-append, append-nil, arith, Result, Ok, Err, OnOk, IsTrue, IsOk, All, slice_index, if◌then◌else◌, slice_get_within, All-push, cases_lt, SourceEnd, get_elem?, TableId, View, Packets, Fed, DEMUX_NODES, Entry, Going, Pulling, Pulls, IsDone, ReadsNothing, Draws, Caller, MakesEachEntry, fed, ended, FeederWorker, AreFullBatches, HasEnded, HasEndedBy, HasFed, HasMade, fed_entries, LeavesOthers, HasPassed, HasPassedAll, IsReadBehind, at_place, draws_then, none_given, zero, suc, false, map, take, drop, append_assoc, map-append, take-append-le, drop-append-le, length-drop, drop-append_seam, take-length, All-tail, some, IsPrefix, at_below, prefix_at, Frontend, Pass, Passed, entry_of, caller_of, IsLegalAt, OneMore, at_end, fed_entry, Tiles, StandAt}
use Rattle.std.specs.Prelude.{slice_get, Option, Some, None, true}
use Rattle.atomic_table.proofs.Lists.{at_last}
use Rattle.workers.proofs.Completing.{made_nothing}
use Rattle.workers.proofs.Logging.{prefix_long}

-- ------ One batch more
-- ------ a pass of the feeder makes one entry more

stand_more : (h g : List Entry) (xs : List Entry) (places : List ℕ) (x : Entry) (place : ℕ) → IsPrefix h g → get_elem? g place ≡ some x → StandAt h xs places → StandAt g (xs ++ x ∷ []) (places ++ place ∷ [])
stand_more h g [] [] x place more at s = (at, tt)
stand_more h g (y ∷ ys) (p ∷ ps) x place more at s = (prefix_at h g p y more s.0, stand_more h g ys ps x place more at s.1)
stand_more h g [] (p ∷ ps) x place more at s = absurd s
stand_more h g (y ∷ ys) [] x place more at s = absurd s

stands_below : (h : List Entry) (xs : List Entry) (places : List ℕ) → StandAt h xs places → (i p : ℕ) → slice_get places i ≡ Some p → p < length h
stands_below h [] [] s i p e = absurd (cc e)
stands_below h (y ∷ ys) (q ∷ qs) s zero p e = let same : q ≡ p = cc e in subst (λ (n : ℕ). n < length h) same (at_below h q y s.0)
stands_below h (y ∷ ys) (q ∷ qs) s (suc i) p e = stands_below h ys qs s.1 i p e
stands_below h [] (q ∷ qs) s i p e = absurd s
stands_below h (y ∷ ys) [] s i p e = absurd s

pub made_more : (entries : List Entry) (S : List Entry → Type 0) (x : Entry) (place : ℕ) (p q : TableId × View Entry) → HasMade entries p → OneMore caller_of S x place p q → HasMade (entries ++ x ∷ []) q
made_more entries S x place p q m o =
    let grown : IsPrefix p.1.seen q.1.seen = (let b = o.seen in (b.0 ++ x ∷ [], sym (append_assoc p.1.seen b.0 (x ∷ [])) ∙ (ap (λ (l : List Entry). l ++ x ∷ []) b.1 ∙ sym o.now))) in
    let at : get_elem? q.1.seen place ≡ some x = ap (get_elem? q.1.seen) o.at ∙ (ap (λ (h : List Entry). get_elem? h (length o.before)) o.now ∙ at_last o.before x (length o.before) refl) in
    record {
      places = m.places ++ place ∷ [];
      number = o.same.1 ∙ m.number;
      own = o.told ∙ (ap (λ l. l ++ (p.1.number, place) ∷ []) m.own ∙ (ap (λ (n : ℕ). map (λ (k : ℕ). (0, k)) m.places ++ (n, place) ∷ []) m.number ∙ sym (map-append (λ (k : ℕ). (0, k)) m.places (place ∷ []))));
      stand = stand_more p.1.seen q.1.seen entries m.places x place grown at m.stand;
      rise = λ i j a b low first second. ⊎_elim
          (λ old_i. ⊎_elim (λ old_j. m.rise i j a b low old_i old_j)
          (λ last. let under = stands_below p.1.seen entries m.places m.stand i a old_i in let long = prefix_long p.1.seen o.before o.seen in let is = o.at in let same : place ≡ b = last.1 in omega arith)
          (at_end m.places place b j second))
          (λ last. let i_is : i ≡ length m.places = last.0 in let long = slice_get_within (m.places ++ place ∷ []) j b second in absurd (omega (arith, length-append m.places (place ∷ []))))
          (at_end m.places place a i first);
    }

-- ------ tiles

pub tiles_within : (most first end : ℕ) (feeding : List Fed) → Tiles most first end feeding → first ≤ end
tiles_within most first end [] t = omega (arith, t)
tiles_within most first end (f ∷ fs) t = let more = tiles_within most (first + f.count) end fs t.3 in omega (arith, more)

tiles_more : (most first end : ℕ) (feeding : List Fed) (f : Fed) → Tiles most first end feeding → f.first ≡ end → 1 ≤ f.count → f.count ≤ most → Tiles most first (end + f.count) (feeding ++ f ∷ [])
tiles_more most first end [] f t is least few = (is ∙ sym t, least, few, ap (λ n. n + f.count) t)
tiles_more most first end (x ∷ xs) f t is least few = (t.0, t.1, t.2, tiles_more most (first + x.count) end xs f t.3 is least few)

-- more packets behind change no entry
stretch_same : (count first : ℕ) (packets more : List (List ℕ)) → first + count ≤ length packets → take count (drop first (packets ++ more)) ≡ take count (drop first packets)
stretch_same count first packets more low =
    ap (take count) (drop-append-le first packets more (omega (arith, low))) ∙ take-append-le count (drop first packets) more (let n = length-drop first packets in omega (arith, n, low))

entry_same : (packets more : List (List ℕ)) (f : Fed) → f.first + f.count ≤ length packets → fed_entry (packets ++ more) f ≡ fed_entry packets f
entry_same packets more f low = ap (λ (ps : List (List ℕ)). entry_of 0 (Pass Frontend f.first ps f.now) Passed) (stretch_same f.count f.first packets more low)

entries_same : (most first : ℕ) (packets more : List (List ℕ)) (feeding : List Fed) → Tiles most first (length packets) feeding → fed_entries (packets ++ more) feeding ≡ fed_entries packets feeding
entries_same most first packets more [] t = refl
entries_same most first packets more (f ∷ fs) t =
    let low = tiles_within most (first + f.count) (length packets) fs t.3 in
    ap (λ (x : Entry). x ∷ fed_entries (packets ++ more) fs) (entry_same packets more f (let is = t.0 in omega (arith, is, low))) ∙ ap (λ (xs : List Entry). fed_entry packets f ∷ xs) (entries_same most (first + f.count) packets more fs t.3)

entry_now : (packets more : List (List ℕ)) (first now : ℕ) → first ≡ length packets → fed_entry (packets ++ more) (record { first = first; count = length more; now = now }) ≡ fed (record { first = first; packets = more }) now
entry_now packets more first now is = ap (λ (ps : List (List ℕ)). entry_of 0 (Pass Frontend first ps now) Passed)
    (ap (λ (n : ℕ). take (length more) (drop n (packets ++ more))) is ∙ (ap (take (length more)) (drop-append_seam packets more) ∙ take-length more))

-- ------ the feeder

module _ (among : ℕ → Bool) (most : ℕ) (may : ℕ → Bool) (packets : List (List ℕ)) (c d : Caller) (feeding : List Fed) (places : List ℕ) (who : d.who ≡ c.who) where
  made_on : (x : Entry) → MakesEachEntry among x places c.passes d.passes → HasFed among most may packets [] c feeding → (node : ℕ) (q : TableId × View Entry) → slice_get d.passes node ≡ Some q
      → HasMade (if among node then (fed_entries packets feeding ++ []) ++ x ∷ [] else []) q
  made_on x a h node q at =
      let low = slice_get_within d.passes node q at in let long = a.long in let p = at_place c.passes node (omega arith) in by_test p.0 p.1 (among node) refl (h.made node p.0 p.1) where
        by_test : (p : TableId × View Entry) → slice_get c.passes node ≡ Some p → (b : Bool) → among node ≡ b → HasMade (if b then fed_entries packets feeding ++ [] else []) p
            → HasMade (if b then (fed_entries packets feeding ++ []) ++ x ∷ [] else []) q
        by_test p was true is m = made_more (fed_entries packets feeding ++ []) (IsLegalAt node) x _ p q m (a.each node p q was at is)
        by_test p was false is m = subst (HasMade []) (sym (a.others node p q was at is)) m

  pub fed_more : (batch : Packets) (now : ℕ) → HasFed among most may packets [] c feeding → MakesEachEntry among (fed batch now) places c.passes d.passes → batch.first ≡ length packets → 1 ≤ length batch.packets → length batch.packets ≤ most → IsTrue (may now)
      → HasFed among most may (packets ++ batch.packets) [] d (feeding ++ record { first = batch.first; count = length batch.packets; now = now } ∷ [])
  fed_more batch now h a is least few given =
      let f : Fed = record { first = batch.first; count = length batch.packets; now = now } in
      let entries : (fed_entries packets feeding ++ []) ++ fed batch now ∷ [] ≡ fed_entries (packets ++ batch.packets) (feeding ++ f ∷ []) ++ [] =
      ap (λ (xs : List Entry). xs ++ fed batch now ∷ []) (append-nil (fed_entries packets feeding) ∙ sym (entries_same most 0 packets batch.packets feeding h.tiles))
      ∙ (ap (λ (x : Entry). fed_entries (packets ++ batch.packets) feeding ++ x ∷ []) (sym (entry_now packets batch.packets batch.first now is))
      ∙ (sym (map-append (fed_entry (packets ++ batch.packets)) feeding (f ∷ [])) ∙ sym (append-nil (fed_entries (packets ++ batch.packets) (feeding ++ f ∷ []))))) in
      record {
        who = who ∙ h.who;
        tiles = subst (λ (n : ℕ). Tiles most 0 n (feeding ++ f ∷ [])) (sym (length-append packets batch.packets)) (tiles_more most 0 (length packets) feeding f h.tiles is least few);
        moments = All-push (λ (x : Fed). IsTrue (may x.now)) feeding f h.moments given;
        made = λ node q at. subst (λ (xs : List Entry). HasMade (if among node then xs else []) q) entries (made_on (fed batch now) a h node q at);
      }

  pub fed_end : HasFed among most may packets [] c feeding → MakesEachEntry among ended places c.passes d.passes → HasFed among most may packets (ended ∷ []) d feeding
  fed_end h a = record {
    who = who ∙ h.who;
    tiles = h.tiles;
    moments = h.moments;
    made = λ node q at. subst (λ (xs : List Entry). HasMade (if among node then xs ++ ended ∷ [] else []) q) (append-nil (fed_entries packets feeding)) (made_on ended a h node q at);
  }

-- ------ full batches

pub full_push : (most : ℕ) (feeding : List Fed) (f : Fed) → All (λ x. x.count ≡ most) feeding → AreFullBatches most (feeding ++ f ∷ [])
full_push most [] f all = tt
full_push most (x ∷ []) f all = (all 0 x (omega arith), tt)
full_push most (x ∷ y ∷ ys) f all = (all 0 x (omega arith), full_push most (y ∷ ys) f (All-tail (λ (z : Fed). z.count ≡ most) x (y ∷ ys) all))

pub on_ok : {T E : Type 0} (r : Result T E) (P : Type 0) → IsOk r → OnOk r P → P
on_ok (Ok x) P is p = p
on_ok (Err e) P is p = absurd cc

module _ {B : Type 0} (among : ℕ → Bool) (most : ℕ) (may : ℕ → Bool) (behind : SourceEnd → ℕ → Bool) (took : List Fed → B → B → Type 0) where
  module _ (before x y : SourceEnd) (first : Pulling) (was now : B) (p q : FeederWorker) (qs : List (List ℕ)) (draws : Draws x y p.puller q.puller qs) (given : q.puller.given ≡ p.puller.given + length qs)
      (h : HasPassed among most may behind took before x first was now p) where
    given_now : q.puller.given ≡ length (h.packets ++ qs)
    given_now = given ∙ (ap (λ (n : ℕ). n + length qs) h.given ∙ sym (length-append h.packets qs))

    -- no packet was left
    pub passed_none : qs ≡ [] → q.feeder ≡ p.feeder → IsDone q.puller → HasPassed among most may behind took before y first was now q
    passed_none none same done = record {
      feeding = h.feeding;
      told = h.told;
      clock = h.clock;
      packets = h.packets ++ qs;
      draws = draws_then before x y first p.puller q.puller h.packets qs h.draws draws;
      given = given_now;
      fed = subst (λ (c : Caller). HasFed among most may (h.packets ++ qs) [] c h.feeding) (sym same)
          (subst (λ (ps : List (List ℕ)). HasFed among most may ps [] p.feeder h.feeding) (sym (append-nil h.packets) ∙ ap (λ (ps : List (List ℕ)). h.packets ++ ps) (sym none)) h.fed);
      full = λ ahead taken given pulls. let k = h.full ahead taken given pulls in (k.0, inl done);
    }

    -- a batch has passed
    module _ (later : B) (batch : Packets) (moment : ℕ) (places : List ℕ) where
      abbrev batch_now : Fed
      batch_now = record { first = batch.first; count = length batch.packets; now = moment }

      full_now : (ahead taken : List ℕ) (given : List (List ℕ)) → Pulls ahead taken given first → qs ≡ batch.packets → 1 ≤ length batch.packets → length batch.packets ≤ most
          → (length batch.packets < most → IsDone q.puller) → (p.puller.reading ≢ Going → ReadsNothing p.puller q.puller)
          → AreFullBatches most (h.feeding ++ batch_now ∷ []) × (IsDone q.puller ⊎ All (λ fed. fed.count ≡ most) (h.feeding ++ batch_now ∷ []))
      full_now ahead taken given pulls is least few done still = ⊎_elim
          (λ (over : IsDone p.puller).
          let none = none_given x y p.puller q.puller qs draws.carries still over ahead (taken ++ h.draws.carries.more) (given ++ h.packets) (h.draws.carries.pulls ahead taken given pulls) in
          let zero : length batch.packets ≡ 0 = ap length (sym is ∙ none) in absurd (omega (arith, zero, least)))
          (λ (all : All (λ fed. fed.count ≡ most) h.feeding). (
            full_push most h.feeding batch_now all,
            ⊎_elim (λ less. inl (done less)) (λ (whole : most ≤ length batch.packets). inr (All-push (λ (fed : Fed). fed.count ≡ most) h.feeding batch_now all (omega (arith, few, whole)))) (cases_lt (length batch.packets) most),
          ))
          (h.full ahead taken given pulls).1

      pub passed_batch : ((a b c : B) (xs ys : List Fed) → took xs a b → took ys b c → took (xs ++ ys) a c) → took (batch_now ∷ []) now later → qs ≡ batch.packets → q.feeder.who ≡ p.feeder.who
          → MakesEachEntry among (fed batch moment) places p.feeder.passes q.feeder.passes → batch.first ≡ p.puller.given → 1 ≤ length batch.packets → length batch.packets ≤ most → IsTrue (may moment) → IsTrue (behind y moment)
          → (length batch.packets < most → IsDone q.puller) → (p.puller.reading ≢ Going → ReadsNothing p.puller q.puller) → HasPassed among most may behind took before y first was later q
      passed_batch both told is who entries first_is least few given_is late done still = record {
        feeding = h.feeding ++ batch_now ∷ [];
        told = both was now later h.feeding (batch_now ∷ []) h.told told;
        clock = All-push (IsReadBehind behind before first) h.feeding batch_now h.clock (record {
          at = y;
          puller = q.puller;
          packets = h.packets ++ qs;
          draws = draws_then before x y first p.puller q.puller h.packets qs h.draws draws;
          count = let a = h.given in let b = length-append h.packets qs in let n = ap length is in omega (arith, first_is, a, b, n);
          moment = late;
        });
        packets = h.packets ++ qs;
        draws = draws_then before x y first p.puller q.puller h.packets qs h.draws draws;
        given = given_now;
        fed = subst (λ (ps : List (List ℕ)). HasFed among most may (h.packets ++ ps) [] q.feeder (h.feeding ++ batch_now ∷ [])) (sym is)
            (fed_more among most may h.packets p.feeder q.feeder h.feeding places who batch moment h.fed entries (first_is ∙ h.given) least few given_is);
        full = λ ahead taken given pulls. full_now ahead taken given pulls is least few done still;
      }

  -- the end of the stream passes
  pub passed_all : (before x : SourceEnd) (first : Pulling) (was now later : B) (p q : FeederWorker) (places : List ℕ) → HasPassed among most may behind took before x first was now p
      → ((a b c : B) (xs ys : List Fed) → took xs a b → took ys b c → took (xs ++ ys) a c) → took [] now later → IsDone p.puller → q.puller ≡ p.puller → q.feeder.who ≡ p.feeder.who → MakesEachEntry among ended places p.feeder.passes q.feeder.passes → HasPassedAll among most may behind took before x first was later q
  passed_all before x first was now later p q places h both told done puller who entries = record {
    feeding = h.feeding;
    told = subst (λ (l : List Fed). took l was later) (append-nil h.feeding) (both was now later h.feeding [] h.told told);
    clock = h.clock;
    packets = h.packets;
    draws = subst (λ (k : Pulling). Draws before x first k h.packets) (sym puller) h.draws;
    done = subst IsDone (sym puller) done;
    fed = fed_end among most may h.packets p.feeder q.feeder h.feeding places who h.fed entries;
    full = λ ahead taken given pulls. (h.full ahead taken given pulls).0;
  }

-- the passes of other nodes are as they were
pub leaves_others : (among : ℕ → Bool) (e : Entry) (places : List ℕ) (old new : List (TableId × View Entry)) → MakesEachEntry among e places old new → LeavesOthers among old new
leaves_others among e places old new entries node off = by_pass (slice_get old node) (slice_get new node) refl refl where
  by_pass : (o n : Option (TableId × View Entry)) → slice_get old node ≡ o → slice_get new node ≡ n → slice_get new node ≡ slice_get old node
  by_pass None None was is = is ∙ sym was
  by_pass (Some p) (Some q) was is = is ∙ (ap Some (entries.others node p q was is off) ∙ sym was)
  by_pass None (Some q) was is = let low = slice_get_within new node q is in let long = entries.long in let p = at_place old node (omega (arith, low, long)) in absurd (cc (sym was ∙ p.1))
  by_pass (Some p) None was is = let low = slice_get_within old node p was in let long = entries.long in let q = at_place new node (omega (arith, low, long)) in absurd (cc (sym is ∙ q.1))

-- its last call on each of these nodes is End
ended_on : (among : ℕ → Bool) (c d : Caller) (places : List ℕ) → MakesEachEntry among ended places c.passes d.passes → length d.passes ≡ DEMUX_NODES + 1
    → (node : ℕ) → node ≤ DEMUX_NODES → among node ≡ true → (p : TableId × View Entry) × (slice_get d.passes node ≡ Some p) × HasEndedBy p
ended_on among c d places entries nodes node low called =
    let p = at_place d.passes node (omega (arith, nodes, low)) in let long = entries.long in
    let q = at_place c.passes node (omega (arith, nodes, long, low)) in
    let o = entries.each node q.0 p.0 q.1 p.1 called in (
      p.0,
      p.1,
      record {
        before = q.0.1.own;
        place = slice_index places node;
        own = o.told ∙ ap (λ (n : ℕ). q.0.1.own ++ (n, slice_index places node) ∷ []) (sym o.same.1);
        at = ap (get_elem? p.0.1.seen) o.at ∙ (ap (λ (h : List Entry). get_elem? h (length o.before)) o.now ∙ at_last o.before ended (length o.before) refl);
      },
    )

-- and it has called no other, where it had called none before
pub has_ended : (among : ℕ → Bool) (b c d : Caller) (places : List ℕ) → LeavesOthers among b.passes c.passes → MakesEachEntry among ended places c.passes d.passes → length d.passes ≡ DEMUX_NODES + 1
    → (made : List Entry) → ((node : ℕ) (p : TableId × View Entry) → slice_get b.passes node ≡ Some p → HasMade (if among node then made else []) p) → HasEnded among d
has_ended among b c d places same entries nodes made begun = record {
  ended = ended_on among c d places entries nodes;
  idle = λ node p at off.
      let was : slice_get b.passes node ≡ Some p = sym (same node off) ∙ (sym (leaves_others among ended places c.passes d.passes entries node off) ∙ at) in
      made_nothing p (subst (λ t. HasMade (if t then made else []) p) off (begun node p was));
}

-- the same nodes, told otherwise
pub as_named : {B : Type 0} (a b : ℕ → Bool) (most : ℕ) (may : ℕ → Bool) (behind : SourceEnd → ℕ → Bool) (took : List Fed → B → B → Type 0) (before x : SourceEnd) (first : Pulling) (was now : B) (f : FeederWorker) → ((node : ℕ) → node ≤ DEMUX_NODES → a node ≡ b node) → length f.feeder.passes ≡ DEMUX_NODES + 1
    → HasPassedAll a most may behind took before x first was now f → HasPassedAll b most may behind took before x first was now f
as_named a b most may behind took before x first was now f same nodes h = record {
  feeding = h.feeding;
  told = h.told;
  clock = h.clock;
  packets = h.packets;
  draws = h.draws;
  done = h.done;
  fed = record {
    who = h.fed.who;
    tiles = h.fed.tiles;
    moments = h.fed.moments;
    made = λ node p at. subst (λ t. HasMade (if t then fed_entries h.packets h.feeding ++ ended ∷ [] else []) p) (same node (omega (arith, slice_get_within f.feeder.passes node p at, nodes))) (h.fed.made node p at);
  };
  full = h.full;
}
