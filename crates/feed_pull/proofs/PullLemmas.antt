-- Laws of the steps of a pull, and of what a puller stands for.
use Rattle.feed_pull.proofs.Imports.{◌≡◌, ◌≢◌, ◌⊎◌, ℕ, ◌+◌, ◌*◌, ◌<◌, ◌≤◌, List, [], ◌++◌, length, take, drop, refl, sym, ap, subst, inl, inr, ◌∙◌, arith, length-append, append_assoc, Result, Ok, Err, None, Some, IfOk, IfSome, take-append-le, take-append-drop, length-drop, take-append_seam, cases_lt, Consumes-trans, Consumes-nil, Option, IsAtEnd, SourceEnd, Cutting, fresh, bytes_counted, IsRest, Cuts, IsTally, PacketSize, Tally, cut-append, cut-rest, cut_after-is_rest, cut_after-size, Cuts-none, Cuts-then, length-grown, packets-then, Watching, Watched, Reading, Going, Ended, Failed, TooMany, Pulling, IsPulling, Pulls, IsDone, IsNear, found_with, Reads, Goes, Gathers, Follows, HasGiven, ReadsNothing, Carries, with_room}
use Rattle.std.proofs.lemmas.List.{append-nil}
use Rattle.ts_packet.specs.Cut.{cut}

pub cut-is_rest : (size : PacketSize) (xs : List ℕ) → IsRest size (cut size xs).rest
unfolding cut
cut-is_rest size xs = cut_after-is_rest size 0 xs

pub cut-size : (size : PacketSize) (xs : List ℕ) → 188 * length (cut size xs).packets + (cut size xs).skipped + length (cut size xs).rest ≤ length xs
unfolding cut
cut-size size xs = omega (arith, cut_after-size size 0 xs (omega arith))

pub Cuts-is_rest : (a b : Cutting) (xs : List ℕ) (f : List (List ℕ)) → Cuts a xs f b → IsRest b.size b.rest
Cuts-is_rest a b xs f h = rw (h.size, h.rest) (cut-is_rest a.size (a.rest ++ xs))

-- a longer stream has the packets of its front first
pub packets-front : (size : PacketSize) (xs ys : List ℕ) → (cut size (xs ++ ys)).packets ≡ (cut size xs).packets ++ (cut size ((cut size xs).rest ++ ys)).packets
packets-front size xs ys = rw (cut-append size xs ys) refl

pub packets-fewer : (size : PacketSize) (xs ys : List ℕ) → length (cut size xs).packets ≤ length (cut size (xs ++ ys)).packets
packets-fewer size xs ys = rw (packets-front size xs ys) (omega (arith, length-append (cut size xs).packets (cut size ((cut size xs).rest ++ ys)).packets))

-- ---- the steps

pub Goes-none : (p : Pulling) → IsRest p.cutting.size p.cutting.rest → Goes p [] p
Goes-none p h = record {
  passed = [];
  found = [];
  bytes = sym (append-nil p.unread);
  cuts = Cuts-none p.cutting h;
  waiting = sym (append-nil p.waiting);
  given = refl;
  start = refl;
  taken = omega arith;
  watch = λ before w. rw (append-nil before) w;
  last = inl (refl, refl);
}

-- where nothing is cut and nothing read
pub Goes-same : (a b : Pulling) → IsRest a.cutting.size a.cutting.rest → b.cutting ≡ a.cutting → b.waiting ≡ a.waiting → b.unread ≡ a.unread → b.given ≡ a.given → b.start ≡ a.start → b.taken ≡ a.taken → b.found_before_last_read ≡ a.found_before_last_read → b.watch ≡ a.watch → Goes a [] b
Goes-same a b rest cutting waiting unread given start taken earlier watch = record {
  passed = [];
  found = [];
  bytes = unread ∙ sym (append-nil a.unread);
  cuts = rw cutting (Cuts-none a.cutting rest);
  waiting = waiting ∙ sym (append-nil a.waiting);
  given = given;
  start = start;
  taken = omega (arith, taken);
  watch = λ before w. rw (watch, append-nil before) w;
  last = inl (refl, earlier);
}

-- where a piece is read and nothing cut
pub Goes-read : (a b : Pulling) → IsRest a.cutting.size a.cutting.rest → a.unread ≡ [] → a.cutting.packets ≡ a.given + length a.waiting → b.cutting ≡ a.cutting → b.waiting ≡ a.waiting → length b.unread ≤ 65536 → b.given ≡ a.given → b.start ≡ a.start → b.taken ≡ a.taken + length b.unread → b.found_before_last_read ≡ a.given + length a.waiting → b.watch ≡ a.watch → Goes a b.unread b
Goes-read a b rest none found cutting waiting fits given start taken earlier watch =
    let e : a.cutting.rest ++ (a.unread ++ []) ≡ a.cutting.rest = rw none (append-nil a.cutting.rest) in
    let k : length (cut a.cutting.size (a.cutting.rest ++ (a.unread ++ []))).packets ≡ 0 = rw (e, cut-rest a.cutting.size a.cutting.rest rest) refl in
    record {
      passed = [];
      found = [];
      bytes = rw none refl;
      cuts = rw cutting (Cuts-none a.cutting rest);
      waiting = waiting ∙ sym (append-nil a.waiting);
      given = given;
      start = start;
      taken = taken;
      watch = λ before w. rw (watch, append-nil before) w;
      last = inr (record { front = []; latest = b.unread; whole = refl; piece = fits; count = omega (arith, k, earlier, found) });
    }

-- what is left after bytes from the front were cut
abbrev pub cut_to : Pulling → Cutting → List (List ℕ) → ℕ → List ℕ → Watching → Pulling
cut_to a cutting waiting room unread watch = record { cutting = cutting; waiting = waiting; room = room; unread = unread; given = a.given; found_before_last_read = a.found_before_last_read; start = a.start; taken = a.taken; reads = a.reads; reading = a.reading; watch = watch }

pub Goes-cut : (a : Pulling) (k : Cutting) (w : List (List ℕ)) (m : ℕ) (u bytes : List ℕ) (n : ℕ) (t : Watching) → bytes ≡ a.unread → Cuts a.cutting (take n bytes) (drop (length a.waiting) w) k → w ≡ a.waiting ++ drop (length a.waiting) w → u ≡ drop n a.unread → ((before : List (List ℕ)) → Watched before a.watch → Watched (before ++ drop (length a.waiting) w) t) → Goes a [] (cut_to a k w m u t)
Goes-cut a k w m u bytes n t same cuts grown rest watch = record {
  passed = take n a.unread;
  found = drop (length a.waiting) w;
  bytes = rw rest (take-append-drop n a.unread ∙ sym (append-nil a.unread));
  cuts = rw same at cuts;
  waiting = grown;
  given = refl;
  start = refl;
  taken = omega arith;
  watch = watch;
  last = inl (refl, refl);
}

pub IsPulling-cut : (a : Pulling) (k : Cutting) (w : List (List ℕ)) (m : ℕ) (u bytes : List ℕ) (n : ℕ) (t : Watching) → IsPulling a → bytes ≡ a.unread → Cuts a.cutting (take n bytes) (drop (length a.waiting) w) k → w ≡ a.waiting ++ drop (length a.waiting) w → u ≡ drop n a.unread → n ≤ length a.unread → bytes_counted k ≤ bytes_counted a.cutting + n → length w ≤ 64 → t.watched ≡ a.watch.watched + length (drop (length a.waiting) w) → IsPulling (cut_to a k w m u t)
IsPulling-cut a k w m u bytes n t i same cuts grown rest within taken fits watched =
    let size : length u + n ≡ length a.unread = rw rest (omega (arith, length-drop n a.unread)) in
    record {
      few = fits;
      rest = Cuts-is_rest a.cutting k (take n bytes) (drop (length a.waiting) w) cuts;
      found = omega (arith, cuts.counted, i.found, length-grown a.waiting w grown);
      found_before_last_read = omega (arith, i.found_before_last_read, length-grown a.waiting w grown);
      watched = omega (arith, watched, i.watched, length-grown a.waiting w grown);
      bytes = omega (arith, i.bytes, taken);
      piece = omega (arith, i.piece);
      taken = i.taken;
      reads = i.reads;
      going = i.going;
      too_many = i.too_many;
    }

-- ---- room is made

Reads-room : (a : Pulling) (n : ℕ) (more : List ℕ) (earlier : ℕ) → Reads (with_room a n) more earlier → Reads a more earlier
Reads-room a n more earlier r = record { front = r.front; latest = r.latest; whole = r.whole; piece = r.piece; count = r.count }

Last-room : (a b : Pulling) (n : ℕ) (more : List ℕ) → ((more ≡ []) × (b.found_before_last_read ≡ a.found_before_last_read)) ⊎ Reads (with_room a n) more b.found_before_last_read → ((more ≡ []) × (b.found_before_last_read ≡ a.found_before_last_read)) ⊎ Reads a more b.found_before_last_read
Last-room a b n more (inl h) = inl h
Last-room a b n more (inr r) = inr (Reads-room a n more b.found_before_last_read r)

-- what goes on once there is room goes on from what there was before
pub Gathers-room : (a c b : Pulling) (n : ℕ) (x y : SourceEnd) → c ≡ with_room a n → Gathers x y c b → Gathers x y a b
Gathers-room a c b n x y is h =
    let k : Gathers x y (with_room a n) b = rw is at h in
    let g = k.goes in
    record {
      more = k.more;
      consumes = k.consumes;
      goes = record {
        passed = g.passed;
        found = g.found;
        bytes = g.bytes;
        cuts = g.cuts;
        waiting = g.waiting;
        given = g.given;
        start = g.start;
        taken = g.taken;
        watch = g.watch;
        last = Last-room a b n k.more g.last;
      };
    }

-- ---- packets are given

pub found-then : (a b : Pulling) (m n : List ℕ) → Goes a m b → found_with b n ≡ found_with a (m ++ n)
found-then a b m n g =
    let e : a.unread ++ (m ++ n) ≡ g.passed ++ (b.unread ++ n) = sym (append_assoc a.unread m n) ∙ ap (λ (l : List ℕ). l ++ n) (sym g.bytes) ∙ append_assoc g.passed b.unread n in
    rw (e, packets-then a.cutting b.cutting g.passed (b.unread ++ n) g.found g.cuts, g.cuts.counted) (omega (arith, length-append g.found (cut b.cutting.size (b.cutting.rest ++ (b.unread ++ n))).packets))

Last-then : (a b c : Pulling) (m n : List ℕ) → Goes a m b → ((n ≡ []) × (c.found_before_last_read ≡ b.found_before_last_read)) ⊎ Reads b n c.found_before_last_read → ((m ≡ []) × (b.found_before_last_read ≡ a.found_before_last_read)) ⊎ Reads a m b.found_before_last_read → ((m ++ n ≡ []) × (c.found_before_last_read ≡ a.found_before_last_read)) ⊎ Reads a (m ++ n) c.found_before_last_read
Last-then a b c m n g (inr r) first = inr (record {
  front = m ++ r.front;
  latest = r.latest;
  whole = ap (λ (l : List ℕ). m ++ l) r.whole ∙ sym (append_assoc m r.front r.latest);
  piece = r.piece;
  count = r.count ∙ found-then a b m r.front g;
})
Last-then a b c m n g (inl h) (inr r) = inr (record {
  front = r.front;
  latest = r.latest;
  whole = ap (λ (l : List ℕ). m ++ l) h.0 ∙ append-nil m ∙ r.whole;
  piece = r.piece;
  count = h.1 ∙ r.count;
})
Last-then a b c m n g (inl h) (inl k) = inl (rw (k.0, h.0) refl, h.1 ∙ k.1)

pub Goes-then : (a b c : Pulling) (m n : List ℕ) → Goes a m b → Goes b n c → Goes a (m ++ n) c
Goes-then a b c m n g h = record {
  passed = g.passed ++ h.passed;
  found = g.found ++ h.found;
  bytes = append_assoc g.passed h.passed c.unread ∙ ap (λ (l : List ℕ). g.passed ++ l) h.bytes ∙ sym (append_assoc g.passed b.unread n) ∙ ap (λ (l : List ℕ). l ++ n) g.bytes ∙ append_assoc a.unread m n;
  cuts = Cuts-then a.cutting b.cutting c.cutting g.passed h.passed g.found h.found g.cuts h.cuts;
  waiting = h.waiting ∙ ap (λ (l : List (List ℕ)). l ++ h.found) g.waiting ∙ append_assoc a.waiting g.found h.found;
  given = h.given ∙ g.given;
  start = h.start ∙ g.start;
  taken = omega (arith, g.taken, h.taken, length-append m n);
  watch = λ before w. subst (λ (l : List (List ℕ)). Watched l c.watch) (append_assoc before g.found h.found) (h.watch (before ++ g.found) (g.watch before w));
  last = Last-then a b c m n g h.last g.last;
}

pub Gathers-none : (p : Pulling) (x : SourceEnd) → IsRest p.cutting.size p.cutting.rest → Gathers x x p p
Gathers-none p x h = record { more = []; consumes = Consumes-nil x.left; goes = Goes-none p h }

pub Gathers-then : (a b c : Pulling) (x y z : SourceEnd) → Gathers x y a b → Gathers y z b c → Gathers x z a c
Gathers-then a b c x y z g h = record {
  more = g.more ++ h.more;
  consumes = Consumes-trans x.left y.left z.left g.more h.more g.consumes h.consumes;
  goes = Goes-then a b c g.more h.more g.goes h.goes;
}

-- where enough packets wait, no step is made
pub most-waits : (most : ℕ) (a b : Pulling) → b ≡ a → most ≤ length a.waiting → length b.waiting < most → ⊥
most-waits most a b e h lt =
    let n : length b.waiting ≡ length a.waiting = ap (λ (p : Pulling). length p.waiting) e in
    omega arith

pub ReadsNothing-then : (a b c : Pulling) → ReadsNothing a b → ReadsNothing b c → ReadsNothing a c
ReadsNothing-then a b c g h = record { taken = h.taken ∙ g.taken; reads = h.reads ∙ g.reads }

pub going-cases : (r : Reading) → (r ≡ Going) ⊎ (r ≢ Going)
going-cases Going = inl refl
going-cases Ended = inr (λ e. absurd cc)
going-cases Failed = inr (λ e. absurd cc)
going-cases TooMany = inr (λ e. absurd cc)

ended-stops : (r : Reading) → r ≡ Failed → r ≢ Going
ended-stops r e g = absurd cc

pub Follows-none : (r : Reading) (x : SourceEnd) → Follows r r x x
Follows-none r x = record {
  stays = λ _. refl;
  still = λ _. refl;
  ends = λ g e. absurd cc;
  later = omega arith;
  once = omega arith;
  fails = λ g e. absurd cc;
  rose = λ h. absurd (omega arith);
  went = λ e. (e, refl);
}

Follows-ends : (a b c : Reading) (x y z : SourceEnd) → Follows a b x y → Follows b c y z → a ≡ Going → c ≡ Ended → IsAtEnd z.left
Follows-ends a b c x y z f g is e =
    elim (going-cases b) [
      | inl goes ↦ g.ends goes e
      | inr stopped ↦ subst (λ e. IsAtEnd e.left) (sym (g.still stopped)) (f.ends is (sym (g.stays stopped) ∙ e))
    ]

Follows-fails : (a b c : Reading) (x y z : SourceEnd) → Follows a b x y → Follows b c y z → a ≡ Going → c ≡ Failed → x.faults < z.faults
Follows-fails a b c x y z f g is e =
    elim (going-cases b) [
      | inl goes ↦ omega (arith, f.later, g.fails goes e)
      | inr stopped ↦ omega (arith, g.later, f.fails is (sym (g.stays stopped) ∙ e))
    ]

Follows-rose : (a b c : Reading) (x y z : SourceEnd) → Follows a b x y → Follows b c y z → x.faults < z.faults → c ≡ Failed
Follows-rose a b c x y z f g lt =
    elim (cases_lt x.faults y.faults) [
      | inl rose ↦ g.stays (ended-stops b (f.rose rose)) ∙ f.rose rose
      | inr not ↦ g.rose (omega arith)
    ]

Follows-once : (a b c : Reading) (x y z : SourceEnd) → Follows a b x y → Follows b c y z → z.faults ≤ x.faults + 1
Follows-once a b c x y z f g =
    elim (going-cases b) [
      | inl goes ↦ omega (arith, g.once, (f.went goes).1)
      | inr stopped ↦ omega (arith, f.once, ap (λ (e : SourceEnd). e.faults) (g.still stopped))
    ]

pub Follows-then : (a b c : Reading) (x y z : SourceEnd) → Follows a b x y → Follows b c y z → Follows a c x z
Follows-then a b c x y z f g =
    let stopped : a ≢ Going → b ≢ Going = λ s e. s (sym (f.stays s) ∙ e) in
    record {
      stays = λ s. g.stays (stopped s) ∙ f.stays s;
      still = λ s. g.still (stopped s) ∙ f.still s;
      ends = Follows-ends a b c x y z f g;
      later = omega (arith, f.later, g.later);
      once = Follows-once a b c x y z f g;
      fails = Follows-fails a b c x y z f g;
      rose = Follows-rose a b c x y z f g;
      went = λ e. ((f.went (g.went e).0).0, (g.went e).1 ∙ (f.went (g.went e).0).1);
    }

-- ---- what a puller stands for

-- from the beginning on, what a packet takes up stays
cuts_from : {size : PacketSize} {bytes : List ℕ} {found : List (List ℕ)} {c : Cutting} → Cuts (fresh size) bytes found c → Cuts (fresh c.size) bytes found c
cuts_from {size} {bytes} {found} {c} h = subst (λ (s : PacketSize). Cuts (fresh s) bytes found c) (sym h.size) h

pub Pulls-new : (ahead : List ℕ) (size : PacketSize) (p : Pulling) → p.waiting ≡ [] → p.unread ≡ ahead → p.given ≡ 0 → p.taken ≡ 0 → Cuts (fresh size) [] [] p.cutting → Watched [] p.watch → Pulls ahead [] [] p
Pulls-new ahead size p w u g t k watch = record {
  passed = [];
  before = [];
  latest = [];
  count = g;
  watch = rw w watch;
  size = t;
  cuts = rw w (cuts_from k);
  stream = u ∙ sym (append-nil ahead);
  last = refl;
  piece = omega arith;
  found_before_last_read = λ h. absurd (omega arith);
}

Pulls-stream : (ahead taken more : List ℕ) (given : List (List ℕ)) (a b : Pulling) (p : Pulls ahead taken given a) (g : Goes a more b) → (p.passed ++ g.passed) ++ b.unread ≡ ahead ++ (taken ++ more)
Pulls-stream ahead taken more given a b p g = append_assoc p.passed g.passed b.unread ∙ ap (λ (l : List ℕ). p.passed ++ l) g.bytes ∙ sym (append_assoc p.passed a.unread more) ∙ ap (λ (l : List ℕ). l ++ more) p.stream ∙ append_assoc ahead taken more

Pulls-cuts : (ahead taken more : List ℕ) (given : List (List ℕ)) (a b : Pulling) (p : Pulls ahead taken given a) (g : Goes a more b) → Cuts (fresh b.cutting.size) (p.passed ++ g.passed) (given ++ b.waiting) b.cutting
Pulls-cuts ahead taken more given a b p g =
    let e : given ++ b.waiting ≡ (given ++ a.waiting) ++ g.found = ap (λ (l : List (List ℕ)). given ++ l) g.waiting ∙ sym (append_assoc given a.waiting g.found) in
    rw e (cuts_from (Cuts-then (fresh a.cutting.size) a.cutting b.cutting p.passed g.passed (given ++ a.waiting) g.found p.cuts g.cuts))

Pulls-watched : (ahead taken more : List ℕ) (given : List (List ℕ)) (a b : Pulling) (p : Pulls ahead taken given a) (g : Goes a more b) → Watched (given ++ b.waiting) b.watch
Pulls-watched ahead taken more given a b p g =
    let e : given ++ b.waiting ≡ (given ++ a.waiting) ++ g.found = ap (λ (l : List (List ℕ)). given ++ l) g.waiting ∙ sym (append_assoc given a.waiting g.found) in
    rw e (g.watch (given ++ a.waiting) p.watch)

-- how many packets are found once these bytes are cut is how many the stream with them has
Pulls-found : (ahead taken more : List ℕ) (given : List (List ℕ)) (a : Pulling) → Pulls ahead taken given a → found_with a more ≡ length (cut a.cutting.size (ahead ++ (taken ++ more))).packets
Pulls-found ahead taken more given a p =
    let e : ahead ++ (taken ++ more) ≡ p.passed ++ (a.unread ++ more) = sym (append_assoc ahead taken more) ∙ ap (λ (l : List ℕ). l ++ more) (sym p.stream) ∙ append_assoc p.passed a.unread more in
    let f : (cut a.cutting.size (p.passed ++ (a.unread ++ more))).packets ≡ (given ++ a.waiting) ++ (cut a.cutting.size (a.cutting.rest ++ (a.unread ++ more))).packets = packets-then (fresh a.cutting.size) a.cutting p.passed (a.unread ++ more) (given ++ a.waiting) p.cuts in
    rw (e, f) (omega (arith, p.cuts.counted, length-append (given ++ a.waiting) (cut a.cutting.size (a.cutting.rest ++ (a.unread ++ more))).packets))

Pulls-goes-by : (ahead taken more : List ℕ) (given : List (List ℕ)) (a b : Pulling) → Pulls ahead taken given a → Goes a more b → ((more ≡ []) × (b.found_before_last_read ≡ a.found_before_last_read)) ⊎ Reads a more b.found_before_last_read → Pulls ahead (taken ++ more) given b
Pulls-goes-by ahead taken more given a b p g (inl h) = record {
  passed = p.passed ++ g.passed;
  before = p.before;
  latest = p.latest;
  count = g.given ∙ p.count;
  watch = Pulls-watched ahead taken more given a b p g;
  size = omega (arith, g.taken, p.size, length-append taken more);
  cuts = Pulls-cuts ahead taken more given a b p g;
  stream = Pulls-stream ahead taken more given a b p g;
  last = ap (λ (l : List ℕ). taken ++ l) h.0 ∙ append-nil taken ∙ p.last;
  piece = p.piece;
  found_before_last_read = λ long. rw g.cuts.size (h.1 ∙ p.found_before_last_read (rw (h.0, append-nil taken) at long));
}
Pulls-goes-by ahead taken more given a b p g (inr r) = record {
  passed = p.passed ++ g.passed;
  before = taken ++ r.front;
  latest = r.latest;
  count = g.given ∙ p.count;
  watch = Pulls-watched ahead taken more given a b p g;
  size = omega (arith, g.taken, p.size, length-append taken more);
  cuts = Pulls-cuts ahead taken more given a b p g;
  stream = Pulls-stream ahead taken more given a b p g;
  last = ap (λ (l : List ℕ). taken ++ l) r.whole ∙ sym (append_assoc taken r.front r.latest);
  piece = r.piece;
  found_before_last_read = λ _. rw g.cuts.size (r.count ∙ Pulls-found ahead taken r.front given a p);
}

pub Pulls-goes : (ahead taken more : List ℕ) (given : List (List ℕ)) (a b : Pulling) → Pulls ahead taken given a → Goes a more b → Pulls ahead (taken ++ more) given b
Pulls-goes ahead taken more given a b p g = Pulls-goes-by ahead taken more given a b p g g.last

pub Pulls-given : (ahead taken : List ℕ) (given packets : List (List ℕ)) (a b : Pulling) → Pulls ahead taken given a → HasGiven packets a b → Pulls ahead taken (given ++ packets) b
Pulls-given ahead taken given packets a b p h =
    let e : (given ++ packets) ++ b.waiting ≡ given ++ a.waiting = append_assoc given packets b.waiting ∙ ap (λ (l : List (List ℕ)). given ++ l) (sym h.waiting) in
    record {
      passed = p.passed;
      before = p.before;
      latest = p.latest;
      count = omega (arith, h.given, p.count, length-append given packets);
      watch = rw (e, h.watch) p.watch;
      size = h.taken ∙ p.size;
      cuts = rw (e, h.cutting) p.cuts;
      stream = ap (λ (l : List ℕ). p.passed ++ l) h.unread ∙ p.stream;
      last = p.last;
      piece = p.piece;
      found_before_last_read = λ long. rw h.cutting (h.found_before_last_read ∙ p.found_before_last_read long);
    }

pub HasGiven-none : (p : Pulling) → HasGiven [] p p
HasGiven-none p = record { waiting = refl; given = omega arith; watch = refl; cutting = refl; unread = refl; found_before_last_read = refl; start = refl; taken = refl; reads = refl; reading = refl }

pub Carries-by : (a b c : Pulling) (x y : SourceEnd) (packets : List (List ℕ)) → Gathers x y a b → HasGiven packets b c → Carries x y a packets c
Carries-by a b c x y packets g h = record {
  more = g.more;
  size = ap (λ (k : Cutting). k.size) h.cutting ∙ g.goes.cuts.size;
  consumes = g.consumes;
  pulls = λ ahead taken given p. Pulls-given ahead (taken ++ g.more) given packets b c (Pulls-goes ahead taken g.more given a b p g.goes) h;
}

-- what was given is the front of the stream's packets
pub Pulls-front : (ahead taken : List ℕ) (given : List (List ℕ)) (p : Pulling) → Pulls ahead taken given p → (later : List (List ℕ)) × ((cut p.cutting.size (ahead ++ taken)).packets ≡ given ++ later)
Pulls-front ahead taken given p h =
    let f : (cut p.cutting.size (h.passed ++ p.unread)).packets ≡ (given ++ p.waiting) ++ (cut p.cutting.size (p.cutting.rest ++ p.unread)).packets = packets-then (fresh p.cutting.size) p.cutting h.passed p.unread (given ++ p.waiting) h.cuts in
    (p.waiting ++ (cut p.cutting.size (p.cutting.rest ++ p.unread)).packets, ap (λ (l : List ℕ). (cut p.cutting.size l).packets) (sym h.stream) ∙ f ∙ append_assoc given p.waiting (cut p.cutting.size (p.cutting.rest ++ p.unread)).packets)

-- where nothing is left, the whole stream was cut
pub Pulls-done : (ahead taken : List ℕ) (given : List (List ℕ)) (p : Pulling) → Pulls ahead taken given p → IsDone p → Cuts (fresh p.cutting.size) (ahead ++ taken) given p.cutting
Pulls-done ahead taken given p h d =
    let e : h.passed ≡ ahead ++ taken = sym (append-nil h.passed) ∙ ap (λ (l : List ℕ). h.passed ++ l) (sym d.unread) ∙ h.stream in
    let f : given ++ p.waiting ≡ given = ap (λ (l : List (List ℕ)). given ++ l) d.waiting ∙ append-nil given in
    rw (← e) (rw f at h.cuts)

-- the packets given have no more bytes than the stream
pub Pulls-size : (ahead taken : List ℕ) (given : List (List ℕ)) (p : Pulling) → Pulls ahead taken given p → 188 * length given ≤ length ahead + length taken
Pulls-size ahead taken given p h =
    let f = Pulls-front ahead taken given p h in
    let n : length (cut p.cutting.size (ahead ++ taken)).packets ≡ length given + length f.0 = ap length f.1 ∙ length-append given f.0 in
    omega (arith, cut-size p.cutting.size (ahead ++ taken), length-append ahead taken)

-- a front of the stream without more bytes than the last read has no more packets than there were before it
front-of : (xs ys earlier later : List ℕ) → xs ++ ys ≡ earlier ++ later → length earlier ≤ length xs → xs ≡ earlier ++ drop (length earlier) xs
front-of xs ys earlier later e h =
    let t : take (length earlier) xs ≡ earlier = sym (take-append-le (length earlier) xs ys h) ∙ ap (take (length earlier)) e ∙ take-append_seam earlier later in
    sym (take-append-drop (length earlier) xs) ∙ ap (λ (l : List ℕ). l ++ drop (length earlier) xs) t

pub Pulls-near : (ahead taken : List ℕ) (given : List (List ℕ)) (p : Pulling) → Pulls ahead taken given p → p.found_before_last_read < p.given → IsNear p.cutting.size ahead taken given
Pulls-near ahead taken given p h lt earlier later e long =
    let s : h.before ++ h.latest ≡ earlier ++ later = sym h.last ∙ e in
    let n : length h.before + length h.latest ≡ length earlier + length later = sym (length-append h.before h.latest) ∙ ap length s ∙ length-append earlier later in
    let f : h.before ≡ earlier ++ drop (length earlier) h.before = front-of h.before h.latest earlier later s (omega (arith, h.piece)) in
    let w : ahead ++ h.before ≡ (ahead ++ earlier) ++ drop (length earlier) h.before = ap (λ (l : List ℕ). ahead ++ l) f ∙ sym (append_assoc ahead earlier (drop (length earlier) h.before)) in
    let k : length (cut p.cutting.size (ahead ++ h.before)).packets ≡ length (cut p.cutting.size ((ahead ++ earlier) ++ drop (length earlier) h.before)).packets = ap (λ (l : List ℕ). length (cut p.cutting.size l).packets) w in
    let t : 65535 < length taken = omega (arith, ap length e, length-append earlier later) in
    omega (arith, k, packets-fewer p.cutting.size (ahead ++ earlier) (drop (length earlier) h.before), h.found_before_last_read t, h.count)

pub Pulls-tally : (p : Pulling) (tally : Tally) → ((size : PacketSize) (bytes : List ℕ) (found : List (List ℕ)) → Cuts (fresh size) bytes found p.cutting → IsTally (cut size bytes) tally) → IsDone p → (ahead taken : List ℕ) (given : List (List ℕ)) → Pulls ahead taken given p → IsTally (cut p.cutting.size (ahead ++ taken)) tally
Pulls-tally p tally h d ahead taken given k = h p.cutting.size (ahead ++ taken) given (Pulls-done ahead taken given p k d)

pub near-from : {T E : Type 0} (r : Result (Option T) E) (size : T → ℕ) (most : ℕ) (p : Pulling) → IfOk r (λ answer. IfSome answer (λ batch. size batch ≡ most → p.found_before_last_read < p.given)) → IfOk r (λ answer. IfSome answer (λ batch. size batch ≡ most → (ahead taken : List ℕ) (given : List (List ℕ)) → Pulls ahead taken given p → IsNear p.cutting.size ahead taken given))
near-from (Ok None) size most p h = tt
near-from (Ok (Some batch)) size most p h = λ e ahead taken given k. Pulls-near ahead taken given p k (h e)
near-from (Err e) size most p h = tt
