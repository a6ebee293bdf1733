-- A seat goes on, call by call.
use Rattle.seats.proofs.Imports.{HandedOver, calls_made, ◌≡◌, ◌+◌, ◌≤◌, ◌^◌, ℕ, List, [], ◌∷◌, ◌++◌, length, map, Some, refl, ap, sym, ◌∙◌, subst, arith, length-append, map-append, append-nil, append_assoc, length-map, All-nil, slice_get-map, slice_get, option_map, TableId, told_entry, LogEntry, ToldEntry, DEMUX_NODES, Caller, AreFreshCallers, Fits, caller_fits, MakesCalls, AreMarked, KnowsItsNodes, Desk, Made, Seat, told_made, log_of, AreOnNodes, IsFit, IsNew, IsReady, AreReady, GoesOn, mapped}
use Rattle.seats.proofs.Holding.{knows_none}
use Rattle.seats.proofs.Marking.{marked_none}

-- ------ calls

pub calls_trans : (n m : ℕ) (b c d : Caller) (es fs : List LogEntry) → m ≡ n + length es → MakesCalls n b es c → MakesCalls m c fs d → MakesCalls n b (es ++ fs) d
calls_trans n m b c d [] fs is x y = let here : m ≡ n = omega (arith, is) in subst (λ (k : Caller). MakesCalls n k fs d) x (subst (λ (i : ℕ). MakesCalls i c fs d) here y)
calls_trans n m b c d (e ∷ es) fs is x y = let there : m ≡ (n + 1) + length es = omega (arith, is) in (x.0, x.1, x.2, calls_trans (n + 1) m x.0 c d es fs there x.3 y)

-- each call is one fewer that is left
pub calls_left : (n : ℕ) (c : Caller) (es : List LogEntry) (d : Caller) → MakesCalls n c es d → d.left + length es ≡ c.left
calls_left n c [] d is = let same = ap (λ (k : Caller). k.left) is in omega (arith, same)
calls_left n c (e ∷ es) d is = let one = is.2.left in let more = calls_left (n + 1) is.0 es d is.3 in omega (arith, one, more)

-- ------ a seat

pub goes_self : (s : Seat) → GoesOn s s
goes_self s = record { calls = []; handed = refl; log = sym (append-nil (log_of s)); made = refl; marks = λ gone m. m }

-- behind these calls
pub made_more : (a b : Seat) (calls : List LogEntry) → b.handed ≡ a.handed → log_of b ≡ log_of a ++ calls → calls_made b ≡ calls_made a + length calls
made_more a b calls same log = let h = ap (λ (k : HandedOver). k.calls) same in let l = ap length log in let s = length-append (log_of a) calls in omega (arith, h, l, s)

pub goes_trans : (a b c : Seat) → GoesOn a b → GoesOn b c → GoesOn a c
goes_trans a b c x y = record {
  calls = x.calls ++ y.calls;
  handed = y.handed ∙ x.handed;
  log = y.log ∙ (ap (λ l. l ++ y.calls) x.log ∙ append_assoc (log_of a) x.calls y.calls);
  made = calls_trans (calls_made a) (calls_made b) a.client b.client c.client x.calls y.calls (made_more a b x.calls x.handed x.log) x.made y.made;
  marks = λ gone m. y.marks gone (x.marks gone m);
}

-- how many calls it has made
pub log_long : (s : Seat) → length (log_of s) ≡ length s.log.items + length s.made.items
log_long s =
    let a = length-append (map told_entry s.log.items) (map (told_made s.who) s.made.items) in
    let b = length-map s.log.items told_entry in let c = length-map s.made.items (told_made s.who) in omega (arith, a, b, c)

-- one call more, behind these
pub log_one : (who : ℕ) (log : List ToldEntry) (made new : List Made) (m : Made) → new ≡ made ++ m ∷ []
    → map told_entry log ++ map (told_made who) new ≡ (map told_entry log ++ map (told_made who) made) ++ told_made who m ∷ []
log_one who log made new m is =
    ap (λ (k : List Made). map told_entry log ++ map (told_made who) k) is
    ∙ (ap (λ (k : List LogEntry). map told_entry log ++ k) (map-append (told_made who) made (m ∷ []))
    ∙ sym (append_assoc (map told_entry log) (map (told_made who) made) (told_made who m ∷ [])))

-- where it has made no call
pub kept_goes : (a b : Seat) → b.client ≡ a.client → b.handed ≡ a.handed → log_of b ≡ log_of a → b.held ≡ a.held → GoesOn a b
kept_goes a b c same l h = record {
  calls = [];
  handed = same;
  log = l ∙ sym (append-nil (log_of a));
  made = c;
  marks = λ gone m. subst (AreMarked (gone ++ log_of b)) (sym h) (subst (λ (k : List LogEntry). AreMarked (gone ++ k) a.held) (sym l) m);
}

-- how many calls it has made, by their numbers
pub made_long : (s : Seat) → calls_made s ≡ s.handed.calls + (length s.log.items + length s.made.items)
made_long s = ap (λ k. s.handed.calls + k) (log_long s)

pub kept_fit : (locks : List TableId) (a b : Seat) → b.client ≡ a.client → b.who ≡ a.who → b.handed ≡ a.handed → log_of b ≡ log_of a → b.held ≡ a.held
    → b.handed.commands + length b.outcomes.items ≤ b.handed.calls + (length b.log.items + length b.made.items) → IsFit locks a → IsFit locks b
kept_fit locks a b c w same l h done f = record {
  fits = subst (λ (k : Caller). Fits locks k.passes) (sym c) f.fits;
  who = w ∙ (f.who ∙ ap (λ (k : Caller). k.who) (sym c));
  left = let before = f.left in let n = ap (λ (k : HandedOver). k.calls) same in let long = ap length l in let x = log_long a in let y = log_long b in let k = ap (λ (k : Caller). k.left) c in
      omega (arith, before, n, long, x, y, k);
  done = done;
  nodes = subst AreOnNodes (sym l) f.nodes;
  knows = subst (KnowsItsNodes b.client) (sym h) (subst (λ (k : Caller). KnowsItsNodes k a.held) (sym c) f.knows);
}

-- where nothing more became of commands either
pub same_fit : (locks : List TableId) (a b : Seat) → b.client ≡ a.client → b.who ≡ a.who → b.handed ≡ a.handed → log_of b ≡ log_of a → b.held ≡ a.held → length b.outcomes.items ≡ length a.outcomes.items
    → IsFit locks a → IsFit locks b
same_fit locks a b c w same l h told f =
    let d = f.done in let n = ap (λ (k : HandedOver). k.calls) same in let m = ap (λ (k : HandedOver). k.commands) same in let long = ap length l in let x = log_long a in let y = log_long b in
    kept_fit locks a b c w same l h (omega (arith, d, n, m, long, x, y, told)) f

-- where its log and its last calls are the same
pub log_same : (a b : Seat) → b.log.items ≡ a.log.items → b.made.items ≡ a.made.items → b.who ≡ a.who → log_of b ≡ log_of a
log_same a b l m w =
    ap (λ (k : List ToldEntry). map told_entry k ++ map (told_made b.who) b.made.items) l
    ∙ (ap (λ (n : ℕ). map told_entry a.log.items ++ map (told_made n) b.made.items) w
    ∙ ap (λ (k : List Made). map told_entry a.log.items ++ map (told_made a.who) k) m)

-- before its first call
pub log_none : (s : Seat) → s.log.items ≡ [] → s.made.items ≡ [] → log_of s ≡ []
log_none s l m =
    ap (λ (k : List ToldEntry). map told_entry k ++ map (told_made s.who) s.made.items) l
    ∙ ap (λ (k : List Made). map (told_made s.who) k) m

-- ------ new seats

module _ (locks : List TableId) (n : ℕ) (feeder : Caller) (clients : List Caller) (fresh : AreFreshCallers locks n feeder clients) (c : ℕ) (s : Seat) (at : slice_get clients c ≡ Some s.client) (is : IsNew (c + 1) s) where
  pub new_ready : IsReady locks s
  new_ready = let f = fresh.each c s.client at in let size = ap length is.log.0 in let made = ap length is.log.1 in let told = ap length is.outcomes in let calls = f.calls in let room = is.room in let before = is.handed.0 in let done = is.handed.1 in record {
    fit = record {
      fits = caller_fits (n + 1) locks (c + 1) (2 ^ 40) s.client f;
      who = is.who ∙ sym f.number;
      left = omega (arith, size, made, calls, before);
      done = omega (arith, told, done);
      nodes = subst AreOnNodes (sym (log_none s is.log.0 is.log.1)) (All-nil (λ (e : LogEntry). e.node ≤ DEMUX_NODES));
      knows = knows_none locks (n + 1) (c + 1) (2 ^ 40) s.client f s.held;
    };
    marked = subst (λ (k : List LogEntry). AreMarked k s.held) (sym (log_none s is.log.0 is.log.1)) (marked_none s.held is.held);
    room = λ node low held. record { made = omega (arith, made, room.0); outcomes = omega (arith, told, room.1); left = omega (arith, calls) };
  }

-- each of the seats
pub all_ready : (locks : List TableId) (n : ℕ) (feeder : Caller) (clients : List Caller) → AreFreshCallers locks n feeder clients
    → (seats : List Seat) → map (λ (s : Seat). s.client) seats ≡ clients → ((c : ℕ) (s : Seat) → slice_get seats c ≡ Some s → IsNew (c + 1) s) → AreReady locks clients seats
all_ready locks n feeder clients fresh seats are each = record {
  are = are;
  each = λ c s at.
      let there : slice_get clients c ≡ Some s.client = ap (λ (l : List Caller). slice_get l c) (sym are) ∙ (slice_get-map (λ (z : Seat). z.client) seats c ∙ ap (λ o. option_map (λ (z : Seat). z.client) o) at) in
      let new = each c s at in record { ready = new_ready locks n feeder clients fresh c s there new; handed = new.handed; none = log_none s new.log.0 new.log.1; told = new.outcomes };
}

-- the seats of desks
module _ {T : Type 0} where
  seats_of : (desks : List (Desk T)) → map (λ (s : Seat). s.client) (map (λ (d : Desk T). d.seat) desks) ≡ map (λ (d : Desk T). d.seat.client) desks
  seats_of [] = refl
  seats_of (d ∷ ds) = ap (λ l. d.seat.client ∷ l) (seats_of ds)

  pub ready_desks : (locks : List TableId) (n : ℕ) (feeder : Caller) (clients : List Caller) → AreFreshCallers locks n feeder clients
      → (desks : List (Desk T)) → map (λ (d : Desk T). d.seat.client) desks ≡ clients → ((c : ℕ) (d : Desk T) → slice_get desks c ≡ Some d → IsNew (c + 1) d.seat) → AreReady locks clients (map (λ (d : Desk T). d.seat) desks)
  ready_desks locks n feeder clients fresh desks are each = all_ready locks n feeder clients fresh (map (λ (d : Desk T). d.seat) desks) (seats_of desks ∙ are)
      (λ c s at. let d = mapped (λ (d : Desk T). d.seat) desks c s at in subst (IsNew (c + 1)) d.2 (each c d.0 d.1))
