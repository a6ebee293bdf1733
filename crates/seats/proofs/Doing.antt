-- From what a seat has made to what it has done for a request.
use Rattle.seats.proofs.Imports.{HandedOver, calls_made, commands_done, ◌≡◌, ◌≢◌, ℕ, suc, ◌+◌, ◌<◌, Bool, true, false, nat_lt, nat_tests, if◌then◌else◌, List, [], ◌∷◌, ◌++◌, length, map, get_or, Option, Some, None, inl, inr, refl, ap, sym, ◌∙◌, subst, arith, slice_get, map-append, append-nil, append_assoc, append_cancel_left, flat_map-append, slice_get_within, slice_get_read, at_before, response_of, told_entry, LogEntry, act_of, Response, TapChange, Done, Busy, Act, OpenAct, CloseAct, KeepTap, AttachTap, DetachTap, ToldEntry, DEMUX_NODES, Outcome, OutcomeKind, WasDone, WasEmfile, Slot, Open, Close, own_call, Want, Ending, WasMade, Bound, AllBusy, kind_by, Next, Still, Through, CallTask, OpenFrom, after, telling, Ask, OpenDemux, Call, Leave, RefusedAsk, EMFILE, ENOMEM, Tell, told_of, Made, Seat, is_busy, first_free, refusal, told_opened, IsOpenTold, IsClosing, AreClosings, IsAnsweredBy, IsAnswered, MakesCalls, HasMade, MakesOne, DoesCommand, HasDone, KeepsOne, HasAnswered, HasGone, IsBehind, act_by_tap, tap_by, AreMarked, CloseHeld, log_of, told_made, GoesOn, DoneCommand, GoesThrough, IsDone, done_command, calls_in, no_counters, target_of, AreKept, data_read, call_at}
use Rattle.lemmas.proofs.Lists.{one_value, at_last}
use Rattle.seats.proofs.DoneCommands.{first_on_target}
use Rattle.seats.proofs.Going.{made_more}
use Rattle.seats.proofs.Keeping.{done_more, kept_none, kept_one, kept_trans}

-- ------ the last calls

pub made_trans : (a b c : Seat) (xs ys : List Made) → HasMade xs a b → HasMade ys b c → HasMade (xs ++ ys) a c
made_trans a b c xs ys x y = record {
  made = y.made ∙ (ap (λ (l : List Made). l ++ ys) x.made ∙ append_assoc a.made.items xs ys);
  log = y.log ∙ x.log;
  who = y.who ∙ x.who;
}

-- where the last calls and the log are the same afterwards
pub made_kept : (a b c : Seat) (xs : List Made) → HasMade xs a b → c.made.items ≡ b.made.items → c.log.items ≡ b.log.items → c.who ≡ b.who → HasMade xs a c
made_kept a b c xs x m l w = record { made = m ∙ x.made; log = l ∙ x.log; who = w ∙ x.who }

-- the log with these
pub log_more : (a b : Seat) (xs : List Made) → HasMade xs a b → log_of b ≡ log_of a ++ map (told_made a.who) xs
log_more a b xs h =
    ap (λ (k : List ToldEntry). map told_entry k ++ map (told_made b.who) b.made.items) h.log
    ∙ (ap (λ (n : ℕ). map told_entry a.log.items ++ map (told_made n) b.made.items) h.who
    ∙ (ap (λ (k : List Made). map told_entry a.log.items ++ map (told_made a.who) k) h.made
    ∙ (ap (λ (k : List LogEntry). map told_entry a.log.items ++ k) (map-append (told_made a.who) a.made.items xs)
    ∙ sym (append_assoc (map told_entry a.log.items) (map (told_made a.who) a.made.items) (map (told_made a.who) xs)))))

-- ------ one command

last_at : (xs new : List Made) (own : Made) (at : ℕ) → new ≡ xs ++ own ∷ [] → at ≡ length xs → slice_get new at ≡ Some own
last_at xs new own at e is = ap (λ (l : List Made). slice_get l at) e ∙ (ap (λ (i : ℕ). slice_get (xs ++ own ∷ []) i) is ∙ at_last xs own)

-- what is read at a place is the member there
pub read_at : (new : List Made) (own x : Made) (at : ℕ) → slice_get new at ≡ Some own → x ≡ get_or new at x → x ≡ own
read_at new own x at there read = one_value new at x own (slice_get_read new (length new) at x refl (slice_get_within new at own there) read) there

module _ (node : ℕ) (act : Act) (asks : Option Act) (at : ℕ) (old mid : Seat) (d : MakesOne node act asks old mid) (is : at ≡ length old.made.items) where
  there : slice_get mid.made.items at ≡ Some d.own
  there = last_at old.made.items mid.made.items d.own at d.has.made is

  -- the dvr node is asked nothing
  pub does_one : asks ≡ None → DoesCommand node act at old mid
  does_one e = record {
    own = d.own;
    behind = [];
    has = d.has;
    at = there;
    node = d.node;
    act = d.act;
    is = subst (λ (o : Option Act). IsBehind o []) (sym e ∙ d.asks) refl;
  }

  -- it is asked this
  pub does_two : (next : Act) (more : Option Act) (new : Seat) → MakesOne DEMUX_NODES next more mid new → asks ≡ Some next → DoesCommand node act at old new
  does_two next more new m e = record {
    own = d.own;
    behind = m.own ∷ [];
    has = made_trans old mid new (d.own ∷ []) (m.own ∷ []) d.has m.has;
    at = ap (λ (l : List Made). slice_get l at) m.has.made ∙ at_before mid.made.items (m.own ∷ []) at d.own there;
    node = d.node;
    act = d.act;
    is = subst (λ (o : Option Act). IsBehind o (told_made old.who m.own ∷ [])) (sym e ∙ d.asks) (told_made old.who m.own, refl, m.node, m.act);
  }

pub command_kept : (node : ℕ) (act : Act) (at : ℕ) (a b c : Seat) → DoesCommand node act at a b → c.made.items ≡ b.made.items → c.log.items ≡ b.log.items → c.who ≡ b.who → DoesCommand node act at a c
command_kept node act at a b c d m l w = record {
  own = d.own;
  behind = d.behind;
  has = made_kept a b c (d.own ∷ d.behind) d.has m l w;
  at = ap (λ (k : List Made). slice_get k at) m ∙ d.at;
  node = d.node;
  act = d.act;
  is = d.is;
}

-- ------ by small steps

behind_goes : (now : ℕ) (ending : Ending) (node : ℕ) (tap : TapChange) (behind : List LogEntry) → IsBehind (act_by_tap node tap) behind → GoesThrough now (telling ending node tap) ending behind
behind_goes now ending node KeepTap behind is = (is, refl)
behind_goes now ending node (AttachTap pids) behind is = subst (GoesThrough now (telling ending node (AttachTap pids)) ending) (sym is.1) ((is.2, λ batches. is.3), (refl, refl))
behind_goes now ending node DetachTap behind is = subst (GoesThrough now (telling ending node DetachTap) ending) (sym is.1) ((is.2, λ batches. is.3), (refl, refl))

if_telling : (b : Bool) (node : ℕ) (tap : TapChange) → (if b then telling WasMade node tap else Through WasMade) ≡ telling WasMade node (if b then tap else KeepTap)
if_telling true node tap = refl
if_telling false node tap = refl

after_call : (node : ℕ) (want : Want) (r : Response) → after (CallTask node want) r ≡ telling WasMade node (tap_by node r)
after_call node want (Done from to tap) = if_telling (nat_lt node DEMUX_NODES) node tap
after_call node want _ = refl

-- an open of a node goes on with the next where that one is busy
abbrev next_open : (node : ℕ) → Next
next_open node = if nat_lt node DEMUX_NODES then Still (OpenFrom 0 node) else Through AllBusy

after_busy : (node : ℕ) (r : Response) → is_busy r ≡ true → (after (OpenFrom 0 node) r ≡ next_open (node + 1)) × (tap_by node r ≡ KeepTap)
after_busy node (Busy owner) busy = (refl, refl)
after_busy node (Done from to tap) busy = absurd (cc busy)
after_busy node _ busy = absurd (cc busy)

after_free : (node : ℕ) (r : Response) → node < DEMUX_NODES → is_busy r ≡ false
    → (ending : Ending) × (after (OpenFrom 0 node) r ≡ telling ending node (tap_by node r)) × (kind_by no_counters ending ≡ WasDone)
after_free node (Done from to tap) low free =
    let yes : nat_lt node DEMUX_NODES ≡ true = grind (arith, nat_tests, low) in
    (Bound 0 node, ap (λ b. telling (Bound 0 node) node (if b then tap else KeepTap)) (sym yes), refl)
after_free node (Busy owner) low free = absurd (cc free)
after_free node _ low free = (WasMade, refl, refl)

-- ------ commands

-- nothing was done
pub has_none : (P : List DoneCommand → Type 0) (s : Seat) → P [] → HasDone P s s
has_none P s is = record { commands = []; handed = refl; log = sym (append-nil (log_of s)); kept = kept_none (commands_done s) (calls_made s) s.outcomes.items s.outcomes.items refl; is = is }

-- one command was
one_done : (P : List DoneCommand → Type 0) (kind : OutcomeKind) (old new : Seat) (d : DoneCommand) → log_of new ≡ log_of old ++ d.calls → KeepsOne kind old new → kind_by no_counters d.ending ≡ kind → P (d ∷ []) → HasDone P old new
one_done P kind old new d log k ended is = record {
  commands = d ∷ [];
  handed = k.0;
  log = log ∙ ap (λ (l : List LogEntry). log_of old ++ l) (sym (append-nil d.calls));
  kept = kept_one kind old new d k log ended;
  is = is;
}

pub calls_both : (ds es : List DoneCommand) → calls_in (ds ++ es) ≡ calls_in ds ++ calls_in es
calls_both ds es = flat_map-append (λ (d : DoneCommand). d.calls) ds es

-- a command on a node, as it stands in the log
module _ (node : ℕ) (act : Act) (at : ℕ) (old new : Seat) (d : DoesCommand node act at old new) where
  abbrev its_calls : List LogEntry
  its_calls = map (told_made old.who) (d.own ∷ d.behind)

  its_command : (want : Want) (now : ℕ) → act ≡ act_of (own_call want now) → IsDone now (done_command (target_of node) want its_calls WasMade)
  its_command want now asked slots =
      subst (λ n. GoesThrough now n WasMade its_calls) (sym (first_on_target slots node want)) (
        (d.node, λ batches. d.act ∙ asked),
        subst (λ n. GoesThrough now n WasMade (map (told_made old.who) d.behind)) (sym (after_call node want (response_of d.own.reply)))
            (behind_goes now WasMade node (tap_by node (response_of d.own.reply)) (map (told_made old.who) d.behind) d.is),
      )

  pub command_done : (P : List DoneCommand → Type 0) (want : Want) → KeepsOne WasDone old new → P (done_command (target_of node) want its_calls WasMade ∷ []) → HasDone P old new
  command_done P want k is = one_done P WasDone old new (done_command (target_of node) want its_calls WasMade) (log_more old new (d.own ∷ d.behind) d.has) k refl is

-- ------ closing

pub closing_none : (node : ℕ) (s : Seat) → HasDone (IsClosing node) s s
closing_none node s = has_none (IsClosing node) s (inl refl)

pub closing_one : (node at : ℕ) (old new : Seat) → DoesCommand node CloseAct at old new → KeepsOne WasDone old new → HasDone (IsClosing node) old new
closing_one node at old new d k =
    command_done node CloseAct at old new d (IsClosing node) Close k (inr (λ now. (its_calls node CloseAct at old new d, WasMade, refl, its_command node CloseAct at old new d Close now refl, tt)))

pub closings_none : (s : Seat) → HasDone (AreClosings 0) s s
closings_none s = has_none (AreClosings 0) s refl

pub closings_more : (n m : ℕ) (a b c : Seat) → m ≡ n + 1 → HasDone (AreClosings n) a b → HasDone (IsClosing n) b c → HasDone (AreClosings m) a c
closings_more n m a b c e x y =
    let next : suc n ≡ m = omega (arith, e) in
    let log = ap (λ (l : List LogEntry). l ++ calls_in y.commands) x.log ∙ append_assoc (log_of a) (calls_in x.commands) (calls_in y.commands) in
    record {
      commands = x.commands ++ y.commands;
      handed = y.handed ∙ x.handed;
      log = y.log ∙ (log ∙ ap (λ (l : List LogEntry). log_of a ++ l) (sym (calls_both x.commands y.commands)));
      kept = kept_trans (commands_done a) (commands_done b) (calls_made a) (calls_made b) x.commands y.commands a.outcomes.items b.outcomes.items c.outcomes.items x.kept y.kept
          (done_more a b x.commands x.handed x.kept) (made_more a b (calls_in x.commands) x.handed x.log);
      is = subst (λ (k : ℕ). AreClosings k (x.commands ++ y.commands)) next (x.commands, y.commands, refl, x.is, y.is);
    }

-- ------ opening

-- The nodes before this one were tried, and were busy.
pub record HasTried (node : ℕ) (old new : Seat) : Type 0 where
  pub calls : List LogEntry
  pub log : log_of new ≡ log_of old ++ calls
  pub goes : (now : ℕ) (rest : List LogEntry) (ending : Ending) → GoesThrough now (next_open node) ending rest → GoesThrough now (Still (OpenFrom 0 0)) ending (calls ++ rest)
  pub free : (rest : List LogEntry) → first_free (calls ++ rest) ≡ first_free rest

pub tried_none : (s : Seat) → HasTried 0 s s
tried_none s = record { calls = []; log = sym (append-nil (log_of s)); goes = λ now rest ending g. g; free = λ rest. refl }

module _ (node at : ℕ) (old mid new : Seat) (b : HasTried node old mid) (d : DoesCommand node OpenAct at mid new) (x : Made) (read : x ≡ get_or new.made.items at x) (low : node < DEMUX_NODES) where
  own_busy : (v : Bool) → is_busy (response_of x.reply) ≡ v → is_busy (response_of d.own.reply) ≡ v
  own_busy v e = subst (λ (m : Made). is_busy (response_of m.reply) ≡ v) (read_at new.made.items d.own x at d.at read) e

  abbrev own : LogEntry
  own = told_made mid.who d.own

  abbrev behind : List LogEntry
  behind = map (told_made mid.who) d.behind

  whole : log_of new ≡ log_of old ++ (b.calls ++ own ∷ behind)
  whole = log_more mid new (d.own ∷ d.behind) d.has ∙ (ap (λ (l : List LogEntry). l ++ own ∷ behind) b.log ∙ append_assoc (log_of old) b.calls (own ∷ behind))

  -- this call, and then these
  goes_on : (now : ℕ) (rest : List LogEntry) (ending : Ending) → GoesThrough now (after (OpenFrom 0 node) own.response) ending rest → GoesThrough now (Still (OpenFrom 0 0)) ending (b.calls ++ own ∷ rest)
  goes_on now rest ending g =
      let yes : nat_lt node DEMUX_NODES ≡ true = grind (arith, nat_tests, low) in
      b.goes now (own ∷ rest) ending (subst (λ v. GoesThrough now (if v then Still (OpenFrom 0 node) else Through AllBusy) ending (own ∷ rest)) (sym yes) ((d.node, λ batches. d.act), g))

  -- it is busy too
  pub tried_more : (m : ℕ) → m ≡ node + 1 → is_busy (response_of x.reply) ≡ true → HasTried m old new
  tried_more m long busy =
      let mine = own_busy true busy in
      let next = after_busy node own.response mine in
      let none : behind ≡ [] = subst (λ (t : TapChange). IsBehind (act_by_tap node t) behind) next.1 d.is in
      record {
        calls = b.calls ++ own ∷ [];
        log = whole ∙ ap (λ (l : List LogEntry). log_of old ++ (b.calls ++ own ∷ l)) none;
        goes = λ now rest ending g.
            subst (GoesThrough now (Still (OpenFrom 0 0)) ending) (sym (append_assoc b.calls (own ∷ []) rest))
            (goes_on now rest ending (subst (λ n. GoesThrough now n ending rest) (sym next.0) (subst (λ k. GoesThrough now (next_open k) ending rest) long g)));
        free = λ rest. ap first_free (append_assoc b.calls (own ∷ []) rest) ∙ (b.free (own ∷ rest) ∙ ap (λ v. if v then first_free rest else Some own) mine);
      }

  -- this one is free
  pub opened : (now : ℕ) (last : Seat) (t : Tell) (o : Option ℕ) → is_busy (response_of x.reply) ≡ false → log_of last ≡ log_of new → last.made.items ≡ new.made.items → KeepsOne WasDone old last
      → o ≡ Some at → ((m : Made) → slice_get last.made.items at ≡ Some m → t ≡ told_opened node (response_of m.reply) m.place)
      → HasDone (λ ds. IsAnsweredBy OpenDemux now ds t (data_read (call_at last.made.items o))) old last
  opened now last t o free log made k at_is told =
      let mine = own_busy false free in
      let next = after_free node own.response low mine in
      let there : slice_get last.made.items at ≡ Some d.own = ap (λ (l : List Made). slice_get l at) made ∙ d.at in
      let calls = b.calls ++ own ∷ behind in
      let g = λ (moment : ℕ). goes_on moment behind next.0 (subst (λ n. GoesThrough moment n next.0 behind) (sym next.1) (behind_goes moment next.0 node (tap_by node own.response) behind d.is)) in
      let first : first_free calls ≡ Some own = b.free (own ∷ behind) ∙ ap (λ v. if v then first_free behind else Some own) mine in
      let is : IsOpenTold (Some own) t (data_read (call_at last.made.items o)) =
      (told d.own there ∙ ap (λ k. told_opened k (response_of d.own.reply) d.own.place) (sym d.node), ap (λ (z : Option ℕ). data_read (call_at last.made.items z)) at_is ∙ ap data_read there) in
      one_done (λ ds. IsAnsweredBy OpenDemux now ds t (data_read (call_at last.made.items o))) WasDone old last (done_command (Slot 0) Open calls next.0) (log ∙ whole) k next.2
      (calls, next.0, refl, λ slots. g now, subst (λ (f : Option LogEntry). IsOpenTold f t (data_read (call_at last.made.items o))) (sym first) is)

-- all are busy
pub full : (now n : ℕ) (old mid new : Seat) (t : Tell) (o : Option ℕ) → HasTried n old mid → n ≡ DEMUX_NODES → log_of new ≡ log_of mid → KeepsOne WasEmfile old new → (t ≡ refusal EMFILE) × (o ≡ None)
    → HasDone (λ ds. IsAnsweredBy OpenDemux now ds t (data_read (call_at new.made.items o))) old new
full now n old mid new t o b all log k told =
    let end = append-nil b.calls in
    let g = λ (moment : ℕ). subst (GoesThrough moment (Still (OpenFrom 0 0)) AllBusy) end (b.goes moment [] AllBusy (subst (λ m. GoesThrough moment (next_open m) AllBusy []) (sym all) (refl, refl))) in
    let first : first_free b.calls ≡ None = ap first_free (sym end) ∙ b.free [] in
    one_done (λ ds. IsAnsweredBy OpenDemux now ds t (data_read (call_at new.made.items o))) WasEmfile old new (done_command (Slot 0) Open b.calls AllBusy) (log ∙ b.log) k refl
    (b.calls, AllBusy, refl, λ slots. g now, subst (λ (f : Option LogEntry). IsOpenTold f t (data_read (call_at new.made.items o))) (sym first) (told.0, ap (λ (z : Option ℕ). data_read (call_at new.made.items z)) told.1))

-- ------ requests

-- what is so of the commands is so of a request
pub done_as : (P Q : List DoneCommand → Type 0) (old new : Seat) → ((ds : List DoneCommand) → P ds → Q ds) → HasDone P old new → HasDone Q old new
done_as P Q old new so d = record { commands = d.commands; handed = d.handed; log = d.log; kept = d.kept; is = so d.commands d.is }

-- where what it keeps was the same before
done_from : (P : List DoneCommand → Type 0) (old mid new : Seat) → mid.handed ≡ old.handed → log_of mid ≡ log_of old → mid.outcomes.items ≡ old.outcomes.items → HasDone P mid new → HasDone P old new
done_from P old mid new was same told d = record {
  commands = d.commands;
  handed = d.handed ∙ was;
  log = d.log ∙ ap (λ (l : List LogEntry). l ++ calls_in d.commands) same;
  kept = subst (λ (h : HandedOver). AreKept (h.commands + length old.outcomes.items) (h.calls + length (log_of old)) d.commands old.outcomes.items new.outcomes.items) was
      (subst (λ (l : List LogEntry). AreKept (mid.handed.commands + length old.outcomes.items) (mid.handed.calls + length l) d.commands old.outcomes.items new.outcomes.items) same
      (subst (λ (os : List Outcome). AreKept (mid.handed.commands + length os) (mid.handed.calls + length (log_of mid)) d.commands os new.outcomes.items) told d.kept));
  is = d.is;
}

nothing_read : (s : Seat) (o : Option ℕ) → o ≡ None → data_read (call_at s.made.items o) ≡ []
nothing_read s o e = ap (λ (z : Option ℕ). data_read (call_at s.made.items z)) e

module _ (ask : Ask) (now : ℕ) where
  -- as the table says
  table : (like : Ask) (old new : Seat) (t : Tell) (bytes : List ℕ) → ask ≡ like → HasDone (λ ds. IsAnsweredBy like now ds t bytes) old new → HasDone (λ ds. IsAnswered ask now ds t bytes) old new
  table like old new t bytes is d = done_as _ _ old new (λ ds by. inl (subst (λ (k : Ask). IsAnsweredBy k now ds t bytes) (sym is) by)) d

  pub answered_open : (old new : Seat) (t : Tell) (bytes : List ℕ) → ask ≡ OpenDemux → HasDone (λ ds. IsAnsweredBy OpenDemux now ds t bytes) old new → HasDone (λ ds. IsAnswered ask now ds t bytes) old new
  answered_open old new t bytes is d = table OpenDemux old new t bytes is d

  pub answered_call : (node : ℕ) (want : Want) (at : ℕ) (act : Act) (old new : Seat) (t : Tell) (o : Option ℕ) (d : DoesCommand node act at old new) → KeepsOne WasDone old new → ask ≡ Call node want → act ≡ act_of (own_call want now)
      → o ≡ Some at → ((m : Made) → slice_get new.made.items at ≡ Some m → t ≡ told_of (response_of m.reply) m.place)
      → HasDone (λ ds. IsAnswered ask now ds t (data_read (call_at new.made.items o))) old new
  answered_call node want at act old new t o d k is asked at_is told =
      table (Call node want) old new t (data_read (call_at new.made.items o)) is
      (command_done node act at old new d (λ ds. IsAnsweredBy (Call node want) now ds t (data_read (call_at new.made.items o))) want k
      (its_calls node act at old new d, WasMade, refl, its_command node act at old new d want now asked, (told d.own d.at, ap (λ (z : Option ℕ). data_read (call_at new.made.items z)) at_is ∙ ap data_read d.at)))

  pub answered_leave : (old new : Seat) (t : Tell) (o : Option ℕ) → ask ≡ Leave → HasDone (AreClosings (DEMUX_NODES + 1)) old new → (t ≡ refusal 0) × (o ≡ None)
      → HasDone (λ ds. IsAnswered ask now ds t (data_read (call_at new.made.items o))) old new
  answered_leave old new t o is d told = table Leave old new t (data_read (call_at new.made.items o)) is (done_as _ _ old new (λ ds all. (all, (told.0, nothing_read new o told.1))) d)

  pub answered_refused : (code : ℕ) (s : Seat) (t : Tell) (o : Option ℕ) → ask ≡ RefusedAsk code → (t ≡ refusal code) × (o ≡ None) → HasDone (λ ds. IsAnswered ask now ds t (data_read (call_at s.made.items o))) s s
  answered_refused code s t o is told = table (RefusedAsk code) s s t (data_read (call_at s.made.items o)) is (has_none _ s (refl, (told.0, nothing_read s o told.1)))

  -- for want of memory
  pub answered_wanting : (s : Seat) (t : Tell) (o : Option ℕ) → ask ≢ Leave → (t ≡ refusal ENOMEM) × (o ≡ None) → HasDone (λ ds. IsAnswered ask now ds t (data_read (call_at s.made.items o))) s s
  answered_wanting s t o other told = has_none _ s (inr (other, refl, (told.0, nothing_read s o told.1)))

  -- where no call is told
  pub answered_untold : (old new : Seat) (t : Tell) (o : Option ℕ) → o ≡ None → HasDone (λ ds. IsAnswered ask now ds t (data_read (call_at new.made.items o))) old new → HasDone (λ ds. IsAnswered ask now ds t []) old new
  answered_untold old new t o none d = subst (λ (bytes : List ℕ). HasDone (λ ds. IsAnswered ask now ds t bytes) old new) (nothing_read new o none) d

  pub has_answered : (old mid new : Seat) (t : Tell) (bytes : List ℕ) → log_of mid ≡ log_of old → mid.outcomes.items ≡ old.outcomes.items → mid.held ≡ old.held
      → GoesOn old new → (ask ≡ Leave → HasGone mid new) → HasDone (λ ds. IsAnswered ask now ds t bytes) mid new → HasAnswered ask now old new t bytes
  unfolding done_from
  has_answered old mid new t bytes same told held goes leaves d =
      let mine = calls_in d.commands in let done = done_from (λ ds. IsAnswered ask now ds t bytes) old mid new (sym d.handed ∙ goes.handed) same told d in
      record {
        done = done;
        made = subst (λ (l : List LogEntry). MakesCalls (calls_made old) old.client l new.client) (append_cancel_left (log_of old) goes.calls mine (sym goes.log ∙ done.log)) goes.made;
        gone = λ leave gone m. let g = leaves leave in
            let marked : AreMarked (gone ++ log_of mid) mid.held = subst (AreMarked (gone ++ log_of mid)) (sym held) (subst (λ (l : List LogEntry). AreMarked (gone ++ l) old.held) (sym same) m) in
            record { held = subst (λ (l : List LogEntry). CloseHeld (gone ++ l) mine) same (g.held gone mine marked d.log); left = g.left };
      }
