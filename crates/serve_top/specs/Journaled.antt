-- What a server has done where its stream has ended.
use Rattle.std.specs.Prelude.{◌≡◌, ◌≤◌, ◌+◌, ◌++◌, ◌∷◌, [], ℕ, Bool, List, length, map, reverse, slice_get, Some, All}
use Rattle.serve_top.specs.Imports.{AreOnNodes, Caller, Consumes, DEMUX_NODES, Desk, Fed, FeederWorker, Going, HasAnsweredAll, HasFedAll, HasLeft, HaveCalled, HaveHistories, JournalLine, LogEntry, Of188, Outcome, PassesNone, Pulls, SinkEnd, SourceEnd, TableId, cut, has_failed, head_of, told_head}
use Rattle.serve_top.specs.declared.journals.Handed.{Handed}
use Rattle.serve_top.specs.declared.journals.ReportParts.{ReportParts}
use Rattle.serve_top.specs.Read.{HasReadTo, IsTimed}
use Rattle.serve_top.specs.Reported.{every, fed_by}

-- A line tells what is left of it to be read, and what was written to it; or it tells none of these. A journal says whether it
-- was given these calls and what became of these commands, or these batches, and no others, between one state and another.
module _ {T J B : Type 0} (source : T → SourceEnd) (sink : T → SinkEnd) (took : List LogEntry → List Outcome → J
    → J → Type 0)
    (told : List Fed → B → B → Type 0) where
  -- A seat has served its line: its client has made just these calls, by which it came to what it is now; they are those that the
  -- requests of the line ask for, one after another, each told in its reply, and then those by which all nodes were closed, as by
  -- each request to leave; the line's journal was given just them, and what became of the commands; and by none do packets pass.
  pub record IsHandedOver (may : ℕ → Bool) (behind : SourceEnd → ℕ → Bool)
      (line : JournalLine T J) (client : Caller) (book : List LogEntry)
      (journal : J) : Type 0 where
    pub end : T
    pub first : Caller
    pub became : List Outcome
    pub answers : HasAnsweredAll source sink may behind line.line end first client [] book [] became
    pub given : took book became line.journal journal
    pub nodes : AreOnNodes book
    pub none : All (λ e. PassesNone e.act) book

  -- What was read of the stream, what was called by this feeder and these clients and why, and what the journals were given: just
  -- this.
  pub record AreServed (lines : List (JournalLine T J)) (may : ℕ → Bool) (behind : SourceEnd → ℕ → Bool)
      (before after : SourceEnd) (was now : B)
      (feeder : Caller)
      (clients : List Caller) (end : Handed J) : Type 0 where
    -- the bytes that were read, up to the end of the stream or the read that failed, and what is known of them
    pub taken : List ℕ
    pub consumes : Consumes before.left after.left taken
    pub failed : Bool
    pub reads : HasReadTo failed before after
    pub head : told_head end.head ≡ head_of Of188 taken failed
    -- the stream has passed all nodes, in batches of 64 packets, of which their journal was told: the feeder has a pass of each
    pub passes : length feeder.passes ≡ DEMUX_NODES + 1
    pub feeding : List Fed
    pub fed : HasFedAll every 64 may (cut Of188 taken).packets feeder feeding
    pub batches : told feeding was now
    -- the clock was read for each behind the bytes of its packets
    pub clock : All (IsTimed behind before) feeding
    -- there is a client for each line, and a journal, and the client has made just the calls of its log
    pub each : length clients ≡ length lines
    pub kept : length end.journals.items ≡ length lines
    pub books : List (List LogEntry)
    pub called : HaveCalled every (fed_by (cut Of188 taken).packets) feeder feeding clients books
    -- these are the calls that the requests of its line ask for, and the line's journal was given just them
    pub asked : (c : ℕ) (book : List LogEntry) → slice_get books c ≡ Some book
        → (line : JournalLine T J) × (slice_get (reverse lines) c ≡ Some line)
        × (client : Caller) × (slice_get clients c ≡ Some client)
        × (journal : J) × (slice_get end.journals.items c ≡ Some journal) × IsHandedOver may behind line client book journal
    -- and behind them it owns no node
    pub left : (c : ℕ) (client : Caller) → slice_get clients c ≡ Some client → (node : ℕ) → node ≤ DEMUX_NODES
        → HasLeft node client

  -- All this, and each node has a legal history of just the calls of these clients and the feeder.
  pub record HasServedLines (lines : List (JournalLine T J)) (may : ℕ → Bool) (behind : SourceEnd → ℕ → Bool)
      (before after : SourceEnd) (was now : B)
      (end : Handed J) : Type 0 where
    pub feeder : Caller
    pub clients : List Caller
    pub served : AreServed lines may behind before after was now feeder clients end
    pub histories : HaveHistories (clients ++ feeder ∷ [])

-- ------ on the way

-- It is the worker of this feeder, and has drawn and passed nothing yet.
pub record IsNewFeeder (feeder : Caller) (f : FeederWorker) : Type 0 where
  pub caller : f.feeder ≡ feeder
  pub count : f.count ≡ 0
  pub given : f.puller.given ≡ 0
  pub pulls : Pulls [] [] [] f.puller
  pub size : f.puller.cutting.size ≡ Of188
  pub start : f.puller.start ≡ 0
  pub going : f.puller.reading ≡ Going

-- this is left of a feeder, and of seats with journals
pub record IsLeftBy {T J : Type 0} (adapter : List TableId) (f : FeederWorker) (desks : List (Desk (JournalLine T J)))
    (end : ReportParts J) : Type 0 where
  pub locks : end.adapter ≡ adapter
  pub feeder : end.feeder ≡ f.feeder
  pub clients : end.clients.items ≡ map (λ d. d.seat.client) desks
  pub head : (taken : List ℕ) (given : List (List ℕ)) → Pulls [] taken given f.puller
      → told_head end.handed.head ≡ head_of f.puller.cutting.size taken (has_failed f.puller.reading)
  pub journals : end.handed.journals.items ≡ map (λ d. d.line.journal) desks
