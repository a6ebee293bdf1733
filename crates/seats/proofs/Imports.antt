-- The words of others that the proofs of this crate use.
pub use Rattle.adapter.proofs.Lists.{at_place, one_value, set_elsewhere, set_there}
pub use Rattle.adapter.proofs.Pairs.{caller_fits}
pub use Rattle.adapter.specs.Callers.{IsFreshCaller}
pub use Rattle.adapter.specs.Nodes.{IsLegalAt}
pub use Rattle.adapter.specs.Rows.{OneMore}
pub use Rattle.atomic_table.proofs.Lists.{at_last}
pub use Rattle.byteorder.specs.Numbers.{little_number-reads_back}
pub use Rattle.client_core.proofs.GoesOn.{last_counts, waits_not}
pub use Rattle.client_core.proofs.Steps.{if_next}
pub use Rattle.client_core.specs.Commands.{Doing, IsRequestInRange, plays_of, stands, through}
pub use Rattle.client_core.specs.Events.{Ended, Progress, Standing, no_slots, progress_from, slots_after, waits_after, with_ended}
unfoldable pub use Rattle.client_core.specs.Events.{progress}
pub use Rattle.client_core.specs.Outcomes.{counters_after, outcome_by}
pub use Rattle.client_core.specs.Inside.Core.{ahead}
pub use Rattle.client_core.specs.Steps.{doing, done, telling}
pub use Rattle.client_core.specs.declared.event.Event.{Event}
pub use Rattle.client_core.specs.declared.event.ClientRequest.{ClientRequest}
pub use Rattle.client_core.specs.declared.event.ClientRequest.TheVariants.{Own}
pub use Rattle.client_core.specs.declared.task.Ending.TheVariants.{AllBusy, Bound, Made as WasMade}
pub use Rattle.client_core.specs.declared.task.Task.TheVariants.{Attach as AttachTask, Call as CallTask, Detach as DetachTask, OpenFrom}
pub use Rattle.client_script.specs.declared.line.Want.TheVariants.{Add, Pes, Remove, Section, Size, Poll, Read, Start, Stop}
pub use Rattle.dmx_calls.proofs.Going.{tenure_also, tenure_closed, tenure_opened, tenure_refused}
pub use Rattle.dmx_calls.specs.Answer.{answer_by, done_dropping, is_owned_by, tap_of_done, with_call}
unfoldable pub use Rattle.dmx_calls.specs.Answer.{answer}
pub use Rattle.dmx_calls.specs.Facts.{Facts, Ledger}
unfoldable pub use Rattle.dmx_calls.specs.Facts.{facts}
pub use Rattle.dmx_calls.specs.History.{History, Since, also, entry_of, event}
pub use Rattle.dmx_calls.specs.Invocation.{Invocation}
pub use Rattle.dmx_calls.specs.Legal.{IsLegalFor, May}
pub use Rattle.dmx_calls.specs.Rules.{Rules, rules_at}
pub use Rattle.dmx_calls.specs.Tenure.{closes, opens}
unfoldable pub use Rattle.dmx_calls.specs.Tenure.{owner, tenure}
pub use Rattle.dmx_calls.specs.declared.call.Call.TheVariants.{Close as CloseAct, Open as OpenAct}
pub use Rattle.dmx_calls.specs.declared.log.Entry.{Entry as ToldEntry}
pub use Rattle.dmx_calls.specs.declared.node.NodeKind.{NodeKind}
pub use Rattle.dmx_calls.specs.declared.node.NodeKind.TheVariants.{Demux}
pub use Rattle.dmx_calls.specs.declared.outcome.OutcomeKind.TheVariants.{Done as WasDone, Emfile as WasEmfile}
pub use Rattle.dmx_calls.specs.declared.reply.Tap.TheVariants.{Attach as AttachTap, Detach as DetachTap, Keep as KeepTap}
pub use Rattle.lemmas.proofs.Lists.{at_before, has_either}
pub use Rattle.lemmas.proofs.Members.{each_more, mapped}
pub use Rattle.lemmas.specs.Lists.{Has}
pub use Rattle.node_lock.proofs.Views.{at_below, prefix_at}
pub use Rattle.node_lock.specs.Inside.Seats.{fresh}
pub use Rattle.script_run.specs.IsRun.{IsEvent}
pub use Rattle.script_run.proofs.Lists.{take_next}
pub use Rattle.seats.specs.Answered.{AreClosings, IsAnswered, IsAnsweredBy, IsClosing, IsFirstTold, IsOneCommand, IsOpenTold, first_free, is_busy, refusal, told_opened}
pub use Rattle.seats.specs.Asks.{IsWantInRange, ask_of, asked}
pub use Rattle.seats.specs.Calls.{MakesCalls, PassesNone}
pub use Rattle.seats.specs.Doing.{ClosesHeld, DoesCommand, HasAnswered, HasDone, HasGone, HasMade, IsBehind, KeepsOne, MakesOne, MarksNoMore, act_by_tap, tap_by}
pub use Rattle.seats.specs.Holding.{AreMarked, CloseHeld, GivesBack, HasLeft, IsOwnPass, KnowsItsNodes, has_then, holds}
pub use Rattle.seats.specs.Imports.{Act, Again, Appends, AreAsked, AreFreshCallers, Attach as AttachAct, Batches, Busy, Caller, Close, ClientCommand, Consumes, Counters, DEMUX_NODES, Detach as DetachAct, Done, Dvr, Ending, Entry, Fits, IsAtEnd, IsGiven, KnowsItsCalls, LogEntry, MakesEntry, Next, Node, Once, Open, Outcome, OutcomeKind, Response, Scripted, SinkEnd, Slot, Slots, SourceEnd, Still, TableId, TapChange, Target, Task, Through, View, Want, act_of, after, append-nil, append_assoc, call_of, caller_of, commands_of, event_of, field, first, invocation_of, is_accepted, kind_by, own_call, replies, response_of, told_entry, waits_on}
pub use Rattle.seats.specs.Line.{BreaksOff, RunsOut, Takes, Writes}
pub use Rattle.seats.specs.Scripts.{IsPlayed, LinesArePlayed}
pub use Rattle.seats.specs.Seated.{AreOnNodes, AreReady, GoesOn, IsFit, IsNew, IsReady, calls_made, commands_done, log_of, told_made}
pub use Rattle.seats.specs.Spelled.{AreKept, DoneCommand, GoesThrough, IsDone, calls_in, commands_by, done_command, line_behind, no_counters, outcome_at, outcomes_by, target_of}
pub use Rattle.seats.specs.Tells.{head_of, tell, told_of}
pub use Rattle.seats.specs.Told.{call_at, data_read, reply_bytes}
pub use Rattle.seats.specs.Turns.{AreTold, HasAnsweredAll, HasTurned, IsAsked, IsLast, IsTold, IsTurn, MakesLast, MakesTurn, MakesTurns, Turn, calls_of, spelled, spelled_by}
pub use Rattle.seats.specs.declared.made.Made.{Made}
pub use Rattle.seats.specs.declared.run.Desk.{Desk}
pub use Rattle.seats.specs.declared.seat.HandedOver.{HandedOver}
pub use Rattle.seats.specs.declared.seat.Seat.{Seat}
pub use Rattle.seats.specs.declared.serve_frames.ask.Ask.{Ask}
pub use Rattle.seats.specs.declared.serve_frames.ask.Ask.TheVariants.{Call, Leave, OpenDemux, Refused as RefusedAsk, Refused}
pub use Rattle.seats.specs.declared.serve_frames.numbers.TheConstants.{EMFILE, ENOMEM, REQUEST_LEN}
pub use Rattle.seats.specs.declared.serve_frames.tell.Tell.{Tell}
pub use Rattle.std.proofs.Common.{All, Bool, Err, Global, IsTrue, List, None, Ok, OnErr, OnOk, Option, Result, Some, Vec, [], add-one, ap, arith, drop, eq-eqb, false, get_or, inl, inr, is_ok, length, length-append, map, nat_eq, nat_lt, ne_eqb, refl, replicate, reverse, rules, set, subst, suc, sym, take, true, vec_capacity, zero, ℕ, ⊎_elim, ◌*◌, ◌++◌, ◌+◌, ◌-◌, ◌<◌, ◌^◌, ◌∙◌, ◌∷◌, ◌≡◌, ◌≢◌, ◌≤◌, ◌⊎◌}
pub use Rattle.std.proofs.KnownBytes.{Appends-trans, Consumes-kept, Consumes-trans}
pub use Rattle.std.proofs.Math.Seq.{take-add, take-append-add}
pub use Rattle.std.proofs.lemmas.Bool.Decides.{nat_tests}
pub use Rattle.std.proofs.lemmas.Iterator.Adapters.{YieldsList-from_vec}
pub use Rattle.std.proofs.lemmas.Iterator.Consumers.{YieldsList-end}
pub use Rattle.std.proofs.lemmas.List.{append_cancel_left, get_or-replicate, length-drop, length-map, length-replicate, length-take-le, map-append, nil_from_length, places, reverse-append, take-append-le, take_all, take_more}
pub use Rattle.std.proofs.lemmas.List.Concat.{flat_map-append}
pub use Rattle.std.proofs.lemmas.List.Elements.{All-append, All-cons, All-nil, All-push}
pub use Rattle.std.proofs.lemmas.List.Sums.{fold-append}
pub use Rattle.std.proofs.lemmas.Option.{get_or_from_slice_get, slice_get-get_or, slice_get-map, slice_get_read, slice_get_within}
pub use Rattle.std.proofs.lemmas.Result.{IfOk-weaker}
pub use Rattle.std.specs.Prelude.{if◌then◌else◌, option_map, slice_get, slice_index_or}
pub use borrow.Rule.Slice.PartMut.{post_of, put_mid}
pub use lib.ListN.{get_elem?}
pub use mathlib.Core.Logic.{dite}
pub use mathlib.Core.Option.{some}
pub use native.Mathlib.Decide.{ℕ_discrete}
