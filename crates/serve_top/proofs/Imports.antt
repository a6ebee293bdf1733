-- The words of others that the proofs of this crate use.
pub use Rattle.adapter.proofs.Everybody.{same_trans, still_all}
pub use Rattle.adapter.proofs.Lists.{at_end, at_place, one_value, set_elsewhere, set_there}
pub use Rattle.adapter.specs.Callers.{AreFreshCallers, IsSameCaller}
pub use Rattle.adapter.specs.Merging.{AreOnNodes as AreEntriesOnNodes}
pub use Rattle.adapter.specs.Nodes.{IsLegalAt}
pub use Rattle.client_core.specs.Commands.{command_of, commands_among, commands_in, plays_of}
pub use Rattle.client_core.specs.Plays.{Batches, plays_batch}
pub use Rattle.client_core.specs.Events.{Ended, Progress, next_event, no_slots, progress_from}
unfoldable pub use Rattle.client_core.specs.Events.{progress}
pub use Rattle.client_core.specs.Outcomes.{outcome_by, outcome_of, outcomes}
pub use Rattle.client_core.specs.Stc.{Exchange, exchanges_after, stc, with_reply}
pub use Rattle.client_core.specs.declared.command.ClientCommand.{ClientCommand}
pub use Rattle.client_script.specs.declared.line.Verb.TheVariants.{GetStc, Once}
pub use Rattle.client_core.specs.declared.event.Event.{Event}
pub use Rattle.client_script.specs.Script.{clients_in, clients_of, plain}
pub use Rattle.client_script.specs.declared.line.Line.{Line}
pub use Rattle.client_script.specs.declared.line.Line.TheVariants.{Command as CommandLine}
pub use Rattle.client_script.specs.declared.line.Target.TheVariants.{Dvr}
pub use Rattle.client_script.specs.declared.line.Want.{Want}
pub use Rattle.dmx_calls.specs.Accounted.{IsAccounted}
pub use Rattle.dmx_calls.specs.History.{History}
pub use Rattle.dmx_calls.specs.Invocation.{Invocation, Open, Pass}
pub use Rattle.dmx_calls.specs.Legal.{IsLegalFor}
pub use Rattle.dmx_calls.specs.Log.{IsFrom, act_of, filled}
pub use Rattle.dmx_calls.specs.Response.{Response}
pub use Rattle.dmx_calls.specs.Rules.{rules_at}
pub use Rattle.dmx_calls.specs.declared.log.Entry.{Entry as ToldEntry}
pub use Rattle.dmx_calls.specs.declared.params.Input.{Input}
pub use Rattle.feed_pull.proofs.PullLemmas.{Pulls-front}
pub use Rattle.feed_pull.specs.Pulling.{Pulling}
pub use Rattle.feed_pull.specs.Steps.{Follows}
pub use Rattle.feed_pull.specs.Streams.{Draws}
pub use Rattle.feed_pull.specs.declared.fault.Reading.{Reading}
pub use Rattle.feed_pull.specs.declared.fault.Reading.TheVariants.{TooMany}
pub use Rattle.script_run.specs.IsRun.{HasDone, IsEvent, IsRun, replies, sources}
pub use Rattle.script_run.specs.WholeRun.{IsGiven}
pub use Rattle.seats.proofs.Played.{answers_idle, answers_played}
pub use Rattle.seats.specs.Calls.{MakesCalls}
pub use Rattle.seats.specs.Kept.{HasKept}
pub use Rattle.seats.specs.Scripts.{IsPlayed}
pub use Rattle.seats.specs.Seated.{AreReady, IsReadyToHand}
pub use Rattle.seats.specs.Served.{HasServed, HaveServed}
pub use Rattle.seats.specs.Spelled.{DoneCommand}
pub use Rattle.seats.specs.declared.seat.Seat.{Seat}
pub use Rattle.serve_top.specs.Imports.{Appends, AreAllCallers, AreOnNodes, Caller, DEMUX_NODES, Desk, Dvr as FromDvr, Fed, FeederWorker, Frontend, Going, HasAnsweredAll, HasFedAll, HasFedToEnd, HasLeft, HaveCalled, IsWholeRun, JournalLine, KeptJournal, LogEntry, NoMemory, Of188, Outcome, PassesNone, Pulls, Scripted, SinkEnd, SourceEnd, Sources, TableId, TellWhatWasCalled, commands_by, commands_of, cut, flat_map, flat_map-append, has_failed, head_of, is_in, report_of, spelled, told_entry, told_head}
pub use Rattle.serve_top.specs.Inside.Keeping.{AreKeptLines, HasNothing}
pub use Rattle.serve_top.specs.Inside.Writing.{written_none, written_then}
pub use Rattle.serve_top.specs.Journaled.{AreServed, IsLeftBy, IsNewFeeder}
pub use Rattle.serve_top.specs.Lines.{HasWritten, call_line, fed_line}
pub use Rattle.serve_top.specs.Read.{HasReadTo, HasReadTooOften, IsTimed}
pub use Rattle.serve_top.specs.Reported.{FindMemory, HasReported, IsRunOf, IsServed, every, fed_by}
pub use Rattle.serve_top.specs.declared.journals.Handed.{Handed}
pub use Rattle.serve_top.specs.declared.journals.ReportParts.{ReportParts}
pub use Rattle.serve_top.specs.declared.rung.Rung.{Rung}
pub use Rattle.serve_top.specs.declared.server.NoReport.TheVariants.{Failed, TooLong}
pub use Rattle.std.proofs.Common.{Bool, Err, Global, List, None, Option, Result, Some, Vec, [], ap, arith, eq-eqb, false, fold, inl, inr, length, length-append, map, max, nat_lt, ne_eqb, refl, replicate, reverse, rules, set, subst, suc, sym, take, true, zero, ℕ, ⊎_elim, ◌++◌, ◌+◌, ◌<◌, ◌^◌, ◌∙◌, ◌∷◌, ◌≡◌, ◌≢◌, ◌≤◌}
pub use Rattle.std.proofs.lemmas.Bool.{cases_lt}
pub use Rattle.std.proofs.lemmas.Bool.Decides.{nat_tests}
pub use Rattle.std.proofs.lemmas.List.{append-nil, append_assoc, get_or-replicate, length-map, length-reverse, length-set, map-append, reverse-append, same_lists, take_all, take_more}
pub use Rattle.std.proofs.lemmas.List.Elements.{All-append, All-cons, All-head, All-nil, All-tail, All-weaker}
pub use Rattle.std.proofs.lemmas.Simd.{map-map}
pub use Rattle.std.proofs.lemmas.Option.{get_or_from_slice_get, slice_get-get_or, slice_get-map, slice_get_within}
pub use Rattle.std.specs.Prelude.{All, IsSome, get_or, if◌then◌else◌, option_map, slice_get, slice_index_or}
pub use Rattle.ts_packet.specs.declared.size.PacketSize.{PacketSize}
pub use Rattle.workers.proofs.Beginning.{begun_feeder, begun_passed, called_none}
pub use Rattle.workers.proofs.FeederWork.{as_named, on_ok}
pub use Rattle.workers.proofs.Leaving.{no_stop, worked_feeder}
pub use Rattle.workers.proofs.Lists.{mapped}
pub use Rattle.workers.proofs.Logging.{brings_more, logged_more}
pub use Rattle.workers.proofs.Working.{same_self}
pub use Rattle.workers.specs.Feeding.{IsReadBehind}
pub use Rattle.workers.specs.Inside.FeederWork.{HasPassedAll}
pub use Rattle.workers.specs.Left.{AreWorked, HasWorked}
pub use Rattle.workers.specs.Logged.{BringFrom, IsLogged}
pub use Rattle.workers.specs.Telling.{HasLogged}
pub use mathlib.Core.Logic.{dite}
pub use native.Mathlib.Decide.{ℕ_discrete}
