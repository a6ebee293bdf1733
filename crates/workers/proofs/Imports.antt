-- The words of others that the proofs of this crate use.
pub use Rattle.adapter.proofs.Everybody.{in_column, of_column, rows_end, same_trans, still_all}
pub use Rattle.adapter.proofs.Lists.{at_before, at_either, at_end, at_end as with_last, at_last, at_place, one_value, set_elsewhere, set_there}
pub use Rattle.adapter.proofs.Standing.{Ascends, ascends}
pub use Rattle.adapter.specs.Callers.{IsFreshCaller}
pub use Rattle.adapter.specs.Inside.Placing.{entries_on}
pub use Rattle.adapter.specs.Merging.{AreByPlace, all_of, is_on}
pub use Rattle.adapter.specs.Nodes.{MakesEachEntry, fed}
pub use Rattle.adapter.specs.Rows.{OneCalls, OneLooks, OneMore, all_calls}
pub use Rattle.client_core.proofs.Steps.{along, if_next}
pub use Rattle.client_core.specs.Commands.{command_of, Doing, Slots, commands_among, commands_in, commands_of, ends_drain, ends_wait, pass_of, plays_of, stands, through}
pub use Rattle.client_core.specs.Events.{Progress, Standing, no_slots, progress_from, slots_after}
unfoldable pub use Rattle.client_core.specs.Events.{progress}
pub use Rattle.client_core.specs.Inside.Core.{ahead, behind, coming}
pub use Rattle.client_core.specs.Steps.{after, doing, done, event_of, first_on, telling}
pub use Rattle.client_core.specs.declared.command.ClientCommand.{ClientCommand}
pub use Rattle.client_script.specs.declared.line.Verb.TheVariants.{Drain, GetStc, ReadWait, Write}
pub use Rattle.client_core.specs.declared.event.ClientRequest.{ClientRequest}
pub use Rattle.client_core.specs.declared.task.Ending.{Ending}
pub use Rattle.client_core.specs.declared.task.Ending.TheVariants.{Made}
pub use Rattle.client_core.specs.declared.task.Next.{Next}
pub use Rattle.client_core.specs.declared.task.Next.TheVariants.{Still, Through}
pub use Rattle.client_core.specs.declared.task.Task.{Task}
pub use Rattle.client_core.specs.declared.task.Task.TheVariants.{Call, OpenFrom, Play}
pub use Rattle.client_script.specs.declared.line.Line.TheVariants.{Feed, Tick}
pub use Rattle.dmx_calls.proofs.Telling.{fills}
pub use Rattle.dmx_calls.proofs.Weaving.{in_place-at, woven_nodes-at, woven_nodes-length}
pub use Rattle.dmx_calls.specs.Entries.{caller_of, told}
pub use Rattle.dmx_calls.specs.Histories.{AreInPlace, before_entry, feeder_entries, histories_of, pass_act, woven, woven_from}
pub use Rattle.dmx_calls.specs.History.{History}
pub use Rattle.dmx_calls.specs.Invocation.{End, Invocation}
pub use Rattle.dmx_calls.specs.Legal.{IsLegalFor, May}
pub use Rattle.dmx_calls.specs.Log.{filled, filled_act}
pub use Rattle.dmx_calls.specs.Response.{Done, Ready, TapChange}
pub use Rattle.dmx_calls.specs.Rules.{Rules, rules_at}
pub use Rattle.dmx_calls.specs.declared.call.Call.TheVariants.{End as EndAct}
pub use Rattle.dmx_calls.specs.declared.log.Entry.{Entry as ToldEntry}
pub use Rattle.dmx_calls.specs.declared.reply.Tap.TheVariants.{Attach as AttachTap, Detach as DetachTap, Keep as KeepTap}
pub use Rattle.feed_pull.proofs.CutPackets.{are_packets}
pub use Rattle.feed_pull.proofs.Drawing.{draws_none, draws_then, none_given}
pub use Rattle.feed_pull.proofs.PullLemmas.{Pulls-done, Pulls-size}
pub use Rattle.feed_pull.proofs.Stopping.{many_reads, of_stream, on_err}
pub use Rattle.feed_pull.specs.Pulling.{given_by}
pub use Rattle.feed_pull.specs.Steps.{ReadsNothing}
pub use Rattle.lemmas.proofs.Lists.{at_map, has_at, has_either, has_left, has_right}
pub use Rattle.lemmas.proofs.Tests.{nat_eq_turned}
pub use Rattle.lemmas.specs.Lists.{Has}
pub use Rattle.node_lock.proofs.Views.{at_below, once_append, prefix_at}
pub use Rattle.node_lock.specs.Inside.Lists.{Once, up_from}
pub use Rattle.node_lock.specs.Passes.{HasJust, IsSamePass}
pub use Rattle.script_run.proofs.Calls.{asked_more, before, made_before, order_more, turn_more}
pub use Rattle.script_run.proofs.Ending.{are_accounted, runs_end}
pub use Rattle.script_run.proofs.Events.{is_from}
pub use Rattle.script_run.proofs.Lists.{at_has, has_filter, of_filter}
pub use Rattle.script_run.proofs.Paying.{calls_are_paid}
pub use Rattle.script_run.specs.IsRun.{IsEvent, feeding}
pub use Rattle.script_run.specs.SoFar.{HasDoneSoFar, IsFedSoFar, IsOver, IsPaidBehind, IsSoFar, others as Others}
pub use Rattle.std.proofs.Common.{Bool, Err, Global, IsErrOf, List, None, Ok, OnOk, Option, Result, Some, Vec, [], ap, append-nil, append_assoc, arith, cond, drop, eq-eqb, false, filter, get_or, inl, inr, length, length-append, map, nat_eq, nat_lt, ne_eqb, refl, replicate, reverse, rules, set, slice_get, subst, suc, sum, sym, take, true, zero, ℕ, ⊎_elim, ◌*◌, ◌++◌, ◌+◌, ◌-◌, ◌<◌, ◌^◌, ◌||◌, ◌∙◌, ◌∷◌, ◌≡◌, ◌≢◌, ◌≤◌, ◌⊎◌}
pub use Rattle.std.proofs.Math.Bool.{or-false, or-true}
pub use Rattle.std.proofs.Math.Seq.{drop-append_seam, take-append_seam, take-length}
pub use Rattle.std.proofs.lemmas.Bool.{cases_lt}
pub use Rattle.std.proofs.lemmas.Bool.Decides.{nat_tests}
pub use Rattle.std.proofs.lemmas.Iterator.Adapters.{YieldsList-from_vec}
pub use Rattle.std.proofs.lemmas.Iterator.Consumers.{YieldsList-end, YieldsList-turn}
pub use Rattle.std.proofs.lemmas.List.{drop-append-le, get_or-replicate, get_or-set_other, get_or-set_same, length-drop, length-map, map-append, map-id, reverse-append, take-append-le, take_all, take_more}
pub use Rattle.std.proofs.lemmas.List.Elements.{All-append, All-cons, All-head, All-map, All-nil, All-push, All-tail, filter-append}
pub use Rattle.std.proofs.lemmas.List.Sorted.{All-permutation, IsPermutation-map, IsPermutation-sym}
pub use Rattle.std.proofs.lemmas.List.Sums.{sum_by-cons}
pub use Rattle.std.proofs.lemmas.Map.Keys.{IsDistinct-IsPermutation, IsDistinct-cons}
pub use Rattle.std.proofs.lemmas.Option.{get_or_from_slice_get, slice_get-get_or, slice_get-map, slice_get_within}
pub use Rattle.std.proofs.lemmas.Result.{IfOk-weaker}
pub use Rattle.std.proofs.lemmas.Simd.{map-map}
pub use Rattle.std.specs.List.{AllByRecursion}
unfoldable pub use Rattle.std.specs.List.{IsDistinct}
pub use Rattle.std.specs.List.Sorted.{IsNonDecreasingBy, IsPermutation}
pub use Rattle.std.specs.Option.{option_to_list}
pub use Rattle.std.specs.Prelude.{All, IsOk, IsSome, IsTrue, if◌then◌else◌, option_map, slice_index, slice_index_or}
pub use Rattle.std.specs.Result.{result_err}
pub use Rattle.ts_batch.specs.Batch.{Packets}
pub use Rattle.workers.specs.Budget.{CallsAreWithinBudget, FewBytesAreFewCalls, IsRunning, ManyCallsAreTooLong}
pub use Rattle.workers.specs.Feeding.{AreFullBatches, HasEnded, HasEndedBy, HasFed, HasFedAll, HasMade, IsReadBehind, StandAt, Tiles, batch_of, fed_entries, fed_entry}
pub use Rattle.workers.specs.Imports.{Act, AreAllCallers, AreFreshCallers, AreFull, AreInOrder, AreNumbered, AreOnNodes, Batch, Batches, Caller, Command as CommandLine, Core, DEMUX_NODES, Draws, Dvr, Entry, Event, Fed, Fits, Frontend, Going, HaveHistories, InTurn, Input, IsAfter, IsDone, IsFrom, IsGiven, IsHistory, IsLegalAt, IsPacket, IsSameCaller, IsTooLong, IsWholeRun, Line, LogEntry, MOST_CALLS, NoMemory, Node, OfStream, Outcome, Pass, Passed, Pulling, Pulls, Response, Scripted, Slot, SourceEnd, Sources, StandsIn, Step, Stop, TableId, Target, TooLong, Verb, View, act_of, all_commands, bytes_written, call_of as call_at, call_of, clients_in, column, cut, ended, entry_of, feeder_acts, feeder_entry, filled_entry, get_elem?, head_of, is_in, list_any, most_calls, next_event, next_of, outcomes, replies, response_of, rows_of, some, sources, steps_of, told_entry, waits_on}
pub use Rattle.workers.specs.Inside.Begun.{AreFreshWorkers, AreOutcomesOf, HaveCome, IsFreshWorker, IsLeftByClients}
pub use Rattle.workers.specs.Inside.FeederWork.{HasPassed, HasPassedAll, IsFitFeeder, LeavesOthers}
pub use Rattle.workers.specs.Inside.Leaving.{GoesFirst, IsLeftByWorkers, StopsBy}
pub use Rattle.workers.specs.Inside.Working.{GoesOn, HasCome, HasLooked, IsFit, IsWorking, log_of}
pub use Rattle.workers.specs.Left.{AreWorked, HasWorked}
pub use Rattle.workers.specs.Logged.{BringFrom, BringsIn, HasCalled, IsLogged, Tells, TellsIn, calls_on}
pub use Rattle.workers.specs.Named.{is_for, is_named, names, passes_all}
pub use Rattle.workers.specs.Telling.{HasLogged, HaveCalled, IsLoggedIn, IsTheHistory, TellWhatWasCalled, WorkersHaveCalled, steps_from}
pub use Rattle.workers.specs.declared.client_worker.ClientWorker.{ClientWorker}
pub use Rattle.workers.specs.declared.feeder_worker.FeederWorker.{FeederWorker}
pub use Rattle.workers.specs.declared.left.LeftByThreads.{LeftByThreads}
pub use mathlib.Core.List.{IsPrefix}
pub use mathlib.Core.Logic.{dite}
pub use mathlib.Core.Option.{some-injective, some-ne-none}
pub use native.Mathlib.Decide.{ℕ_discrete}
