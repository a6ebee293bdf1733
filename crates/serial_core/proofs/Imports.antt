-- The words of others that the proofs of this crate use.
pub use Rattle.client_core.proofs.Ended.{ended_waits_not}
pub use Rattle.client_core.proofs.GoesOn.{last_counts, none_waits as before_first}
pub use Rattle.client_core.proofs.Numbering.{AreThrough, next_is_numbered, through_more, through_next}
pub use Rattle.client_core.specs.Commands.{command_of, commands_among, commands_in, pass_of}
pub use Rattle.client_core.specs.Plays.{batch_at}
pub use Rattle.client_core.specs.Events.{Standing, next_event, no_slots, progress_from, standing_at, waits_after}
unfoldable pub use Rattle.client_core.specs.Events.{progress}
pub use Rattle.client_core.specs.declared.command.ClientCommand.{ClientCommand}
pub use Rattle.client_core.specs.declared.event.ClientRequest.{ClientRequest}
pub use Rattle.client_core.specs.declared.event.ClientRequest.TheVariants.{Own}
pub use Rattle.client_core.specs.declared.stop.Stop.TheVariants.{TooLong}
pub use Rattle.client_script.specs.declared.line.Target.{Target}
pub use Rattle.client_script.specs.declared.line.Verb.{Verb}
pub use Rattle.dmx_calls.proofs.Going.{has_ended_after, has_ended_refused}
pub use Rattle.dmx_calls.proofs.Numbered.{demux_rules, dvr_rules}
pub use Rattle.dmx_calls.proofs.Reading.{read_each}
pub use Rattle.dmx_calls.proofs.Telling.{fills}
pub use Rattle.dmx_calls.proofs.Weaving.{in_place-append, woven-call, woven-fed}
pub use Rattle.dmx_calls.specs.Answer.{ReadTerms, answer_by as dmx_answer, done_dropping, expired_of, open_response, read_terms, refusal_to, response_of_read, response_to, response_unless, with_call}
unfoldable pub use Rattle.dmx_calls.specs.Answer.{answer}
pub use Rattle.dmx_calls.specs.Facts.{Facts, Ledger}
unfoldable pub use Rattle.dmx_calls.specs.Facts.{facts}
pub use Rattle.dmx_calls.specs.Histories.{AreInPlace, feeder_acts, feeder_entry, woven_nodes}
pub use Rattle.dmx_calls.specs.History.{event}
pub use Rattle.dmx_calls.specs.Invocation.{AddPid, Attach, Close, Detach, End, Pass, Poll, Read, RemovePid, SetFilter, SetPes, SetSize, Start, Stop}
pub use Rattle.dmx_calls.specs.Log.{IsFrom, Sources, filled_entry}
pub use Rattle.dmx_calls.specs.Response.{NoMemory, TapChange, is_accepted}
pub use Rattle.dmx_calls.specs.Rules.{Rules, dvr}
pub use Rattle.dmx_calls.specs.Tenure.{is_end}
unfoldable pub use Rattle.dmx_calls.specs.Tenure.{has_ended}
pub use Rattle.dmx_calls.specs.declared.log.Entry.{Entry, Entry as CodeEntry}
pub use Rattle.dmx_calls.specs.declared.node.NodeKind.{NodeKind}
pub use Rattle.dmx_calls.specs.declared.reply.Errno.{Errno}
pub use Rattle.feed_pull.proofs.CutPackets.{are_packets}
pub use Rattle.feed_pull.proofs.Drawing.{draws_none, draws_then, none_given}
pub use Rattle.feed_pull.proofs.PullLemmas.{Pulls-done, Pulls-front, Pulls-size}
pub use Rattle.feed_pull.proofs.Stopping.{end_by, many_reads, of_stream, on_err, rose_by}
pub use Rattle.lemmas.proofs.Lists.{at_before, at_end, at_last, at_last as got_last}
pub use Rattle.lemmas.proofs.Options.{same_some}
pub use Rattle.script_run.proofs.Calls.{asked_more, turn_more}
pub use Rattle.script_run.proofs.Clients.{clients_within, few_in_all}
pub use Rattle.script_run.proofs.Counting.{total}
pub use Rattle.script_run.proofs.Ending.{are_accounted, runs_end}
pub use Rattle.script_run.proofs.Events.{from_client}
pub use Rattle.script_run.proofs.Lists.{filter_more}
pub use Rattle.script_run.proofs.OnNodes.{by_caller, calls_of, on_node}
pub use Rattle.script_run.proofs.Paying.{calls_are_bounded, calls_are_paid, commands_shared, plays_by}
pub use Rattle.script_run.specs.Budget.{all_commands}
pub use Rattle.script_run.specs.IsRun.{AreAsked, Batch, InTurn, IsEvent, Step, feeding, steps_of}
pub use Rattle.script_run.specs.SoFar.{HasDoneSoFar, IsFedSoFar, IsOver, IsPaidBehind, IsSoFar, feeder}
pub use Rattle.serial_core.specs.Budget.{AreBegun, IsBegun, IsMoment, IsOnTheWay, IsWithinBudget, no_call, one_call}
pub use Rattle.serial_core.specs.Imports.{Act, Again, AreNumbered, Batches, Command, Core, DEMUX_NODES, Draws, End as EndAct, Event, Feed, Frontend, History, Invocation, IsAfter, IsDone, IsInRange, IsLegalFor, IsPacket, IsTooLong, Line, LogEntry, May, OfStream, Open, Passed, Pulling, Pulls, Response, Scripted, SourceEnd, Tick, TooMany, act_of, bytes_written, call_of, clients_in, clients_of, commands_of, cut, entry_of, filled, has_failed, head_of, histories_of, invocation_of, most_calls, next_of_line, outcomes, passing, plays_of, range_with_len, replies, response_of, rules_at, sources, told_entry, told_head, waits_on, woven}
pub use Rattle.serial_core.specs.Inside.Lines.{AllOverrunBy, AreAfter, AreInBudget, ComesByLines, IsFrontBy, IsLineBy, IsWholeBy, OverrunsBy, calls_by}
pub use Rattle.serial_core.specs.Inside.Moving.{ComesBy, ComesByCalls, HasDrawn, IsAt, IsDoneBy, IsReady, IsSound, MadeAtMost, Moves, one_if}
pub use Rattle.serial_core.specs.Inside.Standing.{AreCounted, AreInOrder, AreUnder, IsFeeding, IsNodes, IsSeat, IsUnder, Pairs, StandsAt, acts_of, acts_on, entries_in}
pub use Rattle.serial_core.specs.Laws.{IsOne}
pub use Rattle.serial_core.specs.Left.{AreFreshCores, IsFreshRunner, IsLeftBy, histories_in}
pub use Rattle.serial_core.specs.Nodes.{Node, Told, answer_by, answered, history_in, history_of, log_in, log_of, uncalled}
pub use Rattle.serial_core.specs.Runs.{HaveSerialRuns, IsAccountedRun, SerialRunsAreRuns}
pub use Rattle.serial_core.specs.SerialRun.{AreDone, IsSerialRun, IsWorked, Run, after_waiting, all_passed, batch_sizes, begun, called, calls, ended, fed_to_all, finished, made, node_at, passed, replies_of, reply_to, through, ticked, turned}
pub use Rattle.serial_core.specs.SerialRun.{fed}
pub use Rattle.serial_core.specs.declared.node.AnyCore.{AnyCore}
pub use Rattle.serial_core.specs.declared.node.AnyCore.TheVariants.{Demux, Dvr}
pub use Rattle.serial_core.specs.declared.nodes.Nodes.{Nodes}
pub use Rattle.serial_core.specs.declared.run.Left.{Left}
pub use Rattle.serial_core.specs.declared.runner.Runner.{Runner}
pub use Rattle.serial_core.specs.declared.seat.SerialNode.{SerialNode}
pub use Rattle.std.proofs.Common.{Bool, Err, IfOk, IsErrAnd, List, None, Ok, OnErr, Option, Result, Some, [], add-one, ap, append-nil, append_assoc, arith, drop, false, fold, get_or, inl, inr, length, length-append, length-drop, length-take-le, map, min, nat_eq, nat_lt, not, refl, replicate, reverse, set, subst, suc, sym, take, true, vec_len, zero, zero-add, ℕ, ⊎_elim, ◌%◌, ◌*◌, ◌++◌, ◌+◌, ◌-◌, ◌/◌, ◌<◌, ◌==◌, ◌^◌, ◌∙◌, ◌∷◌, ◌≡◌, ◌≢◌, ◌≤◌, ◌⊎◌}
pub use Rattle.std.proofs.Math.Nat.{add-div_right, add-mod_right, div-eq_of_lt, mod-eq_of_lt}
pub use Rattle.std.proofs.Math.Seq.{drop-append_seam, drop-cons, get_or-append_seam, map-set_same, take-append_seam}
pub use Rattle.std.proofs.lemmas.Bool.{cases_lt}
pub use Rattle.std.proofs.lemmas.Bool.Decides.{nat_tests}
pub use Rattle.std.proofs.lemmas.Grind.{flat_map-append}
pub use Rattle.std.proofs.lemmas.List.{drop-drop, drop_all, get_or-map, get_or-replicate, get_or-set_other, get_or-set_same, get_or_append_left, length-map, length-replicate, length-set, map-append, reverse-append, take-append-le, take_all}
pub use Rattle.std.proofs.lemmas.List.Elements.{All-append, All-cons, All-head, All-nil, All-push, All-tail}
pub use Rattle.std.proofs.lemmas.List.Folds.{sum_by-replicate}
pub use Rattle.std.proofs.lemmas.List.FromFn.{get_or-map-range_with_len, length-range_with_len, map-range_with_len_more}
pub use Rattle.std.proofs.lemmas.List.Sums.{get_or-le-sum_by, sum_by-append, sum_by-cons, sum_by-le, sum_by-set}
pub use Rattle.std.proofs.lemmas.Nat.{div-add-mod'}
pub use Rattle.std.proofs.lemmas.Option.{none-some, slice_get-get_or, slice_get-map, slice_get_within}
pub use Rattle.std.proofs.lemmas.Simd.{map-map}
pub use Rattle.std.specs.List.{All}
pub use Rattle.std.specs.Prelude.{IsSome, if◌then◌else◌, is_some, option_map, slice_get, slice_index_or, slice_set, sum, ◌||◌}
pub use Rattle.ts_batch.specs.Batch.{Packets}
