-- The words of others that the proofs of this crate use.
pub use Rattle.client_core.specs.Outcomes.{outcomes, outcomes as outcomes_of}
pub use Rattle.client_script.proofs.Lengthening.{stream_ends_later}
pub use Rattle.client_script.proofs.Parting.{first, front_of}
pub use Rattle.client_script.proofs.Searching.{whole_lines-line, whole_lines-none}
pub use Rattle.client_script.proofs.Spelled.{are_spelled}
pub use Rattle.client_script.proofs.Splitting.{split-found, split-missing}
pub use Rattle.client_script.specs.Grammar.{IsInRange as IsLineInRange, meaning}
pub use Rattle.client_script.specs.Inside.Part.{HasNoFeed}
pub use Rattle.client_script.specs.Script.{IsRead, is_stream, parted, plain, with_said}
pub use Rattle.client_script.specs.declared.fault.ScriptError.TheVariants.{Fault}
pub use Rattle.client_script.specs.declared.line.Line.{Line}
pub use Rattle.client_script.specs.declared.line.Line.TheVariants.{Command as CommandLine, Feed, Tick}
pub use Rattle.client_script.specs.declared.said.Said.{Said}
pub use Rattle.dmx_calls.specs.Histories.{before_entry, feeder_acts, feeder_entries, feeder_entry, woven, woven_from}
pub use Rattle.dmx_calls.specs.Log.{Act}
pub use Rattle.dmx_calls.specs.declared.histories.Fed.{Fed}
pub use Rattle.dmx_calls.specs.declared.call.Call.TheVariants.{End as EndAct}
pub use Rattle.dmx_calls.specs.declared.log.Entry.{Entry as ToldEntry}
pub use Rattle.emu_top.specs.Checking.{Asked, Asks, Declines, EndsInLine, FailsToRead, HasFirstFault, IsAnswer, Judges, SettlesAnswer, asked_behind, asked_in, in_front, script_asked, size_of}
unfoldable pub use Rattle.emu_top.specs.Checking.{asked, answer_text}
pub use Rattle.emu_top.specs.Imports.{All, Appends, Check, Command, Consumes, DEMUX_NODES, Draws, Going, HasGivenAll, IsAccountedRun, IsActInRange, IsAtEnd, IsEntryInRange, IsOutcomeInRange, IsRowInRange, IsRun, IsScript, IsWholeRun, Keeps, Left, LogEntry, Make, NoMemory as NoMemoryToRun, NoStream, Number, Of188, OfStream, Outcome, PacketSize, Parsed, Pulling, Pulls, Run, ScriptError, ScriptFault, Scripted, SelfTest, SinkEnd, SourceEnd, Steps, Stop, StreamHead, TooLong as RunTooLong, all_commands, bytes_written, clients_in, cut, grammar, head_of, histories_in, meant, most_bytes, most_calls, outcomes_in, pass_act, report_of, script_len, split, summary_of, told_by, told_entry, told_head, whole_lines}
unfoldable pub use Rattle.ts_make.specs.Made.{made, packets, payload}
pub use Rattle.emu_top.specs.Inside.Asking.{AsksFor, Begins, IsCutOff, IsWholeOf, wrong_as}
pub use Rattle.emu_top.specs.Inside.Fitting.{AreFitting}
pub use Rattle.emu_top.specs.Inside.Part.{IsUnended}
pub use Rattle.emu_top.specs.Inside.Reporting.{HasReported, report_over}
pub use Rattle.emu_top.specs.Laws.{SerialOutputsAreOfRuns, ThreadOutputsAreOfRuns}
pub use Rattle.emu_top.specs.Serves.{Answers, Checks, Determines, Does, Gives, HasWritten, NoWriteFails, Obeys, Outside, Says, Serves, Tells, WritesFront, WritesWhole, outside}
pub use Rattle.emu_top.specs.Session.{FailsEarly, Holds, IsFaultIn, IsSerialOutput, IsSession, IsSums, IsThreadOutput, Makes, Output, ReadsTo, Refuses, Runs, Takes, status_of_error, status_of_stop}
pub use Rattle.emu_top.specs.declared.status.Status.{Status}
pub use Rattle.emu_top.specs.declared.status.Status.TheVariants.{NoMemory, Ok as Done, ReadFault, Script, TooLong, Usage, WriteFault, Wrong}
pub use Rattle.emu_top.specs.declared.stream.Stream.{Stream}
pub use Rattle.feed_pull.proofs.CutPackets.{are_packets}
pub use Rattle.feed_pull.proofs.Drawing.{draws_none, draws_then}
pub use Rattle.feed_pull.proofs.Stopping.{many_reads}
pub use Rattle.feed_pull.specs.Pulling.{fault_of, given_by, has_failed}
pub use Rattle.feed_pull.specs.declared.fault.Reading.{Reading}
pub use Rattle.feed_pull.specs.declared.fault.Reading.TheVariants.{Ended, Failed, TooMany}
pub use Rattle.report_check.proofs.Lists.{all_at, at_all}
pub use Rattle.report_check.proofs.Right.{right_are_of_runs}
pub use Rattle.report_check.specs.Completed.{shown}
pub use Rattle.report_check.specs.Right.{IsRightReport, IsRunOf}
pub use Rattle.report_read.specs.Ranges.{IsEntryOf, IsInRange, IsNodeInRange}
pub use Rattle.report_text.specs.Entries.{is_of_client}
pub use Rattle.report_text.specs.Inside.Pieces.{AddsPart}
pub use Rattle.script_run.proofs.Clients.{few_in_all}
pub use Rattle.script_run.proofs.Passing.{writes_pass}
pub use Rattle.script_run.specs.Budget.{IsTooLong}
pub use Rattle.section_crc.specs.Crc.{crc}
pub use Rattle.serial_core.proofs.Runs.{are_runs}
pub use Rattle.serial_core.specs.Left.{IsLeftBy}
pub use Rattle.serial_core.specs.SerialRun.{replies_of}
pub use Rattle.std.proofs.Common.{Bool, IsTrue, List, [], add-one, ap, append-nil, append_assoc, arith, codes, drop, false, get_or, inl, inr, length, length-append, length-take-le, map, refl, rules, subst, suc, sym, take, true, zero, ℕ, ◌%◌, ◌*◌, ◌++◌, ◌+◌, ◌-◌, ◌<◌, ◌^◌, ◌∙◌, ◌∷◌, ◌≡◌, ◌≤◌, ◌⊎◌}
pub use Rattle.std.proofs.KnownBytes.{Consumes-trans}
pub use Rattle.std.proofs.lemmas.Bool.{cases_lt, and_parts}
pub use Rattle.std.proofs.lemmas.Bool.Decides.{nat_tests}
pub use Rattle.std.proofs.lemmas.Grind.{common_steps}
pub use Rattle.std.proofs.lemmas.List.{drop-append-le, length-drop, length-map, length-replicate, length-take, take-append-drop, take-append-le, take_all}
pub use Rattle.std.proofs.lemmas.List.Elements.{All-append, All-cons, All-head, All-map, All-more, All-nil, All-tail}
pub use Rattle.std.proofs.lemmas.Option.{slice_get_within}
pub use Rattle.std.proofs.lemmas.Result.{IfErr-weaker, IfOk-weaker}
pub use Rattle.std.specs.Int.{to_be_bytes, w16, w32, w64}
pub use Rattle.std.specs.List.{list_any, range_with_len}
pub use Rattle.std.specs.Option.{option_map}
pub use Rattle.std.specs.Prelude.{Err, IfErr, IfNone, IfOk, IfSome, IsErrAnd, MatchOption, None, Ok, Option, Result, Some, Vec, if◌then◌else◌, is_ok, nat_le, nat_lt, replicate, slice_get, unwrap_or, ⊤, ◌&&◌, ◌↔◌}
pub use Rattle.std.specs.declared.alloc.Global.{Global}
pub use Rattle.ts_make.specs.Made.{carrying, packet_at, section, section_front}
pub use Rattle.ts_make.specs.declared.kind.Kind.{Kind}
pub use Rattle.ts_packet.specs.Counts.{counts}
pub use Rattle.ts_packet.specs.Fields.{IsPacket}
pub use Rattle.ts_watch.proofs.HeadLemmas.{rows-more, rows-none, rows-same}
pub use Rattle.ts_watch.specs.Head.{rows_below}
pub use Rattle.ts_watch.specs.Watching.{row_of}
pub use Rattle.ts_watch.specs.declared.seen.PidRow.{PidRow}
pub use Rattle.workers.specs.Left.{AreWorked}
