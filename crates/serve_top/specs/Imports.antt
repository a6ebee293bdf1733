-- The words of others that the definitions and clauses of this crate use.
pub use Rattle.adapter.specs.Callers.{AreAllCallers, Caller}
pub use Rattle.adapter.specs.Ends.{HaveHistories}
pub use Rattle.adapter.specs.Nodes.{is_in}
pub use Rattle.atomic_table.specs.Seated.{TableId}
pub use Rattle.client_core.specs.Commands.{commands_of}
pub use Rattle.client_script.specs.Script.{Scripted, no_writes}
pub use Rattle.dmx_calls.specs.Calls.{told_entry}
pub use Rattle.dmx_calls.specs.Log.{LogEntry, Sources}
pub use Rattle.dmx_calls.specs.Response.{NoMemory}
pub use Rattle.dmx_calls.specs.declared.histories.Fed.{Fed}
pub use Rattle.dmx_calls.specs.declared.limits.TheConstants.{DEMUX_NODES}
pub use Rattle.dmx_calls.specs.declared.outcome.Outcome.{Outcome}
pub use Rattle.dmx_calls.specs.declared.params.Input.TheVariants.{Dvr, Frontend}
pub use Rattle.emu_io.specs.Ends.{SinkEnd, SourceEnd}
pub use Rattle.feed_pull.specs.Pulling.{IsDone, Pulls, has_failed}
pub use Rattle.feed_pull.specs.declared.fault.Reading.TheVariants.{Going}
pub use Rattle.report_text.specs.Entries.{entry_text}
pub use Rattle.report_text.specs.Report.{report_of}
pub use Rattle.report_text.specs.Told.{text_of}
pub use Rattle.script_run.specs.WholeRun.{IsWholeRun}
pub use Rattle.seats.specs.Calls.{PassesNone}
pub use Rattle.seats.specs.Holding.{HasLeft}
pub use Rattle.seats.specs.Seated.{AreOnNodes}
pub use Rattle.seats.specs.Served.{HaveSat}
pub use Rattle.seats.specs.Spelled.{commands_by}
pub use Rattle.seats.specs.Turns.{HasAnsweredAll, spelled}
pub use Rattle.seats.specs.declared.journal.JournalLine.{JournalLine}
pub use Rattle.seats.specs.declared.journal.KeptJournal.{KeptJournal}
pub use Rattle.seats.specs.declared.run.Desk.{Desk}
pub use Rattle.std.proofs.KnownBytes.{Appends-nil, Appends-trans}
pub use Rattle.std.proofs.lemmas.List.Concat.{flat_map-append}
pub use Rattle.std.specs.Fmt.{decimal}
pub use Rattle.std.specs.Io.KnownBytes.{Appends, Consumes, IsAtEnd}
pub use Rattle.std.specs.List.{flat_map}
pub use Rattle.text_forms.specs.Names.{node_text}
pub use Rattle.ts_packet.specs.Cut.{cut}
pub use Rattle.ts_packet.specs.declared.size.PacketSize.TheVariants.{Of188}
pub use Rattle.ts_watch.specs.Head.{head_of, told_head}
pub use Rattle.workers.specs.Feeding.{HasFedAll}
pub use Rattle.workers.specs.Inside.FeederWork.{HasFedToEnd, HasPassed, MayPass}
pub use Rattle.workers.specs.Telling.{HaveCalled, IsLoggedIn, TellWhatWasCalled}
pub use Rattle.workers.specs.declared.feeder_worker.FeederWorker.{FeederWorker}
pub use denote.Param.Send.{IsSend, IsSync}
