-- The words of others that the proofs of this crate use.
pub use Rattle.client_core.proofs.Joining.{are_counted, are_few, are_joined, are_packets, are_placed, few_in}
pub use Rattle.client_core.proofs.Playing.{has_write}
pub use Rattle.client_core.specs.Commands.{IsRequestInRange}
pub use Rattle.client_core.specs.Plays.{batch_at}
pub use Rattle.client_core.specs.PlayLaws.{IsPlayed as IsPlayedBatch, StandsAmong}
pub use Rattle.client_core.specs.Plays.{HasPlayed, Playing, batch_of, cut_of, joined, with_write}
pub use Rattle.client_core.specs.declared.event.Event.{Event}
pub use Rattle.client_core.specs.declared.event.ClientRequest.TheVariants.{Attach, Detach, Own, Pass}
pub use Rattle.client_script.specs.Script.{AreWritten, IsScript, writes_of}
pub use Rattle.client_script.specs.Writes.{IsWritten}
pub use Rattle.client_script.specs.declared.line.Want.{Want}
pub use Rattle.client_script.specs.declared.line.Want.TheVariants.{Add, Close, Open, Pes, Poll, Read, Remove, Section, Size, Start, Stop}
pub use Rattle.dmx_calls.proofs.Filled.{filled_append, may_at, same_filled}
pub use Rattle.dmx_calls.proofs.Numbered.{demux_rules, dvr_rules}
pub use Rattle.dmx_calls.proofs.Telling.{go_by}
pub use Rattle.dmx_calls.specs.History.{History}
pub use Rattle.dmx_calls.specs.Invocation.{Invocation}
pub use Rattle.dmx_calls.specs.Response.{Passed}
pub use Rattle.dmx_calls.specs.declared.log.Entry.{Entry as ToldEntry}
pub use Rattle.dvr_core.specs.Stands.{CoreValue as DvrValue, StandsFor as DvrStands}
pub use Rattle.lemmas.proofs.Lists.{at_before, at_last, at_place, has_at}
pub use Rattle.lemmas.specs.Lists.{Has}
pub use Rattle.node_core.specs.Stands.{CoreValue as DemuxValue, StandsFor as DemuxStands}
pub use Rattle.report_check.specs.Completed.{complete, feeder_of, of_feeder, renumbered, shown, told_by}
unfoldable pub use Rattle.report_check.specs.Completed.{completed, tiled}
pub use Rattle.report_check.specs.Imports.{Act, All, Batches, Core, DEMUX_NODES, Dvr, Dvr as FromDvr, End as EndAct, Entry, Frontend, Global, HasDone, Input, IsAfter, IsEvent, IsInRange, IsLegalFor, IsPacket, IsReport, IsRequestOf, IsRun, LARGEST_READ, LogEntry, May, NoMemory, Outcome, Pass as PassAct, Read as ReadAct, ClientRequest, Response, Rules, Scripted, Sources, Step, StreamHead, Told, ToldNode, act_of, are_rows, call_of, clients_in, entry_of, filled, filled_act, filled_entry, is_of_client, list_any, next_event, outcomes, own_call, packets_in, pass_of, passing, played, plays_of, range_with_len, replies, report_of, response_of, rules_at, steps_of, text_of, told_entry, told_head, told_of}
pub use Rattle.report_check.specs.Inside.Feeding.{IsFedAlike, are_none, feeds, is_end, or_else, passed_behind, step_of}
pub use Rattle.report_check.specs.Inside.Parts.{AreDoneAs, AreSoundNodes, HasPassed, IsDoneAs, IsPlayed, IsSoundNode, all_played, are_sound, count_for, dealt, is_callable, is_sound, told_node, told_nodes}
pub use Rattle.report_check.specs.Inside.Steps.{IsTaken, asked_at, moment_in}
unfoldable pub use Rattle.report_check.specs.Inside.Steps.{left_on}
pub use Rattle.report_check.specs.Playing.{AreFewPackets, IsCallable, PlaysBy, brought_from}
pub use Rattle.report_check.specs.Right.{IsReportOfRun, IsRightReport, IsRunOf}
pub use Rattle.report_check.specs.Walk.{CanRest, HasWalked, IsRest, of_client, queues_in}
pub use Rattle.report_check.specs.WalkLaws.{AreInPlace}
pub use Rattle.report_read.proofs.WholeAgain.{one_thing}
pub use Rattle.report_read.specs.Ranges.{IsEntryOf, IsNodeInRange}
pub use Rattle.report_read.specs.Report.{IsNoReport, are_nodes, is_whole_node}
pub use Rattle.report_text.specs.Acts.{act_text}
pub use Rattle.report_text.specs.Entries.{caller_text, entry_text, histories_text}
pub use Rattle.report_text.specs.Replies.{response_text}
pub use Rattle.report_text.specs.Report.{clients_text, end_text, row_text, tally_text}
pub use Rattle.report_text.specs.Told.{told_node_text}
pub use Rattle.script_run.proofs.Calls.{asked_more, turn_more}
pub use Rattle.script_run.proofs.Clients.{few_in_all}
pub use Rattle.script_run.proofs.Lists.{at_has, has_filter, of_filter}
pub use Rattle.script_run.proofs.OnNodes.{by_caller, calls_of, calls_on, on_node}
pub use Rattle.script_run.specs.IsRun.{AreAsked, Batch, InTurn, StandsIn, feeding, sources}
pub use Rattle.std.proofs.Common.{Bool, Bor, Decides, List, [], add-one, ap, append-nil, append_assoc, arith, codes, drop, false, get_or, inl, inr, is_some, length, length-append, length-take, map, min, nat_eq, not, refl, reverse, rules, subst, suc, sum, sym, take, take-append-drop, take_all, true, zero, ℕ, ◌*◌, ◌++◌, ◌+◌, ◌-◌, ◌<◌, ◌^◌, ◌∙◌, ◌∷◌, ◌≡◌, ◌≤◌, ◌⊎◌}
pub use Rattle.std.proofs.Math.Seq.{drop-cons, take-append_seam}
pub use Rattle.std.proofs.lemmas.Bool.{cases_lt, false≢true, and_parts}
pub use Rattle.std.proofs.lemmas.Bool.Decides.{nat_tests}
pub use Rattle.std.proofs.lemmas.Grind.{flat_map-append}
pub use Rattle.std.proofs.lemmas.List.{get_or-map, get_or_past, length-drop, length-map, length-set, length-take-le, map-append, map-set, take_more}
pub use Rattle.std.proofs.lemmas.List.Elements.{All-cons, All-get_or, All-head, All-nil, All-push, All-tail, All-weaker}
pub use Rattle.std.proofs.lemmas.List.FromFn.{get_or-map-range_with_len, length-map-range_with_len, map-range_with_len_more}
pub use Rattle.std.proofs.lemmas.List.Sums.{sum_by-cons}
pub use Rattle.std.proofs.lemmas.Option.{get_or_from_slice_get, slice_get-get_or, slice_get-map, slice_get_within}
pub use Rattle.std.proofs.lemmas.Slice.Eq.{slice_eq-Decides}
pub use Rattle.std.specs.Cmp.Lexicographic.{pointwise}
pub use Rattle.std.specs.List.{flat_map}
pub use Rattle.std.specs.Prelude.{Err, IfOk, IfSome, IsSome, MatchOption, None, Ok, Option, Result, Some, Vec, if◌then◌else◌, nat_le, nat_lt, option_map, slice_get, slice_index_or, slice_set, ◌&&◌, ◌||◌, ◌≢◌}
pub use Rattle.text_forms.specs.Names.{node_text}
pub use Rattle.ts_batch.specs.Batch.{Packets}
pub use Rattle.ts_packet.specs.Cut.{cut}
pub use Rattle.ts_packet.specs.declared.size.PacketSize.TheVariants.{Of188}
