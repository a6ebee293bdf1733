-- The words of others that the proofs of this crate use.
pub use Rattle.client_core.specs.Clock.{Clock, HasFollowed, last_pcr, pcr_of, unset}
pub use Rattle.client_core.specs.Commands.{Doing, command_of, IsRequestInRange, IsRequestOf, Slots, commands_among, commands_in, commands_of, ends_drain, ends_wait, plays_of, stands, through}
pub use Rattle.client_core.specs.Events.{Ended, Progress, Standing, next_event, next_of_line, no_slots, progress_from, reading_on, slots_after, standing_at, waits_after, waits_on, with_ended}
unfoldable pub use Rattle.client_core.specs.Events.{progress}
pub use Rattle.client_core.specs.Imports.{Again, Attach as AttachTap, Busy, Command as CommandLine, Cut, Cuts, Cutting, DEMUX_NODES, Detach as DetachTap, Done, Dvr, Feed, HasVerb, IsInRange, IsPacket, IsTargetInRange, IsVerbInRange, IsWantInRange, Keep as KeepTap, Line, Node, Of188, Open, Outcome, Packets, Read, Ready, Response, Scripted, Slot, TapChange, Target, Verb, Want, bytes_counted, flat_map, fresh, option_and_then, option_or, response_of, writes_of, Drain, GetStc, Once, ReadWait, Write}
pub use Rattle.client_core.specs.Inside.Clocks.{AreFew, HasFollowedNode, HaveFollowed, NodeClock, counter_in, counter_of, uncalled}
pub use Rattle.client_core.specs.Inside.Core.{CanBegin, Core, HasTaken, IsAfter, IsCommandInRange, IsCommandOf, IsLate, IsMade, IsSound, ahead, behind, coming, coming_from, next_of, one_if_some, waits_with}
pub use Rattle.client_core.specs.Inside.More.{OneReplyMore, added_by}
pub use Rattle.client_core.specs.Inside.Tasks.{AreSlots, CanAsk, HasClock, HasNextClock, IsCallEnding, IsEndingInRange, IsNextCalling, IsNextInRange, IsNextOf, IsTaskInRange, IsTaskOf}
pub use Rattle.client_core.specs.Outcomes.{Counters, counters_after, kind_by, outcome_by, outcome_of, stc_kind}
pub use Rattle.client_core.specs.Passes.{WritesPass, pass_at, passes_on, played_by, played_from}
unfoldable pub use Rattle.client_core.specs.Passes.{played_writes}
pub use Rattle.client_core.specs.PlayLaws.{AreCompleted, AreCounted, AreJoined, ArePlaced, IsPlayed, StandsAmong, packets_in, whole_by}
pub use Rattle.client_core.specs.Plays.{Batches, HasPlayed, Playing, PlaysOf, batch_at, plays_batch, batch_of, cut_of, joined, most_bytes, plays, plays_from, unplayed, with_write}
pub use Rattle.client_core.specs.Repeats.{CallsAreFew, again, repeats_by, repeats_from}
unfoldable pub use Rattle.client_core.specs.Repeats.{repeats}
pub use Rattle.client_core.specs.Stc.{Exchange, bytes_after, bytes_read, exchanges, exchanges_after, filter_type, is_counter, stc, type_after, with_reply}
pub use Rattle.client_core.specs.Steps.{done, after, doing, event_of, first, first_at, first_on, telling}
pub use Rattle.client_core.specs.declared.command.ClientCommand.{ClientCommand}
pub use Rattle.client_core.specs.declared.current.Current.{Current}
pub use Rattle.client_core.specs.declared.event.Event.{Event}
pub use Rattle.client_core.specs.declared.event.ClientRequest.{ClientRequest}
pub use Rattle.client_core.specs.declared.event.ClientRequest.TheVariants.{Own}
pub use Rattle.client_core.specs.declared.task.Ending.{Ending}
pub use Rattle.client_core.specs.declared.task.Ending.TheVariants.{AllBusy, Asked, Bound, Made, NoNode}
pub use Rattle.client_core.specs.declared.task.Next.{Next}
pub use Rattle.client_core.specs.declared.task.Next.TheVariants.{Still, Through}
pub use Rattle.client_core.specs.declared.task.Task.{Task}
pub use Rattle.client_core.specs.declared.task.Task.TheVariants.{Call, OpenFrom, Play}
pub use Rattle.client_script.specs.Script.{HasWrite, named_by}
pub use Rattle.client_script.specs.declared.line.Line.TheVariants.{Tick}
pub use Rattle.lemmas.proofs.Options.{same_some}
pub use Rattle.std.proofs.Common.{Bool, List, None, Option, Some, [], ap, arith, drop, false, inl, inr, length, length-append, map, nat_eq, refl, replicate, rules, subst, suc, sym, take, true, vec_capacity, zero, ℕ, ◌*◌, ◌++◌, ◌+◌, ◌-◌, ◌<◌, ◌∙◌, ◌∷◌, ◌≡◌, ◌≢◌, ◌≤◌, ◌⊎◌}
pub use Rattle.std.proofs.Math.Seq.{drop-append-add, drop-append_seam, take-add, take-append_seam, take-length}
pub use Rattle.std.proofs.lemmas.Bool.{cases_lt}
pub use Rattle.std.proofs.lemmas.Bool.Decides.{nat_tests}
pub use Rattle.std.proofs.lemmas.Grind.{common_steps, flat_map-append}
pub use Rattle.std.proofs.lemmas.List.{append-nil, append_assoc, drop-drop, get_or-set_other, get_or-set_same, get_or_default, length-drop, length-set, length-take-le, map-append, nil_from_length, take-append-drop, take-append-le, take_all}
pub use Rattle.std.proofs.lemmas.List.Elements.{All-append, All-cons, All-get_or, All-head, All-more, All-nil, All-replicate, All-set, All-tail, All-weaker}
pub use Rattle.std.proofs.lemmas.Option.{none-some, slice_get-get_or}
pub use Rattle.std.specs.List.{All}
pub use Rattle.std.specs.Option.{IfNone, IfSome}
pub use Rattle.std.specs.Prelude.{IsSome, if◌then◌else◌, nat_lt, option_map, slice_get, slice_index_or, slice_set, is_some}
pub use Rattle.ts_packet.proofs.CutLemmas.{cut-append, cut-rest, cut_after-is_rest, cut_after-size}
pub use Rattle.ts_packet.proofs.PieceLemmas.{has-pieces}
pub use Rattle.ts_packet.specs.Cut.{join, only_rest}
unfoldable pub use Rattle.ts_packet.specs.Cut.{cut, cut_after, in_bytes}
pub use Rattle.ts_packet.specs.Cutting.{IsRest}
pub use Rattle.ts_packet.specs.Pieces.{IsPiece, Piece, bytes_of, packet, packets_of, skipped}
pub use Rattle.ts_packet.specs.declared.size.PacketSize.{PacketSize}
