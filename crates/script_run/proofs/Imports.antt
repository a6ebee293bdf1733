-- The words of others that the proofs of this crate use.
pub use Rattle.client_core.proofs.FirstCalls.{first_calls, stays_on}
pub use Rattle.client_core.proofs.Following.{exchanges_more}
pub use Rattle.client_core.proofs.Joining.{are_counted, are_joined, are_packets, are_placed, few_in}
pub use Rattle.client_core.proofs.More.{one_reply_more, repeats_none, some_of}
pub use Rattle.client_core.proofs.Numbering.{verb_plays}
pub use Rattle.client_core.proofs.Steps.{any_first}
pub use Rattle.client_core.proofs.Passing.{by_calls, event_in, first_and_rest, first_passes, no_passes, passed_by, passes_behind, passes_by, writes_pass}
pub use Rattle.client_core.specs.Commands.{Doing, Slots, command_of, commands_among, commands_in, ends_drain, pass_of, stands, through}
pub use Rattle.client_core.specs.Events.{Standing, no_slots, progress_from, slots_after}
unfoldable pub use Rattle.client_core.specs.Events.{progress}
pub use Rattle.client_core.specs.Inside.More.{added_by}
pub use Rattle.client_core.specs.Passes.{pass_at, pass_in, passes_on, played_by, played_from}
unfoldable pub use Rattle.client_core.specs.Passes.{played_writes}
pub use Rattle.client_core.specs.PlayLaws.{StandsAmong, packets_in}
pub use Rattle.client_core.specs.Plays.{PlaysOf, cut_of, joined, plays}
pub use Rattle.client_core.specs.Stc.{exchanges, with_reply}
pub use Rattle.client_core.specs.Steps.{done, first, first_on}
pub use Rattle.client_core.specs.declared.command.ClientCommand.{ClientCommand}
pub use Rattle.client_core.specs.declared.event.ClientRequest.{ClientRequest}
pub use Rattle.client_core.specs.declared.event.ClientRequest.TheVariants.{Own, Pass}
pub use Rattle.client_core.specs.declared.task.Ending.{Ending}
pub use Rattle.client_script.specs.Grammar.{IsInRange}
pub use Rattle.client_script.specs.Script.{clients_of, named_among, named_by, named_in, writes_of}
pub use Rattle.client_script.specs.declared.line.Line.TheVariants.{Feed, Tick, Command}
pub use Rattle.client_script.specs.declared.line.Target.{Target}
pub use Rattle.client_script.specs.declared.line.Verb.{Verb}
pub use Rattle.client_script.specs.declared.line.Verb.TheVariants.{Drain, GetStc, Once, ReadWait, Write}
pub use Rattle.client_script.specs.declared.line.Want.TheVariants.{Open}
pub use Rattle.dmx_calls.proofs.Nodes.{demux_keeps, dvr_keeps}
pub use Rattle.dmx_calls.proofs.Reading.{read_each}
pub use Rattle.dmx_calls.proofs.Telling.{fills}
pub use Rattle.dmx_calls.specs.Answer.{ReadTerms, expired_of, read_terms, refusal_to, response_of_read, response_unless, with_call}
unfoldable pub use Rattle.dmx_calls.specs.Answer.{answer}
pub use Rattle.dmx_calls.specs.Facts.{ledger_at, ledger_of}
unfoldable pub use Rattle.dmx_calls.specs.Facts.{facts}
pub use Rattle.dmx_calls.specs.History.{Entry, History, Since, brought_by, entry_of, event}
pub use Rattle.dmx_calls.specs.Invocation.{Invocation, brought}
pub use Rattle.dmx_calls.specs.Ledger.{answered_in}
pub use Rattle.dmx_calls.specs.Legal.{May}
pub use Rattle.dmx_calls.specs.Log.{IsFrom, filled_entry}
pub use Rattle.dmx_calls.specs.Response.{Again, Busy, Done, Passed, Ready, Refused, TimedOut}
pub use Rattle.dmx_calls.specs.Rules.{Rules, demux, dvr}
unfoldable pub use Rattle.dmx_calls.specs.Rules.{rules_at}
pub use Rattle.dmx_calls.specs.Tenure.{has_ended}
pub use Rattle.dmx_calls.specs.declared.params.Input.{Input}
pub use Rattle.dmx_calls.specs.declared.reply.Errno.{Errno}
pub use Rattle.dmx_calls.specs.declared.reply.Errno.TheVariants.{Ebadf}
pub use Rattle.lemmas.proofs.Lists.{at_end, at_map, at_place, has_at, has_left, has_right, one_value}
pub use Rattle.lemmas.specs.Lists.{Has}
pub use Rattle.node_laws.proofs.Bytes.{demux_answers_fit, dvr_answers_fit}
pub use Rattle.node_laws.proofs.LawsHold.{demux_accounted, dvr_accounted}
pub use Rattle.node_laws.proofs.Owning.{readers_call_between}
pub use Rattle.node_laws.proofs.Pending.{names_a_byte}
pub use Rattle.node_laws.specs.Bytes.{OverflowNamesAByte, bytes_answered}
pub use Rattle.node_laws.specs.Owning.{HasRead}
pub use Rattle.script_run.specs.Budget.{all_commands, bytes_in, bytes_written, most_calls}
pub use Rattle.script_run.specs.Imports.{Act, Batches, Command as CommandLine, DEMUX_NODES, Data, Event, Frontend, IsAccounted, IsLegalFor, IsPacket, Line, LogEntry, NoMemory, Overflow, Packets, Read as ReadAct, Response, Scripted, Sources, act_of, batch_at, call_of, clients_in, commands_of, filled, filled_act, flat_map, next_event, played, plays_of, waits_on}
pub use Rattle.script_run.specs.IsRun.{AreAsked, AreCalls, AreInOrder, Batch, InTurn, IsEvent, StandsIn, Step, feeding, replies, sources, steps_of}
pub use Rattle.script_run.specs.Passing.{WritesPass, from_the_dvr}
pub use Rattle.script_run.specs.SoFar.{CallsArePaid, HasDoneSoFar, IsPaidBehind, IsSoFar, MayPay, Payers, RunsAreAccounted, RunsEnd, commands_for, feeder, others}
pub use Rattle.std.proofs.Common.{Bool, List, None, Option, Some, [], add-one, ap, append-nil, append_assoc, arith, drop, false, filter, fold, inl, inr, length, length-append, length-take, map, max, nat_eq, nat_lt, refl, slice_get, subst, suc, sym, take, true, zero, ℕ, ⊎_elim, ◌*◌, ◌++◌, ◌+◌, ◌-◌, ◌<◌, ◌∙◌, ◌∷◌, ◌≡◌, ◌≢◌, ◌≤◌}
pub use Rattle.std.proofs.Math.Seq.{get_or-append_seam, take-append_seam}
pub use Rattle.std.proofs.lemmas.Bool.Decides.{nat_tests}
pub use Rattle.std.proofs.lemmas.Grind.{flat_map-append}
pub use Rattle.std.proofs.lemmas.List.{length-map, map-append, reverse-append, take-append-le, take_all}
pub use Rattle.std.proofs.lemmas.List.Elements.{All-append, All-cons, All-drop, All-head, All-nil, All-tail, All-take, All-weaker, filter-append}
pub use Rattle.std.proofs.lemmas.List.Sums.{sum_by-cons}
pub use Rattle.std.proofs.lemmas.Option.{slice_get_within}
pub use Rattle.std.specs.List.{All, cons_option, range_with_len}
pub use Rattle.std.specs.Option.{IfSome}
pub use Rattle.std.specs.List.{AllByRecursion}
pub use Rattle.std.specs.Prelude.{IsSome, filter_map, if◌then◌else◌, reverse, sum, unwrap_or, ◌⊎◌}
