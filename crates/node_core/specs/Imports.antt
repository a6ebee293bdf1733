-- The words of others that the definitions and clauses of this crate use.
pub use Rattle.dmx_calls.specs.Answer.{done_dropping, is_for_anybody, is_recording, is_section, response_to}
pub use Rattle.dmx_calls.specs.Back.{GivesBack}
pub use Rattle.dmx_calls.specs.Calls.{invocation_of, params_of, pids_of, response_of}
pub use Rattle.dmx_calls.specs.Capture.{capture, has_flag}
pub use Rattle.dmx_calls.specs.Facts.{Facts, Ledger, facts, has_had_its_section, state_of, state_of_filter}
pub use Rattle.dmx_calls.specs.History.{Entry, Event, History, Since, entry_of}
pub use Rattle.dmx_calls.specs.Invocation.{AddPid, Close, End, Invocation, Open, Pass, Poll, Read, RemovePid, SetFilter, SetPes, SetSize, Start, Stop}
pub use Rattle.dmx_calls.specs.Items.{is_named, is_oneshot, is_same_input, items, offered, packets_in, timeout_of}
pub use Rattle.dmx_calls.specs.Legal.{IsLegal, May}
pub use Rattle.dmx_calls.specs.Refusal.{takes_many}
pub use Rattle.dmx_calls.specs.Response.{Passed, Response, TapChange, is_accepted}
pub use Rattle.dmx_calls.specs.Rules.{demux}
pub use Rattle.dmx_calls.specs.Tenure.{Empty, Params, Pes, Section, params, pids}
pub use Rattle.dmx_calls.specs.declared.limits.TheConstants.{CHECK_CRC, DEMUX_NODES, DEMUX_SIZE, IMMEDIATE_START}
pub use Rattle.dmx_calls.specs.declared.node.NodeKind.TheVariants.{Demux}
pub use Rattle.dmx_calls.specs.declared.params.Input.{Input}
pub use Rattle.dmx_calls.specs.declared.params.Input.TheVariants.{Frontend}
pub use Rattle.dmx_calls.specs.declared.params.Output.{Output}
pub use Rattle.dmx_calls.specs.declared.params.Output.TheVariants.{Decoder, Tap, TsTap, TsdemuxTap}
pub use Rattle.dmx_calls.specs.declared.reply.Tap.TheVariants.{Attach, Detach, Keep}
pub use Rattle.item_select.specs.Items.{Choice, Nothing, Packets, Sections}
pub use Rattle.item_select.specs.Selecting.{Selecting, Selects, after_offer, all_given, begun, begun_again, bytes_held, items_found, kept_after}
pub use Rattle.item_select.specs.declared.selector.Give.TheVariants.{Payload, Whole}
pub use Rattle.node_buffer.specs.Causes.{Causes}
pub use Rattle.node_buffer.specs.Inside.Capturing.{with_items}
pub use Rattle.node_buffer.specs.Inside.Coherent.{CoherentIn, total_of}
pub use Rattle.node_buffer.specs.Inside.Gives.{GivesBy, OrNoMemory, is_close, owner_refusal}
pub use Rattle.pid_set.specs.Pids.{with_pid, without_pid}
pub use Rattle.ts_batch.specs.Places.{is_in}
pub use Rattle.ts_packet.specs.Fields.{IsPacket}
