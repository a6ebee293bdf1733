-- The words of others that the proofs of this crate use.
pub use Rattle.dmx_calls.proofs.Going.{begun, more, owner_after, owner_some, tenure_after, tenure_refused}
pub use Rattle.dmx_calls.proofs.Ledgers.{answered_more, edge_cleared, joined_more, over_cleared, over_more, total_more}
pub use Rattle.dmx_calls.proofs.Nodes.{Goes, Keeps, anew, demux_keeps, dvr_keeps, gone, onward}
pub use Rattle.dmx_calls.proofs.Reading.{read_each}
pub use Rattle.dmx_calls.specs.Accounted.{AllFit, DropsRest, Fits}
pub use Rattle.dmx_calls.specs.Answer.{ReadTerms, done_dropping, expired_of, is_for_anybody, is_owned_by, most_bytes, open_response, read_terms, refusal_to, response_of_read, response_to, response_unless, with_call}
pub use Rattle.dmx_calls.specs.Capture.{capture, started, stops, unstopped}
unfoldable pub use Rattle.dmx_calls.specs.Capture.{dvr_capture, live}
pub use Rattle.dmx_calls.specs.Facts.{Facts, Ledger, ledger_at, ledger_of, unread_of}
unfoldable pub use Rattle.dmx_calls.specs.Facts.{facts}
pub use Rattle.dmx_calls.specs.History.{Event, after_of, entry_of, is_empty}
pub use Rattle.dmx_calls.specs.Invocation.{AddPid, Attach, Close, Detach, End, Invocation, Open, Pass, Poll, RemovePid, SetFilter, SetPes, SetSize, Start, Stop, brought}
pub use Rattle.dmx_calls.specs.Items.{Expiry, clock_of, expiry_at, expiry_in, is_named, is_oneshot, is_same_input, item_of, offered_of, packets_in, packets_of, pes_items, picked, selected, selects, timeout_of}
unfoldable pub use Rattle.dmx_calls.specs.Items.{expiry, items, offered, section_items}
pub use Rattle.dmx_calls.specs.Ledger.{edge, edge_of, is_overflow, keeps, misfit, misfit_at, over_in}
unfoldable pub use Rattle.dmx_calls.specs.Ledger.{joined, over}
pub use Rattle.dmx_calls.specs.Legal.{is_done}
pub use Rattle.dmx_calls.specs.Response.{Again, Busy, Data, Done, NoMemory, Overflow, Passed, Ready, TapChange, TimedOut, is_accepted}
pub use Rattle.dmx_calls.specs.Taps.{is_tapped, tapped}
unfoldable pub use Rattle.dmx_calls.specs.Taps.{dvr_items}
pub use Rattle.dmx_calls.specs.Tenure.{Empty, Params, Pes, Section, closes, opens, params, pids, tenure}
unfoldable pub use Rattle.dmx_calls.specs.Tenure.{owner}
pub use Rattle.dmx_calls.specs.declared.params.Input.{Input}
pub use Rattle.dmx_calls.specs.declared.params.Input.TheVariants.{Frontend}
pub use Rattle.dmx_calls.specs.declared.params.Output.{Output}
pub use Rattle.dmx_calls.specs.declared.params.Output.TheVariants.{Decoder, Tap, TsTap, TsdemuxTap}
pub use Rattle.dmx_calls.specs.declared.params.PesParams.{PesParams}
pub use Rattle.dmx_calls.specs.declared.params.SectionParams.{SectionParams}
pub use Rattle.dmx_calls.specs.declared.reply.Errno.{Errno}
pub use Rattle.dmx_calls.specs.declared.reply.Tap.TheVariants.{Keep as KeepTap}
pub use Rattle.lemmas.proofs.Lists.{all_behind, all_front}
pub use Rattle.node_laws.specs.Bytes.{AnswersFitThePackets, OverflowNamesAByte, bytes_answered}
pub use Rattle.node_laws.specs.Imports.{All, Ebadf, Entry, History, IsAccounted, IsLegalFor, IsPacket, May, Misfit, Read, Refused, Response, Rules, Since, answer, answered, answered_in, brought_by, demux, dvr, event, total}
pub use Rattle.node_laws.specs.Laws.{ItemsOnlyGrow, LegalIsAccounted, OverflowNeedsMore, PlayedIsLegal}
pub use Rattle.node_laws.specs.Owning.{AreOthers, HasRead, OthersDoNotRead, OthersLeaveTheOwner, ReadersCallBetween}
pub use Rattle.node_laws.specs.Plays.{answers}
pub use Rattle.section_parse.proofs.WholeLists.{fit}
pub use Rattle.section_parse.specs.Sections.{sections}
pub use Rattle.std.proofs.Common.{Bool, List, None, Option, Some, [], ap, append_assoc, arith, drop, false, inl, inr, length, length-append, length-drop, length-take, map, not, refl, reverse, subst, suc, sym, take, true, zero, ℕ, ◌*◌, ◌++◌, ◌+◌, ◌-◌, ◌<◌, ◌∙◌, ◌∷◌, ◌≡◌, ◌≤◌}
pub use Rattle.std.proofs.Math.Seq.{drop-nil}
pub use Rattle.std.proofs.lemmas.Bool.Decides.{nat_tests}
pub use Rattle.std.proofs.lemmas.List.{append-nil, drop-append-le, reverse-append, take-append-le}
pub use Rattle.std.proofs.lemmas.List.Elements.{All-append, All-filter, All-head, All-tail}
pub use Rattle.std.proofs.lemmas.List.Folds.{concat-append}
pub use Rattle.std.proofs.lemmas.List.Sums.{sum_by-cons}
pub use Rattle.std.specs.List.{concat, list_any}
pub use Rattle.std.specs.Option.{IfSome, MatchOption, option_or}
pub use Rattle.std.specs.Prelude.{filter, filter_map, if◌then◌else◌, is_some, nat_eq, nat_le, nat_lt, option_map, sum_by, ◌≢◌}
pub use Rattle.ts_packet.specs.Fields.{has_payload, payload_start}
pub use native.Mathlib.Decide.{dec_le}
