-- The words of others that the proofs of this crate use.
pub use Rattle.feed_pull.specs.Imports.{Cuts, Cutting, IsAtEnd, IsRest, IsTally, Option, PacketSize, SourceEnd, Watched, Watching, bytes_counted, cut, fresh}
pub use Rattle.feed_pull.specs.Pulling.{IsDone, IsNear, IsPulling, Pulling, Pulls, given_by, has_failed}
pub use Rattle.feed_pull.specs.Steps.{Carries, Follows, Gathers, Goes, HasGiven, Reads, ReadsNothing, found_with, with_room, work}
pub use Rattle.feed_pull.specs.Streams.{Draws, OfStream}
pub use Rattle.feed_pull.specs.declared.fault.Reading.{Reading}
pub use Rattle.feed_pull.specs.declared.fault.Reading.TheVariants.{Ended, Failed, Going, TooMany}
pub use Rattle.std.proofs.Common.{Bool, Err, IfOk, IfSome, IsTrue, List, None, Ok, OnErr, Result, Some, [], ap, append-nil, append_assoc, arith, drop, false, if◌then◌else◌, inl, inr, length, length-append, nat_le, refl, rules, subst, suc, sym, take, true, zero, ℕ, ◌*◌, ◌++◌, ◌+◌, ◌-◌, ◌<◌, ◌==◌, ◌∙◌, ◌∷◌, ◌≡◌, ◌≢◌, ◌≤◌, ◌⊎◌}
pub use Rattle.std.proofs.KnownBytes.{Consumes-nil, Consumes-trans}
pub use Rattle.std.proofs.Math.Seq.{take-append_seam}
pub use Rattle.std.proofs.lemmas.Bool.{cases_lt}
pub use Rattle.std.proofs.lemmas.Bool.Decides.{nat_tests}
pub use Rattle.std.proofs.lemmas.List.{drop-drop, drop-take, length-drop, length-take, length-take-le, nil_from_length, take-append-drop, take-append-le}
pub use Rattle.std.proofs.lemmas.List.Elements.{All-cons, All-nil}
pub use Rattle.std.specs.Prelude.{All, ◌↔◌}
pub use Rattle.ts_batch.specs.Room.{Gathered}
pub use Rattle.ts_packet.proofs.CutLemmas.{Cuts-none, Cuts-then, at_least, cut-append, cut-rest, cut_after-is_rest, cut_after-size, length-grown, packets-then}
pub use Rattle.ts_packet.specs.Cut.{in_bytes, only_rest, packet_before, skip_before}
pub use Rattle.ts_packet.specs.Fields.{IsPacket}
pub use Rattle.ts_packet.specs.declared.cutter.Tally.{Tally}
pub use Rattle.ts_watch.proofs.HeadLemmas.{head-is}
