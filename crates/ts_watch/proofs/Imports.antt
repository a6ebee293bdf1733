-- The words of others that the proofs of this crate use.
pub use Rattle.std.proofs.Common.{Bool, List, None, Option, Some, [], add-one, ap, arith, false, get_or, inl, inr, length, length-append, refl, replicate, set, suc, sym, true, ℕ, ◌*◌, ◌++◌, ◌+◌, ◌-◌, ◌<◌, ◌==◌, ◌∙◌, ◌∷◌, ◌≡◌, ◌≢◌, ◌≤◌}
pub use Rattle.std.proofs.lemmas.Bool.{cases_eq, cases_lt}
pub use Rattle.std.proofs.lemmas.Bool.Decides.{eqb_tells, nat_tests}
pub use Rattle.std.proofs.lemmas.List.{append-nil, get_or-replicate, get_or-set_other, get_or-set_same, get_or_append_left, get_or_default, get_or_past, get_or_push, length-replicate, length-set}
pub use Rattle.std.proofs.lemmas.List.Elements.{All-nil, All-push, All-set, filter-append}
pub use Rattle.std.proofs.lemmas.List.Folds.{sum_by-replicate}
pub use Rattle.std.proofs.lemmas.List.Sums.{sum_by-cons, sum_by-set}
pub use Rattle.std.specs.List.{filter, last_or, sum_by}
pub use Rattle.std.specs.Prelude.{if◌then◌else◌, nat_lt}
pub use Rattle.ts_packet.proofs.CleanLemmas.{AreAlike, clean-append, last-clean}
pub use Rattle.ts_packet.specs.Clean.{is_usable, joins, repeats}
unfoldable pub use Rattle.ts_packet.specs.Clean.{clean, without_repeats_after}
pub use Rattle.ts_packet.specs.Counts.{is_error_of, is_of}
unfoldable pub use Rattle.ts_packet.specs.Counts.{counts, breaks_after}
pub use Rattle.ts_packet.specs.Cut.{Cut, cut}
pub use Rattle.ts_packet.specs.Cutting.{IsTally}
pub use Rattle.ts_packet.specs.Fields.{error_bit, has_payload, pid_of}
pub use Rattle.ts_packet.specs.declared.cutter.Tally.{Tally}
pub use Rattle.ts_packet.specs.declared.size.PacketSize.{PacketSize}
pub use Rattle.ts_watch.specs.Head.{tally_of, told_head}
unfoldable pub use Rattle.ts_watch.specs.Head.{rows_below, head_of}
pub use Rattle.ts_watch.specs.Watching.{IsSeen, IsWatching, Watched, Watching, kept, kept_of, nothing, row_of, taken}
unfoldable pub use Rattle.ts_watch.specs.Watching.{after}
pub use Rattle.ts_watch.specs.declared.head.Head.{Head}
pub use Rattle.ts_watch.specs.declared.seen.Seen.{Seen}
