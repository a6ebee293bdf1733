-- The words of others that the proofs of this crate use.
pub use Rattle.lemmas.proofs.Tests.{nat_eq_turned}
pub use Rattle.pid_set.specs.Pids.{names_pid}
pub use Rattle.pid_set.specs.declared.set.TheConstants.{ALL_PACKETS}
pub use Rattle.std.proofs.Common.{Bool, List, [], ap, append-nil, append_assoc, arith, drop, false, get_or, inl, inr, length, nat_eq, refl, replicate, slice_range, suc, sym, take, true, zero, zero-add, ℕ, ◌++◌, ◌+◌, ◌-◌, ◌<◌, ◌||◌, ◌∙◌, ◌∷◌, ◌≡◌, ◌≤◌}
pub use Rattle.std.proofs.Math.Bool.{or-false, or-true}
pub use Rattle.std.proofs.Math.Seq.{drop-append_seam}
pub use Rattle.std.proofs.lemmas.Bool.{cases_eq}
pub use Rattle.std.proofs.lemmas.Bool.Decides.{nat_tests}
pub use Rattle.std.proofs.lemmas.List.{drop-append-le, drop_all, drop_more, length-append, length-drop, take-append-le, take_all}
pub use Rattle.std.proofs.lemmas.List.Elements.{All-append, All-more}
pub use Rattle.std.proofs.lemmas.List.Folds.{list_any-append}
pub use Rattle.std.proofs.lemmas.Option.{slice_get_within, unwrap_or-slice_get}
pub use Rattle.std.specs.List.{list_any}
pub use Rattle.std.specs.Prelude.{All, Some, slice_get, unwrap_or}
pub use Rattle.ts_batch.specs.Inside.IsIndex.{IsIndex, IsRun, has_run}
pub use Rattle.ts_batch.specs.Places.{is_in, names, places_of}
unfoldable pub use Rattle.ts_batch.specs.Places.{places_from}
pub use Rattle.ts_batch.specs.declared.index.Index.{Index}
pub use Rattle.ts_batch.specs.declared.index.Run.{Run}
pub use Rattle.ts_packet.specs.Fields.{pid_of}
