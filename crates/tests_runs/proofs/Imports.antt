-- The words of others that the proofs of this crate use.
pub use Rattle.adapter.proofs.Lists.{at_before, at_last}
pub use Rattle.adapter.proofs.Pairs.{caller_fits}
pub use Rattle.adapter.specs.Callers.{AreFreshCallers, Caller}
pub use Rattle.atomic_table.specs.Seated.{TableId}
pub use Rattle.command_words.specs.declared.Command.{Command}
pub use Rattle.command_words.specs.declared.Command.TheVariants.{Run, Steps}
pub use Rattle.lemmas.proofs.Lists.{has_left, has_right}
pub use Rattle.lemmas.specs.Lists.{Has}
pub use Rattle.node_lock.specs.Passes.{AreFresh, IsFresh, IsSamePass}
pub use Rattle.node_lock.specs.declared.view.View.{View}
pub use Rattle.seats.specs.Seated.{AreReady, IsReadyToHand}
pub use Rattle.seats.specs.declared.run.Desk.{Desk}
pub use Rattle.std.proofs.Common.{Err, Global, IfOk, List, Ok, Result, Some, Vec, [], ap, arith, codes, inl, inr, length, length-append, map, refl, rules, slice_get, subst, sym, ℕ, ⊎_elim, ◌++◌, ◌+◌, ◌<◌, ◌^◌, ◌∙◌, ◌∷◌, ◌≡◌, ◌≢◌, ◌⊎◌}
pub use Rattle.std.proofs.lemmas.List.Elements.{All-pop}
pub use Rattle.std.proofs.lemmas.Option.{slice_get-get_or, slice_get-map}
pub use Rattle.std.specs.Option.{option_to_list}
pub use Rattle.std.specs.Prelude.{All, Option, option_map, slice_index_or}
pub use Rattle.std.specs.Result.{result_ok}
pub use Rattle.ts_packet.specs.declared.size.PacketSize.{PacketSize}
pub use Rattle.ts_packet.specs.declared.size.PacketSize.TheVariants.{Of188}
pub use denote.Shadow.{shadow}
pub use denote.Text.{Utf8}
pub use mathlib.Core.Logic.{dite}
pub use native.Mathlib.Decide.{ℕ_discrete}
