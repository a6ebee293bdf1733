-- The words of others that the definitions and clauses of this crate use.
pub use Rattle.atomic_table.specs.Seated.{TableId}
pub use Rattle.dmx_calls.specs.Back.{GivesBack}
pub use Rattle.dmx_calls.specs.Entries.{caller_of, packets_of, told}
pub use Rattle.dmx_calls.specs.Histories.{AreInPlace, histories_of}
pub use Rattle.dmx_calls.specs.History.{Entry, entry_of}
pub use Rattle.dmx_calls.specs.Invocation.{End, Pass}
pub use Rattle.dmx_calls.specs.Legal.{IsLegalFor}
pub use Rattle.dmx_calls.specs.Log.{LogEntry}
pub use Rattle.dmx_calls.specs.Response.{Passed}
pub use Rattle.dmx_calls.specs.Rules.{rules_at}
pub use Rattle.dmx_calls.specs.declared.histories.Fed.{Fed}
pub use Rattle.dmx_calls.specs.declared.limits.TheConstants.{DEMUX_NODES, NODES}
pub use Rattle.dmx_calls.specs.declared.params.Input.TheVariants.{Frontend}
pub use Rattle.lemmas.specs.Lists.{Has}
pub use Rattle.node_lock.specs.Passes.{AreFresh, HasJust, IsFresh, IsSamePass, IsWhole, KnowsItsCalls}
pub use Rattle.node_lock.specs.declared.lock.Held.{Held}
pub use Rattle.node_lock.specs.declared.view.View.{View}
pub use Rattle.std.specs.List.{All, IsDistinct, flat_map}
pub use Rattle.std.specs.List.Sorted.{IsNonDecreasingBy, IsPermutation}
pub use Rattle.std.specs.Option.{option_to_list}
pub use Rattle.ts_batch.specs.Batch.{Packets}
pub use mathlib.Core.List.{IsPrefix}
