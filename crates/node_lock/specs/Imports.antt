-- The words of others that the definitions and clauses of this crate use.
pub use Rattle.atomic_table.specs.Seated.{TableId}
pub use Rattle.atomic_table.specs.Table.{Me, State, Step, rest, step}
pub use Rattle.lemmas.specs.Lists.{Has}
pub use lib.ListN.{get_elem?}
pub use mathlib.Core.List.{IsPrefix}
pub use mathlib.Core.Option.{none, some}
