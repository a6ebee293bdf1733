-- The words of others that the proofs of this crate use.
pub use Rattle.atomic_table.proofs.Lists.{at_last, at_longer, at_set, exchanged, set_else, set_here}
pub use Rattle.atomic_table.specs.Table.{Act, Allows, Final, Joins, Seen, Splits, Valid, carried_after, gives, keeps, opening, put_back, stepped, takes}
pub use Rattle.lemmas.proofs.Lists.{at_end, has_either, has_left, has_right}
pub use Rattle.node_lock.specs.Imports.{Has, IsPrefix, Me, State, TableId, get_elem?, none, rest, some, step}
pub use Rattle.node_lock.specs.Inside.Kinds.{GetsTurn, TellsCalls, TellsDone, TellsLook, TellsLookAt, TellsTicket, TellsTry, drew, joined, made, missed, sees, split_left, split_right, took_turn}
pub use Rattle.node_lock.specs.Inside.Lists.{Once, longer, tail, up_from}
pub use Rattle.node_lock.specs.Inside.Seats.{HasTicket, IsLive, calls_of, dealt, fresh, lefts, out_of, spent, starting}
pub use Rattle.node_lock.specs.Passes.{AreFresh, HasJust, IsFresh, IsWhole, KeptBegins, KnowsItsCalls, Stands}
pub use Rattle.node_lock.specs.Rule.{EachEntryHasASeat, EachTicketHasASeat, IsOut, IsTrueMiss, LockRule, MachineStands, MissesAreTrue, NumbersAreBounded, OneSeatHasTheTurn, ThereIsOneHistory, Where, home, lies, out}
pub use Rattle.node_lock.specs.declared.view.Miss.{Miss}
pub use Rattle.node_lock.specs.declared.view.Stage.{Stage}
pub use Rattle.node_lock.specs.declared.view.Stage.TheVariants.{Drawn, Free, Turn}
pub use Rattle.node_lock.specs.declared.view.View.{View}
pub use Rattle.std.proofs.Common.{Bool, List, None, Option, Some, [], ap, append_assoc, ap₂, arith, cond, eq-eqb, eqb, false, get_or, inl, inr, length, length-append, length-set, lt_of_not-le, mod-eq_of_lt, nat_lt, ne_eqb, refl, rules, set, subst, suc, sym, true, vec_capacity, vec_len, zero, ℕ, ⊎_elim, ◌%◌, ◌*◌, ◌++◌, ◌+◌, ◌-◌, ◌<◌, ◌^◌, ◌∙◌, ◌∷◌, ◌≡◌, ◌≢◌, ◌≤◌, ◌⊎◌}
pub use Rattle.std.proofs.lemmas.Bool.Decides.{nat_tests}
pub use mathlib.Core.Logic.{dite}
pub use mathlib.Core.Option.{some-injective, some-ne-none}
pub use native.Mathlib.Decide.{dec_le, ℕ_discrete}
pub use prog.Atomic.{either}
