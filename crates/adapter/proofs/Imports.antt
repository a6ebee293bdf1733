-- The words of others that the proofs of this crate use.
pub use Rattle.adapter.specs.Callers.{AreAllCallers, AreFreshCallers, Caller, IsFreshCaller, IsSameCaller, SomeIs}
pub use Rattle.adapter.specs.Ends.{AreHistories, IsHistory, rows_of}
pub use Rattle.adapter.specs.Imports.{AreFresh, AreInPlace, DEMUX_NODES, DEMUX_NODES as nodes, End, Entry, Frontend, Has, HasJust, Held, IsFresh, IsLegalFor, IsNonDecreasingBy, IsPermutation, IsPrefix, IsSamePass, KnowsItsCalls, Packets, Pass, Passed, TableId, View, caller_of, entry_of, option_to_list, rules_at, told}
pub use Rattle.adapter.specs.Inside.Held.{AreMine}
pub use Rattle.adapter.specs.Inside.Making.{AreFreshClients, AreLastFirst}
pub use Rattle.adapter.specs.Inside.Placing.{StandAtTheirPlaces, entries_on, length_on}
pub use Rattle.adapter.specs.Merging.{AreByPlace, AreDealt, AreOnNodes, AreSorted, all_of, is_on}
pub use Rattle.adapter.specs.Nodes.{IsLegalAt, is_in}
pub use Rattle.adapter.specs.Rows.{AllCall, AllDealt, AllJoin, AreAll, AreAllRows, AreFreshRows, AreGathered, AreSamePasses, EachBegins, Fits, IsFreshRow, IsGathered, MayCall, MayCallAt, OneCalls, OneJoins, OneLook, OneLooks, OneMiss, OneMisses, OneMore, SomeHas, all_calls, column}
pub use Rattle.adapter.specs.declared.boxed.Boxed.{Boxed}
pub use Rattle.dmx_calls.proofs.Lasts.{last_may}
pub use Rattle.dmx_calls.proofs.Numbered.{demux_rules, dvr_rules}
pub use Rattle.dmx_calls.proofs.Telling.{go_by}
pub use Rattle.dmx_calls.proofs.Weaving.{woven-length, woven_nodes-at}
pub use Rattle.dmx_calls.specs.Calls.{response_of, told_entry}
pub use Rattle.dmx_calls.specs.Histories.{before_entry, feeder_acts, feeder_entries, feeder_entry, pass_act, woven, woven_from}
pub use Rattle.dmx_calls.specs.Response.{Response}
pub use Rattle.dmx_calls.specs.Rules.{Rules}
pub use Rattle.dmx_calls.specs.Log.{Act}
pub use Rattle.dmx_calls.specs.declared.call.Call.TheVariants.{End as EndAct}
pub use Rattle.dmx_calls.specs.declared.log.Entry.{Entry as ToldEntry}
pub use Rattle.dmx_calls.specs.declared.params.Input.{Input}
pub use Rattle.dvr_core.specs.Stands.{CoreValue as DvrValue, StandsFor as DvrStandsFor}
pub use Rattle.lemmas.proofs.Lists.{all_front, has_left, has_right}
pub use Rattle.lemmas.proofs.Tests.{nat_eq_turned}
pub use Rattle.node_core.specs.Stands.{CoreValue, StandsFor}
pub use Rattle.node_lock.proofs.Views.{prefix_trans}
pub use Rattle.std.proofs.Common.{All, Bool, List, None, Option, Some, [], ap, append_assoc, arith, cond, false, filter, get_or, if◌then◌else◌, inl, inr, length, length-append, length-set, map, nat_eq, nat_lt, option_map, refl, reverse, rules, set, slice_get, slice_index, slice_index_or, subst, suc, sym, true, vec_len, zero, ℕ, ⊎_elim, ◌*◌, ◌++◌, ◌+◌, ◌-◌, ◌<◌, ◌^◌, ◌∙◌, ◌∷◌, ◌≡◌, ◌≢◌, ◌≤◌, ◌⊎◌}
pub use Rattle.std.proofs.Math.Nat.{suc-mul}
pub use Rattle.std.proofs.Math.Seq.{get_or-append_seam, set-append_seam}
pub use Rattle.std.proofs.lemmas.Bool.Decides.{nat_tests}
pub use Rattle.std.proofs.lemmas.List.{get_or-map, get_or-set_other, get_or-set_same, length-map, map-append, map-set, reverse-append, set-append_left}
pub use Rattle.std.proofs.lemmas.List.Elements.{filter-append}
pub use Rattle.std.proofs.lemmas.List.Sorted.{All-permutation, IsNonDecreasingBy-from_sort_by_key, IsPermutation-map, IsPermutation-reverse, IsPermutation-trans, length_permutation}
pub use Rattle.std.proofs.lemmas.Map.Keys.{IsDistinct-IsPermutation}
pub use Rattle.std.proofs.lemmas.Option.{get_or_from_slice_get, slice_get-get_or, slice_get-map, slice_get_read, slice_get_within}
pub use Rattle.std.proofs.lemmas.Result.{IfErr-weaker, IfOk-weaker}
pub use Rattle.std.specs.Prelude.{Err, IfErr, IfOk, Ok, Result}
pub use Rattle.std.specs.Result.{is_ok}
pub use mathlib.Core.Logic.{dite}
pub use native.Mathlib.Decide.{ℕ_discrete}
