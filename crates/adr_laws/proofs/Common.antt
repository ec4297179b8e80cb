-- Names that the proofs of this crate take from elsewhere.
pub use Rattle.std.proofs.lemmas.Bool.{and_cases, both_ways, cond_both, false_from_ne_true, false≢true, not-false}
pub use Rattle.std.proofs.lemmas.Cmp.{eq_by_cmp_equiv, nat_cmp_total, ranked}
pub use Rattle.std.proofs.lemmas.List.{length-map, map-append}
pub use Rattle.std.proofs.lemmas.List.Elements.{All-append, All-contains, All-contains_itself, All-filter, All-from_get_or, All-from_recursion, All-head, All-map, All-nil, All-tail, All-weaker, filter-append, recursion_from_All}
pub use Rattle.std.proofs.lemmas.Map.Keys.{IsDistinct-from_sorted, sorted_tail}
pub use Rattle.std.proofs.lemmas.Map.Lookups.{exact_unsigned}
pub use Rattle.std.proofs.lemmas.Map.Views.{All-after_first, Contains-from_lookup, IfSome-lookup_from_All, lookup-from_Contains, tells_apart}
pub use Rattle.std.proofs.lemmas.Option.{get_or_from_slice_get, slice_get_within}
pub use Rattle.std.proofs.lemmas.Simd.{map-map}
pub use Rattle.std.specs.BTreeMap.{insert_entry, is_at}
pub use Rattle.std.specs.Cmp.{IsTotalOrder, unsigned_Decides, unsigned_tied}
pub use Rattle.std.specs.List.{All, AllByRecursion, AllPairs, Contains, flat_map, list_any, zip}
pub use Rattle.std.specs.List.Sorted.{IsNonDecreasing}
unfoldable pub use Rattle.std.specs.List.Sorted.{IsStrictlySortedBy}
pub use Rattle.std.specs.Map.{keys_of, values_of}
pub use Rattle.std.specs.Ordering.{nat_cmp}
pub use Rattle.adr_text.specs.declared.refusal.Refusal.{Refusal}
pub use Rattle.adr_state.specs.BaseChanges.{BaseChange, ChangePortfolio, JoinMarks, SetScan, changed}
pub use Rattle.adr_state.specs.Keys.{at, mirror_cmp, share_cmp, view_cmp}
pub use Rattle.adr_state.specs.Names.{if_free, if_new, is_full, is_taken, is_taken_by_another, resource_name, ven_name}
pub use Rattle.adr_state.specs.States.{empty}
pub use Rattle.adr_state.specs.declared.base.Base.{Base}
pub use Rattle.adr_state.specs.declared.limits.Settings.{Settings}
pub use Rattle.adr_state.specs.declared.state.State.{State}
pub use Rattle.adr_machine.specs.Runs.{IsRun, IsTaken, stands, state_after, step_at, told}
pub use Rattle.adr_machine.specs.declared.command.Command.{Command}
