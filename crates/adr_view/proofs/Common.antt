-- Names that the proofs of this crate take from elsewhere.
pub use Rattle.std.proofs.lemmas.Bool.{cond-false, cond_both, false≢true, not-true}
pub use Rattle.std.proofs.lemmas.Cmp.{eq_by_cmp_equiv, nat_cmp_total, nat_eq_equiv}
pub use Rattle.std.proofs.lemmas.List.{append-nil, get_or-map, length-map, map-id}
pub use Rattle.std.proofs.lemmas.List.Elements.{All-append, All-cons, All-contains, All-contains_itself, All-filter, All-from_recursion, All-head, All-map, All-nil, All-tail, All-weaker, filter-append, filter_passes, recursion_from_All}
pub use Rattle.std.proofs.lemmas.Map.Keys.{IsDistinct-from_sorted}
pub use Rattle.std.proofs.lemmas.Map.Lookups.{CmpEqualImpliesEq, exact_bytes, exact_pairs, exact_unsigned}
pub use Rattle.std.proofs.lemmas.Map.Views.{All-keys-insert_entry, All-map-remove_entry, Contains-from_lookup, tells_apart}
pub use Rattle.std.proofs.lemmas.Option.{get_or_from_slice_get, slice_get_within}
pub use Rattle.std.proofs.lemmas.Simd.{map-map}
pub use Rattle.std.specs.BTreeMap.{insert_entry, is_at}
pub use Rattle.std.specs.Cmp.{IsTotalOrder, unsigned_tied}
pub use Rattle.std.specs.List.{All, AllByRecursion, Contains, flat_map}
unfoldable pub use Rattle.std.specs.List.Sorted.{IsStrictlySortedBy}
pub use Rattle.std.specs.Map.{keys_of, remove_entry}
pub use Rattle.std.specs.Ordering.{is_eq, match_ordering, nat_cmp, ordering_reverse}
pub use Rattle.adr_state.specs.Keys.{at, id_cmp, map_of, mirror_cmp, share_cmp, view_cmp, with_rows}
pub use Rattle.adr_state.specs.declared.base.Base.{Base}
