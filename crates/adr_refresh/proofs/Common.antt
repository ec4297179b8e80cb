-- Names that the proofs of this crate take from elsewhere.
pub use Rattle.std.proofs.lemmas.Bool.{cases_Bool, cond_both, true≢false}
pub use Rattle.std.proofs.lemmas.Cmp.{alike_right, eq_by_cmp_equiv, nat_cmp_total, nat_eq_equiv, nat_list_cmp_total, on_total, then_total, tied_itself}
pub use Rattle.std.proofs.lemmas.List.{append-nil, get_or-map, length-map}
pub use Rattle.std.proofs.lemmas.List.Elements.{All-append, All-cons, All-contains, All-from_recursion, All-head, All-map, All-nil, All-tail, All-weaker, Contains-append_left, Contains-append_right, filter-append, recursion_from_All}
pub use Rattle.std.proofs.lemmas.List.Sums.{fold-append}
pub use Rattle.std.proofs.lemmas.Map.{lookup-none}
pub use Rattle.std.proofs.lemmas.Map.Entries.{lookup-filter-keys, lookup_tail, none_below_head, none_past_head}
pub use Rattle.std.proofs.lemmas.Map.Keys.{IsDistinct-from_sorted}
pub use Rattle.std.proofs.lemmas.Map.Lookups.{CmpEqualImpliesEq, exact_bytes, exact_unsigned}
pub use Rattle.std.proofs.lemmas.Map.Views.{All-insert_key, Contains-from_lookup, lookup-from_Contains, tells_apart}
pub use Rattle.std.proofs.lemmas.Slice.Eq.{bytes_eq-Decides}
pub use Rattle.std.specs.BTreeMap.{insert_entry, is_at}
pub use Rattle.std.specs.BTreeSet.{insert_key}
pub use Rattle.std.specs.Cmp.{IsTotalOrder, unsigned_tied}
pub use Rattle.std.specs.List.{All, AllByRecursion, Contains, cons_option, filter_map, flat_map, list_any}
unfoldable pub use Rattle.std.specs.List.Sorted.{IsStrictlySortedBy}
pub use Rattle.std.specs.Map.{keys_of, lookup, remove_entry}
pub use Rattle.std.specs.Option.{option_map_or, option_or}
pub use Rattle.std.specs.Ordering.{is_eq, match_ordering, nat_cmp, ordering_reverse}
pub use Rattle.adr_state.specs.declared.base.Base.{Base}
pub use Rattle.adr_state.specs.Keys.{at, id_cmp, map_of, mirror_cmp, share_cmp, view_cmp, with_rows}
pub use Rattle.adr_state.proofs.LawLemmas.{at-insert_entry, equal_from_is, key_order}
pub use Rattle.adr_view.proofs.KeyLemmas.{mirror_exact, share_exact, view_exact}
pub use Rattle.adr_view.proofs.OrderLemmas.{Behind, InOrder, in_order_filtered, in_order_put, in_order_rows, made_in_order, none_sorted, through}
pub use Rattle.adr_view.proofs.ListLemmas.{all_filter_map, from_flat, in_filter_map, in_flat, in_map, in_order_append, map_filter_map}
pub use Rattle.adr_view.proofs.RowLemmas.{each_there}
pub use Rattle.adr_view.proofs.ShownLemmas.{shown_in_order, view_total}
