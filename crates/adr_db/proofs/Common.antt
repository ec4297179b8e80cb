-- Names that the proofs of this crate and of those above it take from elsewhere.
pub use Rattle.std.proofs.lemmas.Cmp.{alike_right, nat_cmp_total, ranked, tied_itself}
pub use Rattle.std.proofs.lemmas.List.{length-take, map-append, take-map, take_all, take_more}
pub use Rattle.std.specs.BTreeMap.{insert_entry, is_at}
pub use Rattle.std.specs.BTreeSet.{insert_key}
pub use Rattle.std.specs.List.{AllByRecursion, AllZip, cons_option, filter_map, list_all, list_any}
pub use Rattle.std.specs.Option.{option_map, option_map_or}
pub use Rattle.std.specs.Ordering.{MatchOrdering, int_cmp, is_eq, match_ordering, nat_cmp, ordering_reverse, ordering_then}
pub use Rattle.adr_text.specs.Refusals.{Gives, IsRefusalOf}
pub use Rattle.adr_objects.specs.declared.shown.Stamps.{Stamps}
pub use Rattle.adr_text.specs.declared.refusal.Refusal.{Refusal}
pub use Rattle.adr_text.specs.declared.refusal.Refusal.TheVariants.{BadShape, Forbidden, LimitReached, NoScan, OutOfMemory, Store}
pub use Rattle.adr_subscription.specs.declared.kept_sub.Sub.{Sub}
pub use Rattle.adr_state.specs.BaseChanges.{BaseChange, ChangePortfolio, JoinMarks, SetScan, changed}
pub use Rattle.adr_state.specs.Digits.{number_in}
pub use Rattle.adr_state.specs.Evidence.{evidence, gone, joining, open_scan, scan_begin, scan_end, scan_with}
pub use Rattle.adr_state.specs.Keys.{at, id_cmp, kind_cmp, map_of, mirror_cmp, share_cmp, view_cmp}
pub use Rattle.adr_state.specs.Mirror.{evidence_of, joined, key_of, mark_of, raised}
pub use Rattle.adr_state.specs.Names.{if_free, if_new, is_full, is_taken, is_taken_by_another, resource_name, ven_name}
pub use Rattle.adr_state.specs.Portfolios.{DropResource, DropShare, DropSub, DropVen, PortfolioChange, PutResource, PutShare, PutSub, PutVen, is_of_ven, is_sub_of, with_share, without_resource, without_ven}
pub use Rattle.adr_state.specs.Resources.{putting_resource, resource_add, resource_put, resource_remove}
pub use Rattle.adr_state.specs.Scans.{is_live, keys_found, probes}
pub use Rattle.adr_state.specs.Stamping.{fresh, modified_at}
pub use Rattle.adr_state.specs.Vens.{putting_ven, ven_add, ven_put, ven_remove}
pub use Rattle.adr_state.specs.declared.base.Base.{Base}
pub use Rattle.adr_state.specs.declared.base.Mark.{Mark}
pub use Rattle.adr_state.specs.declared.base.Mark.TheVariants.{Dead, Live}
pub use Rattle.adr_state.specs.declared.keys.MirrorKey.{MirrorKey}
pub use Rattle.adr_state.specs.declared.keys.ShareKey.{ShareKey}
pub use Rattle.adr_state.specs.declared.keys.ViewKey.{ViewKey}
pub use Rattle.adr_state.specs.declared.limits.Limits.{Limits}
pub use Rattle.adr_state.specs.declared.participants.Participant.{Participant}
pub use Rattle.adr_state.specs.declared.portfolio.Report.{Report}
pub use Rattle.adr_state.specs.declared.portfolio.Resource.{Resource}
pub use Rattle.adr_state.specs.declared.portfolio.Ven.{Ven}
pub use Rattle.adr_sql.proofs.Joins.{IsSelectText, join_runs, named_is, order_from}
pub use Rattle.adr_sql.proofs.Keys.{and_true, are_full, equal_is, same_bool, then_eq, ties}
pub use Rattle.adr_sql.proofs.Maps.{entry_found, fold_keys, insert_key_is, is_text, keys_alone, keys_back, number_key, number_text_key, number_text_number_key, text_key, text_number_key, text_passes, text_same, then_none}
pub use Rattle.adr_sql.proofs.Places.{seen, stores_at}
pub use Rattle.adr_sql.proofs.Removals.{IsRemoveText}
pub use Rattle.adr_sql.proofs.Selections.{absent_key, equalities, first_columns, first_runs, is_found, pairs_from, passes, read_runs, select_runs, selection, whole_rows}
pub use Rattle.adr_sql.proofs.Transactions.{holds_now, holds_still, lent_itself, lent_then}
pub use Rattle.adr_sql.proofs.Upserts.{IsUpsertText, upsert_runs}
pub use Rattle.adr_sql.proofs.Values.{AreValues}
pub use Rattle.adr_sql.specs.Calls.{Changes, Commits, Runs, Stays, LeavesLent}
pub use Rattle.adr_sql.specs.Contents.{Contents, Holds, StoresEach, rows_of_table, with_table}
pub use Rattle.adr_sql.specs.Keys.{cells, has_key, key_order, with_row}
pub use Rattle.adr_sql.specs.Schemas.{cascades_to, no_schema}
pub use Rattle.sqlite.proofs.Callers.{memory_is_clean}
pub use Rattle.sqlite.specs.Held.{Held, state}
unfoldable pub use Rattle.sqlite.specs.Listing.{understood}
pub use Rattle.sqlite.specs.State.{Executes, HasCleanDisk, Shown, State}
pub use Rattle.sqlite.specs.Steps.{IsEmpty, over_memory}
pub use Rattle.sqlite.specs.Store.{Ghosts}
unfoldable pub use Rattle.sqlite_tied.specs.Compute.{everything}
pub use Rattle.sqlite_value.proofs.OrderLemmas.{value_cmp-Int, value_cmp-Text}
pub use Rattle.sqlite_value.specs.Order.{Row, column, value_cmp}
pub use Rattle.sqlite_value.specs.declared.value.Value.TheVariants.{Blob, Int, Null, Real, Text}
pub use Rattle.sqlite_keyed.proofs.ListLemmas.{map_back}
pub use Rattle.sqlite_rules.specs.Lists.{Has}
pub use Rattle.sqlite_sql.specs.Query.{Join, Query, counted, end, inner, matches}
pub use Rattle.sqlite_sql.specs.Term.{Env, Term, col, eval_all, holds, lit, op1, op2}
pub use Rattle.sqlite_trees.proofs.ListLemmas.{all-map, all_of, all_weaker, ascending_from_map, ascending_weaker, filter-map, filter_all, flat_map-map, flat_map_none, map-map}
pub use Rattle.sqlite_trees.specs.Tree.{IsAscending, Trees}
