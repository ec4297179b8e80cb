-- Names that the proofs of this crate take from elsewhere.
pub use Rattle.std.proofs.lemmas.Bool.{and_parts, both_ways, cases_Bool, eq-eqb, false_from_ne_true, ne_eqb, not-true, or_cases, or_parts}
pub use Rattle.std.proofs.lemmas.Cmp.{tied_back, tied_itself}
pub use Rattle.std.proofs.lemmas.List.{length-map, map-append}
pub use Rattle.std.proofs.lemmas.List.Sorted.{Contains-permutation, IsPermutation-cons, IsPermutation-map, IsPermutation-middle, IsPermutation-refl, IsPermutation-sym, IsPermutation-trans, length_permutation}
pub use Rattle.std.specs.BTreeMap.{insert_entry, is_at}
pub use Rattle.std.specs.List.{AllByRecursion, AllZip, cons_option, filter_map, flat_map, list_all, list_any}
pub use Rattle.std.specs.Map.{lookup, remove_entry}
pub use Rattle.std.specs.Ordering.{int_cmp, match_ordering, nat_cmp, ordering_reverse, ordering_then}
pub use Rattle.sqlite.proofs.Callers.{command_of, one_permutation, one_step, reads_as, runs_as, statement_of, survives_begin}
pub use Rattle.sqlite.specs.Command.TheVariants.{CreateTable, Delete, InsertOr, Select}
pub use Rattle.sqlite.specs.Does.{AtPlace, Does, OnRows, Tally, lacks_sequence}
pub use Rattle.sqlite.specs.Effect.{Database, IsDatabase, value_rows}
pub use Rattle.sqlite_catalog.specs.Listing.{IsSound}
pub use Rattle.sqlite.specs.Given.{IsPlain}
pub use Rattle.sqlite.specs.Held.{Held, state}
pub use Rattle.sqlite.specs.Listing.{reads_listing, understood}
pub use Rattle.sqlite.specs.State.{Executes, ExecutesInside, FailsToShow, HasCleanDisk, IsRolledBack, IsTooLate, IsUnchanged, KeepsCommit, KeepsCounts, Shows, ShowsRows, State, Survives, mode_of}
unfoldable pub use Rattle.sqlite.specs.State.{FailsToQuery, IsNotRun, Shown}
pub use Rattle.sqlite.specs.Store.{Ghosts}
pub use Rattle.sqlite.specs.declared.error.Error.{Error}
pub use Rattle.sqlite_value.proofs.OrderLemmas.{value_cmp-Int, value_cmp-Text, value_cmp_total}
pub use Rattle.sqlite_value.specs.Keys.{ascending, by_key, first_key, plain, rising}
pub use Rattle.sqlite_value.specs.Order.{Row, column}
unfoldable pub use Rattle.sqlite_value.specs.Order.{value_cmp}
pub use Rattle.sqlite_value.specs.declared.keys.Collation.TheVariants.{Binary}
pub use Rattle.sqlite_value.specs.declared.value.Value.{Value}
pub use Rattle.sqlite_value.specs.declared.value.Value.TheVariants.{Blob, Int, Null, Real, Text}
pub use Rattle.sqlite_rules.proofs.ListLemmas.{all_from, all_has, contains_had, has_contained, has_either, has_filtered, has_got, has_kept, has_left, has_right, some_from, some_has, test_has}
pub use Rattle.sqlite_rules.proofs.PlaceLemmas.{named_parent, row_at_is, tied_same, zip_more}
pub use Rattle.sqlite_rules.proofs.TableLemmas.{int_is, without_all_has}
pub use Rattle.sqlite_rules.specs.Action.{Acts, ActsOn, AreChildren, Goes, Leads, Work, Writes, action_edit, deed_for, is_child_of, loses, max_depth, pairs, work_by, work_for, works}
pub use Rattle.sqlite_rules.specs.Calls.{ids_of}
pub use Rattle.sqlite_rules.specs.Cast.{cast, cast_all, cast_row}
pub use Rattle.sqlite_rules.specs.Edit.{Applies, Edit, edit_of, id_in, is_taken, next_rowid, row_at, taken_by, with_rowid, without_all}
pub use Rattle.sqlite_rules.specs.Lists.{Has}
pub use Rattle.sqlite_rules.specs.declared.error.Rowids.TheVariants.{Above, Chosen, Given}
pub use Rattle.sqlite_sql.proofs.QueryLemmas.{key_cmp_shift, key_cmp_total, output_cmp_total}
pub use Rattle.sqlite_sql.specs.Ops.{from_truth, is_null, is_true}
unfoldable pub use Rattle.sqlite_sql.specs.Ops.{binary, unary}
pub use Rattle.sqlite_sql.specs.Program.{overlay}
pub use Rattle.sqlite_sql.specs.Query.{IsAnswer, IsSureAnswer, Join, Output, Query, counted, end, inner, key_cmp, matches, output, output_cmp, page}
pub use Rattle.sqlite_sql.specs.Term.{Env, Term, case, col, eval, eval_all, holds, lit, op1, op2}
pub use Rattle.sqlite_sql.specs.declared.ops.BinaryOp.TheVariants.{Compare}
pub use Rattle.sqlite_sql.specs.declared.ops.CompareOp.TheVariants.{Eq}
pub use Rattle.sqlite_schema.specs.Rules.{Keeps, ParentKey, agree, equal, guards, has_null, is_held, parent_key}
pub use Rattle.sqlite_schema.specs.declared.schema.Keys.TheVariants.{Deferred, Enforced, Off}
pub use Rattle.sqlite_schema.specs.declared.schema.Schema.{Schema}
pub use Rattle.sqlite_schema.specs.declared.schema.Table.{Table}
pub use Rattle.sqlite_trees.proofs.ListLemmas.{IsPermutation-filter, IsPermutation-flat_map, IsPermutation-flat_map_each, IsPermutation-same, all-append, all-filter, all-flat_map, all-map, all-permutation, all_both, all_of, all_weaker, along_permutation, ascending-append, ascending-filter, ascending-get_or, ascending-map, ascending_from_map, ascending_weaker, filter-map, filter_all, filter_none, filter_same, flat_map-map, map-flat_map, map-map}
pub use Rattle.sqlite_trees.specs.Tree.{IsAscending, IsTable, Trees, has_rowid, put_row, rowid, without_rowid}
pub use Rattle.sqlite_trees.specs.View.{is_int}
pub use Rattle.sqlite_keyed.proofs.ListLemmas.{all_from_test, map_back, none_counted}
