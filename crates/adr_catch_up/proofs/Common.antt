-- Names that the proofs of this crate take from elsewhere.
pub use Rattle.std.proofs.lemmas.Bool.{both_ways, cond_both, false≢true, true≢false}
pub use Rattle.std.proofs.lemmas.Cmp.{eq_by_cmp_equiv, tied_itself}
pub use Rattle.std.proofs.lemmas.List.{map-append}
pub use Rattle.std.proofs.lemmas.List.Elements.{All-append, All-cons, All-contains, All-head, All-nil, All-tail, All-weaker, Contains-append_cases, Contains-append_left, Contains-append_right}
pub use Rattle.std.proofs.lemmas.Map.Keys.{IsDistinct-from_sorted}
pub use Rattle.std.proofs.lemmas.Map.Views.{All-insert_key, Contains-from_any, Contains-from_lookup, tells_apart}
pub use Rattle.std.proofs.lemmas.Option.{same_Some}
pub use Rattle.std.specs.BTreeMap.{insert_entry, is_at}
pub use Rattle.std.specs.List.{All, AllPairs, Contains, flat_map, list_any}
unfoldable pub use Rattle.std.specs.List.Sorted.{IsStrictlySortedBy}
pub use Rattle.std.specs.Map.{keys_of, lookup}
pub use Rattle.std.specs.Ordering.{is_eq}
pub use Rattle.adr_text.specs.declared.refusal.Refusal.{Refusal}
pub use Rattle.adr_state.specs.declared.base.Base.{Base}
pub use Rattle.adr_state.specs.declared.base.Mark.{Mark}
pub use Rattle.adr_state.specs.declared.base.Mark.TheVariants.{Live, Dead}
pub use Rattle.adr_state.specs.declared.keys.MirrorKey.{MirrorKey}
pub use Rattle.adr_state.specs.declared.limits.Settings.{Settings}
pub use Rattle.adr_state.specs.declared.state.State.{State}
pub use Rattle.adr_state.specs.Keys.{at, map_of, mirror_cmp, with_rows}
pub use Rattle.adr_state.specs.Marks.{is_below}
pub use Rattle.adr_state.specs.Scans.{has_key, is_live, is_probe, probes}
pub use Rattle.adr_state.specs.States.{empty}
pub use Rattle.adr_state.proofs.LawLemmas.{at-insert_entry, equal_from_is, key_order}
pub use Rattle.adr_view.proofs.KeyLemmas.{mirror_exact}
pub use Rattle.adr_view.proofs.OrderLemmas.{InOrder, in_order_filtered, in_order_rows, none_sorted}
pub use Rattle.adr_view.proofs.RowLemmas.{each_there}
pub use Rattle.adr_view.proofs.ListLemmas.{from_flat, from_map, in_filter, in_flat, in_map}
pub use Rattle.adr_queries.specs.declared.answer.Answer.{Answer}
pub use Rattle.adr_machine.specs.declared.command.Command.{Command}
pub use Rattle.adr_machine.specs.Runs.{state_after, step_at, told}
pub use Rattle.adr_laws.specs.Laws.{IsGreatestOf, accepted_evidence, accepted_in, evidence_in}
pub use Rattle.adr_laws.specs.Standing.{state_of}
