-- Owners that agree on the resources that are there make the same rows of what is shown.
use Rattle.std.proofs.Common.{◌≡◌, ℕ, List, [], Option, Some, None, refl, sym, ap, subst, ◌∙◌}
use Rattle.std.specs.Prelude.{is_some}
use Rattle.std.specs.Option.{option_map_or}
use Rattle.std.specs.Ordering.{nat_cmp}
use Rattle.adr_state.specs.declared.base.Base.{Base}
use Rattle.adr_state.specs.declared.keys.ViewKey.{ViewKey}
use Rattle.adr_state.specs.declared.keys.ViewKey.TheVariants as key
use Rattle.adr_state.specs.declared.portfolio.Resource.{Resource}
use Rattle.adr_view.specs.declared.view.Content.{Content}
use Rattle.adr_view.specs.declared.view.Content.TheVariants as content
use Rattle.adr_view.specs.Laws.{StandsInOrder}
use Rattle.adr_view.specs.Views.{view}
use Rattle.adr_refresh.specs.Maps.{rows_at}
use Rattle.adr_refresh.specs.Sources.{source_of}
use Rattle.adr_refresh.specs.Refresh.{is_kept, kept_view}
use Rattle.adr_refresh.proofs.Common.{All-nil, Contains, InOrder, at, each_there, in_order_filtered, none_sorted, shown_in_order, view_cmp, view_exact, view_total}
use Rattle.adr_refresh.proofs.ListLemmas.{filter_map_same}
use Rattle.adr_refresh.proofs.MapLemmas.{at-rows_at, found}
use Rattle.adr_refresh.proofs.ViewLemmas.{view_of_sources}
use Rattle.adr_db.specs.Bases.{Beside}
use Rattle.adr_kept_view.specs.Columns.{columns_of, shown_row, shown_rows}
use Rattle.adr_kept_view.specs.Changes.{owner_in}
use Rattle.adr_kept_view.specs.KeptViews.{ReadsBack, KeepsView}
use Rattle.adr_kept_view.proofs.OwnerLemmas.{IsThere, resource_there}
use Rattle.adr_kept_base.specs.Bases.{owner_between}
use Rattle.adr_kept_base.specs.Laws.{KeptAsItChanges, KeptOnceRefreshed, KeptOfNothing}

module _ (base : Base) (stands : StandsInOrder base) where
  up : InOrder view_cmp (kept_view base)
  up = in_order_filtered view_cmp (λ r. is_kept (source_of r.0)) (view base) (shown_in_order base)

  -- what is kept at the key of a resource is shown, and the resource is there
  kept_there : (id : List ℕ) (n : ℕ) (c : Content) → Contains (kept_view base) (key.Event id n, c) → IsThere base stands n
  kept_there id n c there =
      let kept : at view_cmp (key.Event id n) (kept_view base) ≡ Some c = found view_total (kept_view base) (key.Event id n, c) up there in
      let shown : at view_cmp (key.Event id n) (kept_view base) ≡ at view_cmp (key.Event id n) (view base) = at-rows_at view_total view_exact (key.Event id n) (λ k. is_kept (source_of k)) (view base) in
      resource_there base stands id n c (sym (view_of_sources base stands (key.Event id n)) ∙ sym shown ∙ kept)

  module _ (one other : ℕ → ℕ) (agree : (n : ℕ) (r : Resource) → at nat_cmp n base.portfolio.resources ≡ Some r → one n ≡ other n) where
    same_row : (k : ViewKey) (c : Content) → Contains (kept_view base) (k, c) → shown_row one (k, c) ≡ shown_row other (k, c)
    same_row (key.Event id n) (content.Event e) there =
        let r = kept_there id n (content.Event e) there in
        ap (λ ven. Some (record { event = id; resource = n }, columns_of ven e)) (agree n r.0 r.1)
    same_row (key.Event id n) (content.Program name) there = refl
    same_row (key.Event id n) (content.Report body) there = refl
    same_row (key.Event id n) (content.Rollup r) there = refl
    same_row (key.Program id) c there = refl
    same_row (key.Report n) c there = refl
    same_row (key.Rollup id) c there = refl

    same_rows : shown_rows one (kept_view base) ≡ shown_rows other (kept_view base)
    same_rows = filter_map_same (shown_row one) (shown_row other) (kept_view base) (each_there (λ r. shown_row one r ≡ shown_row other r) (kept_view base) (λ r there. same_row r.0 r.1 there))

    pub under_other : (beside : Beside) → KeepsView one (kept_view base) beside → KeepsView other (kept_view base) beside
    under_other beside keeps = record {
      in_order = keeps.in_order;
      reads = keeps.reads;
      shown = keeps.shown ∙ same_rows;
      rollups = keeps.rollups;
      stamps_in_order = keeps.stamps_in_order;
      stamped = keeps.stamped;
    }

pub as_it_changes : KeptAsItChanges
as_it_changes beside before after stands stay keeps = (
  under_other before stands (owner_in before.portfolio) (owner_between before.portfolio after.portfolio) agree beside keeps.view,
  λ n r is. sym (agree n r is) ∙ ap (λ o. option_map_or (λ r. r.ven) o 0) is,
  λ n r is. ap (λ o. option_map_or (λ r. r.ven) o (owner_in before.portfolio n)) is,
)
  where
    between : (n : ℕ) (r : Resource) → at nat_cmp n before.portfolio.resources ≡ Some r → (o : Option Resource) → at nat_cmp n after.portfolio.resources ≡ o → owner_in before.portfolio n ≡ option_map_or (λ r. r.ven) o (owner_in before.portfolio n)
    between n r is None gone = refl
    between n r is (Some s) there = ap (λ o. option_map_or (λ r. r.ven) o 0) is ∙ stay n r s is there

    agree : (n : ℕ) (r : Resource) → at nat_cmp n before.portfolio.resources ≡ Some r → owner_in before.portfolio n ≡ owner_between before.portfolio after.portfolio n
    agree n r is = between n r is (at nat_cmp n after.portfolio.resources) refl

pub once_refreshed : KeptOnceRefreshed
once_refreshed owner beside base stands owns keeps stamped = record {
  view = under_other base stands owner (owner_in base.portfolio) (λ n r is. owns n r is ∙ sym (ap (λ o. option_map_or (λ r. r.ven) o 0) is)) beside keeps;
  stamped = stamped;
}

pub of_nothing : KeptOfNothing
of_nothing beside base none shown rollups stamps =
    let nothing : kept_view base ≡ [] = ap (rows_at (λ k. is_kept (source_of k))) none in
    let unstamped : (k : ViewKey) → at view_cmp k beside.stamps ≡ None = λ k. ap (at view_cmp k) stamps in
    let sorted : InOrder view_cmp beside.stamps = subst (InOrder view_cmp) (sym stamps) (none_sorted view_cmp) in
    record {
      view = subst (λ (rows : List (ViewKey × Content)). KeepsView (owner_in base.portfolio) rows beside) (sym nothing) (record {
        in_order = none_sorted view_cmp;
        reads = All-nil ReadsBack;
        shown = shown;
        rollups = rollups;
        stamps_in_order = sorted;
        stamped = λ k kept. ap is_some (unstamped k);
      });
      stamped = record { in_order = sorted; same_keys = λ k. ap is_some (unstamped k) ∙ sym (ap (λ rows. is_some (at view_cmp k rows)) none) };
    }
