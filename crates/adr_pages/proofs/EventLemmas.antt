-- The rows that are kept of shown events tell what the view does.
use Rattle.std.proofs.Common.{◌≡◌, ℕ, ◌==◌, Bool, true, false, cond, ◌&&◌, List, [], ◌∷◌, ◌++◌, filter, Option, Some, None, Err, refl, sym, ap, ap₂, subst, ◌∙◌}
use Rattle.std.specs.Prelude.{is_some, option_map, option_and_then}
use Rattle.std.specs.List.{All, Contains, filter_map, cons_option}
use Rattle.std.specs.Option.{option_map_or}
use Rattle.std.proofs.lemmas.List.Elements.{All-append, All-cons, All-contains, All-filter, All-head, All-nil, All-tail, filter-append, filter_map-append}
use Rattle.sqlite.specs.State as sql
use Rattle.adr_text.specs.declared.refusal.Refusal.TheVariants.{Forbidden}
use Rattle.adr_objects.specs.declared.kind.Kind.TheVariants as kind
use Rattle.adr_objects.specs.declared.shown.ShownEvent.{ShownEvent}
use Rattle.adr_objects.specs.declared.shown.Stamps.{Stamps}
use Rattle.adr_state.specs.declared.keys.ViewKey.{ViewKey}
use Rattle.adr_state.specs.declared.keys.ViewKey.TheVariants as key
use Rattle.adr_state.specs.declared.portfolio.Resource.{Resource}
use Rattle.adr_state.specs.declared.state.State.{State}
use Rattle.adr_state.specs.ShownIds.{resource_part, event_part, id_in, resource_named}
use Rattle.adr_view.specs.declared.sight.Sight.{Sight}
use Rattle.adr_view.specs.declared.sight.Sight.TheVariants as sight
use Rattle.adr_view.specs.declared.view.Content.{Content}
use Rattle.adr_view.specs.declared.view.Content.TheVariants as content
use Rattle.adr_view.specs.Laws.{StandsInOrder}
use Rattle.adr_view.specs.Sights.{sees_ven, owner_in as owner_seen}
use Rattle.adr_view.specs.Views.{view}
use Rattle.adr_event_text.specs.Kept.{kept_as}
use Rattle.adr_queries.specs.declared.answer.Object.{Object}
use Rattle.adr_queries.specs.declared.answer.Object.TheVariants as object
use Rattle.adr_queries.specs.declared.filter.EventFilter.{EventFilter}
use Rattle.adr_queries.specs.Filters.{is_wanted}
use Rattle.adr_queries.specs.Listings.{page_of}
use Rattle.adr_queries.specs.Shown.{is_of, sees, object_of, object_at, object_shown, told, event_shown as shown_of_view, event_told as told_of_view, event_named as named_of_view}
use Rattle.adr_refresh.specs.Sources.{source_of}
use Rattle.adr_refresh.specs.Refresh.{is_kept, kept_view}
use Rattle.adr_refresh.proofs.Common.{at, each_there, shown_in_order, view_cmp, view_exact, view_total, in_order_filtered}
use Rattle.adr_refresh.proofs.MapLemmas.{at-rows_at, found}
use Rattle.adr_refresh.proofs.ViewLemmas.{view_of_sources}
use Rattle.adr_view.proofs.ListLemmas.{in_filter}
use Rattle.adr_db.specs.declared.shown.ShownColumns.{ShownColumns}
use Rattle.adr_db.specs.declared.shown.ShownKey.{ShownKey}
use Rattle.adr_db.specs.ShownKeys.{shown_cmp}
use Rattle.adr_kept_view.specs.Changes.{owner_in}
use Rattle.adr_kept_view.specs.Columns.{columns_of, shown_row, shown_rows}
use Rattle.adr_kept_view.specs.KeptViews.{ReadsBack}
use Rattle.adr_kept_view.proofs.FoundLemmas.{kept_part}
use Rattle.adr_kept_view.proofs.OwnerLemmas.{IsThere, at_there, resource_there}
use Rattle.adr_kept_view.proofs.RowLemmas.{at-shown_rows}
use Rattle.adr_held.specs.Held.{kept_of, HoldsState}
use Rattle.adr_held.proofs.HeldLemmas.{held_keeps}
use Rattle.adr_lent.specs.Pages.{kept_for, wants_row}
use Rattle.adr_lent.proofs.Cuts.{Makes, part_made}
use Rattle.adr_pages.specs.Objects.{event_key, object_with, object_kept, shown_kept, event_shown, event_told, event_named}
use Rattle.adr_pages.specs.Laws.{EventsAreTheirRows, EventIsItsRow}

kept_for_both : (ven : Option ℕ) (xs ys : List (ShownKey × ShownColumns)) → kept_for ven (xs ++ ys) ≡ kept_for ven xs ++ kept_for ven ys
kept_for_both None xs ys = refl
kept_for_both (Some ven) xs ys = filter-append (λ (e : ShownKey × ShownColumns). e.1.ven == ven) xs ys

module _ (s : sql.State) (held : State) (holds : HoldsState held s) where
  stands : StandsInOrder held.base
  stands = (held_keeps s held holds).0

  abbrev owner : ℕ → ℕ
  owner = owner_in held.base.portfolio

  -- what is shown has stamps
  stamps_there : (k : ViewKey) (c : Content) → Contains (view held.base) (k, c) → (stamps : Stamps) × (at view_cmp k held.stamps ≡ Some stamps)
  stamps_there k c there = by (at view_cmp k held.stamps) refl (holds.right.stamped.same_keys k ∙ ap is_some (found view_total (view held.base) (k, c) (shown_in_order held.base) there))
    where
      by : (o : Option Stamps) → at view_cmp k held.stamps ≡ o → is_some (at view_cmp k held.stamps) ≡ true → (stamps : Stamps) × (at view_cmp k held.stamps ≡ Some stamps)
      by None is there = absurd (let none : is_some {T = Stamps} None ≡ true = subst (λ o. is_some o ≡ true) is there in cc)
      by (Some stamps) is there = (stamps, is)

  -- a row of the view as it is kept
  abbrev keeps : ViewKey × Content → Bool
  keeps r = is_kept (source_of r.0)

  module _ (sees_this : Sight) (wanted : EventFilter) where
    abbrev seen : ViewKey × Content → Bool
    seen r = is_of kind.Event r.0 && sees held.base sees_this r.0

    -- what is listed of rows of the view, and the rows that are kept for it
    abbrev listed : List (ViewKey × Content) → List Object
    listed rows = filter (is_wanted wanted) (filter_map (object_at held.stamps) (filter seen rows))

    abbrev selected : List (ViewKey × Content) → List (ShownKey × ShownColumns)
    selected rows = filter (λ e. wants_row wanted e.1) (kept_for (owner_seen sees_this) (shown_rows owner (filter keeps rows)))

    listed_both : (xs ys : List (ViewKey × Content)) → listed (xs ++ ys) ≡ listed xs ++ listed ys
    listed_both xs ys =
        ap (λ rows. filter (is_wanted wanted) (filter_map (object_at held.stamps) rows)) (filter-append seen xs ys)
        ∙ ap (filter (is_wanted wanted)) (filter_map-append (object_at held.stamps) (filter seen xs) (filter seen ys))
        ∙ filter-append (is_wanted wanted) (filter_map (object_at held.stamps) (filter seen xs)) (filter_map (object_at held.stamps) (filter seen ys))

    selected_both : (xs ys : List (ViewKey × Content)) → selected (xs ++ ys) ≡ selected xs ++ selected ys
    selected_both xs ys =
        let pick : List (ViewKey × Content) → List (ShownKey × ShownColumns) = λ rows. kept_for (owner_seen sees_this) (shown_rows owner rows) in
        ap (λ rows. filter (λ e. wants_row wanted e.1) (pick rows)) (filter-append keeps xs ys)
        ∙ ap (λ rows. filter (λ e. wants_row wanted e.1) (kept_for (owner_seen sees_this) rows)) (filter_map-append (shown_row owner) (filter keeps xs) (filter keeps ys))
        ∙ ap (filter (λ (e : ShownKey × ShownColumns). wants_row wanted e.1)) (kept_for_both (owner_seen sees_this) (shown_rows owner (filter keeps xs)) (shown_rows owner (filter keeps ys)))
        ∙ filter-append (λ (e : ShownKey × ShownColumns). wants_row wanted e.1) (pick (filter keeps xs)) (pick (filter keeps ys))

    -- the rows that are kept tell the same, each of them
    record TellsAlike (rows : List (ViewKey × Content)) : Type 0 where
      same : listed rows ≡ filter_map (object_kept held.stamps) (selected rows)
      each : All (Makes (object_kept held.stamps)) (selected rows)

    nothing_told : (row : ViewKey × Content) → listed (row ∷ []) ≡ [] → selected (row ∷ []) ≡ [] → TellsAlike (row ∷ [])
    nothing_told row none no_row = record {
      same = none ∙ sym (ap (filter_map (object_kept held.stamps)) no_row);
      each = subst (All (Makes (object_kept held.stamps))) (sym no_row) (All-nil (Makes (object_kept held.stamps)));
    }

    -- one shown event
    module _ (id : List ℕ) (n : ℕ) (e : ShownEvent) (there : Contains (view held.base) (key.Event id n, content.Event e)) where
      abbrev r : ViewKey × Content
      r = (key.Event id n, content.Event e)

      abbrev row : ShownKey × ShownColumns
      row = (record { event = id; resource = n }, columns_of (owner n) e)

      its_stamps : (stamps : Stamps) × (at view_cmp (key.Event id n) held.stamps ≡ Some stamps)
      its_stamps = stamps_there (key.Event id n) (content.Event e) there

      its_resource : IsThere held.base stands n
      its_resource = resource_there held.base stands id n (content.Event e) (sym (view_of_sources held.base stands (key.Event id n)) ∙ found view_total (view held.base) (key.Event id n, content.Event e) (shown_in_order held.base) there)

      abbrev one : Object
      one = object.Event (kept_as n id e its_stamps.0)

      as_shown : object_at held.stamps r ≡ Some one
      as_shown = ap (λ o. option_and_then (object_of (key.Event id n) (content.Event e)) o) its_stamps.1

      as_kept : object_kept held.stamps row ≡ Some one
      as_kept = ap (option_map (object_with (record { event = id; resource = n }) (columns_of (owner n) e))) its_stamps.1

      picked : (b : Bool) → filter_map (object_kept held.stamps) (cond b (row ∷ []) []) ≡ cond b (one ∷ []) []
      picked true = ap (λ o. cons_option o []) as_kept
      picked false = refl

      -- where it is in sight, and where it is not
      told_by : (b : Bool) → filter (is_wanted wanted) (filter_map (object_at held.stamps) (cond b (r ∷ []) [])) ≡ filter_map (object_kept held.stamps) (filter (λ e. wants_row wanted e.1) (cond b (row ∷ []) []))
      told_by true =
          ap (λ o. filter (is_wanted wanted) (cons_option o [])) as_shown
          ∙ sym (picked (wants_row wanted row.1))
      told_by false = refl

      each_by : (b : Bool) → All (Makes (object_kept held.stamps)) (filter (λ e. wants_row wanted e.1) (cond b (row ∷ []) []))
      each_by true = All-filter (λ e. wants_row wanted e.1) (Makes (object_kept held.stamps)) (row ∷ []) (All-cons (Makes (object_kept held.stamps)) row [] (ap is_some as_kept) (All-nil (Makes (object_kept held.stamps))))
      each_by false = All-nil (Makes (object_kept held.stamps))

      -- whose it is, by the columns and by the resource
      abbrev mine : Sight → Bool
      mine sight.All = true
      mine (sight.Of ven) = its_resource.0.ven == ven

      seen_by : (whose : Sight) → sees held.base whose (key.Event id n) ≡ mine whose
      seen_by sight.All = refl
      seen_by (sight.Of ven) = ap (λ o. option_map_or (λ owner. owner == ven) (option_map (λ r. r.ven) o) false) its_resource.1

      kept_by : (whose : Sight) → kept_for (owner_seen whose) (row ∷ []) ≡ cond (mine whose) (row ∷ []) []
      kept_by sight.All = refl
      kept_by (sight.Of ven) = ap (λ o. cond (option_map_or (λ r. r.ven) o 0 == ven) (row ∷ []) []) its_resource.1

      event_alike : TellsAlike (r ∷ [])
      event_alike = record {
        same =
            ap (λ b. filter (is_wanted wanted) (filter_map (object_at held.stamps) (cond b (r ∷ []) []))) (seen_by sees_this)
            ∙ told_by (mine sees_this)
            ∙ sym (ap (λ rows. filter_map (object_kept held.stamps) (filter (λ e. wants_row wanted e.1) rows)) (kept_by sees_this));
        each = subst (λ rows. All (Makes (object_kept held.stamps)) (filter (λ e. wants_row wanted e.1) rows)) (sym (kept_by sees_this)) (each_by (mine sees_this));
      }

    none : (ven : Option ℕ) → filter (λ (e : ShownKey × ShownColumns). wants_row wanted e.1) (kept_for ven []) ≡ []
    none None = refl
    none (Some ven) = refl

    -- what stands at a key of events is an event
    row_alike : (k : ViewKey) (c : Content) → Contains (view held.base) (k, c) → TellsAlike ((k, c) ∷ [])
    row_alike (key.Event id n) (content.Event e) there = event_alike id n e there
    row_alike (key.Event id n) (content.Program name) there = absurd (All-contains ReadsBack (kept_view held.base) (key.Event id n, content.Program name) holds.reads (in_filter keeps (view held.base) (key.Event id n, content.Program name) refl there))
    row_alike (key.Event id n) (content.Report body) there = absurd (All-contains ReadsBack (kept_view held.base) (key.Event id n, content.Report body) holds.reads (in_filter keeps (view held.base) (key.Event id n, content.Report body) refl there))
    row_alike (key.Event id n) (content.Rollup rollup) there = absurd (All-contains ReadsBack (kept_view held.base) (key.Event id n, content.Rollup rollup) holds.reads (in_filter keeps (view held.base) (key.Event id n, content.Rollup rollup) refl there))
    row_alike (key.Program id) c there = nothing_told (key.Program id, c) refl (none (owner_seen sees_this))
    row_alike (key.Report n) c there = nothing_told (key.Report n, c) refl (none (owner_seen sees_this))
    row_alike (key.Rollup id) c there = nothing_told (key.Rollup id, c) refl (none (owner_seen sees_this))

    rows_alike : (rows : List (ViewKey × Content)) → All (λ r. TellsAlike (r ∷ [])) rows → TellsAlike rows
    rows_alike [] all = record { same = sym (ap (filter_map (object_kept held.stamps)) (none (owner_seen sees_this))); each = subst (All (Makes (object_kept held.stamps))) (sym (none (owner_seen sees_this))) (All-nil (Makes (object_kept held.stamps))) }
    rows_alike (r ∷ rows) all =
        let first = All-head (λ r. TellsAlike (r ∷ [])) r rows all in
        let rest = rows_alike rows (All-tail (λ r. TellsAlike (r ∷ [])) r rows all) in
        let split : selected (r ∷ rows) ≡ selected (r ∷ []) ++ selected rows = selected_both (r ∷ []) rows in
        record {
          same =
              listed_both (r ∷ []) rows
              ∙ ap₂ ◌++◌ first.same rest.same
              ∙ sym (filter_map-append (object_kept held.stamps) (selected (r ∷ [])) (selected rows))
              ∙ sym (ap (filter_map (object_kept held.stamps)) split);
          each = subst (All (Makes (object_kept held.stamps))) (sym split) (All-append (Makes (object_kept held.stamps)) (selected (r ∷ [])) (selected rows) first.each rest.each);
        }

    view_alike : TellsAlike (view held.base)
    view_alike = rows_alike (view held.base) (each_there (λ r. TellsAlike (r ∷ [])) (view held.base) (λ r there. row_alike r.0 r.1 there))

pub events_are_rows : (s : sql.State) → EventsAreTheirRows s
events_are_rows s held whose wanted page objects holds are =
    let alike = view_alike s held holds whose wanted in
    ap (page_of page) alike.same ∙ part_made (object_kept held.stamps) page.skip page.limit (selected s held holds whose wanted (view held.base)) objects alike.each are

-- ---- one event

module _ (s : sql.State) (held : State) (holds : HoldsState held s) (k : ShownKey) where
  abbrev owners : ℕ → ℕ
  owners = owner_in held.base.portfolio

  -- what is kept at the key, by what is shown there
  kept_at : at shown_cmp k (kept_of held).shown ≡ option_and_then (kept_part owners k.resource) (at view_cmp (event_key k) (view held.base))
  kept_at =
      at-shown_rows owners k (kept_view held.base) (in_order_filtered view_cmp (λ r. is_kept (source_of r.0)) (view held.base) (shown_in_order held.base))
      ∙ ap (option_and_then (kept_part owners k.resource)) (at-rows_at view_total view_exact (event_key k) (λ k. is_kept (source_of k)) (view held.base))

  -- a shown event is told by what is kept of it
  told_by_row : (e : ShownEvent) (stamps : Option Stamps) → option_and_then (object_of (event_key k) (content.Event e)) stamps ≡ option_map (object_with k (columns_of (owners k.resource) e)) stamps
  told_by_row e None = refl
  told_by_row e (Some stamps) = refl

  reads_at : (c : Content) → at view_cmp (event_key k) (view held.base) ≡ Some c → ReadsBack (event_key k, c)
  reads_at c is = All-contains ReadsBack (kept_view held.base) (event_key k, c) holds.reads (in_filter (λ (r : ViewKey × Content). is_kept (source_of r.0)) (view held.base) (event_key k, c) refl (at_there (event_key k) (view held.base) c is))

  told_alike : (c : Content) → at view_cmp (event_key k) (view held.base) ≡ Some c → object_at held.stamps (event_key k, c) ≡ option_and_then (λ c. object_kept held.stamps (k, c)) (kept_part owners k.resource c)
  told_alike (content.Event e) is = told_by_row e (at view_cmp (event_key k) held.stamps)
  told_alike (content.Program name) is = absurd (reads_at (content.Program name) is)
  told_alike (content.Report body) is = absurd (reads_at (content.Report body) is)
  told_alike (content.Rollup rollup) is = absurd (reads_at (content.Rollup rollup) is)

  one_alike : object_shown held (event_key k) ≡ option_and_then (λ c. object_kept held.stamps (k, c)) (at shown_cmp k (kept_of held).shown)
  one_alike = by (at view_cmp (event_key k) (view held.base)) refl ∙ sym (ap (option_and_then (λ c. object_kept held.stamps (k, c))) kept_at)
    where
      by : (o : Option Content) → at view_cmp (event_key k) (view held.base) ≡ o
          → option_and_then (λ c. object_at held.stamps (event_key k, c)) (at view_cmp (event_key k) (view held.base)) ≡ option_and_then (λ c. object_kept held.stamps (k, c)) (option_and_then (kept_part owners k.resource) (at view_cmp (event_key k) (view held.base)))
      by None is = rw is refl
      by (Some c) is = rw is (told_alike c is)

-- the two parts of an id tell the same of what is kept and of what is shown
module _ (s : sql.State) (held : State) (holds : HoldsState held s) (whose : Sight) where
  shown_alike : (n : ℕ) (text : List ℕ) → event_shown (kept_of held) n text ≡ shown_of_view held n text
  shown_alike n text = by (id_in text)
    where
      by : (id : Option (List ℕ)) → option_and_then (λ id. shown_kept (kept_of held) (record { event = id; resource = n })) id ≡ option_and_then (λ id. object_shown held (key.Event id n)) id
      by None = refl
      by (Some id) = sym (one_alike s held holds (record { event = id; resource = n }))

  told_same : (event : List ℕ) (found : Option (ℕ × Resource)) → event_told (kept_of held) whose event found ≡ told_of_view held whose event found
  told_same event None = refl
  told_same event (Some (n, resource)) = ap (λ (o : Option Object). cond (sees_ven whose resource.ven) (told o) (Err Forbidden)) (shown_alike n event)

  named_same : (resource : List ℕ) (event : Option (List ℕ)) → event_named (kept_of held) whose resource event ≡ named_of_view held whose resource event
  named_same resource None = refl
  named_same resource (Some event) = told_same event (resource_named held.base.portfolio resource)

pub event_is_row : (s : sql.State) → EventIsItsRow s
event_is_row s held whose id holds = named_same s held holds whose (resource_part id) (event_part id)
