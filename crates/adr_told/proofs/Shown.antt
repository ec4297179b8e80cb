-- What is told of a change of what a resource is shown is what the machine tells of it.
use Rattle.std.proofs.Common.{◌≡◌, ℕ, List, [], Option, Some, refl, sym, ap, ◌∙◌, length}
use Rattle.std.specs.Prelude.{option_map, option_and_then}
use Rattle.std.specs.List.{flat_map}
use Rattle.std.specs.Option.{option_map_or}
use Rattle.std.proofs.lemmas.List.Elements.{All-weaker}
use Rattle.adr_objects.specs.declared.shown.Stamps.{Stamps}
use Rattle.adr_subscription.specs.declared.kept_sub.Sub.{Sub}
use Rattle.adr_subscription.specs.declared.words.ObjectKind.TheVariants as kind
use Rattle.adr_delivery.specs.declared.entry.Entry.{Entry}
use Rattle.adr_state.specs.declared.base.Base.{Base}
use Rattle.adr_state.specs.declared.keys.ViewKey.{ViewKey}
use Rattle.adr_state.specs.declared.keys.ViewKey.TheVariants as key
use Rattle.adr_state.specs.declared.portfolio.Resource.{Resource}
use Rattle.adr_view.specs.declared.changes.Operation.{Operation}
use Rattle.adr_view.specs.declared.changes.Operation.TheVariants.{Post, Put, Delete}
use Rattle.adr_view.specs.declared.view.Content.{Content}
use Rattle.adr_view.specs.declared.view.Content.TheVariants as content
use Rattle.adr_view.specs.Laws.{StandsInOrder}
use Rattle.adr_view.specs.Views.{view}
use Rattle.adr_event_text.specs.Kept.{kept_as, kept_notice_text}
use Rattle.adr_queries.specs.Shown.{owner_of, object_of}
use Rattle.adr_notices.specs.Made.{judged_in as side_of, entries_at, entries_noticed, entries_of_change}
use Rattle.adr_notices.specs.Matching.{entries_of}
use Rattle.adr_notices.specs.Notices.{operation_kind, notice_about}
use Rattle.adr_notices.specs.Shown.{Side}
use Rattle.adr_refresh.specs.Refresh.{Books}
use Rattle.adr_refresh.specs.Sources.{Source}
use Rattle.adr_refresh.specs.Touched.{upstream_event}
use Rattle.adr_refresh.proofs.Common.{InOrder, at, view_cmp}
use Rattle.adr_refresh.proofs.SourceLemmas.{source_itself}
use Rattle.adr_refresh.proofs.TurnLemmas.{as_change}
use Rattle.adr_refresh.proofs.ViewLemmas.{view_of_sources}
use Rattle.adr_db.specs.Bases.{Beside}
use Rattle.adr_kept_view.specs.declared.change.ShownChange.{ShownChange}
use Rattle.adr_kept_view.specs.KeptViews.{Owns}
use Rattle.adr_kept_view.specs.Refreshed.{books_behind, IsTold, told_row, IsRefreshed, as_shown}
use Rattle.adr_kept_view.proofs.OwnerLemmas.{resource_there}
use Rattle.adr_told.specs.Laws.{EventIsToldAsWhole, IsUntouched, side_before, side_after, IsToldAsWhole}
use Rattle.adr_told.specs.Told.{shown_entries}
use Rattle.adr_told.proofs.Whole.{shown_there, stamped_there, told_as_whole}

-- what a resource is shown of an event, on one side
module _ (client : List ℕ) (subs : List (ℕ × Sub)) (id : List ℕ) (c : ShownChange) (side : Side) where
  abbrev q : ViewKey
  q = key.Event id c.resource

  told_on : at view_cmp q side.view ≡ Some (content.Event c.shown) → at view_cmp q side.stamps ≡ Some c.stamps → owner_of side.base c.resource ≡ Some c.ven
      → option_map_or (entries_at client subs side c.operation q) (at view_cmp q side.view) [] ≡ shown_entries subs id c
  told_on shown stamped owned =
      ap (λ (o : Option Content). option_map_or (entries_at client subs side c.operation q) o []) shown
      ∙ ap (λ (o : Option Stamps). entries_noticed subs (option_and_then (notice_about side.base (operation_kind c.operation)) (option_and_then (object_of q (content.Event c.shown)) o))) stamped
      ∙ ap (λ (ven : Option ℕ). entries_of subs (record {
        kind = kind.Event;
        operation = operation_kind c.operation;
        program = c.shown.program;
        ven = ven;
        names = Some (record { ven_name = c.shown.ven_name; resource_name = c.shown.resource_name });
        body = kept_notice_text (operation_kind c.operation) (kept_as c.resource id c.shown c.stamps);
      })) owned

module _ (owner : ℕ → ℕ) (id : List ℕ) (n : ℕ) (c : Content) where
  owned_in : (base : Base) → StandsInOrder base → Owns owner base → at view_cmp (key.Event id n) (view base) ≡ Some c → owner_of base n ≡ Some (owner n)
  owned_in base stands owns is =
      let there = resource_there base stands id n c (sym (view_of_sources base stands (key.Event id n)) ∙ is) in
      ap (option_map (λ (r : Resource). r.ven)) there.1 ∙ ap (λ ven. Some ven) (sym (owns n there.0 there.1))

module _ (client : List ℕ) (subs : List (ℕ × Sub)) (owner : ℕ → ℕ) (before : Base) (stamps : List (ViewKey × Stamps)) (after : Base) (now : ℕ) (id : List ℕ) (rows : List (ViewKey × Content)) (beside : Beside) (stands_before : StandsInOrder before) (stands : StandsInOrder after) (owned_before : Owns owner before) (owned : Owns owner after) (up : InOrder view_cmp rows) (untouched : IsUntouched before stamps rows beside (upstream_event id)) where
  abbrev s : Source
  s = upstream_event id

  abbrev books : Books
  books = books_behind rows beside before after now s

  abbrev side : Operation → Side
  side o = side_of o (side_before before stamps) (side_after before stamps after now)

  abbrev one : ShownChange → List Entry
  one c = entries_of_change client subs (side_before before stamps) (side_after before stamps after now) (as_change (told_row id c))

  its_owner : (o : Operation) (n : ℕ) (c : Content) → at view_cmp (key.Event id n) (side o).view ≡ Some c → owner_of (side o).base n ≡ Some (owner n)
  its_owner Post n c is = owned_in owner id n c after stands owned is
  its_owner Put n c is = owned_in owner id n c after stands owned is
  its_owner Delete n c is = owned_in owner id n c before stands_before owned_before is

  told_one : (c : ShownChange) → IsTold owner rows beside.stamps books id c → shown_entries subs id c ≡ one c
  told_one c told =
      let q = key.Event id c.resource in
      let shown : at view_cmp q (side c.operation).view ≡ Some (content.Event c.shown) = shown_there client subs before stamps after now s rows beside stands_before stands up untouched refl q (source_itself s) c.operation ∙ told.shown in
      let stamped : at view_cmp q (side c.operation).stamps ≡ Some c.stamps = stamped_there client subs before stamps after now s rows beside stands_before stands up untouched q (source_itself s) c.operation ∙ told.stamps in
      sym (told_on client subs id c (side c.operation) shown stamped (its_owner c.operation c.resource (content.Event c.shown) shown ∙ ap (λ ven. Some ven) told.ven))

  told_all : (later : Beside) (cs : List ShownChange) → IsRefreshed as_shown owner rows beside before after now id cs later → IsToldAsWhole client subs before stamps after now s (length cs) (flat_map (shown_entries subs id) cs)
  told_all later cs refreshed =
      told_as_whole client subs before stamps after now s rows beside stands_before stands up untouched (told_row id) (shown_entries subs id) cs refreshed.told
      (All-weaker (IsTold owner rows beside.stamps books id) (λ c. shown_entries subs id c ≡ one c) (λ c told. told_one c told) cs refreshed.each)

pub event_as_whole : EventIsToldAsWhole
event_as_whole client subs owner before stamps after now id rows beside later cs stands_before stands owned_before owned keeps untouched refreshed =
    told_all client subs owner before stamps after now id rows beside stands_before stands owned_before owned keeps.in_order untouched later cs refreshed
