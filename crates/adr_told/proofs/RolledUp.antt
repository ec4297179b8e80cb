-- What is told of a change of a roll-up is what the machine tells of it.
use Rattle.std.proofs.Common.{◌≡◌, ℕ, List, [], Option, Some, refl, sym, ap, ◌∙◌}
use Rattle.std.specs.Option.{option_map_or}
use Rattle.std.proofs.lemmas.List.Elements.{All-weaker}
use Rattle.adr_objects.specs.declared.shown.Stamps.{Stamps}
use Rattle.adr_subscription.specs.declared.kept_sub.Sub.{Sub}
use Rattle.adr_delivery.specs.declared.entry.Entry.{Entry}
use Rattle.adr_state.specs.declared.base.Base.{Base}
use Rattle.adr_state.specs.declared.keys.ViewKey.{ViewKey}
use Rattle.adr_state.specs.declared.keys.ViewKey.TheVariants as key
use Rattle.adr_view.specs.declared.changes.Operation.{Operation}
use Rattle.adr_view.specs.declared.view.Content.{Content}
use Rattle.adr_view.specs.declared.view.Content.TheVariants as content
use Rattle.adr_view.specs.Laws.{StandsInOrder}
use Rattle.adr_notices.specs.Made.{judged_in as side_of, entries_at, entries_of_change}
use Rattle.adr_notices.specs.Shown.{Side}
use Rattle.adr_refresh.specs.Refresh.{Books}
use Rattle.adr_refresh.specs.Sources.{Source, RolledUp}
use Rattle.adr_refresh.proofs.Common.{InOrder, at, view_cmp}
use Rattle.adr_refresh.proofs.SourceLemmas.{source_itself}
use Rattle.adr_refresh.proofs.TurnLemmas.{as_change}
use Rattle.adr_db.specs.Bases.{Beside}
use Rattle.adr_kept_view.specs.declared.change.RollupChange.{RollupChange}
use Rattle.adr_kept_view.specs.Refreshed.{books_behind, IsRollupTold, rollup_told}
use Rattle.adr_told.specs.Laws.{RollupIsToldAsWhole, IsUntouched, side_before, side_after}
use Rattle.adr_told.specs.Told.{rollup_entries}
use Rattle.adr_told.proofs.Whole.{shown_there, told_as_whole}

module _ (client : List ℕ) (subs : List (ℕ × Sub)) (before : Base) (stamps : List (ViewKey × Stamps)) (after : Base) (now : ℕ) (id : List ℕ) (rows : List (ViewKey × Content)) (beside : Beside) (stands_before : StandsInOrder before) (stands : StandsInOrder after) (up : InOrder view_cmp rows) (untouched : IsUntouched before stamps rows beside (RolledUp id)) where
  abbrev s : Source
  s = RolledUp id

  abbrev q : ViewKey
  q = key.Rollup id

  abbrev books : Books
  books = books_behind rows beside before after now s

  abbrev side : Operation → Side
  side o = side_of o (side_before before stamps) (side_after before stamps after now)

  abbrev one : RollupChange → List Entry
  one c = entries_of_change client subs (side_before before stamps) (side_after before stamps after now) (as_change (rollup_told id c))

  pub told_one : (c : RollupChange) → IsRollupTold rows books id c → rollup_entries client id c ≡ one c
  told_one c told =
      let shown : at view_cmp q (side c.operation).view ≡ Some (content.Rollup c.rollup) = shown_there client subs before stamps after now s rows beside stands_before stands up untouched refl q (source_itself s) c.operation ∙ told in
      sym (ap (λ (o : Option Content). option_map_or (entries_at client subs (side c.operation) c.operation q) o []) shown)

pub rollup_as_whole : RollupIsToldAsWhole
rollup_as_whole client subs owner before stamps after now id rows beside later cs stands_before stands keeps untouched refreshed =
    told_as_whole client subs before stamps after now (RolledUp id) rows beside stands_before stands keeps.in_order untouched (rollup_told id) (rollup_entries client id) cs refreshed.told
    (All-weaker (IsRollupTold rows (books_behind rows beside before after now (RolledUp id)) id) (λ c. rollup_entries client id c ≡ entries_of_change client subs (side_before before stamps) (side_after before stamps after now) (as_change (rollup_told id c))) (λ c told. told_one client subs before stamps after now id rows beside stands_before stands keeps.in_order untouched c told) cs refreshed.each)
