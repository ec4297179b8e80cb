-- What is told of a change of a program or of a report is what the machine tells of it.
use Rattle.std.proofs.Common.{◌≡◌, ℕ, List, [], Option, Some, None, refl, sym, ap, ◌∙◌, length}
use Rattle.std.specs.Prelude.{option_and_then}
use Rattle.std.specs.List.{flat_map}
use Rattle.std.specs.Option.{option_map_or}
use Rattle.std.proofs.lemmas.List.Elements.{All-weaker}
use Rattle.adr_objects.specs.declared.shown.Stamps.{Stamps}
use Rattle.adr_subscription.specs.declared.kept_sub.Sub.{Sub}
use Rattle.adr_subscription.specs.declared.words.ObjectKind.TheVariants as kind
use Rattle.adr_delivery.specs.declared.entry.Entry.{Entry}
use Rattle.adr_state.specs.declared.base.Base.{Base}
use Rattle.adr_state.specs.declared.keys.ViewKey.{ViewKey}
use Rattle.adr_state.specs.declared.keys.ViewKey.TheVariants as key
use Rattle.adr_view.specs.declared.changes.Operation.{Operation}
use Rattle.adr_view.specs.declared.changes.Operation.TheVariants.{Post, Put, Delete}
use Rattle.adr_view.specs.declared.view.Content.{Content}
use Rattle.adr_view.specs.declared.view.Content.TheVariants as content
use Rattle.adr_view.specs.Laws.{StandsInOrder}
use Rattle.adr_written.specs.WrittenNotices.{report_notice_text}
use Rattle.adr_queries.specs.Shown.{object_of}
use Rattle.adr_notices.specs.declared.notice.Notice.{Notice}
use Rattle.adr_notices.specs.Made.{judged_in as side_of, entries_at, entries_noticed, entries_of_change}
use Rattle.adr_notices.specs.Notices.{operation_kind, notice_about}
use Rattle.adr_notices.specs.Shown.{Side}
use Rattle.adr_refresh.specs.Refresh.{Books}
use Rattle.adr_refresh.specs.Sources.{Source, source_of}
use Rattle.adr_refresh.proofs.Common.{InOrder, at, view_cmp}
use Rattle.adr_refresh.proofs.SourceLemmas.{source_itself}
use Rattle.adr_refresh.proofs.TurnLemmas.{as_change}
use Rattle.adr_db.specs.Bases.{Beside}
use Rattle.adr_kept_view.specs.declared.object.ObjectChange.{ObjectChange}
use Rattle.adr_kept_view.specs.declared.object.ObjectKey.{ObjectKey}
use Rattle.adr_kept_view.specs.declared.object.ObjectKey.TheVariants as object
use Rattle.adr_kept_view.specs.declared.object.OldObject.{OldObject}
use Rattle.adr_kept_view.specs.Objects.{view_key, shown_at, ven_of, StoodIn, IsObjectTold, object_told, as_object}
use Rattle.adr_kept_view.specs.Refreshed.{books_behind, judged_in, Sides, IsRefreshed}
use Rattle.adr_told.specs.Laws.{ObjectIsToldAsWhole, IsUntouched, side_before, side_after, IsToldAsWhole}
use Rattle.adr_told.specs.Told.{noticed, object_entries}
use Rattle.adr_told.proofs.Whole.{was_shown, is_shown, stamped_there, told_as_whole}

-- what stands at such a key, on one side
module _ (client : List ℕ) (subs : List (ℕ × Sub)) (o : Operation) (stamps : Stamps) (ven : Option ℕ) (side : Side) where
  -- what is told of an object is what is told of what stands at the key
  about : (ok : ObjectKey) (c : Content) → ven_of side.base.portfolio c ≡ ven → option_and_then (notice_about side.base (operation_kind o)) (object_of (view_key ok) c stamps) ≡ noticed ok (operation_kind o) ven stamps c
  about (object.Program id) (content.Program name) owned = refl
  about (object.Program id) (content.Event e) owned = refl
  about (object.Program id) (content.Report body) owned = refl
  about (object.Program id) (content.Rollup r) owned = refl
  about (object.Report n) (content.Report body) owned =
      let of_ven : Option ℕ → Option Notice = λ whose. Some (record {
        kind = kind.Report;
        operation = operation_kind o;
        program = body.head.program;
        ven = whose;
        names = None;
        body = report_notice_text (operation_kind o) (record { number = n; body = body; stamps = stamps });
      }) in
      ap of_ven owned
  about (object.Report n) (content.Program name) owned = refl
  about (object.Report n) (content.Event e) owned = refl
  about (object.Report n) (content.Rollup r) owned = refl

  at_key : (ok : ObjectKey) (c : Content) → at view_cmp (view_key ok) side.stamps ≡ Some stamps → ven_of side.base.portfolio c ≡ ven → entries_at client subs side o (view_key ok) c ≡ entries_noticed subs (noticed ok (operation_kind o) ven stamps c)
  at_key (object.Program id) c stamped owned =
      ap (λ (s : Option Stamps). entries_noticed subs (option_and_then (notice_about side.base (operation_kind o)) (option_and_then (object_of (key.Program id) c) s))) stamped
      ∙ ap (entries_noticed subs) (about (object.Program id) c owned)
  at_key (object.Report n) c stamped owned =
      ap (λ (s : Option Stamps). entries_noticed subs (option_and_then (notice_about side.base (operation_kind o)) (option_and_then (object_of (key.Report n) c) s))) stamped
      ∙ ap (entries_noticed subs) (about (object.Report n) c owned)

module _ (client : List ℕ) (subs : List (ℕ × Sub)) (owner : ℕ → ℕ) (before : Base) (stamps : List (ViewKey × Stamps)) (after : Base) (now : ℕ) (old : OldObject) (rows : List (ViewKey × Content)) (beside : Beside) (stands_before : StandsInOrder before) (stands : StandsInOrder after) (up : InOrder view_cmp rows) (stood : StoodIn before old) (untouched : IsUntouched before stamps rows beside (source_of (view_key old.key))) where
  abbrev k : ViewKey
  k = view_key old.key

  abbrev s : Source
  s = source_of k

  abbrev books : Books
  books = books_behind rows beside before after now s

  abbrev sides : Sides
  sides = record { before = before; after = after; owner = owner; rows = rows; stamps = beside.stamps }

  abbrev side : Operation → Side
  side o = side_of o (side_before before stamps) (side_after before stamps after now)

  abbrev one : ObjectChange → List Entry
  one c = entries_of_change client subs (side_before before stamps) (side_after before stamps after now) (as_change (object_told old c))

  shown_on : (o : Operation) (c : Content) → judged_in o old.content (shown_at after k) ≡ Some c → at view_cmp k (side o).view ≡ Some c
  shown_on Post c is = is_shown client subs before stamps after now s rows beside stands_before stands up untouched k (source_itself s) ∙ is
  shown_on Put c is = is_shown client subs before stamps after now s rows beside stands_before stands up untouched k (source_itself s) ∙ is
  shown_on Delete c is = was_shown client subs before stamps after now s rows beside stands_before stands up untouched k (source_itself s) ∙ stood.shown ∙ is

  owned_on : (o : Operation) (c : Content) (ven : Option ℕ) → judged_in o (ven_of before.portfolio c) (ven_of after.portfolio c) ≡ ven → ven_of (side o).base.portfolio c ≡ ven
  owned_on Post c ven is = is
  owned_on Put c ven is = is
  owned_on Delete c ven is = is

  told_one : (c : ObjectChange) → IsObjectTold sides books old c → object_entries subs old c ≡ one c
  told_one c told =
      let shown : at view_cmp k (side c.operation).view ≡ Some c.content = shown_on c.operation c.content told.shown in
      let stamped : at view_cmp k (side c.operation).stamps ≡ Some c.stamps = stamped_there client subs before stamps after now s rows beside stands_before stands up untouched k (source_itself s) c.operation ∙ told.stamped in
      sym (ap (λ (o : Option Content). option_map_or (entries_at client subs (side c.operation) c.operation k) o []) shown ∙ at_key client subs c.operation c.stamps c.ven (side c.operation) old.key c.content stamped (owned_on c.operation c.content c.ven told.owned))

  told_all : (later : Beside) (cs : List ObjectChange) → IsRefreshed as_object owner rows beside before after now old cs later → IsToldAsWhole client subs before stamps after now s (length cs) (flat_map (object_entries subs old) cs)
  told_all later cs refreshed =
      told_as_whole client subs before stamps after now s rows beside stands_before stands up untouched (object_told old) (object_entries subs old) cs refreshed.told
      (All-weaker (IsObjectTold sides books old) (λ c. object_entries subs old c ≡ one c) (λ c told. told_one c told) cs refreshed.each)

pub object_as_whole : ObjectIsToldAsWhole
object_as_whole client subs owner before stamps after now old rows beside later cs stands_before stands keeps stood untouched refreshed =
    told_all client subs owner before stamps after now old rows beside stands_before stands keeps.in_order stood untouched later cs refreshed
