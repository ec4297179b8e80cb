-- Where a source is refreshed that was not yet touched, what is told of what is answered is what the machine tells of it.
use Rattle.std.proofs.Common.{◌≡◌, ℕ, Bool, true, false, cond, ⊎_elim, List, [], ◌∷◌, ◌++◌, map, length, refl, sym, ap, ap₂, ◌∙◌}
use Rattle.std.specs.List.{All, flat_map}
use Rattle.std.proofs.lemmas.List.{length-map}
use Rattle.std.proofs.lemmas.List.Elements.{All-head, All-tail}
use Rattle.adr_objects.specs.declared.shown.Stamps.{Stamps}
use Rattle.adr_subscription.specs.declared.kept_sub.Sub.{Sub}
use Rattle.adr_delivery.specs.declared.entry.Entry.{Entry}
use Rattle.adr_state.specs.declared.base.Base.{Base}
use Rattle.adr_state.specs.declared.keys.ViewKey.{ViewKey}
use Rattle.adr_view.specs.declared.changes.Change.{Change}
use Rattle.adr_view.specs.declared.changes.Operation.{Operation}
use Rattle.adr_view.specs.declared.changes.Operation.TheVariants.{Post, Put, Delete}
use Rattle.adr_view.specs.declared.view.Content.{Content}
use Rattle.adr_view.specs.Changes.{changes, restamped}
use Rattle.adr_view.specs.Laws.{StandsInOrder}
use Rattle.adr_view.specs.Views.{view}
use Rattle.adr_notices.specs.Made.{judged_in as side_of, entries_of_change}
use Rattle.adr_notices.specs.Shown.{Side}
use Rattle.adr_refresh.specs.Maps.{rows_at}
use Rattle.adr_refresh.specs.Refresh.{Books, as_row, changes_told, is_kept, rows_before}
use Rattle.adr_refresh.specs.Sources.{Source, source_of, is_of, rows_of}
use Rattle.adr_refresh.proofs.ChangeLemmas.{at-restamped, changes_in_order, stamp_at}
use Rattle.adr_refresh.proofs.Common.{InOrder, at, cases_Bool, in_order_filtered, made_in_order, shown_in_order, view_cmp, view_exact, view_total, with_rows}
use Rattle.adr_refresh.proofs.MapLemmas.{at-rows_at, same_maps}
use Rattle.adr_refresh.proofs.RefreshLemmas.{at-kept, at-stamps}
use Rattle.adr_refresh.proofs.SourceLemmas.{its_source, rows_in_order, rows_own}
use Rattle.adr_refresh.proofs.TurnLemmas.{as_change, back}
use Rattle.adr_refresh.proofs.ViewLemmas.{view_of_sources}
use Rattle.adr_db.specs.Bases.{Beside}
use Rattle.adr_kept_view.specs.Refreshed.{books_behind, judged_in}
use Rattle.adr_told.specs.Laws.{IsUntouched, IsToldAsWhole, side_before, side_after}

same_each : {A B : Type 0} (f g : A → List B) (xs : List A) → All (λ x. f x ≡ g x) xs → flat_map f xs ≡ flat_map g xs
same_each f g [] each = refl
same_each f g (x ∷ xs) each = ap₂ (λ one rest. one ++ rest) (All-head (λ x. f x ≡ g x) x xs each) (same_each f g xs (All-tail (λ x. f x ≡ g x) x xs each))

flat_of_map : {A B C : Type 0} (f : B → List C) (g : A → B) (xs : List A) → flat_map f (map g xs) ≡ flat_map (λ x. f (g x)) xs
flat_of_map f g [] = refl
flat_of_map f g (x ∷ xs) = ap (λ rest. f (g x) ++ rest) (flat_of_map f g xs)

module _ (client : List ℕ) (subs : List (ℕ × Sub)) (before : Base) (stamps : List (ViewKey × Stamps)) (after : Base) (now : ℕ) (s : Source) (rows : List (ViewKey × Content)) (beside : Beside) (stands_before : StandsInOrder before) (stands : StandsInOrder after) (up : InOrder view_cmp rows) (untouched : IsUntouched before stamps rows beside s) where
  abbrev books : Books
  books = books_behind rows beside before after now s

  abbrev sides_before : Side
  sides_before = side_before before stamps

  abbrev sides_after : Side
  sides_after = side_after before stamps after now

  -- ---- its changes

  rows_were : is_kept s ≡ true → rows_at (is_of s) rows ≡ rows_of before s
  rows_were kept = same_maps view_total view_exact (rows_at (is_of s) rows) (rows_of before s) (in_order_filtered view_cmp (λ r. is_of s r.0) rows up) (rows_in_order before stands_before s) (λ q.
      at-rows_at view_total view_exact q (is_of s) rows
      ∙ ⊎_elim
      (λ is. rw is (untouched.kept kept q is))
      (λ other. rw other (sym (rows_own before s q other)))
      (cases_Bool (is_of s q)))

  known : rows_before before rows s ≡ rows_of before s
  known = by (is_kept s) refl
    where
      by : (b : Bool) → is_kept s ≡ b → cond b (rows_at (is_of s) rows) (rows_of before s) ≡ rows_of before s
      by true is = rows_were is
      by false is = refl

  told_is : books.told ≡ map as_row (changes (rows_of before s) (rows_of after s))
  told_is =
      ap (λ old. with_rows view_cmp [] (changes_told old (rows_of after s))) known
      ∙ made_in_order view_total (changes_told (rows_of before s) (rows_of after s)) (changes_in_order (rows_of before s) (rows_of after s))

  -- ---- both sides of a change

  pub was_shown : (q : ViewKey) → is_of s q ≡ true → at view_cmp q (view before) ≡ at view_cmp q (rows_of before s)
  was_shown q is = view_of_sources before stands_before q ∙ ap (λ t. at view_cmp q (rows_of before t)) (its_source s q is)

  pub is_shown : (q : ViewKey) → is_of s q ≡ true → at view_cmp q (view after) ≡ at view_cmp q (rows_of after s)
  is_shown q is = view_of_sources after stands q ∙ ap (λ t. at view_cmp q (rows_of after t)) (its_source s q is)

  -- what the books know of a key before is what was shown there
  was_known : (q : ViewKey) → is_of s q ≡ true → cond (is_kept (source_of q)) (at view_cmp q rows) (at view_cmp q (rows_of before (source_of q))) ≡ at view_cmp q (view before)
  was_known q is = by (is_kept (source_of q)) refl
    where
      by : (b : Bool) → is_kept (source_of q) ≡ b → cond b (at view_cmp q rows) (at view_cmp q (rows_of before (source_of q))) ≡ at view_cmp q (view before)
      by true kept = untouched.kept (sym (ap is_kept (its_source s q is)) ∙ kept) q is ∙ sym (was_shown q is)
      by false other = sym (view_of_sources before stands_before q)

  is_stamped : (q : ViewKey) → is_of s q ≡ true → at view_cmp q (restamped stamps (view before) (view after) now) ≡ at view_cmp q books.stamps
  is_stamped q is =
      at-restamped q stamps (view before) (view after) now (shown_in_order after)
      ∙ (λ i. stamp_at (sym (was_known q is) i) (view_of_sources after stands q i) now (sym (untouched.stamped q is) i))
      ∙ sym (at-stamps before after stands now q (record { kept = rows; told = []; stamps = beside.stamps }) s ∙ rw is refl)

  -- where rows of the source are kept, they have both sides
  module _ (kept : is_kept s ≡ true) where
    kept_now : (q : ViewKey) → is_of s q ≡ true → at view_cmp q (rows_of after s) ≡ at view_cmp q books.kept
    kept_now q is =
        let there : is_kept (source_of q) ≡ true = ap is_kept (its_source s q is) ∙ kept in
        ap (λ t. at view_cmp q (rows_of after t)) (sym (its_source s q is)) ∙ sym (at-kept before after stands now q rows s ∙ rw (is, there) refl)

    pub shown_there : (q : ViewKey) → is_of s q ≡ true → (o : Operation) → at view_cmp q (side_of o sides_before sides_after).view ≡ at view_cmp q (judged_in o rows books.kept)
    shown_there q is Post = is_shown q is ∙ kept_now q is
    shown_there q is Put = is_shown q is ∙ kept_now q is
    shown_there q is Delete = was_shown q is ∙ sym (untouched.kept kept q is)

  pub stamped_there : (q : ViewKey) → is_of s q ≡ true → (o : Operation) → at view_cmp q (side_of o sides_before sides_after).stamps ≡ at view_cmp q (judged_in o beside.stamps books.stamps)
  stamped_there q is Post = is_stamped q is
  stamped_there q is Put = is_stamped q is
  stamped_there q is Delete = sym (untouched.stamped q is)

  -- ---- in all

  -- as many are told as there are changes of the source
  counted : {C : Type 0} (row : C → ViewKey × Operation) (cs : List C) → map row cs ≡ books.told → length cs ≡ length (changes (rows_of before s) (rows_of after s))
  counted row cs told = sym (length-map cs row) ∙ ap length (told ∙ told_is) ∙ length-map (changes (rows_of before s) (rows_of after s)) as_row

  pub told_as_whole : {C : Type 0} (row : C → ViewKey × Operation) (entries : C → List Entry) (cs : List C) → map row cs ≡ books.told
      → All (λ c. entries c ≡ entries_of_change client subs sides_before sides_after (as_change (row c))) cs
      → IsToldAsWhole client subs before stamps after now s (length cs) (flat_map entries cs)
  told_as_whole row entries cs told each =
      let one : Change → List Entry = entries_of_change client subs sides_before sides_after in
      record {
        counted = counted row cs told;
        entries =
            same_each entries (λ c. one (as_change (row c))) cs each
            ∙ sym (flat_of_map (λ r. one (as_change r)) row cs)
            ∙ ap (flat_map (λ r. one (as_change r))) (told ∙ told_is)
            ∙ sym (flat_of_map one as_change (map as_row (changes (rows_of before s) (rows_of after s))))
            ∙ ap (flat_map one) (back (changes (rows_of before s) (rows_of after s)));
      }
