-- Books that keep the view, and are refreshed source by source, are those of the whole views: what they have at a key, first behind one source, then
-- behind several, of which one may come again, and in the end behind all that are not shown as before.
use Rattle.std.proofs.Common.{◌≡◌, ℕ, Bool, true, false, cond, ◌||◌, not, ⊎_elim, List, [], ◌∷◌, Option, None, refl, sym, ap, ap₂, subst, ◌∙◌}
use Rattle.std.specs.Prelude.{is_some}
use Rattle.adr_objects.specs.declared.shown.Stamps.{Stamps}
use Rattle.adr_state.specs.declared.keys.ViewKey.{ViewKey}
use Rattle.adr_view.specs.declared.changes.Operation.{Operation}
use Rattle.adr_view.specs.declared.view.Content.{Content}
use Rattle.adr_view.specs.Changes.{restamped}
use Rattle.adr_view.specs.Laws.{StandsInOrder}
use Rattle.adr_view.specs.Views.{view}
use Rattle.adr_refresh.specs.Maps.{rows_at, rows_beside}
use Rattle.adr_refresh.specs.Sources.{Source, source_cmp, source_of, is_of, rows_of}
use Rattle.adr_refresh.specs.Refresh.{Books, is_kept, kept_view, with_rows_of, changes_told, rows_before, kept_after, refreshed, refreshed_each, AreStamped, books_before, books_after}
use Rattle.adr_refresh.specs.Laws.{HasAllThatDiffer, RefreshedIsAsComputed, StampsAreGivenBack}
use Rattle.adr_refresh.proofs.Common.{Base, Contains, InOrder, at, cases_Bool, in_order_filtered, in_order_rows, is_eq, list_any, none_sorted, option_or, shown_in_order, true≢false, view_cmp, view_exact, view_total}
use Rattle.adr_refresh.proofs.ListLemmas.{none_passes}
use Rattle.adr_refresh.proofs.MapLemmas.{at-with_rows, at-rows_at, at-rows_beside, or_none, or_again, same_maps}
use Rattle.adr_refresh.proofs.ChangeLemmas.{change_at, at-changes, changes_in_order, no_change, stamp_at, at-restamped, restamped_in_order, stamped_twice, kept_stamps, has_stamps}
use Rattle.adr_refresh.proofs.ViewLemmas.{view_of_sources}
use Rattle.adr_refresh.proofs.SourceLemmas.{source_itself, its_source, rows_in_order, rows_own}

abbrev Rows : Type 0
Rows = List (ViewKey × Content)

-- whether the source of a key is among these
abbrev is_in : List Source → ViewKey → Bool
is_in ss q = list_any (λ s. is_of s q) ss

-- rows of a source put in the place of those at its keys
module _ {V : Type 0} (s : Source) (m rows : List (ViewKey × V)) where
  pub of_in_order : InOrder view_cmp m → InOrder view_cmp (with_rows_of s m rows)
  of_in_order up = in_order_rows view_total (rows_beside (is_of s) m) rows (in_order_filtered view_cmp (λ r. not (is_of s r.0)) m up)

  pub at-rows_of : (q : ViewKey) → InOrder view_cmp rows → (is_of s q ≡ false → at view_cmp q rows ≡ None) → at view_cmp q (with_rows_of s m rows) ≡ cond (is_of s q) (at view_cmp q rows) (at view_cmp q m)
  at-rows_of q up own =
      at-with_rows view_total q (rows_beside (is_of s) m) rows up
      ∙ ap (option_or (at view_cmp q rows)) (at-rows_beside view_total view_exact q (is_of s) m)
      ∙ ⊎_elim
      (λ is. rw is (or_none (at view_cmp q rows)))
      (λ other. let none : at view_cmp q rows ≡ None = own other in rw (other, none) refl)
      (cases_Bool (is_of s q))

module _ (before after : Base) (stands : StandsInOrder after) (now : ℕ) where
  -- what is shown at a key before and now
  abbrev old_at : ViewKey → Option Content
  old_at q = at view_cmp q (rows_of before (source_of q))

  abbrev new_at : ViewKey → Option Content
  new_at q = at view_cmp q (rows_of after (source_of q))

  now_shown : (q : ViewKey) (s : Source) → is_of s q ≡ true → at view_cmp q (rows_of after s) ≡ new_at q
  now_shown q s is = ap (λ (t : Source). at view_cmp q (rows_of after t)) (sym (its_source s q is))

  -- what the books know of a key before: what is kept, or what was shown
  abbrev was : ViewKey → Option Content → Option Content
  was q kept = cond (is_kept (source_of q)) kept (old_at q)

  at-rows_before : (q : ViewKey) (kept : Rows) (s : Source) → at view_cmp q (rows_before before kept s) ≡ cond (is_of s q) (was q (at view_cmp q kept)) None
  at-rows_before q kept s = ⊎_elim
      (λ is. subst (λ (t : Source). at view_cmp q (rows_before before kept t) ≡ cond (is_of t q) (was q (at view_cmp q kept)) None) (its_source s q is) (mine (is_kept (source_of q))))
      (λ other. rw other (none other (is_kept s)))
      (cases_Bool (is_of s q))
    where
      mine : (b : Bool) → at view_cmp q (cond b (rows_at (is_of (source_of q)) kept) (rows_of before (source_of q))) ≡ cond (is_of (source_of q) q) (cond b (at view_cmp q kept) (old_at q)) None
      mine true = at-rows_at view_total view_exact q (is_of (source_of q)) kept
      mine false = sym (ap (λ (b : Bool). cond b (old_at q) None) (source_itself (source_of q)))

      none : is_of s q ≡ false → (b : Bool) → at view_cmp q (cond b (rows_at (is_of s) kept) (rows_of before s)) ≡ None
      none other true = at-rows_at view_total view_exact q (is_of s) kept ∙ ap (λ (b : Bool). cond b (at view_cmp q kept) None) other
      none other false = rows_own before s q other

  -- ---- one source

  pub at-kept : (q : ViewKey) (kept : Rows) (s : Source) → at view_cmp q (kept_after after kept s) ≡ cond (is_of s q) (cond (is_kept (source_of q)) (new_at q) (at view_cmp q kept)) (at view_cmp q kept)
  at-kept q kept s = ⊎_elim
      (λ is. subst (λ (t : Source). at view_cmp q (kept_after after kept t) ≡ cond (is_of t q) (cond (is_kept (source_of q)) (new_at q) (at view_cmp q kept)) (at view_cmp q kept)) (its_source s q is) (mine (is_kept (source_of q))))
      (λ other. rw other (stays other (is_kept s)))
      (cases_Bool (is_of s q))
    where
      put : (t : Source) → at view_cmp q (with_rows_of t kept (rows_of after t)) ≡ cond (is_of t q) (at view_cmp q (rows_of after t)) (at view_cmp q kept)
      put t = at-rows_of t kept (rows_of after t) q (rows_in_order after stands t) (rows_own after t q)

      both : (b : Bool) (o : Option Content) → o ≡ cond b o o
      both true o = refl
      both false o = refl

      mine : (b : Bool) → at view_cmp q (cond b (with_rows_of (source_of q) kept (rows_of after (source_of q))) kept) ≡ cond (is_of (source_of q) q) (cond b (new_at q) (at view_cmp q kept)) (at view_cmp q kept)
      mine true = put (source_of q)
      mine false = both (is_of (source_of q) q) (at view_cmp q kept)

      stays : is_of s q ≡ false → (b : Bool) → at view_cmp q (cond b (with_rows_of s kept (rows_of after s)) kept) ≡ at view_cmp q kept
      stays other true = put s ∙ ap (λ (b : Bool). cond b (at view_cmp q (rows_of after s)) (at view_cmp q kept)) other
      stays other false = refl

  -- what is told of a key, and its stamps, as its source is refreshed
  pub at-told : (q : ViewKey) (books : Books) (s : Source) → at view_cmp q (refreshed before after now books s).told ≡ option_or (cond (is_of s q) (change_at q (was q (at view_cmp q books.kept)) (new_at q)) None) (at view_cmp q books.told)
  at-told q books s =
      let rows = rows_before before books.kept s in
      at-with_rows view_total q books.told (changes_told rows (rows_of after s)) (changes_in_order rows (rows_of after s))
      ∙ ap (λ (o : Option Operation). option_or o (at view_cmp q books.told))
      (at-changes q rows (rows_of after s) ∙ ap (λ (o : Option Content). change_at q o (at view_cmp q (rows_of after s))) (at-rows_before q books.kept s) ∙ ⊎_elim
      (λ is. let here = now_shown q s is in rw (is, here) refl)
      (λ other. let none : at view_cmp q (rows_of after s) ≡ None = rows_own after s q other in rw (other, none) refl)
      (cases_Bool (is_of s q)))

  pub at-stamps : (q : ViewKey) (books : Books) (s : Source) → at view_cmp q (refreshed before after now books s).stamps ≡ cond (is_of s q) (stamp_at (was q (at view_cmp q books.kept)) (new_at q) now (at view_cmp q books.stamps)) (at view_cmp q books.stamps)
  at-stamps q books s =
      let rows = rows_before before books.kept s in
      let mine = rows_at (is_of s) books.stamps in
      let at_key = at-restamped q mine rows (rows_of after s) now (rows_in_order after stands s) in
      at-rows_of s books.stamps (restamped mine rows (rows_of after s) now) q (restamped_in_order mine rows (rows_of after s) now)
      (λ other. at_key ∙ ap (λ (o : Option Content). stamp_at (at view_cmp q rows) o now (at view_cmp q mine)) (rows_own after s q other))
      ∙ ap (λ (o : Option Stamps). cond (is_of s q) o (at view_cmp q books.stamps)) at_key
      ∙ ⊎_elim
      (λ is. let here = now_shown q s is in
      let one : at view_cmp q rows ≡ was q (at view_cmp q books.kept) = at-rows_before q books.kept s ∙ rw is refl in
      let two : at view_cmp q mine ≡ at view_cmp q books.stamps = at-rows_at view_total view_exact q (is_of s) books.stamps ∙ rw is refl in
      rw (is, here, one, two) refl)
      (λ other. rw other refl)
      (cases_Bool (is_of s q))

  pub kept_in_order : (kept : Rows) (s : Source) → InOrder view_cmp kept → InOrder view_cmp (kept_after after kept s)
  kept_in_order kept s up = by (is_kept s)
    where
      by : (b : Bool) → InOrder view_cmp (cond b (with_rows_of s kept (rows_of after s)) kept)
      by true = of_in_order s kept (rows_of after s) up
      by false = up

  -- ---- books in order

  pub record AreInOrder (books : Books) : Type 0 where
    pub kept : InOrder view_cmp books.kept
    pub told : InOrder view_cmp books.told
    pub stamps : InOrder view_cmp books.stamps

  one_in_order : (books : Books) (s : Source) → AreInOrder books → AreInOrder (refreshed before after now books s)
  one_in_order books s up = record {
    kept = kept_in_order books.kept s up.kept;
    told = in_order_rows view_total books.told (changes_told (rows_before before books.kept s) (rows_of after s)) up.told;
    stamps = of_in_order s books.stamps (restamped (rows_at (is_of s) books.stamps) (rows_before before books.kept s) (rows_of after s) now) up.stamps;
  }

  each_in_order : (books : Books) (ss : List Source) → AreInOrder books → AreInOrder (refreshed_each before after now books ss)
  each_in_order books [] up = up
  each_in_order books (s ∷ ss) up = each_in_order (refreshed before after now books s) ss (one_in_order books s up)

  -- ---- one source after another

  at-each_kept : (q : ViewKey) (books : Books) (ss : List Source) → at view_cmp q (refreshed_each before after now books ss).kept ≡ cond (is_in ss q) (cond (is_kept (source_of q)) (new_at q) (at view_cmp q books.kept)) (at view_cmp q books.kept)
  at-each_kept q books [] = refl
  at-each_kept q books (s ∷ ss) =
      at-each_kept q (refreshed before after now books s) ss
      ∙ ap (λ (v : Option Content). cond (is_in ss q) (cond (is_kept (source_of q)) (new_at q) v) v) (at-kept q books.kept s)
      ∙ by (is_of s q) (is_in ss q) (is_kept (source_of q))
    where
      by : (own among kept : Bool) → let v = cond own (cond kept (new_at q) (at view_cmp q books.kept)) (at view_cmp q books.kept) in
          cond among (cond kept (new_at q) v) v ≡ cond (own || among) (cond kept (new_at q) (at view_cmp q books.kept)) (at view_cmp q books.kept)
      by true true true = refl
      by true true false = refl
      by true false kept = refl
      by false among kept = refl

  -- a source that comes again makes no change
  at-each_told : (q : ViewKey) (books : Books) (ss : List Source)
      → at view_cmp q (refreshed_each before after now books ss).told ≡ cond (is_in ss q) (option_or (change_at q (was q (at view_cmp q books.kept)) (new_at q)) (at view_cmp q books.told)) (at view_cmp q books.told)
  at-each_told q books [] = refl
  at-each_told q books (s ∷ ss) =
      at-each_told q (refreshed before after now books s) ss
      ∙ ap₂ (λ (v : Option Content) (t : Option Operation). cond (is_in ss q) (option_or (change_at q (was q v) (new_at q)) t) t) (at-kept q books.kept s) (at-told q books s)
      ∙ by (is_of s q) (is_in ss q) (is_kept (source_of q))
    where
      after_one : Bool → Bool → Option Content
      after_one own kept = cond own (cond kept (new_at q) (at view_cmp q books.kept)) (at view_cmp q books.kept)

      told_after : Bool → Bool → Option Operation
      told_after own kept = option_or (cond own (change_at q (cond kept (at view_cmp q books.kept) (old_at q)) (new_at q)) None) (at view_cmp q books.told)

      by : (own among kept : Bool)
          → cond among (option_or (change_at q (cond kept (after_one own kept) (old_at q)) (new_at q)) (told_after own kept)) (told_after own kept)
          ≡ cond (own || among) (option_or (change_at q (cond kept (at view_cmp q books.kept) (old_at q)) (new_at q)) (at view_cmp q books.told)) (at view_cmp q books.told)
      by true true true = ap (λ (o : Option Operation). option_or o (told_after true true)) (no_change q (new_at q))
      by true true false = or_again (change_at q (old_at q) (new_at q)) (at view_cmp q books.told)
      by true false kept = refl
      by false among kept = refl

  at-each_stamps : (q : ViewKey) (books : Books) (ss : List Source)
      → at view_cmp q (refreshed_each before after now books ss).stamps ≡ cond (is_in ss q) (stamp_at (was q (at view_cmp q books.kept)) (new_at q) now (at view_cmp q books.stamps)) (at view_cmp q books.stamps)
  at-each_stamps q books [] = refl
  at-each_stamps q books (s ∷ ss) =
      at-each_stamps q (refreshed before after now books s) ss
      ∙ ap₂ (λ (v : Option Content) (t : Option Stamps). cond (is_in ss q) (stamp_at (was q v) (new_at q) now t) t) (at-kept q books.kept s) (at-stamps q books s)
      ∙ by (is_of s q) (is_in ss q) (is_kept (source_of q))
    where
      after_one : Bool → Bool → Option Content
      after_one own kept = cond own (cond kept (new_at q) (at view_cmp q books.kept)) (at view_cmp q books.kept)

      stamped : Bool → Option Stamps
      stamped kept = stamp_at (cond kept (at view_cmp q books.kept) (old_at q)) (new_at q) now (at view_cmp q books.stamps)

      stamps_after : Bool → Bool → Option Stamps
      stamps_after own kept = cond own (stamped kept) (at view_cmp q books.stamps)

      by : (own among kept : Bool)
          → cond among (stamp_at (cond kept (after_one own kept) (old_at q)) (new_at q) now (stamps_after own kept)) (stamps_after own kept)
          ≡ cond (own || among) (stamped kept) (at view_cmp q books.stamps)
      by true true true = kept_stamps (new_at q) now (stamped true) (has_stamps (at view_cmp q books.kept) (new_at q) now (at view_cmp q books.stamps))
      by true true false = stamped_twice (old_at q) (new_at q) now (at view_cmp q books.stamps)
      by true false kept = refl
      by false among kept = refl

-- ---- in all

module _ (before after : Base) (now : ℕ) (stamps : List (ViewKey × Stamps)) (ss : List Source) (stay : HasAllThatDiffer before after ss) (stamped : AreStamped stamps before) (stands_before : StandsInOrder before) (stands : StandsInOrder after) where
  not_there : (s : Source) → list_any (λ t. is_eq (source_cmp s t)) ss ≡ false → Contains ss s → ⊥
  not_there s other there = true≢false (sym (source_itself s) ∙ none_passes (λ t. is_eq (source_cmp s t)) ss s other there)

  stays : (q : ViewKey) → is_in ss q ≡ false → old_at before after stands now q ≡ new_at before after stands now q
  stays q other = ap (at view_cmp q) (stay (source_of q) (not_there (source_of q) other))

  abbrev first : Books
  first = books_before before stamps

  abbrev last : Books
  last = refreshed_each before after now first ss

  at-kept_view : (base : Base) → StandsInOrder base → (q : ViewKey) → at view_cmp q (kept_view base) ≡ cond (is_kept (source_of q)) (at view_cmp q (rows_of base (source_of q))) None
  at-kept_view base stands q = at-rows_at view_total view_exact q (λ k. is_kept (source_of k)) (view base) ∙ ap (λ (o : Option Content). cond (is_kept (source_of q)) o None) (view_of_sources base stands q)

  was_shown : (q : ViewKey) → was before after stands now q (at view_cmp q first.kept) ≡ old_at before after stands now q
  was_shown q = ap (was before after stands now q) (at-kept_view before stands_before q) ∙ by (is_kept (source_of q))
    where
      by : (b : Bool) → cond b (cond b (old_at before after stands now q) None) (old_at before after stands now q) ≡ old_at before after stands now q
      by true = refl
      by false = refl

  in_order : AreInOrder before after stands now last
  in_order = each_in_order before after stands now first ss (record { kept = in_order_filtered view_cmp (λ r. is_kept (source_of r.0)) (view before) (shown_in_order before); told = none_sorted view_cmp; stamps = stamped.in_order })

  same_kept : last.kept ≡ kept_view after
  same_kept = same_maps view_total view_exact last.kept (kept_view after) in_order.kept (in_order_filtered view_cmp (λ r. is_kept (source_of r.0)) (view after) (shown_in_order after)) (λ q.
      at-each_kept before after stands now q first ss
      ∙ ap (λ (v : Option Content). cond (is_in ss q) (cond (is_kept (source_of q)) (new_at before after stands now q) v) v) (at-kept_view before stands_before q)
      ∙ ⊎_elim
      (λ is. rw is (by (is_kept (source_of q)) (old_at before after stands now q) (new_at before after stands now q)))
      (λ other. rw other (ap (λ (o : Option Content). cond (is_kept (source_of q)) o None) (stays q other)))
      (cases_Bool (is_in ss q))
      ∙ sym (at-kept_view after stands q))
    where
      by : (b : Bool) (old new : Option Content) → cond b new (cond b old None) ≡ cond b new None
      by true old new = refl
      by false old new = refl

  same_told : last.told ≡ changes_told (view before) (view after)
  same_told = same_maps view_total view_exact last.told (changes_told (view before) (view after)) in_order.told (changes_in_order (view before) (view after)) (λ q.
      at-each_told before after stands now q first ss
      ∙ ap (λ (v : Option Content). cond (is_in ss q) (option_or (change_at q v (new_at before after stands now q)) None) None) (was_shown q)
      ∙ ⊎_elim
      (λ is. rw is (or_none (change_at q (old_at before after stands now q) (new_at before after stands now q))))
      (λ other. rw other (sym (ap (λ (o : Option Content). change_at q o (new_at before after stands now q)) (stays q other) ∙ no_change q (new_at before after stands now q))))
      (cases_Bool (is_in ss q))
      ∙ sym (at-changes q (view before) (view after) ∙ ap₂ (change_at q) (view_of_sources before stands_before q) (view_of_sources after stands q)))

  same_stamps : last.stamps ≡ restamped stamps (view before) (view after) now
  same_stamps = same_maps view_total view_exact last.stamps (restamped stamps (view before) (view after) now) in_order.stamps (restamped_in_order stamps (view before) (view after) now) (λ q.
      at-each_stamps before after stands now q first ss
      ∙ ap (λ (v : Option Content). cond (is_in ss q) (stamp_at v (new_at before after stands now q) now (at view_cmp q stamps)) (at view_cmp q stamps)) (was_shown q)
      ∙ ⊎_elim
      (λ is. rw is refl)
      (λ other. rw other (sym (ap (λ (o : Option Content). stamp_at o (new_at before after stands now q) now (at view_cmp q stamps)) (stays q other)
      ∙ kept_stamps (new_at before after stands now q) now (at view_cmp q stamps) (stamped.same_keys q ∙ ap is_some (view_of_sources before stands_before q ∙ stays q other)))))
      (cases_Bool (is_in ss q))
      ∙ sym (at-restamped q stamps (view before) (view after) now (shown_in_order after) ∙ ap₂ (λ (o n : Option Content). stamp_at o n now (at view_cmp q stamps)) (view_of_sources before stands_before q) (view_of_sources after stands q)))

  refreshed_whole : last ≡ books_after before after now stamps
  refreshed_whole = λ i. record { kept = same_kept i; told = same_told i; stamps = same_stamps i }

pub refreshed_as_computed : RefreshedIsAsComputed
refreshed_as_computed before after now stamps ss stands_before stands stay stamped = refreshed_whole before after now stamps ss stay stamped stands_before stands

-- ---- the stamps behind it

pub stamps_given_back : StampsAreGivenBack
stamps_given_back before after now stamps = record {
  in_order = restamped_in_order stamps (view before) (view after) now;
  same_keys = λ q.
      ap is_some (at-restamped q stamps (view before) (view after) now (shown_in_order after))
      ∙ has_stamps (at view_cmp q (view before)) (at view_cmp q (view after)) now (at view_cmp q stamps);
}
