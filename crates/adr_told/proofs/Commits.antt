-- Visits one behind the other are one visit, and that of all sources that differ is what comparing whole views gives.
use Rattle.std.proofs.Common.{◌≡◌, ◌+◌, ℕ, true, cond, List, [], ◌∷◌, ◌++◌, length, None, Less, refl, sym, ap, ap₂, subst, ◌∙◌}
use Rattle.std.specs.List.{All}
use Rattle.std.proofs.lemmas.List.{length-append}
use Rattle.std.proofs.lemmas.List.Concat.{flat_map-append}
use Rattle.std.proofs.lemmas.List.Elements.{All-head, All-tail}
use Rattle.std.proofs.lemmas.List.Sums.{fold-append}
use Rattle.adr_objects.specs.declared.shown.Stamps.{Stamps}
use Rattle.adr_state.specs.declared.base.Base.{Base}
use Rattle.adr_state.specs.declared.keys.ViewKey.{ViewKey}
use Rattle.adr_view.specs.declared.view.Content.{Content}
use Rattle.adr_view.specs.Changes.{changes}
use Rattle.adr_view.specs.Laws.{StandsInOrder}
use Rattle.adr_view.specs.Views.{view}
use Rattle.adr_refresh.specs.Refresh.{Books, AreStamped, is_kept, kept_view, refreshed, refreshed_each}
use Rattle.adr_refresh.specs.Laws.{changes_in_turn}
use Rattle.adr_refresh.specs.Sources.{Source, source_cmp, source_of, is_of, rows_of}
use Rattle.adr_refresh.proofs.Common.{at, view_cmp, view_exact, view_total}
use Rattle.adr_refresh.proofs.MapLemmas.{at-rows_at}
use Rattle.adr_refresh.proofs.RefreshLemmas.{at-kept, at-stamps, refreshed_as_computed, stamps_given_back}
use Rattle.adr_refresh.proofs.TurnLemmas.{changes_in_their_turn}
use Rattle.adr_refresh.proofs.SourceLemmas.{its_source}
use Rattle.adr_refresh.proofs.ViewLemmas.{view_of_sources}
use Rattle.adr_kept_view.specs.KeptViews.{KeepsView}
use Rattle.adr_kept_base.specs.Bases.{owner_between}
use Rattle.adr_kept_base.proofs.OwnerLemmas.{as_it_changes, once_refreshed}
use Rattle.adr_told.specs.Commits.{VisitsJoin, OthersStayUntouched, NoneIsTouched, VisitedIsAsComputed}
use Rattle.adr_told.specs.Laws.{entries_of_source}
use Rattle.adr_told.proofs.Trails.{apart, same_books}
use Rattle.adr_told.proofs.Turns.{told_in_turn}

pub joined : VisitsJoin
joined client subs owner before stamps after now ss ts rows middle last beside between end es fs many others one two =
    let first : Books = record { kept = rows; told = []; stamps = beside.stamps } in
    let so = same_books before after now (record { kept = middle; told = []; stamps = between.stamps }) (refreshed_each before after now first ss) one.kept one.stamped ts in
    let all = fold-append (refreshed before after now) first ss ts in
    record {
      counted =
          ap₂ (λ (m n : ℕ). m + n) one.counted two.counted
          ∙ sym (length-append (changes_in_turn before after ss) (changes_in_turn before after ts))
          ∙ ap length (sym (flat_map-append (λ s. changes (rows_of before s) (rows_of after s)) ss ts));
      entries = ap₂ (λ (a b : List _). a ++ b) one.entries two.entries ∙ sym (flat_map-append (entries_of_source client subs before stamps after now) ss ts);
      kept = two.kept ∙ so.0 ∙ ap (λ (b : Books). b.kept) (sym all);
      stamped = two.stamped ∙ so.1 ∙ ap (λ (b : Books). b.stamps) (sym all);
      alone = two.alone ∙ (λ i. record (one.alone i) { shown = end.shown; rollups = end.rollups; stamps = end.stamps });
      keeps = two.keeps;
    }

-- ---- what was not visited

module _ (before after : Base) (stands : StandsInOrder after) (now : ℕ) (t : Source) (k : ViewKey) (is : is_of t k ≡ true) where
  kept_still : (ss : List Source) (books : Books) → All (λ s. source_cmp s t ≡ Less) ss → at view_cmp k (refreshed_each before after now books ss).kept ≡ at view_cmp k books.kept
  kept_still [] books less = refl
  kept_still (s ∷ ss) books less =
      let other = apart s t (All-head (λ s. source_cmp s t ≡ Less) s ss less) k is in
      kept_still ss (refreshed before after now books s) (All-tail (λ s. source_cmp s t ≡ Less) s ss less) ∙ at-kept before after stands now k books.kept s ∙ rw other refl

  stamped_still : (ss : List Source) (books : Books) → All (λ s. source_cmp s t ≡ Less) ss → at view_cmp k (refreshed_each before after now books ss).stamps ≡ at view_cmp k books.stamps
  stamped_still [] books less = refl
  stamped_still (s ∷ ss) books less =
      let other = apart s t (All-head (λ s. source_cmp s t ≡ Less) s ss less) k is in
      stamped_still ss (refreshed before after now books s) (All-tail (λ s. source_cmp s t ≡ Less) s ss less) ∙ at-stamps before after stands now k books s ∙ rw other refl

pub others_untouched : OthersStayUntouched
others_untouched client subs owner before stamps after now ss t rows last beside end es many stands less untouched visited =
    let first : Books = record { kept = rows; told = []; stamps = beside.stamps } in
    record {
      kept = λ kept k is. ap (at view_cmp k) visited.kept ∙ kept_still before after stands now t k is ss first less ∙ untouched.kept kept k is;
      stamped = λ k is. ap (at view_cmp k) visited.stamped ∙ stamped_still before after stands now t k is ss first less ∙ untouched.stamped k is;
    }

pub none_touched : NoneIsTouched
none_touched before beside s stands = record {
  kept = λ kept k is.
      let there : is_kept (source_of k) ≡ true = ap is_kept (its_source s k is) ∙ kept in
      at-rows_at view_total view_exact k (λ k. is_kept (source_of k)) (view before)
      ∙ ap (λ b. cond b (at view_cmp k (view before)) None) there
      ∙ view_of_sources before stands k
      ∙ ap (λ (t : Source). at view_cmp k (rows_of before t)) (its_source s k is);
  stamped = λ k is. refl;
}

-- ---- in all

pub as_computed : VisitedIsAsComputed
as_computed client subs before after now ss last beside end es many stands_before stands vens up stay keeps visited =
    let owner = owner_between before.portfolio after.portfolio in
    let whole = refreshed_as_computed before after now beside.stamps ss stands_before stands stay keeps.stamped in
    let kept_is : last ≡ kept_view after = visited.kept ∙ ap (λ (b : Books). b.kept) whole in
    let stamps_are = visited.stamped ∙ ap (λ (b : Books). b.stamps) whole in
    record {
      counted = visited.counted ∙ ap length (sym (changes_in_their_turn before after ss stands_before stands up stay));
      entries = visited.entries ∙ sym (told_in_turn client subs before beside.stamps after now ss stands_before stands up stay);
      stamps = stamps_are;
      alone = visited.alone;
      keeps = once_refreshed owner end after stands (as_it_changes beside before after stands_before vens keeps).2 (subst (λ (rows : List (ViewKey × Content)). KeepsView owner rows end) kept_is visited.keeps) (subst (λ (stamps : List (ViewKey × Stamps)). AreStamped stamps after) (sym stamps_are) (stamps_given_back before after now beside.stamps));
    }
