-- What a visit tells, one source after another, is what the machine tells of those sources.
use Rattle.std.proofs.Common.{◌≡◌, ◌+◌, ℕ, Bool, true, false, List, [], ◌∷◌, ◌++◌, map, length, Less, refl, sym, ap, ap₂, subst, ◌∙◌}
use Rattle.std.specs.List.{All, flat_map}
use Rattle.std.proofs.lemmas.List.{length-append}
use Rattle.std.proofs.lemmas.List.Elements.{All-cons, All-from_recursion, All-head, All-nil, All-tail}
use Rattle.adr_objects.specs.declared.shown.Stamps.{Stamps}
use Rattle.adr_subscription.specs.declared.kept_sub.Sub.{Sub}
use Rattle.adr_delivery.specs.declared.entry.Entry.{Entry}
use Rattle.adr_state.specs.declared.base.Base.{Base}
use Rattle.adr_state.specs.declared.keys.ViewKey.{ViewKey}
use Rattle.adr_view.specs.declared.view.Content.{Content}
use Rattle.adr_view.specs.Changes.{changes}
use Rattle.adr_view.specs.Laws.{StandsInOrder}
use Rattle.adr_refresh.specs.Refresh.{Books, refreshed, refreshed_each}
use Rattle.adr_refresh.specs.Laws.{changes_in_turn}
use Rattle.adr_refresh.specs.Sources.{Source, source_cmp, is_of, rows_of}
use Rattle.adr_refresh.proofs.Common.{IsStrictlySortedBy, at, is_eq, true≢false, view_cmp}
use Rattle.adr_refresh.proofs.RefreshLemmas.{at-kept, at-stamps}
use Rattle.adr_refresh.proofs.SourceLemmas.{its_source, source_itself}
use Rattle.adr_db.specs.Bases.{Beside}
use Rattle.adr_kept_view.specs.KeptViews.{KeepsView}
use Rattle.adr_kept_view.specs.Refreshed.{books_behind, Part, IsRefreshed}
use Rattle.adr_visit.specs.Visits.{IsTrail}
use Rattle.adr_told.specs.Laws.{IsUntouched, IsToldAsWhole, AreToldAsWhole}

-- a key of a later source is not of an earlier one
pub apart : (s t : Source) → source_cmp s t ≡ Less → (k : ViewKey) → is_of t k ≡ true → is_of s k ≡ false
apart s t less k is = by (is_of s k) refl
  where
    by : (b : Bool) → is_of s k ≡ b → b ≡ false
    by true own =
        let same : s ≡ t = sym (its_source s k own) ∙ its_source t k is in
        absurd (true≢false (sym (subst (λ u. is_eq (source_cmp s u) ≡ true) same (source_itself s)) ∙ ap is_eq less))
    by false other = refl

-- the books behind sources hang on what is kept and on the stamps, and not on what was told
module _ (before after : Base) (now : ℕ) where
  pub same_books : (one other : Books) → one.kept ≡ other.kept → one.stamps ≡ other.stamps → (ss : List Source)
      → ((refreshed_each before after now one ss).kept ≡ (refreshed_each before after now other ss).kept) × ((refreshed_each before after now one ss).stamps ≡ (refreshed_each before after now other ss).stamps)
  same_books one other kept stamps [] = (kept, stamps)
  same_books one other kept stamps (s ∷ ss) = same_books (refreshed before after now one s) (refreshed before after now other s)
      (λ i. (refreshed before after now (record { kept = kept i; told = []; stamps = stamps i }) s).kept)
      (λ i. (refreshed before after now (record { kept = kept i; told = []; stamps = stamps i }) s).stamps)
      ss

module _ {I C : Type 0} (part : Part I C) (entries : I → C → List Entry) (client : List ℕ) (subs : List (ℕ × Sub)) (owner : ℕ → ℕ) (before : Base) (stamps : List (ViewKey × Stamps)) (after : Base) (now : ℕ) (stands : StandsInOrder after) where
  -- one item is told as the machine tells its source
  abbrev pub IsToldOne : Type 0
  IsToldOne = (id : I) (rows : List (ViewKey × Content)) (beside later : Beside) (cs : List C) → part.WasSo before id → KeepsView owner rows beside → IsUntouched before stamps rows beside (part.source id) → IsRefreshed part owner rows beside before after now id cs later
      → IsToldAsWhole client subs before stamps after now (part.source id) (length cs) (flat_map (entries id) cs)

  module _ (one : IsToldOne) where
    -- what is not touched yet is not touched by an earlier source
    untouched_still : (id : I) (rows : List (ViewKey × Content)) (beside middle : Beside) (cs : List C) → IsRefreshed part owner rows beside before after now id cs middle → (t : Source) → source_cmp (part.source id) t ≡ Less → IsUntouched before stamps rows beside t
        → IsUntouched before stamps (books_behind rows beside before after now (part.source id)).kept middle t
    untouched_still id rows beside middle cs refreshed t less untouched = record {
      kept = λ kept k is.
          let other = apart (part.source id) t less k is in
          at-kept before after stands now k rows (part.source id) ∙ rw other (untouched.kept kept k is);
      stamped = λ k is.
          let other = apart (part.source id) t less k is in
          ap (λ (b : Beside). at view_cmp k b.stamps) refreshed.tables
          ∙ at-stamps before after stands now k (record { kept = rows; told = []; stamps = beside.stamps }) (part.source id)
          ∙ rw other (untouched.stamped k is);
    }

    all_still : (id : I) (rows : List (ViewKey × Content)) (beside middle : Beside) (cs : List C) → IsRefreshed part owner rows beside before after now id cs middle → (ts : List Source) → All (λ t. source_cmp (part.source id) t ≡ Less) ts
        → All (IsUntouched before stamps rows beside) ts → All (IsUntouched before stamps (books_behind rows beside before after now (part.source id)).kept middle) ts
    all_still id rows beside middle cs refreshed [] less untouched = All-nil (IsUntouched before stamps (books_behind rows beside before after now (part.source id)).kept middle)
    all_still id rows beside middle cs refreshed (t ∷ ts) less untouched =
        All-cons (IsUntouched before stamps (books_behind rows beside before after now (part.source id)).kept middle) t ts
        (untouched_still id rows beside middle cs refreshed t (All-head (λ t. source_cmp (part.source id) t ≡ Less) t ts less) (All-head (IsUntouched before stamps rows beside) t ts untouched))
        (all_still id rows beside middle cs refreshed ts (All-tail (λ t. source_cmp (part.source id) t ≡ Less) t ts less) (All-tail (IsUntouched before stamps rows beside) t ts untouched))

    pub trail_as_whole : (ids : List I) (rows : List (ViewKey × Content)) (beside : Beside) (last : List (ViewKey × Content)) (end : Beside) (es : List Entry) (many : ℕ)
        → IsStrictlySortedBy source_cmp (map part.source ids) → All (part.WasSo before) ids → KeepsView owner rows beside → All (IsUntouched before stamps rows beside) (map part.source ids)
        → IsTrail part entries owner before after now rows beside ids last end es many → AreToldAsWhole client subs owner before stamps after now (map part.source ids) rows beside last end es many
    unfolding IsStrictlySortedBy
    trail_as_whole [] rows beside last end es many up were keeps untouched trail = record {
      counted = trail.3;
      entries = trail.2;
      kept = sym trail.0;
      stamped = ap (λ (b : Beside). b.stamps) (sym trail.1);
      alone = subst (λ (b : Beside). b ≡ record beside { shown = b.shown; rollups = b.rollups; stamps = b.stamps }) trail.1 refl;
      keeps = subst (λ (r : List (ViewKey × Content)). KeepsView owner r end) trail.0 (subst (λ (b : Beside). KeepsView owner rows b) trail.1 keeps);
    }
    trail_as_whole (id ∷ ids) rows beside last end es many up were keeps untouched trail =
        let s = part.source id in
        let books = books_behind rows beside before after now s in
        let refreshed = trail.4 in
        let later = all_still id rows beside trail.1 trail.0 refreshed (map part.source ids) (All-from_recursion (λ t. source_cmp s t ≡ Less) (map part.source ids) up.0) (All-tail (IsUntouched before stamps rows beside) s (map part.source ids) untouched) in
        let so = trail_as_whole ids books.kept trail.1 last end trail.2 trail.3 up.1 (All-tail (part.WasSo before) id ids were) refreshed.keeps later trail.7 in
        let same = same_books before after now (record { kept = books.kept; told = []; stamps = trail.1.stamps }) books refl (ap (λ (b : Beside). b.stamps) refreshed.tables) (map part.source ids) in
        let it = one id rows beside trail.1 trail.0 (All-head (part.WasSo before) id ids were) keeps (All-head (IsUntouched before stamps rows beside) s (map part.source ids) untouched) refreshed in
        record {
          counted = trail.6 ∙ ap₂ (λ (m n : ℕ). m + n) it.counted so.counted ∙ sym (length-append (changes (rows_of before s) (rows_of after s)) (changes_in_turn before after (map part.source ids)));
          entries = trail.5 ∙ ap₂ (λ (a b : List Entry). a ++ b) it.entries so.entries;
          kept = so.kept ∙ same.0;
          stamped = so.stamped ∙ same.1;
          alone = so.alone ∙ (λ i. record (refreshed.tables i) { shown = end.shown; rollups = end.rollups; stamps = end.stamps });
          keeps = so.keeps;
        }
