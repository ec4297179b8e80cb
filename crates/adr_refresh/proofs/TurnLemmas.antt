-- The changes of sources in their order stand as those between the whole views.
use Rattle.std.proofs.Common.{◌≡◌, Bool, true, false, cond, ⊎_elim, List, [], ◌∷◌, ◌++◌, map, Option, Some, None, Less, refl, sym, ap, ap₂, ◌∙◌}
use Rattle.std.proofs.lemmas.List.{map-append}
use Rattle.adr_state.specs.declared.keys.ViewKey.{ViewKey}
use Rattle.adr_view.specs.declared.changes.Change.{Change}
use Rattle.adr_view.specs.declared.changes.Operation.{Operation}
use Rattle.adr_view.specs.declared.view.Content.{Content}
use Rattle.adr_view.specs.Changes.{changes}
use Rattle.adr_view.specs.Laws.{StandsInOrder}
use Rattle.adr_view.specs.Views.{view}
use Rattle.adr_refresh.specs.Sources.{Source, source_cmp, source_of, is_of, rows_of}
use Rattle.adr_refresh.specs.Refresh.{as_row, changes_told}
use Rattle.adr_refresh.specs.Laws.{HasAllThatDiffer, ChangesStandInTurn, changes_in_turn}
use Rattle.adr_refresh.proofs.Common.{All-contains, All-from_recursion, Base, Behind, Contains, InOrder, IsStrictlySortedBy, at, cases_Bool, flat_map, from_flat, in_order_append, is_eq, list_any, made_in_order, true≢false, view_cmp, view_exact, view_total}
use Rattle.adr_refresh.proofs.ListLemmas.{none_passes}
use Rattle.adr_refresh.proofs.MapLemmas.{at-flat, found, or_none, same_maps}
use Rattle.adr_refresh.proofs.ChangeLemmas.{change_at, at-changes, changes_in_order, no_change}
use Rattle.adr_refresh.proofs.ViewLemmas.{view_of_sources}
use Rattle.adr_refresh.proofs.SourceLemmas.{source_itself, its_source, keys_stand_alike, rows_own}

-- ---- rows in place of changes

abbrev pub as_change : ViewKey × Operation → Change
as_change r = record { key = r.0; operation = r.1 }

pub back : (cs : List Change) → map as_change (map as_row cs) ≡ cs
back [] = refl
back (c ∷ cs) = ap (λ rest. c ∷ rest) (back cs)

module _ (before after : Base) (stands_before : StandsInOrder before) (stands : StandsInOrder after) where
  abbrev told_of : Source → List (ViewKey × Operation)
  told_of s = changes_told (rows_of before s) (rows_of after s)

  rows_in_turn : (ss : List Source) → map as_row (changes_in_turn before after ss) ≡ flat_map told_of ss
  rows_in_turn [] = refl
  rows_in_turn (s ∷ ss) = map-append as_row (changes (rows_of before s) (rows_of after s)) (changes_in_turn before after ss) ∙ ap (λ rest. told_of s ++ rest) (rows_in_turn ss)

  -- ---- each at keys of its own

  at_told : (q : ViewKey) (s : Source) → at view_cmp q (told_of s) ≡ change_at q (at view_cmp q (rows_of before s)) (at view_cmp q (rows_of after s))
  at_told q s = at-changes q (rows_of before s) (rows_of after s)

  told_own : (s : Source) (q : ViewKey) → is_of s q ≡ false → at view_cmp q (told_of s) ≡ None
  told_own s q other = at_told q s ∙ ap₂ (change_at q) (rows_own before s q other) (rows_own after s q other)

  told_in_order : (s : Source) → InOrder view_cmp (told_of s)
  told_in_order s = changes_in_order (rows_of before s) (rows_of after s)

  -- a change of a source is at a key of it
  told_source : (s : Source) (r : ViewKey × Operation) → Contains (told_of s) r → source_of r.0 ≡ s
  told_source s r there = its_source s r.0 (by (is_of s r.0) refl)
    where
      by : (b : Bool) → is_of s r.0 ≡ b → is_of s r.0 ≡ true
      by true is = is
      by false other = absurd (let no : None ≡ Some r.1 = sym (told_own s r.0 other) ∙ found view_total (told_of s) r (told_in_order s) there in cc)

  each_behind : (s t : Source) → source_cmp s t ≡ Less → (a b : ViewKey × Operation) → Contains (told_of s) a → Contains (told_of t) b → Behind view_cmp a.0 b.0
  each_behind s t less a b one other = keys_stand_alike a.0 b.0 (ap₂ source_cmp (told_source s a one) (told_source t b other) ∙ less)

  turn_in_order : (ss : List Source) → IsStrictlySortedBy source_cmp ss → InOrder view_cmp (flat_map told_of ss)
  unfolding IsStrictlySortedBy
  turn_in_order [] up = tt
  turn_in_order (s ∷ ss) up = in_order_append view_cmp (told_of s) (flat_map told_of ss) (told_in_order s) (turn_in_order ss up.1) (λ a b one other.
      let t = from_flat told_of ss b other in
      each_behind s t.0 (All-contains (λ (t : Source). source_cmp s t ≡ Less) ss t.0 (All-from_recursion (λ (t : Source). source_cmp s t ≡ Less) ss up.0) t.1) a b one t.2)

  -- ---- in all

  module _ (ss : List Source) (up : IsStrictlySortedBy source_cmp ss) (stay : HasAllThatDiffer before after ss) where
    at_turn : (q : ViewKey) → at view_cmp q (flat_map told_of ss) ≡ cond (list_any (λ s. is_of s q) ss) (at view_cmp q (told_of (source_of q))) None
    at_turn q =
        ap (at view_cmp q) (sym (made_in_order view_total (flat_map told_of ss) (turn_in_order ss up)))
        ∙ at-flat view_total is_of source_of its_source told_of told_in_order told_own q [] ss
        ∙ ap (λ (o : Option Operation). cond (list_any (λ s. is_of s q) ss) o None) (or_none (at view_cmp q (told_of (source_of q))))

    at_views : (q : ViewKey) → at view_cmp q (changes_told (view before) (view after)) ≡ at view_cmp q (told_of (source_of q))
    at_views q =
        at-changes q (view before) (view after)
        ∙ ap₂ (change_at q) (view_of_sources before stands_before q) (view_of_sources after stands q)
        ∙ sym (at_told q (source_of q))

    -- what is told of a source that is shown as before is nothing
    silent : (q : ViewKey) → list_any (λ s. is_of s q) ss ≡ false → at view_cmp q (told_of (source_of q)) ≡ None
    silent q other =
        at_told q (source_of q)
        ∙ ap (λ (o : Option Content). change_at q o (at view_cmp q (rows_of after (source_of q)))) (ap (at view_cmp q) (stay (source_of q) (λ there. true≢false (sym (source_itself (source_of q)) ∙ none_passes (λ t. is_eq (source_cmp (source_of q) t)) ss (source_of q) other there))))
        ∙ no_change q (at view_cmp q (rows_of after (source_of q)))

    same_at : (q : ViewKey) → at view_cmp q (changes_told (view before) (view after)) ≡ at view_cmp q (flat_map told_of ss)
    same_at q = at_views q ∙ ⊎_elim (λ is. sym (at_turn q ∙ rw is refl)) (λ other. silent q other ∙ sym (at_turn q ∙ rw other refl)) (cases_Bool (list_any (λ s. is_of s q) ss))

    same_rows : changes_told (view before) (view after) ≡ flat_map told_of ss
    same_rows = same_maps view_total view_exact (changes_told (view before) (view after)) (flat_map told_of ss) (changes_in_order (view before) (view after)) (turn_in_order ss up) same_at

    in_their_turn : changes (view before) (view after) ≡ changes_in_turn before after ss
    in_their_turn = sym (back (changes (view before) (view after))) ∙ ap (map as_change) (same_rows ∙ sym (rows_in_turn ss)) ∙ back (changes_in_turn before after ss)

pub changes_in_their_turn : ChangesStandInTurn
changes_in_their_turn before after ss stands_before stands up stay = in_their_turn before after stands_before stands ss up stay
