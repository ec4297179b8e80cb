-- The tables as maps: what they have at a key by what is kept there of the view.
use Rattle.std.proofs.Common.{◌≡◌, ℕ, false, List, Option, Some, None, Ordering, Less, Equal, Greater, refl, sym, ap, subst, ◌∙◌}
use Rattle.std.specs.Prelude.{IfSome, option_map, option_and_then}
use Rattle.std.specs.Ordering.{ordering_then}
use Rattle.std.proofs.lemmas.Option.{same_Some}
use Rattle.adr_state.specs.declared.keys.ViewKey.{ViewKey}
use Rattle.adr_state.specs.declared.keys.ViewKey.TheVariants as key
use Rattle.adr_view.specs.declared.view.Content.{Content}
use Rattle.adr_view.specs.declared.view.Content.TheVariants as content
use Rattle.adr_view.proofs.KeyLemmas.{share_exact}
use Rattle.adr_state.specs.declared.keys.ShareKey.{ShareKey}
use Rattle.adr_refresh.proofs.Common.{CmpEqualImpliesEq, InOrder, IsTotalOrder, at, equal_from_is, id_cmp, is_eq, nat_cmp_total, nat_list_cmp_total, on_total, then_total, view_cmp, view_exact, view_total}
use Rattle.adr_refresh.proofs.MapLemmas.{tied}
use Rattle.adr_db.specs.declared.shown.RollupColumns.{RollupColumns}
use Rattle.adr_db.specs.declared.shown.ShownColumns.{ShownColumns}
use Rattle.adr_db.specs.declared.shown.ShownKey.{ShownKey}
use Rattle.adr_db.specs.ShownKeys.{shown_cmp}
use Rattle.adr_kept_view.specs.Columns.{columns_of, rollup_columns, shown_row, rollup_row, shown_rows, rollup_rows}
use Rattle.adr_kept_view.proofs.FoundLemmas.{kept_part}
use Rattle.adr_kept_view.proofs.PickLemmas.{at-picked, in_order_picked}

pub shown_total : IsTotalOrder shown_cmp
shown_total = then_total (on_total (λ (k : ShownKey). k.event) nat_list_cmp_total) (on_total (λ (k : ShownKey). k.resource) nat_cmp_total)

pub shown_exact : CmpEqualImpliesEq shown_cmp
shown_exact a b is =
    let as_share : ShownKey → ShareKey = λ k. record { program = k.event; resource = k.resource } in
    let same : as_share a ≡ as_share b = share_exact (as_share a) (as_share b) is in
    λ i. record { event = (same i).program; resource = (same i).resource }

pub then_apart : (o p : Ordering) → is_eq o ≡ false → is_eq (ordering_then o p) ≡ false
then_apart Less p is = refl
then_apart Equal p is = absurd cc
then_apart Greater p is = refl

-- ---- the table `shown`

abbrev pub event_of : ShownKey → ViewKey
event_of k = key.Event k.event k.resource

module _ (owner : ℕ → ℕ) where
  shown_here : (k : ShownKey) (c : Content) → shown_row owner (event_of k, c) ≡ option_map (λ w. (k, w)) (kept_part owner k.resource c)
  shown_here k (content.Event e) = refl
  shown_here k (content.Program name) = refl
  shown_here k (content.Report body) = refl
  shown_here k (content.Rollup r) = refl

  shown_apart : (k : ShownKey) (j : ViewKey) (c : Content) → is_eq (view_cmp (event_of k) j) ≡ false → IfSome (shown_row owner (j, c)) (λ x. is_eq (shown_cmp k x.0) ≡ false)
  shown_apart k (key.Event i m) (content.Event e) is = is
  shown_apart k (key.Event i m) (content.Program name) is = tt
  shown_apart k (key.Event i m) (content.Report body) is = tt
  shown_apart k (key.Event i m) (content.Rollup r) is = tt
  shown_apart k (key.Program i) c is = tt
  shown_apart k (key.Report m) c is = tt
  shown_apart k (key.Rollup i) c is = tt

  pub at-shown_rows : (k : ShownKey) (rows : List (ViewKey × Content)) → InOrder view_cmp rows → at shown_cmp k (shown_rows owner rows) ≡ option_and_then (kept_part owner k.resource) (at view_cmp (event_of k) rows)
  at-shown_rows k rows up =
      at-picked view_cmp shown_cmp (shown_row owner) view_total (event_of k) k (kept_part owner k.resource) (tied shown_total k)
      (λ e is. ap (λ j. shown_row owner (j, e.1)) (sym (view_exact (event_of k) e.0 (equal_from_is _ is))) ∙ shown_here k e.1)
      (λ e is. shown_apart k e.0 e.1 is) rows up

  -- a row of `shown` stands under the key of its event
  key_of_row : (j : ViewKey) (c : Content) (x : ShownKey × ShownColumns) → shown_row owner (j, c) ≡ Some x → j ≡ event_of x.0
  key_of_row (key.Event i m) (content.Event e) x is = ap event_of (ap (λ (r : ShownKey × ShownColumns). r.0) (same_Some (record { event = i; resource = m }, columns_of (owner m) e) x is))
  key_of_row (key.Event i m) (content.Program name) x is = absurd cc
  key_of_row (key.Event i m) (content.Report body) x is = absurd cc
  key_of_row (key.Event i m) (content.Rollup r) x is = absurd cc
  key_of_row (key.Program i) c x is = absurd cc
  key_of_row (key.Report m) c x is = absurd cc
  key_of_row (key.Rollup i) c x is = absurd cc

  pub shown_rows_in_order : (rows : List (ViewKey × Content)) → InOrder view_cmp rows → InOrder shown_cmp (shown_rows owner rows)
  shown_rows_in_order rows up = in_order_picked view_cmp shown_cmp (shown_row owner) (λ a b less x y one other.
      subst (λ j. view_cmp j (event_of y.0) ≡ Less) (key_of_row a.0 a.1 x one) (subst (λ j. view_cmp a.0 j ≡ Less) (key_of_row b.0 b.1 y other) less)) rows up

-- ---- the table `rollup`

-- what is kept of a roll-up
abbrev pub rollup_part : List ℕ → Content → Option RollupColumns
rollup_part id (content.Rollup r) = Some (rollup_columns id r)
rollup_part id _ = None

rollup_here : (id : List ℕ) (c : Content) → rollup_row (key.Rollup id, c) ≡ option_map (λ w. (id, w)) (rollup_part id c)
rollup_here id (content.Rollup r) = refl
rollup_here id (content.Event e) = refl
rollup_here id (content.Program name) = refl
rollup_here id (content.Report body) = refl

rollup_apart : (id : List ℕ) (j : ViewKey) (c : Content) → is_eq (view_cmp (key.Rollup id) j) ≡ false → IfSome (rollup_row (j, c)) (λ x. is_eq (id_cmp id x.0) ≡ false)
rollup_apart id (key.Rollup i) (content.Rollup r) is = is
rollup_apart id (key.Rollup i) (content.Event e) is = tt
rollup_apart id (key.Rollup i) (content.Program name) is = tt
rollup_apart id (key.Rollup i) (content.Report body) is = tt
rollup_apart id (key.Event i m) c is = tt
rollup_apart id (key.Program i) c is = tt
rollup_apart id (key.Report m) c is = tt

pub at-rollup_rows : (id : List ℕ) (rows : List (ViewKey × Content)) → InOrder view_cmp rows → at id_cmp id (rollup_rows rows) ≡ option_and_then (rollup_part id) (at view_cmp (key.Rollup id) rows)
at-rollup_rows id rows up =
    at-picked view_cmp id_cmp rollup_row view_total (key.Rollup id) id (rollup_part id) (tied nat_list_cmp_total id)
    (λ e is. ap (λ j. rollup_row (j, e.1)) (sym (view_exact (key.Rollup id) e.0 (equal_from_is _ is))) ∙ rollup_here id e.1)
    (λ e is. rollup_apart id e.0 e.1 is) rows up

key_of_rollup : (j : ViewKey) (c : Content) (x : List ℕ × RollupColumns) → rollup_row (j, c) ≡ Some x → j ≡ key.Rollup x.0
key_of_rollup (key.Rollup i) (content.Rollup r) x is = ap key.Rollup (ap (λ (r : List ℕ × RollupColumns). r.0) (same_Some (i, rollup_columns i r) x is))
key_of_rollup (key.Rollup i) (content.Event e) x is = absurd cc
key_of_rollup (key.Rollup i) (content.Program name) x is = absurd cc
key_of_rollup (key.Rollup i) (content.Report body) x is = absurd cc
key_of_rollup (key.Event i m) c x is = absurd cc
key_of_rollup (key.Program i) c x is = absurd cc
key_of_rollup (key.Report m) c x is = absurd cc

pub rollup_rows_in_order : (rows : List (ViewKey × Content)) → InOrder view_cmp rows → InOrder id_cmp (rollup_rows rows)
rollup_rows_in_order rows up = in_order_picked view_cmp id_cmp rollup_row (λ a b less x y one other.
    subst (λ j. view_cmp j (key.Rollup y.0) ≡ Less) (key_of_rollup a.0 a.1 x one) (subst (λ j. view_cmp a.0 j ≡ Less) (key_of_rollup b.0 b.1 y other) less)) rows up
