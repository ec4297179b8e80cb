-- What a refresh finds of an event: what is kept of a resource, its stamps, and what it is shown now.
use Rattle.std.proofs.Common.{◌≡◌, ℕ, Bool, true, false, cond, List, [], ◌∷◌, map, filter, Option, Some, None, Less, refl, sym, ap, subst, ◌∙◌}
use Rattle.std.specs.Prelude.{IfSome, option_map, option_and_then}
use Rattle.std.specs.Ordering.{nat_cmp}
use Rattle.std.proofs.lemmas.Option.{same_Some}
use Rattle.adr_state.specs.declared.keys.ViewKey.{ViewKey}
use Rattle.adr_state.specs.declared.keys.ViewKey.TheVariants as key
use Rattle.adr_view.specs.declared.view.Content.{Content}
use Rattle.adr_view.specs.declared.view.Content.TheVariants as content
use Rattle.adr_view.specs.Laws.{is_key_of}
use Rattle.adr_refresh.proofs.Common.{InOrder, at, cons_option, equal_from_is, exact_bytes, filter_map, id_cmp, is_eq, map_of, nat_cmp_total, nat_list_cmp_total, view_cmp, view_exact, view_total}
use Rattle.adr_refresh.proofs.MapLemmas.{tied}
use Rattle.adr_view.proofs.OrderLemmas.{made_in_order}
use Rattle.adr_db.specs.declared.shown.ShownColumns.{ShownColumns}
use Rattle.adr_kept_view.specs.Columns.{columns_of, shown_rows}
use Rattle.adr_kept_view.specs.Changes.{kept_row, rows_kept}
use Rattle.adr_kept_view.proofs.PickLemmas.{at-picked, in_order_picked}

-- ---- rows at the keys of one event, behind the numbers of the resources

-- two keys of one event stand as the numbers of the resources do
pub of_one_event : (id i j : List ℕ) (m n : ℕ) → is_eq (id_cmp id i) ≡ true → is_eq (id_cmp id j) ≡ true → view_cmp (key.Event i m) (key.Event j n) ≡ nat_cmp m n
of_one_event id i j m n one other =
    let same : i ≡ j = sym (exact_bytes id i (equal_from_is _ one)) ∙ exact_bytes id j (equal_from_is _ other) in
    subst (λ (k : List ℕ). view_cmp (key.Event i m) (key.Event k n) ≡ nat_cmp m n) same (let itself : is_eq (id_cmp i i) ≡ true = tied nat_list_cmp_total i in rw (equal_from_is _ itself) refl)

module _ {V W : Type 0} (made : ViewKey × V → Option (ℕ × W)) (h : ℕ → V → Option W) (id : List ℕ) (of_event : (i : List ℕ) (n : ℕ) (v : V) → made (key.Event i n, v) ≡ option_map (λ w. (n, w)) (h n v)) where
  here : (n : ℕ) (e : ViewKey × V) → is_eq (view_cmp (key.Event id n) e.0) ≡ true → made e ≡ option_map (λ w. (n, w)) (h n e.1)
  here n e is = ap (λ k. made (k, e.1)) (sym (view_exact (key.Event id n) e.0 (equal_from_is _ is))) ∙ of_event id n e.1

  number_of : (m : ℕ) (o : Option W) (x : ℕ × W) → option_map (λ w. (m, w)) o ≡ Some x → x.0 ≡ m
  number_of m None x is = absurd cc
  number_of m (Some w) x is = ap (λ (r : ℕ × W). r.0) (sym (same_Some (m, w) x is))

  abbrev picked : ViewKey × V → Option (ℕ × W)
  picked e = cond (is_key_of id e.0) (made e) None

  picked_here : (n : ℕ) (e : ViewKey × V) → is_eq (view_cmp (key.Event id n) e.0) ≡ true → picked e ≡ option_map (λ w. (n, w)) (h n e.1)
  picked_here n e is =
      let same : key.Event id n ≡ e.0 = view_exact (key.Event id n) e.0 (equal_from_is _ is) in
      let passes : is_key_of id e.0 ≡ true = ap (is_key_of id) (sym same) ∙ tied nat_list_cmp_total id in
      ap (λ b. cond b (made e) None) passes ∙ here n e is

  apart_by : (n : ℕ) (k : ViewKey) (v : V) → is_eq (view_cmp (key.Event id n) k) ≡ false → (b : Bool) → is_key_of id k ≡ b → IfSome {T = ℕ × W} (cond b (made (k, v)) None) (λ x. is_eq (nat_cmp n x.0) ≡ false)
  apart_by n k v other false is = tt
  apart_by n (key.Event i m) v other true is = subst (λ (o : Option (ℕ × W)). IfSome o (λ x. is_eq (nat_cmp n x.0) ≡ false)) (sym (of_event i m v)) (by (h m v))
    where
      by : (o : Option W) → IfSome {T = ℕ × W} (option_map (λ w. (m, w)) o) (λ x. is_eq (nat_cmp n x.0) ≡ false)
      by None = tt
      by (Some w) = ap is_eq (sym (of_one_event id id i n m (tied nat_list_cmp_total id) is)) ∙ other
  apart_by n (key.Program i) v other true is = absurd cc
  apart_by n (key.Report m) v other true is = absurd cc
  apart_by n (key.Rollup i) v other true is = absurd cc

  rises_by : (j k : ViewKey) (v w : V) → view_cmp j k ≡ Less → (a b : Bool) → is_key_of id j ≡ a → is_key_of id k ≡ b → (x y : ℕ × W) → cond a (made (j, v)) None ≡ Some x → cond b (made (k, w)) None ≡ Some y → nat_cmp x.0 y.0 ≡ Less
  rises_by j k v w less false b is of x y one other = absurd cc
  rises_by j k v w less true false is of x y one other = absurd cc
  rises_by (key.Event i m) (key.Event j n) v w less true true is of x y one other = rw (number_of m (h m v) x (sym (of_event i m v) ∙ one), number_of n (h n w) y (sym (of_event j n w) ∙ other)) (sym (of_one_event id i j m n is of) ∙ less)
  rises_by (key.Event i m) (key.Program j) v w less true true is of x y one other = absurd cc
  rises_by (key.Event i m) (key.Report j) v w less true true is of x y one other = absurd cc
  rises_by (key.Event i m) (key.Rollup j) v w less true true is of x y one other = absurd cc
  rises_by (key.Program i) k v w less true true is of x y one other = absurd cc
  rises_by (key.Report i) k v w less true true is of x y one other = absurd cc
  rises_by (key.Rollup i) k v w less true true is of x y one other = absurd cc

  -- filtered and made is picked
  pub picked_is : (es : List (ViewKey × V)) → filter_map made (filter (λ e. is_key_of id e.0) es) ≡ filter_map picked es
  picked_is [] = refl
  picked_is (e ∷ es) = by (is_key_of id e.0) (picked_is es)
    where
      by : (b : Bool) → filter_map made (filter (λ e. is_key_of id e.0) es) ≡ filter_map picked es → filter_map made (cond b (e ∷ filter (λ e. is_key_of id e.0) es) (filter (λ e. is_key_of id e.0) es)) ≡ cons_option (cond b (made e) None) (filter_map picked es)
      by true rest = ap (cons_option (made e)) rest
      by false rest = rest

  pub at-of_event : (n : ℕ) (es : List (ViewKey × V)) → InOrder view_cmp es → at nat_cmp n (map_of nat_cmp (filter_map made (filter (λ e. is_key_of id e.0) es))) ≡ option_and_then (h n) (at view_cmp (key.Event id n) es)
  at-of_event n es up =
      let rows_up : InOrder nat_cmp (filter_map picked es) = in_order_picked view_cmp nat_cmp picked (λ a b less x y one other. rises_by a.0 b.0 a.1 b.1 less (is_key_of id a.0) (is_key_of id b.0) refl refl x y one other) es up in
      ap (λ rows. at nat_cmp n (map_of nat_cmp rows)) (picked_is es)
      ∙ ap (at nat_cmp n) (made_in_order nat_cmp_total (filter_map picked es) rows_up)
      ∙ at-picked view_cmp nat_cmp picked view_total (key.Event id n) n (h n) (tied nat_cmp_total n) (picked_here n) (λ e other. apart_by n e.0 e.1 other (is_key_of id e.0) refl) es up

-- ---- what is kept

-- what is kept of a resource's event
abbrev pub kept_part : (ℕ → ℕ) → ℕ → Content → Option ShownColumns
kept_part owner n (content.Event e) = Some (columns_of (owner n) e)
kept_part owner n _ = None

abbrev pub kept_made : (ℕ → ℕ) → ViewKey × Content → Option (ℕ × ShownColumns)
kept_made owner (key.Event id n, c) = option_map (λ w. (n, w)) (kept_part owner n c)
kept_made owner _ = None

module _ (owner : ℕ → ℕ) (id : List ℕ) where
  abbrev kept_rows : List (ViewKey × Content) → List (ℕ × ShownColumns)
  kept_rows rows = map kept_row (rows_kept id (shown_rows owner rows))

  abbrev made_rows : List (ViewKey × Content) → List (ℕ × ShownColumns)
  made_rows rows = filter_map (kept_made owner) (filter (λ e. is_key_of id e.0) rows)

  -- nothing is kept of what is no shown event
  passed_over : (rows : List (ViewKey × Content)) (i : List ℕ) (n : ℕ) (c : Content) → kept_part owner n c ≡ None → made_rows rows ≡ made_rows ((key.Event i n, c) ∷ rows)
  passed_over rows i n c none = by (is_eq (id_cmp id i))
    where
      by : (b : Bool) → made_rows rows ≡ filter_map (kept_made owner) (cond b ((key.Event i n, c) ∷ filter (λ e. is_key_of id e.0) rows) (filter (λ e. is_key_of id e.0) rows))
      by true = ap (λ (o : Option ShownColumns). cons_option (option_map (λ w. (n, w)) o) (made_rows rows)) (sym none)
      by false = refl

  kept_one : (rows : List (ViewKey × Content)) (k : ViewKey) (c : Content) → kept_rows rows ≡ made_rows rows → kept_rows ((k, c) ∷ rows) ≡ made_rows ((k, c) ∷ rows)
  kept_one rows (key.Event i n) (content.Event e) rest = by (is_eq (id_cmp id i))
    where
      by : (b : Bool)
          → map kept_row (cond b ((record { event = i; resource = n }, columns_of (owner n) e) ∷ rows_kept id (shown_rows owner rows)) (rows_kept id (shown_rows owner rows)))
          ≡ filter_map (kept_made owner) (cond b ((key.Event i n, content.Event e) ∷ filter (λ e. is_key_of id e.0) rows) (filter (λ e. is_key_of id e.0) rows))
      by true = ap (λ rows. (n, columns_of (owner n) e) ∷ rows) rest
      by false = rest
  kept_one rows (key.Event i n) (content.Program name) rest = rest ∙ passed_over rows i n (content.Program name) refl
  kept_one rows (key.Event i n) (content.Report body) rest = rest ∙ passed_over rows i n (content.Report body) refl
  kept_one rows (key.Event i n) (content.Rollup r) rest = rest ∙ passed_over rows i n (content.Rollup r) refl
  kept_one rows (key.Program i) c rest = rest
  kept_one rows (key.Report i) c rest = rest
  kept_one rows (key.Rollup i) c rest = rest

  pub kept_is : (rows : List (ViewKey × Content)) → kept_rows rows ≡ made_rows rows
  kept_is [] = refl
  kept_is (r ∷ rows) = kept_one rows r.0 r.1 (kept_is rows)
