-- Rows of which one column is a number, or NULL, and what is read of their first columns.
use Rattle.std.proofs.Common.{◌≡◌, ℕ, pos, false, List, ◌∷◌, map, Option, None, Some, refl, sym, ap, subst, ◌∙◌, eqb-true, eq-eqb}
use Rattle.std.specs.Prelude.{◌==◌}
use Rattle.adr_db.proofs.Common.{AllZip, Null, Row, ShareKey, Sub, column, is_eq, is_sub_of, nat_cmp, option_map_or, value_cmp, value_cmp-Int, nat_cmp_total, tied_itself, map-map, cells, and_true, equal_is, same_bool, ties, passes, is_text}
use Rattle.sqlite_value.proofs.OrderLemmas.{value_cmp-apart}
use Rattle.adr_db.specs.Rows.{number, number_row, owner_cell, share_key_row, share_row, frozen_key_row, frozen_share_row, sub_row}
use Rattle.adr_db.specs.Admitted.{ReadsNumber, ReadsShareKey, ReadsFrozenKey}
use Rattle.adr_db.proofs.Rows.{number_kept, number_same_is, numbers_as_values, share_key_kept, frozen_key_kept}
use Rattle.adr_state.specs.declared.keys.FrozenKey.{FrozenKey}
use Rattle.adr_db.proofs.KeptMaps.{read_back}

-- ---- which rows pass

tied : (n m : ℕ) → is_eq (nat_cmp n m) ≡ (m == n)
tied n m = same_bool _ _ (λ tie. eq-eqb m n (sym (number_same_is n m (ties _ tie)))) (λ same. ap is_eq (ap (λ k. nat_cmp k m) (sym (eqb-true m n same)) ∙ tied_itself nat_cmp_total m))

told : (n m : ℕ) → is_eq (value_cmp (number n) (number m)) ≡ (m == n)
told n m = ap is_eq (value_cmp-Int (pos n) (pos m) ∙ numbers_as_values n m) ∙ tied n m

-- those of which a column is this number
pub number_passes : (at n m : ℕ) (row : Row) → column row at ≡ number m → passes (number_row n) (is_text at) (Null ∷ row) ≡ (m == n)
number_passes at n m row is = and_true _ ∙ equal_is (column row at) (number n) refl ∙ ap (λ (v : _). is_eq (value_cmp (number n) v)) is ∙ told n m

-- subscriptions of a ven: those of the operator, with NULL in its place, do not pass
pub owner_passes : (n : ℕ) (e : ℕ × Sub) → passes (number_row n) (is_text 1) (Null ∷ sub_row e) ≡ is_sub_of n e.1
owner_passes n e = and_true _ ∙ equal_is (column (sub_row e) 1) (number n) refl ∙ by e.1.owner
  where
    by : (owner : Option ℕ) → is_eq (value_cmp (number n) (owner_cell owner)) ≡ option_map_or (λ owner. owner == n) owner false
    by None = ap is_eq (value_cmp-apart (number n) Null (λ same. cc))
    by (Some owner) = told n owner

-- ---- what is read

pub shares_read : (es : List (ShareKey × ℕ)) (read : List ShareKey) → AllZip ReadsShareKey (map (λ e. cells 0 2 (share_row e)) es) read → read ≡ map (λ e. e.0) es
shares_read es read h = read_back ReadsShareKey share_key_row read (map (λ e. e.0) es) (λ x y has same. share_key_kept x y same) (subst (λ rows. AllZip ReadsShareKey rows read) (sym (map-map share_key_row (λ e. e.0) es)) h)

pub frozen_read : (es : List (FrozenKey × ℕ)) (read : List FrozenKey) → AllZip ReadsFrozenKey (map (λ e. cells 0 2 (frozen_share_row e)) es) read → read ≡ map (λ e. e.0) es
frozen_read es read h = read_back ReadsFrozenKey frozen_key_row read (map (λ e. e.0) es) (λ x y has same. frozen_key_kept x y same) (subst (λ rows. AllZip ReadsFrozenKey rows read) (sym (map-map frozen_key_row (λ e. e.0) es)) h)

pub numbers_read : {V : Type 0} (es : List (ℕ × V)) (read : List ℕ) → AllZip ReadsNumber (map (λ e. number_row e.0) es) read → read ≡ map (λ e. e.0) es
numbers_read es read h = read_back ReadsNumber number_row read (map (λ e. e.0) es) (λ x y has same. number_kept x y same) (subst (λ rows. AllZip ReadsNumber rows read) (sym (map-map number_row (λ e. e.0) es)) h)
