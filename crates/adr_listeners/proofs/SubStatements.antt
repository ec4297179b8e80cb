-- The statements that read the subscriptions of the operator, and those of a ven.
use Rattle.std.proofs.Common.{◌≡◌, ℕ, Bool, true, false, Option, None, Some, List, [], ◌∷◌, codes, filter, Result, refl, ◌∙◌}
use Rattle.std.specs.Option.{option_map_or}
use Rattle.sqlite_sql.specs.Term.{Term}
use Rattle.sqlite_sql.specs.Ops.{binary, is_true}
use Rattle.sqlite_sql.specs.declared.ops.BinaryOp.TheVariants.{Is}
use Rattle.sqlite_value.specs.declared.keys.Collation.TheVariants.{Binary}
use Rattle.sqlite_value.proofs.OrderLemmas.{value_cmp-Null, value_cmp-apart}
use Rattle.sqlite_trees.proofs.ListLemmas.{all-filter}
use Rattle.adr_subscription.specs.Types.{IsSub}
use Rattle.adr_db.proofs.Common.{AllZip, Null, Row, col, lit, op2, end, value_cmp, understood, everything, and_true, IsSelectText, Ghosts, Held, first_columns, is_text, passes, Sub}
use Rattle.adr_listeners.specs.declared.read.TheConstants.{READ_OF_OPERATOR, READ_OF_VEN}
use Rattle.adr_db.specs.Tables.{schema}
use Rattle.adr_db.specs.Rows.{number, owner_cell, sub_row}
use Rattle.adr_db.specs.Admitted.{ReadsSubEntry}
use Rattle.adr_db.specs.Calls.{Finds, Shows}
use Rattle.adr_db.proofs.KeptMaps.{read_back}
use Rattle.adr_db.proofs.Maps.{sub_map}
use Rattle.adr_db.proofs.Ranges.{picked_finds}
use Rattle.adr_db.proofs.Subs.{sub_entry_read}
use Rattle.adr_db.proofs.Tables.{sub}
use Rattle.adr_listeners.specs.Hearers.{is_operators}

abbrev columns : List (List ℕ)
columns = codes "id" ∷ codes "ven" ∷ codes "body" ∷ codes "created" ∷ codes "modified" ∷ []

-- the test of a column that has nothing
abbrev pub is_empty : List Term
is_empty = op2 (Is Binary) (col 1 2) (lit Null) ∷ []

pub reads_operators : IsSelectText schema sub (first_columns 5 is_empty sub) end READ_OF_OPERATOR.now
unfolding understood everything
reads_operators = record { names = columns; command = refl; alone = (refl, refl); unlisted = refl; from = refl; order = refl; ungrouped = refl; undistinct = refl; joins = refl; sorts = refl; shows = refl }

pub reads_of_ven : IsSelectText schema sub (first_columns 5 (is_text 1) sub) end READ_OF_VEN.now
unfolding understood everything
reads_of_ven = record { names = columns; command = refl; alone = (refl, refl); unlisted = refl; from = refl; order = refl; ungrouped = refl; undistinct = refl; joins = refl; sorts = refl; shows = refl }

is_nothing : (owner : Option ℕ) → is_true (binary (Is Binary) (owner_cell owner) Null) ≡ option_map_or (λ n. false) owner true
unfolding binary
is_nothing None = rw (value_cmp-Null Null) refl
is_nothing (Some ven) = rw (value_cmp-apart (number ven) Null (λ same. cc)) refl

-- subscriptions of the operator have nothing in the place of the ven
pub operators_pass : (e : ℕ × Sub) → passes [] is_empty (Null ∷ sub_row e) ≡ is_operators e.1
operators_pass e = and_true _ ∙ is_nothing e.1.owner

-- what is read of the rows that pass tests are the subscriptions that do
module _ (terms : List Term) (params : Row) (is_in : ℕ × Sub → Bool) (tests : (e : ℕ × Sub) → passes params terms (Null ∷ sub_row e) ≡ is_in e) where
  pub picked_subs : {S E : Type 0} (g : Ghosts S) (old new : Held S) (sql : List ℕ) (r : Result (List (ℕ × Sub)) E) → IsSelectText schema sub (first_columns 5 terms sub) end sql → Shows g old new sql params (AllZip ReadsSubEntry) r
      → Finds g old new (λ kept rows. rows ≡ filter is_in kept.portfolio.subs) r
  picked_subs g old new sql r text =
      picked_finds sub_map 5 terms params is_in tests ReadsSubEntry (λ kept rows. rows ≡ filter is_in kept.portfolio.subs) g old new sql r text (λ es kept are read.
      let left = filter is_in kept.portfolio.subs in
      read_back ReadsSubEntry sub_row es left (λ x y has reads. sub_entry_read left (all-filter (λ s. IsSub s.1.body) is_in kept.portfolio.subs are.1) x y has reads) read)
