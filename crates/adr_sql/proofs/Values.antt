-- The values of a row, as the columns of a STRICT table keep them.
use Rattle.std.proofs.Common.{◌≡◌, Bool, true, false, ◌&&◌, List, [], ◌∷◌, length, refl, ap₂}
use Rattle.adr_sql.proofs.Common.{and_parts, Value, Null, Int, Text as Words, Row, Table, cast, cast_all}
use Rattle.sqlite_schema.specs.declared.schema.Column.{Column}
use Rattle.sqlite_schema.specs.declared.schema.Kind.{Kind}
use Rattle.sqlite_schema.specs.declared.schema.Kind.TheVariants.{Integer, Text}
use Rattle.adr_sql.proofs.Keys.{are_full}
use Rattle.adr_sql.proofs.References.{cast_null, cast_int}

-- a number for an INT column, a text for a TEXT column; a column that may be NULL keeps that, and another has its write refused
abbrev pub fits : Kind → Value → Bool
fits Integer Null = true
fits Integer (Int n) = true
fits Text Null = true
fits Text (Words t) = true
fits _ _ = false

abbrev pub fit : List Column → Row → Bool
fit [] [] = true
fit (c ∷ cs) (v ∷ row) = fits c.kind v && fit cs row
fit _ _ = false

fits_kept : (kind : Kind) (v : Value) → fits kind v ≡ true → cast kind v ≡ v
fits_kept Integer Null h = cast_null
fits_kept Integer (Int n) h = cast_int n
fits_kept Text Null h = refl
fits_kept Text (Words t) h = refl
fits_kept _ _ h = absurd cc

pub fit_kept : (cs : List Column) (row : Row) → fit cs row ≡ true → cast_all cs row ≡ row
fit_kept [] [] h = refl
fit_kept (c ∷ cs) (v ∷ row) h = let p = and_parts _ _ h in ap₂ ◌∷◌ (fits_kept c.kind v p.0) (fit_kept cs row p.1)
fit_kept _ _ h = absurd cc

-- what `refl` finds of the values of a row
pub record AreValues (table : Table) (row : Row) : Type 0 where
  pub fits : fit table.columns row ≡ true
  pub full : are_full 0 (length table.primary) row ≡ true
  pub width : length row ≡ length table.columns
