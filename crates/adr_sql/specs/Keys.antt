-- The key of a row is its first columns. Keys are compared as SQL compares values, one column after another.
use Rattle.std.specs.Prelude.{ℕ, zero, suc, Bool, not, List, [], ◌∷◌, filter}
use Rattle.std.specs.declared.cmp.Ordering.{Ordering}
use Rattle.std.specs.Ordering.{is_eq, match_ordering}
use Rattle.sqlite.specs.Order.{Row, column}
use Rattle.sqlite.specs.Query.{key_cmp}
use Rattle.sqlite_value.specs.Keys.{rising}

-- n columns of a row, from one on
abbrev pub cells : ℕ → ℕ → Row → Row
cells at zero e = []
cells at (suc n) e = column e at ∷ cells (suc at) n e

-- the order of rows by their first n columns
abbrev pub key_order : ℕ → Row → Row → Ordering
key_order n = key_cmp 0 (rising n [])

-- whether a row begins with the first n columns of this key; every row begins with none
abbrev pub has_key : ℕ → Row → Row → Bool
has_key n key row = is_eq (key_order n key row)

-- the rows with this one in its place: that of the row with its key, where there is one
abbrev pub with_row : ℕ → Row → List Row → List Row
with_row n new [] = new ∷ []
with_row n new (row ∷ rows) = match_ordering (key_order n row new) (row ∷ with_row n new rows) (new ∷ rows) (new ∷ row ∷ rows)

-- the rows that begin with the first n columns of the key
abbrev pub rows_at : ℕ → Row → List Row → List Row
rows_at n key = filter (has_key n key)

-- the other rows
abbrev pub rows_without : ℕ → Row → List Row → List Row
rows_without n key = filter (λ row. not (has_key n key row))
