-- What the tables of a database hold. The number that the store gives each row is no part of it.
use Rattle.std.specs.Prelude.{◌≡◌, ℕ, zero, suc, List, [], ◌∷◌, map, drop, length, IsTrue}
use Rattle.std.specs.declared.cmp.Ordering.TheVariants.{Less}
use Rattle.std.specs.List.{AllByRecursion, AllZip}
use Rattle.std.specs.List.Sorted.{IsPermutation}
use Rattle.sqlite.specs.Order.{Row}
use Rattle.sqlite.specs.Tree.{Trees, rowid, IsTable, IsAscending}
use Rattle.sqlite.specs.View.{is_int}
use Rattle.sqlite_catalog.specs.Listing.{IsSound}
use Rattle.sqlite.specs.Table.{Table}
use Rattle.sqlite.specs.Schema.{Schema}
use Rattle.sqlite.specs.State.{State}
use Rattle.adr_sql.specs.Keys.{key_order}

-- the rows of each table, in the order of the tables in the schema
abbrev pub Contents : Type 0
Contents = List (List Row)

-- the rows of the table at a place
abbrev pub rows_of_table : Contents → ℕ → List Row
rows_of_table [] at = []
rows_of_table (rows ∷ all) zero = rows
rows_of_table (rows ∷ all) (suc at) = rows_of_table all at

-- the contents, with other rows in the table at a place
abbrev pub with_table : Contents → ℕ → List Row → Contents
with_table [] at new = []
with_table (rows ∷ all) zero new = new ∷ all
with_table (rows ∷ all) (suc at) new = rows ∷ with_table all at new

-- every table is empty
abbrev pub empty_tables : List Table → Contents
empty_tables = map (λ t. [])

-- what is stored are these rows, each behind its number: they have so many columns, and their keys of n columns rise
pub record Stores (n width : ℕ) (stored rows : List Row) : Type 0 where
  pub rising : IsAscending (λ a b. key_order n a b ≡ Less) rows
  pub whole : AllByRecursion (λ row. length row ≡ width) rows
  pub same : IsPermutation rows (map (drop 1) stored)
  pub listed : IsTable stored
  pub numbered : AllByRecursion (λ r. IsTrue (is_int (rowid r))) stored

-- each table stores its rows
abbrev pub StoresEach : List Table → Trees → Contents → Type 0
StoresEach ts trees all = AllZip (λ t rows. Stores (length t.primary) (length t.columns) (trees t.tree) rows) ts all

-- the database has this schema, which its trees list and obey, and its tables hold this
pub record Holds (schema : Schema) (all : Contents) (s : State) : Type 0 where
  pub has : s.now.schema ≡ schema
  pub sound : IsSound schema s.now.trees
  pub each : StoresEach schema.tables s.now.trees all
