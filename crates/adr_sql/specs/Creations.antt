-- What it takes for texts to make tables.
use Rattle.std.specs.Prelude.{◌≡◌, ℕ, List, [], ◌∷◌, ◌++◌, false, Ok, fold}
use Rattle.sqlite_schema.specs.declared.schema.Table.{Table}
use Rattle.sqlite_schema.specs.declared.schema.Schema.{Schema}
use Rattle.sqlite.specs.Compile.{table_defined_by}
use Rattle.sqlite.specs.Change.{created}
use Rattle.sqlite.specs.Does.{lacks_sequence}
use Rattle.sqlite.specs.Listing.{understood}
use Rattle.sqlite.specs.Given.{IsPlain}
use Rattle.sqlite.specs.Command.TheVariants.{CreateTable}
use Rattle.sqlite.proofs.Callers.{command_of, statement_of}
use Rattle.sqlite.specs.State.{State}
use Rattle.adr_sql.specs.Contents.{Contents, Holds, empty_tables}

-- under this schema the text is one statement, which makes this table
pub record IsCreateText (schema : Schema) (table : Table) (sql : List ℕ) : Type 0 where
  pub command : command_of (understood schema sql) ≡ CreateTable
  pub whole : statement_of sql (understood schema sql) ≡ sql
  pub alone : IsPlain (understood schema sql)
  pub defined : table_defined_by sql ≡ Ok table
  pub uncounted : lacks_sequence (created schema table) ≡ false

-- from this schema on, the texts make these tables, one after another
abbrev pub Makes : Schema → List (List ℕ) → List Table → Type 0
Makes schema [] tables = tables ≡ []
Makes schema (sql ∷ texts) [] = ⊥
Makes schema (sql ∷ texts) (table ∷ tables) = IsCreateText schema table sql × Makes (created schema table) texts tables

-- behind the tables of this schema, which hold this, the first of those that are made are there, all empty, and these texts make the others
pub record IsUnderWay (schema : Schema) (all : Contents) (tables : List Table) (texts : List (List ℕ)) (s : State) : Type 0 where
  pub so_far : Schema
  pub held : Contents
  pub others : List Table
  pub holds : Holds so_far held s
  pub makes : Makes so_far texts others
  pub same : fold created so_far others ≡ fold created schema tables
  pub behind : held ++ empty_tables others ≡ all ++ empty_tables tables
