-- A schema of STRICT tables.
use Rattle.std.specs.Prelude.{ℕ, false, true, List, [], ◌∷◌, map, fold, None}
use Rattle.sqlite.specs.Collation.TheVariants.{Binary}
use Rattle.sqlite.specs.declared.types.Value.TheVariants.{Null}
use Rattle.sqlite.specs.Kind.{Kind}
use Rattle.sqlite.specs.Table.{Table}
use Rattle.sqlite.specs.Schema.{Schema}
use Rattle.sqlite.specs.Change.{created}
use Rattle.sqlite_value.specs.Keys.{plain}
use Rattle.sqlite_schema.specs.declared.schema.Column.{Column}
use Rattle.sqlite_schema.specs.declared.schema.Reference.{Reference}
use Rattle.sqlite_schema.specs.declared.schema.Action.TheVariants.{Cascade, NoAction}
use Rattle.sqlite_sql.specs.Term.{Term}

-- a column that is NOT NULL
abbrev pub column : List ℕ → Kind → Column
column name kind = record { name = name; kind = kind; is_strict = true; not_null = true; default = Null; collation = Binary }

-- a column that may be NULL
abbrev pub nullable_column : List ℕ → Kind → Column
nullable_column name kind = record { name = name; kind = kind; is_strict = true; not_null = false; default = Null; collation = Binary }

-- a column, by its place from 1, REFERENCES a column of a parent, ON DELETE CASCADE
abbrev pub cascades_to : ℕ → List ℕ → List ℕ → Reference
cascades_to place parent column = record { columns = place ∷ []; parent = parent; parent_columns = column ∷ []; on_delete = Cascade; on_update = NoAction; is_deferred = false }

-- a table with its columns, its unique keys by their columns' places from 1, the first of which is its primary key, its checks and its references
abbrev pub checked_table : List ℕ → List Column → List (List ℕ) → List ℕ → List Term → List Reference → Table
checked_table name columns uniques primary checks references = record {
  name = name;
  tree = 0;
  columns = columns;
  key = None;
  primary = primary;
  uniques = uniques;
  orders = map (λ _. plain) uniques;
  checks = checks;
  references = references;
  computed = [];
  stamps = record { places = []; terms = []; formats = [] };
  is_counted = false;
}

-- a table without checks
abbrev pub table : List ℕ → List Column → List (List ℕ) → List ℕ → List Reference → Table
table name columns uniques primary references = checked_table name columns uniques primary [] references

-- the schema of an empty database
abbrev pub no_schema : Schema
no_schema = record { tables = []; indexes = []; views = [] }

-- the schema after these tables were made, one after another, from an empty database
abbrev pub schema_of : List Table → Schema
schema_of tables = fold created no_schema tables
