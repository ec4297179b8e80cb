-- What tables hold, read back of what is stored.
use Rattle.std.specs.Prelude.{ℕ, List, map, drop, length}
use Rattle.sqlite.specs.Order.{Row}
use Rattle.sqlite.specs.Table.{Table}
use Rattle.sqlite.specs.Tree.{Trees}
use Rattle.sqlite_keyed.specs.Lists.{sort_by}
use Rattle.adr_sql.specs.Keys.{key_order}
use Rattle.adr_sql.specs.Contents.{Contents}

-- the rows without the number that the store gives each, in the order of their first n columns
abbrev pub rows_stored : ℕ → List Row → List Row
rows_stored n stored = sort_by (key_order n) (map (drop 1) stored)

-- the rows of each table, by its key
abbrev pub contents_in : List Table → Trees → Contents
contents_in ts trees = map (λ t. rows_stored (length t.primary) (trees t.tree)) ts
