-- A table as matchit keeps it, and what it answers there.
use Rattle.std.specs.Prelude.{ℕ, Bool, true, false, ◌&&◌, List, [], ◌∷◌, Option, Some, None, is_none, Result, Ok, Err, fold}
use Rattle.matchit.specs.Rows.{RowsOf}
use Rattle.matchit.specs.Route.{parse_route, Scan}
use Rattle.matchit.specs.Router.{RouteOf, route_from, nearest}
use Rattle.matchit.specs.Order.{placed}
use Rattle.matchit.specs.Seek.{first}
use Rattle.matchit.specs.declared.error.InsertError.{InsertError}

module _ {T : Type 0} where
  -- the rows with one more
  abbrev pub row_added : RowsOf (RouteOf T) → T → Result Scan InsertError → RowsOf (RouteOf T)
  row_added rows value (Ok s) = placed (s.pattern, route_from s value) rows
  row_added rows value (Err e) = rows

  -- the rows with one text more, where it is read; else as they were
  abbrev pub row_of : RowsOf (RouteOf T) → List ℕ × T → RowsOf (RouteOf T)
  row_of rows entry = row_added rows entry.1 (parse_route entry.0)

  -- a table as matchit keeps it
  unfoldable pub rows_of_table : List (List ℕ × T) → RowsOf (RouteOf T)
  rows_of_table table = fold row_of [] table

  abbrev pub route_value : Option (RouteOf T) → Option T
  route_value None = None
  route_value (Some r) = Some r.value

  -- what matchit answers there
  abbrev pub route_of : RowsOf (RouteOf T) → List ℕ → Option T
  route_of rows path = route_value (first rows path)

  -- a text that is read, and stands against no row
  abbrev pub is_free_of : RowsOf (RouteOf T) → Result Scan InsertError → Bool
  is_free_of rows (Ok s) = is_none (nearest s.pattern rows)
  is_free_of rows (Err e) = false

  -- a text is read, and stands against no row that is there
  unfoldable pub is_free : RowsOf (RouteOf T) → List ℕ → Bool
  is_free rows text = is_free_of rows (parse_route text)

  -- each text is free where those before it stand
  abbrev pub all_free : RowsOf (RouteOf T) → List (List ℕ × T) → Bool
  all_free rows [] = true
  all_free rows (e ∷ rest) = is_free rows e.0 && all_free (row_of rows e) rest
