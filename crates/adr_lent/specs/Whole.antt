-- The rows of the tables that are lent whole, in the order of their keys.
use Rattle.std.specs.Prelude.{List, map}
use Rattle.sqlite.specs.Order.{Row}
use Rattle.adr_db.specs.Kept.{Kept}
use Rattle.adr_db.specs.Rows.{ven_row, sub_row, report_row}

-- those of all vens, by number
abbrev pub rows_of_vens : Kept → List Row
rows_of_vens kept = map ven_row kept.portfolio.vens

-- those of all subscriptions, by number
abbrev pub rows_of_subs : Kept → List Row
rows_of_subs kept = map sub_row kept.portfolio.subs

-- those of all reports, by number, without their intervals
abbrev pub rows_of_reports : Kept → List Row
rows_of_reports kept = map report_row kept.portfolio.reports
