-- A page of reports that is cut as their columns are read.
use Rattle.std.specs.Prelude.{ℕ, List, ◌++◌}
use Rattle.adr_queries.specs.declared.filter.ReportFilter.{ReportFilter}
use Rattle.adr_lent.specs.Pages.{IsCut}
use Rattle.adr_report_pages.specs.Columns.{Entry, wanted_among}

-- with these behind what was wanted so far, of which so much was found and so many were to skip, so much is found and so many are to skip
abbrev pub CutsOn : ReportFilter → List Entry → List Entry → ℕ → List Entry → ℕ → Type 0
CutsOn f more found left now_found now_left = (skip : ℕ) (so_far : List Entry) → IsCut skip so_far found left → IsCut skip (so_far ++ wanted_among f more) now_found now_left
