-- The numbers of reports, of which the first are those of some.
use Rattle.std.specs.Prelude.{◌≡◌, ℕ, Bool, List, map, filter, Option}
use Rattle.adr_state.specs.declared.portfolio.Report.{Report}
use Rattle.adr_db.specs.Kept.{at_most}
use Rattle.adr_report_pages.specs.Columns.{with_resource}

-- these are the numbers of some of the reports, in their order, each with that of its resource; and the first of those, at most so many where there is a
-- limit, are the first of the reports that pass
pub record HaveFirst (most : Option ℕ) (passes : ℕ × Report → Bool) (reports : List (ℕ × Report)) (numbers : List (ℕ × ℕ)) : Type 0 where
  pub among : ℕ × ℕ → Bool
  pub are : numbers ≡ filter among (map with_resource reports)
  pub first : at_most most (filter (λ r. among (with_resource r)) reports) ≡ at_most most (filter passes reports)
