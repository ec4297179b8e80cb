-- What goes along with resources.
use Rattle.std.specs.Prelude.{ℕ, ◌==◌, List, length, filter}
use Rattle.std.specs.List.{sum_by}
use Rattle.adr_state.specs.declared.portfolio.Portfolio.{Portfolio}
use Rattle.adr_state.specs.Portfolios.{reported_on}
use Rattle.adr_counted.specs.declared.along.Along.{Along}

-- how many shares a resource has, how many reports are on it, and in how many events a share of it is frozen
abbrev pub shares_of : Portfolio → ℕ → ℕ
shares_of p n = length (filter (λ s. s.0.resource == n) p.shares)

abbrev pub reports_on : Portfolio → ℕ → ℕ
reports_on p n = length (filter (λ r. reported_on r == n) p.reports)

abbrev pub frozen_of : Portfolio → ℕ → ℕ
frozen_of p n = length (filter (λ s. s.0.resource == n) p.frozen_shares)

-- and so of each of these
abbrev pub along_each : Portfolio → List ℕ → Along
along_each p numbers = record { shares = sum_by (shares_of p) numbers; reports = sum_by (reports_on p) numbers; frozen = sum_by (frozen_of p) numbers }
