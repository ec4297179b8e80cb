-- The kinds of change that a command may make of the base.
use Rattle.std.specs.Prelude.{List, Option}
use Rattle.adr_state.specs.declared.base.Base.{Base}
use Rattle.adr_state.specs.declared.base.Mark.{Mark}
use Rattle.adr_state.specs.declared.keys.MirrorKey.{MirrorKey}
use Rattle.adr_state.specs.Mirror.{joined}
use Rattle.adr_state.specs.Portfolios.{PortfolioChange, portfolio_after}

-- a change of the base: the mirror is joined with marks, a scan is opened or closed, or the portfolio is changed
pub data BaseChange : Type 0 where
  -- the mirror is joined with marks, and the scan is then this
  JoinMarks : List (MirrorKey × Mark) → Option (List MirrorKey) → BaseChange
  -- a scan is opened or closed
  SetScan : Option (List MirrorKey) → BaseChange
  -- a ven, a resource or a share is put or goes
  ChangePortfolio : PortfolioChange → BaseChange

-- the base after a change of one of these kinds
abbrev pub changed : BaseChange → Base → Base
changed (JoinMarks marks scan) base = record base { mirror = joined base.mirror marks; scan = scan }
changed (SetScan scan) base = record base { scan = scan }
changed (ChangePortfolio change) base = record base { portfolio = portfolio_after change base.portfolio }
