use Rattle.std.proofs.Common.{refl}
use Rattle.adr_lent.proofs.WholeTables.{reports_query, reports_selected}
use Rattle.adr_lent.proofs.whole.lend_reports.Goals as goal

pub lend-requires : goal.lend-requires
lend-requires g c = reports_query

pub returns : goal.returns
returns g c = (
  (refl, c.lend.follows.holds, c.lend.follows.holds-at-none),
  record { refused = tt; same_reference = c.lend.ensures.same_reference; begun = c.lend.ensures.begun; selects = reports_selected g.S.Store c.args.conn.now },
)
