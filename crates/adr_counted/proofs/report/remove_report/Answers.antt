use Rattle.std.proofs.Common.{sym, subst}
use Rattle.adr_state.specs.Portfolios.{without_report}
use Rattle.adr_db.specs.Bases.{kept_beside}
use Rattle.adr_db.proofs.Results.{on_then}
use Rattle.adr_counted.specs.Gone.{IsGone}
use Rattle.adr_counted.proofs.Puts.{gone_counted}
use Rattle.adr_counted.proofs.Going.{report_goes}
use Rattle.adr_counted.proofs.report.remove_report.Goals as goal

pub returns-clause-counts : goal.returns-clause-counts
returns-clause-counts g c clean =
    on_then c.remove_report.result (λ leaves beside base was same there. record {
      holds = leaves (kept_beside beside base) was;
      counted = gone_counted c.one_report.result base (without_report c.args.id base.portfolio) c.args.meta.now _ same (subst (λ gone. IsGone gone base.portfolio (without_report c.args.id base.portfolio)) (sym c.one_report.ensures) (report_goes base.portfolio c.args.id there)) c.in_ok-count_gone.ensures.less;
    }) (c.remove_report.ensures.leaves clean)
