use Rattle.std.proofs.Common.{◌≡◌, Ok, sym, subst, ◌∙◌}
use Rattle.adr_state.specs.Portfolios.{carried_out}
use Rattle.adr_view.specs.Reports.{putting_report}
use Rattle.adr_edits.proofs.report.report_made.Goals as goal

pub returns-clause-ok : goal.returns-clause-ok
returns-clause-ok c =
    rw c.in_ok-on.ensures.ok
    (rw (sym c.is_full.ensures ∙ c.if-is_full.false)
    (subst (λ kept. carried_out c.args.portfolio.now (Ok (putting_report c.args.number kept)) ≡ Ok (c.in_ok-put_kept.field-0, c.put_kept.new.portfolio)) c.in_ok-kept.ensures c.in_ok-put_kept.ensures))
