use Rattle.adr_db.proofs.Common.{state}
use Rattle.adr_report_pages.proofs.ReportLemmas.{reports_are_rows}
use Rattle.adr_report_pages.proofs.laws.reports_are_their_rows.Goals as goal

pub returns : goal.returns
returns g c = reports_are_rows (state g.S.Store c.args.conn.now)
