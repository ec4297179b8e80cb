use Rattle.std.proofs.Common.{◌≡◌, ℕ, Some, [], ◌∷◌, Ok, Err, refl, ap, subst, arith}
use Rattle.adr_db.proofs.Common.{Forbidden}
use Rattle.adr_db.proofs.Results.{handed_on}
use Rattle.adr_state.specs.declared.portfolio.Report.{Report}
use Rattle.adr_state.specs.BaseChanges.{ChangePortfolio}
use Rattle.adr_state.specs.Portfolios.{PortfolioChange}
use Rattle.adr_touched.specs.Touched.{Covers}
use Rattle.adr_view.specs.Reports.{report_put}
use Rattle.adr_machine.specs.declared.command.Command.TheVariants as command
use Rattle.adr_machine.specs.Edits.{report_kept, put_decided}
use Rattle.adr_machine.specs.Listed.{listed}
use Rattle.adr_desk.proofs.AnswerLemmas.{kept_answered}
use Rattle.adr_desk.proofs.CoverLemmas.{put_puts, put_is_covered}
use Rattle.adr_desk.proofs.DecisionLemmas.{passed_carries, sight_carries, unseen_carries}
use Rattle.adr_desk.proofs.ListedLemmas.{Listed, one_of_listed, own_refused}
use Rattle.adr_desk.proofs.reports.report_put.Goals as goal

-- who sees nothing is refused
pub returns-in_err-sight-clause-carries : goal.returns-in_err-sight-clause-carries
returns-in_err-sight-clause-carries g c =
    let mid = c.sight_in.new.tx.conn.now in
    unseen_carries g.S.Store c.args.tx.now.conn.now c.stood_at.new.tx.conn.now mid mid report_kept (λ sight mirror p. report_put sight c.args.revision c.args.id.now c.args.report.now mirror p) c.args.role.now _ c.in_ok-stood.ensures.finds (λ clean. omega (arith, clean, c.sight_in.ensures.lent.stays.crash.clean)) c.args.meta.now c.args.meta.now c.in_err-sight.field-0.0 c.from_residual-in_err-sight.result c.from_residual-in_err-sight.ensures.1 (λ clean. clean) c.in_err-sight.ensures.refuses

pub returns-in_err-sight-clause-listed : goal.returns-in_err-sight-clause-listed
returns-in_err-sight-clause-listed g c =
    let these = listed (command.ReportPut c.args.role.now c.args.id.now c.args.report.now) in
    let e = c.in_err-sight.field-0.0 in
    handed_on (Listed these) c.from_residual-in_err-sight.result e c.from_residual-in_err-sight.ensures.1 (one_of_listed these (Forbidden ∷ []) ((0, omega arith, refl), tt) e c.in_err-sight.ensures.refused)

-- nor what is refused for itself
pub returns-in_err-number-clause-carries : goal.returns-in_err-number-clause-carries
returns-in_err-number-clause-carries g c =
    let e = c.in_err-number.field-0.0 in
    passed_carries g.S.Store c.args.tx.now.conn.now c.put.new.tx.conn.now (λ base. put_decided c.args.revision c.args.role.now c.args.id.now c.args.report.now base) c.args.meta.now c.put.new.meta e c.from_residual-in_err-number.result c.from_residual-in_err-number.ensures.1
    (sight_carries g.S.Store c.args.tx.now.conn.now c.stood_at.new.tx.conn.now c.sight_in.new.tx.conn.now c.put.new.tx.conn.now report_kept (λ sight mirror p. report_put sight c.args.revision c.args.id.now c.args.report.now mirror p) c.args.role.now _ c.in_ok-stood.ensures.finds (λ clean. omega (arith, clean, c.sight_in.ensures.lent.stays.crash.clean)) c.in_ok-sight.sight c.args.meta.now c.put.new.meta (Err e)
    (λ clean. omega (arith, clean, c.put.ensures.lent.stays.crash.clean)) c.in_ok-sight.ensures.finds c.in_err-number.ensures.carries c.in_err-number.ensures.refuses (record { programs = []; events = []; reports = []; rollups = [] }) (λ base right x change is. absurd (cc is)))

pub returns-in_err-number-clause-listed : goal.returns-in_err-number-clause-listed
returns-in_err-number-clause-listed g c =
    let e = c.in_err-number.field-0.0 in
    let own = own_refused {A = ℕ} (command.ReportPut c.args.role.now c.args.id.now c.args.report.now) (Err e) c.in_err-number.ensures.refused in
    handed_on (Listed (listed (command.ReportPut c.args.role.now c.args.id.now c.args.report.now))) c.from_residual-in_err-number.result e c.from_residual-in_err-number.ensures.1 own

pub returns-clause-carries : goal.returns-clause-carries
returns-clause-carries g c =
    let it : ℕ × Report = (c.in_ok-number.number, c.in_ok-number.report) in
    let touched = c.in_ok-touched.touched in
    sight_carries g.S.Store c.args.tx.now.conn.now c.stood_at.new.tx.conn.now c.sight_in.new.tx.conn.now c.put.new.tx.conn.now report_kept (λ sight mirror p. report_put sight c.args.revision c.args.id.now c.args.report.now mirror p) c.args.role.now _ c.in_ok-stood.ensures.finds (λ clean. omega (arith, clean, c.sight_in.ensures.lent.stays.crash.clean)) c.in_ok-sight.sight c.args.meta.now c.put.new.meta (Ok it)
    (λ clean. omega (arith, clean, c.put.ensures.lent.stays.crash.clean)) c.in_ok-sight.ensures.finds c.in_ok-number.ensures.carries c.in_ok-number.ensures.refuses touched (λ base right x change said is.
    let same : it ≡ x = cc said in
    let so = put_puts c.in_ok-sight.sight c.args.revision c.args.id.now c.args.report.now base.mirror base.portfolio x change is in
    subst (λ (change : PortfolioChange). Covers (ChangePortfolio change) base touched) so.1
    (put_is_covered c.in_ok-stood.stood (Some it.1.body.head.event) touched c.in_ok-touched.ensures base x.0 x.1 (right x.0 so.0) (ap (λ (x : ℕ × Report). Some x.1.body.head.event) same)))

pub returns-clause-answered : goal.returns-clause-answered
returns-clause-answered g c = kept_answered (command.ReportPut c.args.role.now c.args.id.now c.args.report.now) (1, omega arith, refl) (c.in_ok-number.number, c.in_ok-number.report)
