use Rattle.std.proofs.Common.{◌≡◌, ◌∙◌, [], Ok, ap, fold, map, rules}
use Rattle.adr_db.proofs.Common.{HasCleanDisk, state}
use Rattle.adr_db.specs.Admitted.{ReadsReportEntry}
use Rattle.adr_db.proofs.Reports.{columns_of}
use Rattle.adr_lent_image.specs.declared.reports.Merging.{Merging}
use Rattle.adr_lent_image.specs.Merged.{groups_of, with_columns}
use Rattle.adr_lent_image.proofs.Gathered.{finds, was_open}
use Rattle.adr_lent_image.proofs.MergeLemmas.{reports_taken}
use Rattle.adr_lent_image.proofs.ReadLemmas.{reports_back}
use Rattle.adr_lent_image.proofs.reports.reports_with.Goals as goal

pub returns-clause-finds : goal.returns-clause-finds
returns-clause-finds g c clean =
    let late : HasCleanDisk (state g.S.Store c.gather_all.new.rows.conn.now) = search rules in
    let waiting = c.args.waiting in
    finds g.S.Store c.args.conn.now c.in-Ok.rows.conn.now c.gather_all.new.rows.conn.now (Ok c.in_ok-merged.merged) c.in-Ok.ensures.begun.lent c.gather_all.ensures.stands.crash late
    ReadsReportEntry (λ kept. map columns_of kept.portfolio.reports) reports_back (λ merged seen. merged ≡ fold with_columns (record { waiting = waiting; reports = [] }) seen)
    (λ kept merged. waiting ≡ groups_of kept.portfolio.reports → merged.reports ≡ kept.portfolio.reports)
    (λ merged kept was is waits. ap (λ (m : Merging). m.reports) is ∙ reports_taken kept (state g.S.Store c.args.conn.now) was waiting waits) c.in-Ok.ensures.selects (rw c.new.ensures at (c.in_ok-merged.ensures.lends late)) _ (search rules)

pub returns-clause-was_open : goal.returns-clause-was_open
returns-clause-was_open g c clean =
    let late : HasCleanDisk (state g.S.Store c.gather_all.new.rows.conn.now) = search rules in
    was_open g.S.Store c.args.conn.now c.in-Ok.rows.conn.now c.gather_all.new.rows.conn.now (Ok c.in_ok-merged.merged) c.in-Ok.ensures.begun.lent c.gather_all.ensures.stands.crash late
