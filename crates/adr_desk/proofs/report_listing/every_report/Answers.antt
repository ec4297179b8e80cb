use Rattle.std.proofs.Common.{Ok, map, ap, ◌∙◌}
use Rattle.adr_db.proofs.Common.{state, HasCleanDisk}
use Rattle.adr_view.specs.declared.sight.Sight.TheVariants.{All}
use Rattle.adr_held.specs.Held.{kept_of}
use Rattle.adr_queries.specs.declared.answer.Answer.TheVariants as answer
use Rattle.adr_queries.specs.Replies.{reply}
use Rattle.adr_lent.proofs.Streams.{clean_before}
use Rattle.adr_report_pages.specs.Objects.{object_kept}
use Rattle.adr_report_pages.proofs.ReportLemmas.{reports_are_rows}
use Rattle.adr_desk.proofs.report_listing.every_report.Goals as goal

pub returns-clause-tells : goal.returns-clause-tells
unfolding reply
returns-clause-tells g c clean held was =
    let first = state g.S.Store c.args.conn.now in
    let later = state g.S.Store c.rows_of.new.conn in
    let clean_later : HasCleanDisk later = clean_before later (state g.S.Store c.objects_in.new.conn) _ c.objects_in.ensures.dropped.crash clean in
    let rows = c.in_ok-rows.ensures.finds clean_later (kept_of held) was.keeps in
    let objects = c.in_ok-objects.ensures.finds clean (kept_of held) rows.1 in
    ap (λ objects. Ok (answer.List objects)) (reports_are_rows first held All c.args.filter.now c.args.part c.in_ok-objects.objects was (objects ∙ ap (map (object_kept (kept_of held))) rows.0))
