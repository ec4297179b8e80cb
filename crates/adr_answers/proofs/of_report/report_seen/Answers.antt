use Rattle.std.proofs.Common.{Ok, refl, sym, ap, subst, ◌∙◌, arith}
use Rattle.adr_db.specs.BaseCalls.{Refuses}
use Rattle.adr_db.specs.Images.{image_kept}
use Rattle.adr_view.specs.Reports.{report_with_id}
use Rattle.adr_queries.specs.Reported.{report_told}
use Rattle.adr_answers.specs.Calls.{FindsOr}
use Rattle.adr_answers.proofs.Behind.{as_found, finds_then, refuses_then}
use Rattle.adr_answers.proofs.of_report.report_seen.Goals as goal

pub returns-in-None-clause-refuses : goal.returns-in-None-clause-refuses
returns-in-None-clause-refuses g c clean kept was =
    let found = c.in_ok-found.ensures.finds clean kept was in
    ap (λ found. report_told (image_kept kept) c.args.sight found) (sym found.0 ∙ c.in-None.is)

pub returns-in-Some-clause-finds : goal.returns-in-Some-clause-finds
returns-in-Some-clause-finds g c =
    let id = c.args.id.now in
    finds_then g.S.Store c.args.tx.now.conn.now c.report_with_id.new.tx.conn.now c.body_told.new.tx.conn.now _ (λ kept. Ok (report_with_id id kept.portfolio)) (λ kept found. report_told (image_kept kept) c.args.sight found)
    (λ kept was. refl) (λ clean. omega (arith, clean, c.body_told.ensures.lent.stays.crash.clean)) c.in_ok-found.found (as_found g.S.Store c.args.tx.now.conn.now c.report_with_id.new.tx.conn.now (λ kept. report_with_id id kept.portfolio) c.in_ok-found.found c.in_ok-found.ensures.finds) c.body_told.result
    (subst (λ found. FindsOr g.S.Store c.report_with_id.new.tx.conn.now c.body_told.new.tx.conn.now (λ kept. report_told (image_kept kept) c.args.sight found) c.body_told.result) (sym c.in-Some.is) c.body_told.ensures.finds)

pub returns-in-Some-clause-refuses : goal.returns-in-Some-clause-refuses
returns-in-Some-clause-refuses g c =
    let id = c.args.id.now in
    refuses_then g.S.Store c.args.tx.now.conn.now c.report_with_id.new.tx.conn.now c.body_told.new.tx.conn.now _ (λ kept. Ok (report_with_id id kept.portfolio)) (λ kept found. report_told (image_kept kept) c.args.sight found)
    (λ kept was. refl) (λ clean. omega (arith, clean, c.body_told.ensures.lent.stays.crash.clean)) c.in_ok-found.found (as_found g.S.Store c.args.tx.now.conn.now c.report_with_id.new.tx.conn.now (λ kept. report_with_id id kept.portfolio) c.in_ok-found.found c.in_ok-found.ensures.finds) c.body_told.result
    (subst (λ found. Refuses g.S.Store c.report_with_id.new.tx.conn.now c.body_told.new.tx.conn.now (λ kept. report_told (image_kept kept) c.args.sight found) c.body_told.result) (sym c.in-Some.is) c.body_told.ensures.refuses)
