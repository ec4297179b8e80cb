use Rattle.std.proofs.Common.{Ok, refl, sym, ap, subst, ◌∙◌, arith}
use Rattle.adr_db.specs.BaseCalls.{Refuses}
use Rattle.adr_db.specs.Images.{image_kept}
use Rattle.adr_queries.specs.Shown.{sees_owned}
use Rattle.adr_answers.specs.Calls.{FindsOr}
use Rattle.adr_answers.proofs.Behind.{as_found, finds_then, refuses_then}
use Rattle.adr_answers.proofs.ToldLemmas.{report_by}
use Rattle.adr_answers.proofs.of_report.body_told.Goals as goal

pub returns-then-not-sees-clause-refuses : goal.returns-then-not-sees-clause-refuses
returns-then-not-sees-clause-refuses g c clean kept was =
    let found = c.in_ok-sees.ensures.finds clean kept was in
    ap (λ sees. report_by (image_kept kept) c.args.number c.args.body.now sees) (sym found.0 ∙ c.if-not-sees.true)

pub returns-clause-finds : goal.returns-clause-finds
returns-clause-finds g c =
    let body = c.args.body.now in
    finds_then g.S.Store c.args.tx.now.conn.now c.sees_owned.new.tx.conn.now c.stamped.new.tx.conn.now _ (λ kept. Ok (sees_owned (image_kept kept).base c.args.sight body.head.resource)) (λ kept sees. report_by (image_kept kept) c.args.number body sees)
    (λ kept was. refl) (λ clean. omega (arith, clean, c.stamped.ensures.lent.stays.crash.clean)) c.in_ok-sees.sees (as_found g.S.Store c.args.tx.now.conn.now c.sees_owned.new.tx.conn.now (λ kept. sees_owned (image_kept kept).base c.args.sight body.head.resource) c.in_ok-sees.sees c.in_ok-sees.ensures.finds) c.stamped.result
    (subst (λ sees. FindsOr g.S.Store c.sees_owned.new.tx.conn.now c.stamped.new.tx.conn.now (λ kept. report_by (image_kept kept) c.args.number body sees) c.stamped.result) (sym c.if-not-sees.false) c.stamped.ensures.finds)

pub returns-clause-refuses : goal.returns-clause-refuses
returns-clause-refuses g c =
    let body = c.args.body.now in
    refuses_then g.S.Store c.args.tx.now.conn.now c.sees_owned.new.tx.conn.now c.stamped.new.tx.conn.now _ (λ kept. Ok (sees_owned (image_kept kept).base c.args.sight body.head.resource)) (λ kept sees. report_by (image_kept kept) c.args.number body sees)
    (λ kept was. refl) (λ clean. omega (arith, clean, c.stamped.ensures.lent.stays.crash.clean)) c.in_ok-sees.sees (as_found g.S.Store c.args.tx.now.conn.now c.sees_owned.new.tx.conn.now (λ kept. sees_owned (image_kept kept).base c.args.sight body.head.resource) c.in_ok-sees.sees c.in_ok-sees.ensures.finds) c.stamped.result
    (subst (λ sees. Refuses g.S.Store c.sees_owned.new.tx.conn.now c.stamped.new.tx.conn.now (λ kept. report_by (image_kept kept) c.args.number body sees) c.stamped.result) (sym c.if-not-sees.false) c.stamped.ensures.refuses)
