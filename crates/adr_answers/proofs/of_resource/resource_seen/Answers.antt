use Rattle.std.proofs.Common.{arith}
use Rattle.adr_db.specs.Images.{image_kept}
use Rattle.adr_state.specs.Resources.{resource_with_id}
use Rattle.adr_queries.specs.Listings.{resource_told}
use Rattle.adr_answers.specs.Told.{resource_in_sight, resource_under}
use Rattle.adr_answers.proofs.Behind.{refused_first, finds_then, refuses_then}
use Rattle.adr_answers.proofs.ToldLemmas.{resource_is}
use Rattle.adr_answers.proofs.of_resource.resource_seen.Goals as goal

pub returns-in_err-row-clause-refuses : goal.returns-in_err-row-clause-refuses
returns-in_err-row-clause-refuses g c =
    let ven = c.args.ven.now in
    let id = c.args.id.now in
    refused_first g.S.Store c.args.tx.now.conn.now c.read_in_sight.new.tx.conn.now c.read_in_sight.new.tx.conn.now (λ kept. resource_told (image_kept kept).base ven c.args.sight (resource_with_id id kept.portfolio))
    (λ kept. resource_in_sight c.args.sight (resource_with_id id kept.portfolio)) (λ kept. resource_under ven kept.portfolio) (λ kept was. resource_is (image_kept kept).base ven c.args.sight (resource_with_id id kept.portfolio))
    c.from_residual.result c.in_err-row.field-0.0 c.from_residual.ensures.1 c.in_err-row.ensures.refuses

pub returns-clause-finds : goal.returns-clause-finds
returns-clause-finds g c =
    let ven = c.args.ven.now in
    let id = c.args.id.now in
    finds_then g.S.Store c.args.tx.now.conn.now c.read_in_sight.new.tx.conn.now c.resource_under.new.tx.conn.now (λ kept. resource_told (image_kept kept).base ven c.args.sight (resource_with_id id kept.portfolio))
    (λ kept. resource_in_sight c.args.sight (resource_with_id id kept.portfolio)) (λ kept. resource_under ven kept.portfolio) (λ kept was. resource_is (image_kept kept).base ven c.args.sight (resource_with_id id kept.portfolio))
    (λ clean. omega (arith, clean, c.resource_under.ensures.lent.stays.crash.clean)) c.in_ok-row.row c.in_ok-row.ensures.finds c.resource_under.result c.resource_under.ensures.finds

pub returns-clause-refuses : goal.returns-clause-refuses
returns-clause-refuses g c =
    let ven = c.args.ven.now in
    let id = c.args.id.now in
    refuses_then g.S.Store c.args.tx.now.conn.now c.read_in_sight.new.tx.conn.now c.resource_under.new.tx.conn.now (λ kept. resource_told (image_kept kept).base ven c.args.sight (resource_with_id id kept.portfolio))
    (λ kept. resource_in_sight c.args.sight (resource_with_id id kept.portfolio)) (λ kept. resource_under ven kept.portfolio) (λ kept was. resource_is (image_kept kept).base ven c.args.sight (resource_with_id id kept.portfolio))
    (λ clean. omega (arith, clean, c.resource_under.ensures.lent.stays.crash.clean)) c.in_ok-row.row c.in_ok-row.ensures.finds c.resource_under.result c.resource_under.ensures.refuses
