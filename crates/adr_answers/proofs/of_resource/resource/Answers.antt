use Rattle.std.proofs.Common.{arith}
use Rattle.adr_db.specs.Images.{image_kept}
use Rattle.adr_state.specs.Resources.{resource_with_id}
use Rattle.adr_queries.specs.Listings.{resource_told}
use Rattle.adr_answers.proofs.Sighted.{unseen_refused, seen_finds, seen_refuses}
use Rattle.adr_answers.proofs.of_resource.resource.Goals as goal

pub returns-in_err-sight-clause-refuses : goal.returns-in_err-sight-clause-refuses
returns-in_err-sight-clause-refuses g c =
    unseen_refused g.S.Store c.args.tx.now.conn.now c.sight_in.new.tx.conn.now c.sight_in.new.tx.conn.now c.args.role.now (λ kept sight. resource_told (image_kept kept).base c.args.ven.now sight (resource_with_id c.args.id.now kept.portfolio))
    c.from_residual.result c.in_err-sight.field-0.0 c.from_residual.ensures.1 c.in_err-sight.ensures.refuses

pub returns-clause-finds : goal.returns-clause-finds
returns-clause-finds g c =
    seen_finds g.S.Store c.args.tx.now.conn.now c.sight_in.new.tx.conn.now c.resource_seen.new.tx.conn.now c.args.role.now (λ kept sight. resource_told (image_kept kept).base c.args.ven.now sight (resource_with_id c.args.id.now kept.portfolio))
    (λ clean. omega (arith, clean, c.resource_seen.ensures.lent.stays.crash.clean)) c.in_ok-sight.sight c.in_ok-sight.ensures.finds c.resource_seen.result c.resource_seen.ensures.finds

pub returns-clause-refuses : goal.returns-clause-refuses
returns-clause-refuses g c =
    seen_refuses g.S.Store c.args.tx.now.conn.now c.sight_in.new.tx.conn.now c.resource_seen.new.tx.conn.now c.args.role.now (λ kept sight. resource_told (image_kept kept).base c.args.ven.now sight (resource_with_id c.args.id.now kept.portfolio))
    (λ clean. omega (arith, clean, c.resource_seen.ensures.lent.stays.crash.clean)) c.in_ok-sight.sight c.in_ok-sight.ensures.finds c.resource_seen.result c.resource_seen.ensures.refuses
