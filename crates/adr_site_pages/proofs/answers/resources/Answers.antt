use Rattle.std.proofs.Common.{arith}
use Rattle.adr_db.specs.Images.{image_kept}
use Rattle.adr_state.specs.Vens.{ven_at}
use Rattle.adr_queries.specs.Listings.{resources_told}
use Rattle.adr_answers.proofs.Sighted.{unseen_refused, seen_finds, seen_refuses}
use Rattle.adr_site_pages.proofs.answers.resources.Goals as goal

pub returns-in_err-sight-clause-refuses : goal.returns-in_err-sight-clause-refuses
returns-in_err-sight-clause-refuses g c =
    unseen_refused g.S.Store c.args.tx.now.conn.now c.sight_in.new.tx.conn.now c.sight_in.new.tx.conn.now c.args.role.now (λ kept sight. resources_told (image_kept kept).base c.args.page sight (ven_at c.args.ven.now kept.portfolio))
    c.from_residual.result c.in_err-sight.field-0.0 c.from_residual.ensures.1 c.in_err-sight.ensures.refuses

pub returns-clause-finds : goal.returns-clause-finds
returns-clause-finds g c =
    seen_finds g.S.Store c.args.tx.now.conn.now c.sight_in.new.tx.conn.now c.resources_seen.new.tx.conn.now c.args.role.now (λ kept sight. resources_told (image_kept kept).base c.args.page sight (ven_at c.args.ven.now kept.portfolio))
    (λ clean. omega (arith, clean, c.resources_seen.ensures.lent.stays.crash.clean)) c.in_ok-sight.sight c.in_ok-sight.ensures.finds c.resources_seen.result c.resources_seen.ensures.finds

pub returns-clause-refuses : goal.returns-clause-refuses
returns-clause-refuses g c =
    seen_refuses g.S.Store c.args.tx.now.conn.now c.sight_in.new.tx.conn.now c.resources_seen.new.tx.conn.now c.args.role.now (λ kept sight. resources_told (image_kept kept).base c.args.page sight (ven_at c.args.ven.now kept.portfolio))
    (λ clean. omega (arith, clean, c.resources_seen.ensures.lent.stays.crash.clean)) c.in_ok-sight.sight c.in_ok-sight.ensures.finds c.resources_seen.result c.resources_seen.ensures.refuses
