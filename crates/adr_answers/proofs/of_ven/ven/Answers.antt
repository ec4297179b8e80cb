use Rattle.std.proofs.Common.{arith}
use Rattle.adr_state.specs.Vens.{ven_with_id}
use Rattle.adr_queries.specs.Listings.{ven_told}
use Rattle.adr_answers.proofs.Sighted.{unseen_refused, seen_finds, seen_refuses}
use Rattle.adr_answers.proofs.of_ven.ven.Goals as goal

pub returns-in_err-sight-clause-refuses : goal.returns-in_err-sight-clause-refuses
returns-in_err-sight-clause-refuses g c =
    unseen_refused g.S.Store c.args.tx.now.conn.now c.sight_in.new.tx.conn.now c.sight_in.new.tx.conn.now c.args.role.now (λ kept sight. ven_told sight (ven_with_id c.args.id.now kept.portfolio))
    c.from_residual.result c.in_err-sight.field-0.0 c.from_residual.ensures.1 c.in_err-sight.ensures.refuses

pub returns-clause-finds : goal.returns-clause-finds
returns-clause-finds g c =
    seen_finds g.S.Store c.args.tx.now.conn.now c.sight_in.new.tx.conn.now c.ven_seen.new.tx.conn.now c.args.role.now (λ kept sight. ven_told sight (ven_with_id c.args.id.now kept.portfolio))
    (λ clean. omega (arith, clean, c.ven_seen.ensures.lent.stays.crash.clean)) c.in_ok-sight.sight c.in_ok-sight.ensures.finds c.ven_seen.result c.ven_seen.ensures.finds

pub returns-clause-refuses : goal.returns-clause-refuses
returns-clause-refuses g c =
    seen_refuses g.S.Store c.args.tx.now.conn.now c.sight_in.new.tx.conn.now c.ven_seen.new.tx.conn.now c.args.role.now (λ kept sight. ven_told sight (ven_with_id c.args.id.now kept.portfolio))
    (λ clean. omega (arith, clean, c.ven_seen.ensures.lent.stays.crash.clean)) c.in_ok-sight.sight c.in_ok-sight.ensures.finds c.ven_seen.result c.ven_seen.ensures.refuses
