use Rattle.std.proofs.Common.{subst, arith}
use Rattle.adr_db.proofs.Common.{state, HasCleanDisk}
use Rattle.adr_state.specs.declared.portfolio.Portfolio.{Portfolio}
use Rattle.adr_db.specs.Bases.{kept_beside, HoldsBeside}
use Rattle.adr_db.proofs.Results.{on_then}
use Rattle.adr_counted.proofs.Freezing.{fresh_is, frozen_counted}
use Rattle.adr_counted.proofs.frozen.freeze.Goals as goal

pub returns-clause-counts : goal.returns-clause-counts
returns-clause-counts g c clean =
    let event = c.args.event.now in
    let pairs = c.args.pairs.now in
    let early : HasCleanDisk (state g.S.Store c.kept_for.new.tx.conn.now) = omega (arith, c.keep.ensures.lent.stays.crash.clean) in
    on_then c.keep.result (λ leaves beside base was same can.
    let gone = c.in_ok-gone.ensures.finds early (kept_beside beside base) was in
    record {
      holds = subst (λ (p : Portfolio). HoldsBeside beside (record base { portfolio = p }) (state g.S.Store c.keep.new.tx.conn.now)) (fresh_is event pairs base.portfolio can.0) (leaves (kept_beside beside base) gone.1);
      counted = frozen_counted event pairs base c.in_ok-gone.gone c.args.meta.now _ same can gone.0 c.in_ok-recount.ensures.counts;
    }) (c.keep.ensures.leaves clean)
