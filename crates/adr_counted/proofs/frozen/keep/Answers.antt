use Rattle.std.proofs.Common.{arith}
use Rattle.adr_db.proofs.Common.{state, HasCleanDisk}
use Rattle.adr_db.proofs.Results.{on_then}
use Rattle.adr_db.specs.Kept.{with_portfolio}
use Rattle.adr_db_portfolio.specs.Frozen.{without_frozen_shares}
use Rattle.adr_counted.specs.Frozen.{with_pairs_put}
use Rattle.adr_counted.proofs.frozen.keep.Goals as goal

pub returns-clause-leaves : goal.returns-clause-leaves
returns-clause-leaves g c clean =
    let event = c.args.event.now in
    let put : HasCleanDisk (state g.S.Store c.put_pairs.new.tx.conn.now) = omega (arith, clean, c.put_frozen.ensures.lent.stays.crash.clean) in
    let early : HasCleanDisk (state g.S.Store c.remove_frozen_shares.new.tx.conn.now) = omega (arith, put, c.put_pairs.ensures.lent.stays.crash.clean) in
    on_then c.put_frozen.result (λ leaves kept was.
    let without = with_portfolio (without_frozen_shares event) kept in
    leaves (with_portfolio (with_pairs_put event c.args.pairs.now) without) (c.in_ok-put_pairs.ensures.leaves put without (c.in_ok-remove_frozen_shares.ensures.leaves early kept was))) (c.put_frozen.ensures.leaves clean)
