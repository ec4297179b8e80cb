use Rattle.std.proofs.Common.{ℕ}
use Rattle.adr_state.specs.declared.keys.FrozenKey.{FrozenKey}
use Rattle.adr_db.proofs.KeptMaps.{put_leaves}
use Rattle.adr_db.proofs.Maps.{frozen_share_map}
use Rattle.adr_db_portfolio.proofs.FrozenStatements.{puts, values}
use Rattle.adr_db_portfolio.proofs.frozen_share.put_frozen_share.Goals as goal

pub returns-clause-leaves : goal.returns-clause-leaves
returns-clause-leaves g c =
    let e : FrozenKey × ℕ = (c.args.key.now, c.args.weight) in
    put_leaves frozen_share_map g.S.Store c.args.tx.now.conn.now c.run.new.tx.conn.now _ _ c.args.key.now c.args.weight _ (puts e) (values e) (λ kept are. are)
    (rw (c.to_sql.ensures, c.as_str.ensures.text, c.in_ok-number.ensures.value, c.get.ensures, c.to_sql-2.ensures, c.get-2.ensures.value) at c.run.ensures.runs)
