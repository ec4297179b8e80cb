use Rattle.std.proofs.Common.{refl}
use Rattle.adr_db.proofs.Tables.{share_childless}
use Rattle.adr_db.proofs.KeptMaps.{remove_leaves}
use Rattle.adr_db.proofs.Maps.{share_map}
use Rattle.adr_db_portfolio.proofs.ShareStatements.{texts}
use Rattle.adr_db_portfolio.proofs.share.remove_share.Goals as goal

pub returns-clause-leaves : goal.returns-clause-leaves
returns-clause-leaves g c = remove_leaves share_map g.S.Store c.args.tx.now.conn.now c.run.new.tx.conn.now _ c.args.key.now _ refl share_childless texts.removes (λ kept are. are) (rw (c.to_sql.ensures, c.as_str.ensures.text, c.in_ok-resource.ensures.value, c.get.ensures) at c.run.ensures.runs)
