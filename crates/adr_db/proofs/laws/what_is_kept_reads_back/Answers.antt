use Rattle.adr_db.proofs.Common.{state}
use Rattle.adr_db.proofs.ReadBack.{kept_again}
use Rattle.adr_db.proofs.laws.what_is_kept_reads_back.Goals as goal

pub returns : goal.returns
returns g c kept was = kept_again kept (state g.S.Store c.args.conn.now) was
