use Rattle.std.proofs.Common.{ℕ}
use Rattle.adr_state.specs.declared.portfolio.Ven.{Ven}
use Rattle.adr_db.proofs.KeptMaps.{put_leaves}
use Rattle.adr_db.proofs.Maps.{ven_map}
use Rattle.adr_db_portfolio.proofs.VenStatements.{texts}
use Rattle.adr_db_portfolio.proofs.ven.put_ven.Goals as goal

pub returns-clause-leaves : goal.returns-clause-leaves
returns-clause-leaves g c =
    let e : ℕ × Ven = (c.args.id, c.args.ven.now) in
    put_leaves ven_map g.S.Store c.args.tx.now.conn.now c.run.new.tx.conn.now _ _ c.args.id c.args.ven.now _ (texts.puts e) (texts.fit e) (λ kept are. are)
    (rw (c.in_ok-number.ensures.value, c.get.ensures, c.to_sql.ensures, c.as_str.ensures.text, c.in_ok-number-2.ensures.value, c.nanos.ensures.value, c.in_ok-number-3.ensures.value, c.nanos-2.ensures.value) at c.run.ensures.runs)
