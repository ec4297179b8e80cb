use Rattle.std.proofs.Common.{ℕ}
use Rattle.adr_state.specs.declared.portfolio.Resource.{Resource}
use Rattle.adr_db.proofs.KeptMaps.{put_leaves}
use Rattle.adr_db.proofs.Maps.{resource_map}
use Rattle.adr_db_portfolio.proofs.ResourceStatements.{texts}
use Rattle.adr_db_portfolio.proofs.resource.put_resource.Goals as goal

pub returns-clause-leaves : goal.returns-clause-leaves
returns-clause-leaves g c =
    let e : ℕ × Resource = (c.args.id, c.args.resource.now) in
    put_leaves resource_map g.S.Store c.args.tx.now.conn.now c.run.new.tx.conn.now _ _ c.args.id c.args.resource.now _ (texts.puts e) (texts.fit e) (λ kept are. are)
    (rw (c.in_ok-number.ensures.value, c.get.ensures, c.in_ok-number-2.ensures.value, c.get-2.ensures, c.to_sql.ensures, c.as_str.ensures.text, c.as_name.ensures.value, c.in_ok-number-3.ensures.value, c.nanos.ensures.value, c.in_ok-number-4.ensures.value, c.nanos-2.ensures.value) at c.run.ensures.runs)
