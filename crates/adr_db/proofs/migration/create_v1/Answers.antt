use Rattle.std.proofs.Common.{[], refl, arith}
use Rattle.adr_sql.specs.Schemas.{no_schema}
use Rattle.adr_db.proofs.Common.{state, HasCleanDisk}
use Rattle.adr_db.specs.Tables.{first_tables}
use Rattle.adr_db.proofs.Results.{on_then}
use Rattle.adr_db.proofs.Creating.{make_first}
use Rattle.adr_db.proofs.FirstVersion.{first_put}
use Rattle.adr_db.proofs.migration.create_v1.Goals as goal

pub returns-in-Ok-clause-made : goal.returns-in-Ok-clause-made
returns-in-Ok-clause-made g c clean =
    let mid = state g.S.Store c.create_tables.new.tx.conn.now in
    let early : HasCleanDisk mid = omega (arith, c.run.ensures.lent.stays.crash.clean) in
    on_then c.run.result (λ ran empty. record {
      rows = first_put mid _ ran.0 _ ran.1 (c.in-Ok.ensures.made early no_schema [] first_tables make_first empty);
      marks = tt;
      subs = tt;
      unfrozen = record { events = refl; shares = refl };
    }) (c.run.ensures.runs clean)
