use Rattle.std.proofs.Common.{refl, arith}
use Rattle.adr_db.proofs.Common.{state, HasCleanDisk}
use Rattle.adr_db.specs.FirstVersion.{first_contents}
use Rattle.adr_db.proofs.Results.{on_then}
use Rattle.adr_db.proofs.FirstVersion.{migrated_rows}
use Rattle.adr_db.proofs.migration.migrate.Goals as goal

pub returns-clause-migrated : goal.returns-clause-migrated
returns-clause-migrated g c clean =
    let new = state g.S.Store c.say_today.new.tx.conn.now in
    let early : HasCleanDisk (state g.S.Store c.create_later.new.tx.conn.now) = omega (arith, c.say_today.ensures.lent.stays.crash.clean) in
    on_then c.say_today.result (λ said kept was. record {
      rows = migrated_rows kept new was.unfrozen (said kept.meta _ (c.in_ok-create_later.ensures.made early (first_contents kept) was.rows) refl);
      marks = was.marks;
      subs = was.subs;
    }) (c.say_today.ensures.said clean)
