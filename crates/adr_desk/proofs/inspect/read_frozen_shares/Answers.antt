use Rattle.std.proofs.Common.{rules}
use Rattle.adr_db.proofs.Common.{HasCleanDisk, state}
use Rattle.adr_db.specs.Admitted.{ReadsFrozenShare}
use Rattle.adr_lent_image.proofs.Gathered.{reads_each}
use Rattle.adr_desk.proofs.inspect.read_frozen_shares.Goals as goal

pub returns-clause-reads : goal.returns-clause-reads
returns-clause-reads g c clean =
    let late : HasCleanDisk (state g.S.Store c.read_each.new.rows.conn.now) = search rules in
    reads_each g.S.Store c.args.conn.now c.in-Ok.rows.conn.now c.read_each.new.rows.conn.now c.read_each.result c.in-Ok.ensures.begun.lent c.read_each.ensures.stands.crash late
    ReadsFrozenShare c.in-Ok.ensures.selects (c.read_each.ensures.lends late) _ (search rules)
