use Rattle.adr_db.proofs.Common.{state}
use Rattle.sqlite_catalog.proofs.ReadLemmas.{lists_once}
use Rattle.adr_db.specs.Tables.{first_schema}
use Rattle.adr_held.proofs.laws.first_left_is_held.Goals as goal

-- trees list one schema
pub returns : goal.returns
returns g c is_open held left =
    let s = state g.S.Store c.args.conn.now in
    let live = (c.schema.ensures.live is_open).0 in
    record {
      keeps = record { rows = record { has = lists_once _ s.now.schema first_schema live.lists left.sound.lists; sound = left.sound; each = left.rows }; marks = left.marks; subs = left.subs; unfrozen = left.unfrozen };
      reads = left.reads;
      right = left.right;
    }
