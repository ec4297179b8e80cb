use Rattle.std.proofs.Common.{◌≡◌, ◌∙◌, rules}
use Rattle.adr_state.specs.Keys.{view_cmp, map_of}
use Rattle.adr_state.proofs.KeyLemmas.{view_order}
use Rattle.adr_db.proofs.Common.{HasCleanDisk, state}
use Rattle.adr_db.specs.Admitted.{ReadsStamped}
use Rattle.adr_db.proofs.KeptMaps.{again}
use Rattle.adr_db.proofs.Maps.{stamp_map}
use Rattle.adr_lent_image.proofs.Gathered.{finds, was_open}
use Rattle.adr_lent_image.proofs.ReadLemmas.{stamps_back}
use Rattle.adr_lent_image.proofs.stamps.lent_stamps.Goals as goal

pub returns-clause-finds : goal.returns-clause-finds
returns-clause-finds g c clean =
    let late : HasCleanDisk (state g.S.Store c.lent_table.new.rows.conn.now) = search rules in
    finds g.S.Store c.args.conn.now c.in-Ok.rows.conn.now c.lent_table.new.rows.conn.now c.lent_table.result c.in-Ok.ensures.begun.lent c.lent_table.ensures.stands.crash late
    ReadsStamped (λ kept. kept.stamps) stamps_back (λ stamps seen. stamps ≡ map_of view_cmp seen) (λ kept stamps. stamps ≡ kept.stamps) (λ stamps kept was is. is ∙ again stamp_map kept (state g.S.Store c.args.conn.now) was) c.in-Ok.ensures.selects (rw view_order at (c.lent_table.ensures.lends late)) _ (search rules)

pub returns-clause-was_open : goal.returns-clause-was_open
returns-clause-was_open g c clean =
    let late : HasCleanDisk (state g.S.Store c.lent_table.new.rows.conn.now) = search rules in
    was_open g.S.Store c.args.conn.now c.in-Ok.rows.conn.now c.lent_table.new.rows.conn.now c.lent_table.result c.in-Ok.ensures.begun.lent c.lent_table.ensures.stands.crash late
