use Rattle.std.proofs.Common.{◌≡◌, ◌∙◌, rules}
use Rattle.adr_state.specs.Keys.{map_of}
use Rattle.adr_db.proofs.Common.{nat_cmp, HasCleanDisk, state}
use Rattle.adr_db.specs.Admitted.{ReadsWaitingEntry}
use Rattle.adr_db.proofs.KeptMaps.{stored_again}
use Rattle.adr_db.proofs.Maps.{outbox_map}
use Rattle.adr_lent_image.proofs.Gathered.{finds, was_open}
use Rattle.adr_lent_image.proofs.ReadLemmas.{entries_back}
use Rattle.adr_lent_image.proofs.waits.lent_entries.Goals as goal

pub returns-clause-finds : goal.returns-clause-finds
returns-clause-finds g c clean =
    let late : HasCleanDisk (state g.S.Store c.lent_table.new.rows.conn.now) = search rules in
    finds g.S.Store c.args.conn.now c.in-Ok.rows.conn.now c.lent_table.new.rows.conn.now c.lent_table.result c.in-Ok.ensures.begun.lent c.lent_table.ensures.stands.crash late
    ReadsWaitingEntry (λ kept. kept.entries) entries_back (λ entries seen. entries ≡ map_of nat_cmp seen) (λ kept entries. entries ≡ kept.entries) (λ entries kept was is. is ∙ stored_again outbox_map kept (state g.S.Store c.args.conn.now) was) c.in-Ok.ensures.selects (c.lent_table.ensures.lends late) _ (search rules)

pub returns-clause-was_open : goal.returns-clause-was_open
returns-clause-was_open g c clean =
    let late : HasCleanDisk (state g.S.Store c.lent_table.new.rows.conn.now) = search rules in
    was_open g.S.Store c.args.conn.now c.in-Ok.rows.conn.now c.lent_table.new.rows.conn.now c.lent_table.result c.in-Ok.ensures.begun.lent c.lent_table.ensures.stands.crash late
