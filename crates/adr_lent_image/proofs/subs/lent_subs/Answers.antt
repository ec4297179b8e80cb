use Rattle.std.proofs.Common.{◌≡◌, ◌∙◌, rules}
use Rattle.adr_state.specs.Keys.{map_of}
use Rattle.adr_db.proofs.Common.{nat_cmp, HasCleanDisk, state}
use Rattle.adr_db.specs.Admitted.{ReadsSubEntry}
use Rattle.adr_db.proofs.KeptMaps.{again}
use Rattle.adr_db.proofs.Maps.{sub_map}
use Rattle.adr_lent_image.proofs.Gathered.{finds, was_open}
use Rattle.adr_lent_image.proofs.ReadLemmas.{subs_back}
use Rattle.adr_lent_image.proofs.subs.lent_subs.Goals as goal

pub returns-clause-finds : goal.returns-clause-finds
returns-clause-finds g c clean =
    let late : HasCleanDisk (state g.S.Store c.lent_table.new.rows.conn.now) = search rules in
    finds g.S.Store c.args.conn.now c.in-Ok.rows.conn.now c.lent_table.new.rows.conn.now c.lent_table.result c.in-Ok.ensures.begun.lent c.lent_table.ensures.stands.crash late
    ReadsSubEntry (λ kept. kept.portfolio.subs) subs_back (λ subs seen. subs ≡ map_of nat_cmp seen) (λ kept subs. subs ≡ kept.portfolio.subs) (λ subs kept was is. is ∙ again sub_map kept (state g.S.Store c.args.conn.now) was) c.in-Ok.ensures.selects (c.lent_table.ensures.lends late) _ (search rules)

pub returns-clause-was_open : goal.returns-clause-was_open
returns-clause-was_open g c clean =
    let late : HasCleanDisk (state g.S.Store c.lent_table.new.rows.conn.now) = search rules in
    was_open g.S.Store c.args.conn.now c.in-Ok.rows.conn.now c.lent_table.new.rows.conn.now c.lent_table.result c.in-Ok.ensures.begun.lent c.lent_table.ensures.stands.crash late
