use Rattle.std.proofs.Common.{◌≡◌, ◌∙◌, rules}
use Rattle.adr_state.specs.Keys.{map_of}
use Rattle.adr_db.proofs.Common.{nat_cmp, HasCleanDisk, state}
use Rattle.adr_db.specs.Admitted.{ReadsVenEntry}
use Rattle.adr_db.proofs.KeptMaps.{again}
use Rattle.adr_db.proofs.Maps.{ven_map}
use Rattle.adr_lent_image.proofs.Gathered.{finds, was_open}
use Rattle.adr_lent_image.proofs.ReadLemmas.{vens_back}
use Rattle.adr_lent_image.proofs.sites.lent_vens.Goals as goal

pub returns-clause-finds : goal.returns-clause-finds
returns-clause-finds g c clean =
    let late : HasCleanDisk (state g.S.Store c.lent_table.new.rows.conn.now) = search rules in
    finds g.S.Store c.args.conn.now c.in-Ok.rows.conn.now c.lent_table.new.rows.conn.now c.lent_table.result c.in-Ok.ensures.begun.lent c.lent_table.ensures.stands.crash late
    ReadsVenEntry (λ kept. kept.portfolio.vens) vens_back (λ vens seen. vens ≡ map_of nat_cmp seen) (λ kept vens. vens ≡ kept.portfolio.vens) (λ vens kept was is. is ∙ again ven_map kept (state g.S.Store c.args.conn.now) was) c.in-Ok.ensures.selects (c.lent_table.ensures.lends late) _ (search rules)

pub returns-clause-was_open : goal.returns-clause-was_open
returns-clause-was_open g c clean =
    let late : HasCleanDisk (state g.S.Store c.lent_table.new.rows.conn.now) = search rules in
    was_open g.S.Store c.args.conn.now c.in-Ok.rows.conn.now c.lent_table.new.rows.conn.now c.lent_table.result c.in-Ok.ensures.begun.lent c.lent_table.ensures.stands.crash late
