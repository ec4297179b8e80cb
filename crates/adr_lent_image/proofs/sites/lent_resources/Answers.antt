use Rattle.std.proofs.Common.{◌≡◌, ◌∙◌, rules}
use Rattle.adr_state.specs.Keys.{map_of}
use Rattle.adr_db.proofs.Common.{nat_cmp, HasCleanDisk, state}
use Rattle.adr_db.specs.Admitted.{ReadsResourceEntry}
use Rattle.adr_db.proofs.KeptMaps.{again}
use Rattle.adr_db.proofs.Maps.{resource_map}
use Rattle.adr_lent_image.proofs.Gathered.{finds, was_open}
use Rattle.adr_lent_image.proofs.ReadLemmas.{resources_back}
use Rattle.adr_lent_image.proofs.sites.lent_resources.Goals as goal

pub returns-clause-finds : goal.returns-clause-finds
returns-clause-finds g c clean =
    let late : HasCleanDisk (state g.S.Store c.gather_all.new.rows.conn.now) = search rules in
    finds g.S.Store c.args.conn.now c.in-Ok.rows.conn.now c.gather_all.new.rows.conn.now c.gather_all.result c.in-Ok.ensures.begun.lent c.gather_all.ensures.stands.crash late
    ReadsResourceEntry (λ kept. kept.portfolio.resources) resources_back (λ resources seen. resources ≡ map_of nat_cmp seen) (λ kept resources. resources ≡ kept.portfolio.resources) (λ resources kept was is. is ∙ again resource_map kept (state g.S.Store c.args.conn.now) was) c.in-Ok.ensures.selects (rw c.new.ensures at (c.gather_all.ensures.lends late)) _ (search rules)

pub returns-clause-was_open : goal.returns-clause-was_open
returns-clause-was_open g c clean =
    let late : HasCleanDisk (state g.S.Store c.gather_all.new.rows.conn.now) = search rules in
    was_open g.S.Store c.args.conn.now c.in-Ok.rows.conn.now c.gather_all.new.rows.conn.now c.gather_all.result c.in-Ok.ensures.begun.lent c.gather_all.ensures.stands.crash late
