use Rattle.std.proofs.Common.{◌≡◌, ◌∙◌, [], fold, rules}
use Rattle.adr_db.proofs.Common.{insert_entry, id_cmp, HasCleanDisk, state}
use Rattle.adr_db.specs.Admitted.{ReadsId}
use Rattle.adr_lent_image.proofs.Gathered.{finds, was_open}
use Rattle.adr_lent_image.proofs.ReadLemmas.{frozen_ids, frozen_back, frozen_again}
use Rattle.adr_lent_image.proofs.frozen.lent_frozen.Goals as goal

pub returns-clause-finds : goal.returns-clause-finds
returns-clause-finds g c clean =
    let late : HasCleanDisk (state g.S.Store c.gather_all.new.rows.conn.now) = search rules in
    finds g.S.Store c.args.conn.now c.in-Ok.rows.conn.now c.gather_all.new.rows.conn.now c.gather_all.result c.in-Ok.ensures.begun.lent c.gather_all.ensures.stands.crash late
    ReadsId frozen_ids frozen_back (λ events seen. events ≡ fold (λ events id. insert_entry id_cmp events id tt) [] seen) (λ kept events. events ≡ kept.portfolio.frozen) (λ events kept was is. is ∙ frozen_again kept (state g.S.Store c.args.conn.now) was) c.in-Ok.ensures.selects (rw c.new.ensures at (c.gather_all.ensures.lends late)) _ (search rules)

pub returns-clause-was_open : goal.returns-clause-was_open
returns-clause-was_open g c clean =
    let late : HasCleanDisk (state g.S.Store c.gather_all.new.rows.conn.now) = search rules in
    was_open g.S.Store c.args.conn.now c.in-Ok.rows.conn.now c.gather_all.new.rows.conn.now c.gather_all.result c.in-Ok.ensures.begun.lent c.gather_all.ensures.stands.crash late
