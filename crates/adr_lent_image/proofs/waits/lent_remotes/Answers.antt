use Rattle.std.proofs.Common.{◌≡◌, ◌∙◌, [], fold, rules}
use Rattle.adr_db.proofs.Common.{HasCleanDisk, state}
use Rattle.adr_db.specs.Admitted.{ReadsRemote}
use Rattle.adr_lent_image.specs.Gathered.{with_remote}
use Rattle.adr_lent_image.proofs.Gathered.{finds, was_open}
use Rattle.adr_lent_image.proofs.ReadLemmas.{remote_rows, remotes_again, remotes_back}
use Rattle.adr_lent_image.proofs.waits.lent_remotes.Goals as goal

pub returns-clause-finds : goal.returns-clause-finds
returns-clause-finds g c clean =
    let late : HasCleanDisk (state g.S.Store c.gather_all.new.rows.conn.now) = search rules in
    finds g.S.Store c.args.conn.now c.in-Ok.rows.conn.now c.gather_all.new.rows.conn.now c.gather_all.result c.in-Ok.ensures.begun.lent c.gather_all.ensures.stands.crash late
    ReadsRemote remote_rows remotes_back (λ remotes seen. remotes ≡ fold with_remote [] seen) (λ kept remotes. remotes ≡ kept.remotes) (λ remotes kept was is. is ∙ remotes_again kept (state g.S.Store c.args.conn.now) was) c.in-Ok.ensures.selects (rw c.new.ensures at (c.gather_all.ensures.lends late)) _ (search rules)

pub returns-clause-was_open : goal.returns-clause-was_open
returns-clause-was_open g c clean =
    let late : HasCleanDisk (state g.S.Store c.gather_all.new.rows.conn.now) = search rules in
    was_open g.S.Store c.args.conn.now c.in-Ok.rows.conn.now c.gather_all.new.rows.conn.now c.gather_all.result c.in-Ok.ensures.begun.lent c.gather_all.ensures.stands.crash late
