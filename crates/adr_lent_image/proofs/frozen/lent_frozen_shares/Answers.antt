use Rattle.std.proofs.Common.{◌≡◌, ◌∙◌, rules}
use Rattle.adr_state.specs.Keys.{frozen_cmp, map_of}
use Rattle.adr_db.proofs.Common.{HasCleanDisk, state}
use Rattle.adr_db.specs.Admitted.{ReadsFrozenShare}
use Rattle.adr_db.proofs.KeptMaps.{again}
use Rattle.adr_db.proofs.Maps.{frozen_share_map}
use Rattle.adr_lent_image.proofs.Gathered.{finds, was_open}
use Rattle.adr_lent_image.proofs.ReadLemmas.{frozen_shares_back}
use Rattle.adr_lent_image.proofs.frozen.lent_frozen_shares.Goals as goal

pub returns-clause-finds : goal.returns-clause-finds
returns-clause-finds g c clean =
    let late : HasCleanDisk (state g.S.Store c.lent_table.new.rows.conn.now) = search rules in
    finds g.S.Store c.args.conn.now c.in-Ok.rows.conn.now c.lent_table.new.rows.conn.now c.lent_table.result c.in-Ok.ensures.begun.lent c.lent_table.ensures.stands.crash late
    ReadsFrozenShare (λ kept. kept.portfolio.frozen_shares) frozen_shares_back (λ shares seen. shares ≡ map_of frozen_cmp seen) (λ kept shares. shares ≡ kept.portfolio.frozen_shares) (λ shares kept was is. is ∙ again frozen_share_map kept (state g.S.Store c.args.conn.now) was) c.in-Ok.ensures.selects (c.lent_table.ensures.lends late) _ (search rules)

pub returns-clause-was_open : goal.returns-clause-was_open
returns-clause-was_open g c clean =
    let late : HasCleanDisk (state g.S.Store c.lent_table.new.rows.conn.now) = search rules in
    was_open g.S.Store c.args.conn.now c.in-Ok.rows.conn.now c.lent_table.new.rows.conn.now c.lent_table.result c.in-Ok.ensures.begun.lent c.lent_table.ensures.stands.crash late
