use Rattle.std.proofs.Common.{◌≡◌, ◌∙◌, [], fold, rules}
use Rattle.std.specs.List.{flat_map}
use Rattle.adr_db.proofs.Common.{HasCleanDisk, state}
use Rattle.adr_lent_image.specs.Merged.{groups_of, with_one}
use Rattle.adr_lent_image.proofs.Gathered.{finds, was_open}
use Rattle.adr_lent_image.proofs.ReadLemmas.{ReadsInterval, entries_of, intervals_back}
use Rattle.adr_lent_image.proofs.MergeLemmas.{each_waits}
use Rattle.adr_lent_image.proofs.intervals.lent_intervals.Goals as goal

pub returns-clause-finds : goal.returns-clause-finds
returns-clause-finds g c clean =
    let late : HasCleanDisk (state g.S.Store c.gather_all.new.rows.conn.now) = search rules in
    finds g.S.Store c.args.conn.now c.in-Ok.rows.conn.now c.gather_all.new.rows.conn.now c.gather_all.result c.in-Ok.ensures.begun.lent c.gather_all.ensures.stands.crash late
    ReadsInterval (λ kept. flat_map entries_of kept.portfolio.reports) intervals_back (λ waiting seen. waiting ≡ fold with_one [] seen) (λ kept waiting. waiting ≡ groups_of kept.portfolio.reports) (λ waiting kept was is. is ∙ each_waits kept (state g.S.Store c.args.conn.now) was) c.in-Ok.ensures.selects (rw c.new.ensures at (c.gather_all.ensures.lends late)) _ (search rules)

pub returns-clause-was_open : goal.returns-clause-was_open
returns-clause-was_open g c clean =
    let late : HasCleanDisk (state g.S.Store c.gather_all.new.rows.conn.now) = search rules in
    was_open g.S.Store c.args.conn.now c.in-Ok.rows.conn.now c.gather_all.new.rows.conn.now c.gather_all.result c.in-Ok.ensures.begun.lent c.gather_all.ensures.stands.crash late
