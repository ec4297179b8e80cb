use Rattle.std.proofs.Common.{◌≡◌, filter}
use Rattle.adr_sql.proofs.Selections.{equalities}
use Rattle.adr_state.specs.Frozen.{is_of_event}
use Rattle.adr_db.specs.Rows.{event_key_row}
use Rattle.adr_db.specs.Admitted.{ReadsFrozenShare}
use Rattle.adr_db.proofs.Maps.{frozen_share_map}
use Rattle.adr_db.proofs.Ranges.{picked_finds}
use Rattle.adr_db_portfolio.proofs.FrozenStatements.{reads_in}
use Rattle.adr_db_portfolio.proofs.FrozenRows.{tests_event, shares_read}
use Rattle.adr_db_portfolio.proofs.frozen_share.read_frozen_in.Goals as goal

pub returns-clause-finds : goal.returns-clause-finds
returns-clause-finds g c =
    let event = c.args.event.now in
    picked_finds frozen_share_map 3 (equalities 0 1) (event_key_row event) (is_of_event event) (tests_event event) ReadsFrozenShare (λ kept shares. shares ≡ filter (is_of_event event) kept.portfolio.frozen_shares) g.S.Store c.args.tx.now.conn.now c.all_of.new.tx.conn.now _ _ reads_in
    (λ shares kept are read. shares_read (filter (is_of_event event) kept.portfolio.frozen_shares) shares read) (rw (c.to_sql.ensures, c.as_str.ensures.text) at c.all_of.ensures.shows)

pub returns-clause-fails : goal.returns-clause-fails
returns-clause-fails g c = rw (c.to_sql.ensures, c.as_str.ensures.text) at c.all_of.ensures.fails
