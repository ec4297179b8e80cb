use Rattle.std.proofs.Common.{◌≡◌, filter}
use Rattle.adr_db.specs.Admitted.{ReadsStamped}
use Rattle.adr_db.proofs.Maps.{stamp_map}
use Rattle.adr_db.proofs.Ranges.{picked_finds}
use Rattle.adr_db_shown.specs.Entries.{is_key_between}
use Rattle.adr_db_shown.proofs.RangeStatements.{between, between_pass, between_row, reads_between, stamps_read}
use Rattle.adr_db_shown.proofs.stamps.read_stamps_between.Goals as goal

pub returns-clause-finds : goal.returns-clause-finds
returns-clause-finds g c =
    let event = c.args.event.now in
    let is_in = λ (e : _). is_key_between event c.args.first c.args.last e.0 in
    picked_finds stamp_map 5 between (between_row event c.args.first c.args.last) is_in (between_pass event c.args.first c.args.last) ReadsStamped (λ kept rows. rows ≡ filter is_in kept.stamps) g.S.Store c.args.tx.now.conn.now c.all_of.new.tx.conn.now _ _ reads_between
    (λ rows kept are read. stamps_read _ rows read) (rw (c.to_sql.ensures, c.to_sql-2.ensures, c.as_str.ensures.text, c.in_ok-first.ensures.value, c.get.ensures, c.in_ok-last.ensures.value, c.get-2.ensures) at c.all_of.ensures.shows)

pub returns-clause-fails : goal.returns-clause-fails
returns-clause-fails g c = rw (c.to_sql.ensures, c.to_sql-2.ensures, c.as_str.ensures.text, c.in_ok-first.ensures.value, c.get.ensures, c.in_ok-last.ensures.value, c.get-2.ensures) at c.all_of.ensures.fails
