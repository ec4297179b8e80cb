use Rattle.std.proofs.Common.{◌≡◌, [], ◌∷◌, filter, refl}
use Rattle.adr_db.proofs.Common.{Text}
use Rattle.adr_view.specs.Laws.{is_key_of}
use Rattle.adr_db.specs.Rows.{number}
use Rattle.adr_db.specs.Admitted.{ReadsStamped}
use Rattle.adr_db.proofs.Maps.{stamp_map}
use Rattle.adr_db.proofs.Ranges.{range_finds}
use Rattle.adr_db_shown.proofs.RangeStatements.{reads_stamps, stamps_begin, stamps_read}
use Rattle.adr_db_shown.proofs.stamps.read_event_stamps.Goals as goal

pub returns-clause-finds : goal.returns-clause-finds
returns-clause-finds g c =
    let event = c.args.event.now in
    range_finds stamp_map 2 (number 2 ∷ Text event ∷ []) (λ e. is_key_of event e.0) (stamps_begin event) ReadsStamped (λ kept rows. rows ≡ filter (λ e. is_key_of event e.0) kept.stamps) g.S.Store c.args.tx.now.conn.now c.all_of.new.tx.conn.now _ _ refl reads_stamps
    (λ rows kept are read. stamps_read _ rows read) (rw (c.to_sql.ensures, c.to_sql-2.ensures, c.as_str.ensures.text) at c.all_of.ensures.shows)

pub returns-clause-fails : goal.returns-clause-fails
returns-clause-fails g c = rw (c.to_sql.ensures, c.to_sql-2.ensures, c.as_str.ensures.text) at c.all_of.ensures.fails
