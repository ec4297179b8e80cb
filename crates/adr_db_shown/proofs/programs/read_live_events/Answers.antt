use Rattle.std.proofs.Common.{◌≡◌, map, filter}
use Rattle.adr_db.specs.Rows.{event_key_row}
use Rattle.adr_db.specs.Admitted.{ReadsKey}
use Rattle.adr_db.proofs.Common.{is_text}
use Rattle.adr_db.proofs.Maps.{mirror_map}
use Rattle.adr_db_shown.specs.Entries.{is_event_of}
use Rattle.adr_db.proofs.Ranges.{picked_finds}
use Rattle.adr_db_shown.proofs.RangeStatements.{reads_events, events_pass, keys_read}
use Rattle.adr_db_shown.proofs.programs.read_live_events.Goals as goal

pub returns-clause-finds : goal.returns-clause-finds
returns-clause-finds g c =
    let program = c.args.program.now in
    picked_finds mirror_map 2 (is_text 5) (event_key_row program) (is_event_of program) (events_pass program) ReadsKey (λ kept keys. keys ≡ map (λ e. e.0) (filter (is_event_of program) kept.mirror)) g.S.Store c.args.tx.now.conn.now c.all_of.new.tx.conn.now _ _ reads_events
    (λ keys kept are read. keys_read _ keys read) (rw (c.to_sql.ensures, c.as_str.ensures.text) at c.all_of.ensures.shows)

pub returns-clause-fails : goal.returns-clause-fails
returns-clause-fails g c = rw (c.to_sql.ensures, c.as_str.ensures.text) at c.all_of.ensures.fails
