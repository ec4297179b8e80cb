use Rattle.std.proofs.Common.{◌≡◌, [], ◌∷◌, filter, refl, ap}
use Rattle.adr_db.proofs.Common.{is_eq, id_cmp, text_key}
use Rattle.adr_db.specs.Rows.{event_key_row, shown_columns, number}
use Rattle.adr_db.proofs.Maps.{shown_map}
use Rattle.adr_db_shown.specs.Entries.{ReadsShownEntry}
use Rattle.adr_db.proofs.Ranges.{range_finds}
use Rattle.adr_db_shown.proofs.ShownStatements.{reads_of, shown_read}
use Rattle.adr_db_shown.proofs.shown.read_shown_of.Goals as goal

pub returns-clause-finds : goal.returns-clause-finds
returns-clause-finds g c =
    let event = c.args.event.now in
    range_finds shown_map 1 (event_key_row event) (λ e. is_eq (id_cmp event e.0.event)) (λ e. ap is_eq (text_key event e.0.event [] (number e.0.resource ∷ shown_columns e.1))) ReadsShownEntry
    (λ kept rows. rows ≡ filter (λ e. is_eq (id_cmp event e.0.event)) kept.shown) g.S.Store c.args.tx.now.conn.now c.all_of.new.tx.conn.now _ _ refl reads_of (λ rows kept are read. shown_read _ rows read)
    (rw (c.to_sql.ensures, c.as_str.ensures.text) at c.all_of.ensures.shows)

pub returns-clause-fails : goal.returns-clause-fails
returns-clause-fails g c = rw (c.to_sql.ensures, c.as_str.ensures.text) at c.all_of.ensures.fails
