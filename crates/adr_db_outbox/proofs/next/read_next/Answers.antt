use Rattle.std.proofs.Common.{◌≡◌, ℕ, Option, None, Some, map, take, refl, ap, subst}
use Rattle.std.specs.Prelude.{option_to_list}
use Rattle.adr_delivery.specs.declared.entry.Entry.{Entry}
use Rattle.adr_delivery.specs.Next.{next_entry}
use Rattle.adr_db.proofs.Common.{AllZip}
use Rattle.adr_db.specs.Rows.{entry_row}
use Rattle.adr_db.specs.Admitted.{ReadsWaitingEntry}
use Rattle.adr_db.proofs.Calls.{shown_finds}
use Rattle.adr_db.proofs.Waiting.{waiting_entry_read}
use Rattle.adr_db_outbox.proofs.NextStatement.{selects, next_read}
use Rattle.adr_db_outbox.proofs.next.read_next.Goals as goal

same_read : (found there : Option (ℕ × Entry)) → AllZip ReadsWaitingEntry (take 1 (map entry_row (option_to_list there))) (option_to_list found) → found ≡ there
same_read None None read = refl
same_read None (Some e) read = absurd read
same_read (Some e) None read = absurd read
same_read (Some d) (Some e) read = ap Some (waiting_entry_read d e read.0)

pub returns-clause-finds : goal.returns-clause-finds
returns-clause-finds g c =
    let now = c.args.now in
    shown_finds g.S.Store c.args.tx.now.conn.now c.first_of.new.tx.conn.now _ _ (λ rows found. AllZip ReadsWaitingEntry (take 1 rows) (option_to_list found)) (λ kept next. next ≡ next_entry now kept.entries) _ selects.alone (λ found rows kept shown was read.
    same_read found (next_entry now kept.entries) (subst (λ rows. AllZip ReadsWaitingEntry (take 1 rows) (option_to_list found)) (next_read now _ _ rows kept shown was) read))
    (rw (c.in_ok-number.ensures.value, c.nanos.ensures.value) at c.first_of.ensures.shows)

pub returns-clause-fails : goal.returns-clause-fails
returns-clause-fails g c = rw (c.in_ok-number.ensures.value, c.nanos.ensures.value) at c.first_of.ensures.fails
