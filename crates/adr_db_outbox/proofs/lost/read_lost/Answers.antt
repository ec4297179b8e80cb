use Rattle.std.proofs.Common.{◌≡◌, subst}
use Rattle.adr_db.proofs.Common.{AllZip}
use Rattle.adr_db.specs.Rows.{number_row}
use Rattle.adr_db.specs.Kept.{numbers_lost}
use Rattle.adr_db.specs.Admitted.{ReadsNumber}
use Rattle.adr_db.proofs.Rows.{number_kept}
use Rattle.adr_db.proofs.Calls.{shown_finds}
use Rattle.adr_db.proofs.KeptMaps.{read_back}
use Rattle.adr_db_outbox.proofs.LostStatement.{selects, lost_read}
use Rattle.adr_db_outbox.proofs.lost.read_lost.Goals as goal

pub returns-clause-finds : goal.returns-clause-finds
returns-clause-finds g c =
    shown_finds g.S.Store c.args.tx.now.conn.now c.all_of.new.tx.conn.now _ _ (AllZip ReadsNumber) (λ kept lost. lost ≡ numbers_lost kept) _ selects.alone (λ lost rows kept shown was read.
    read_back ReadsNumber number_row lost (numbers_lost kept) (λ m n has same. number_kept m n same) (subst (λ rows. AllZip ReadsNumber rows lost) (lost_read _ _ rows kept shown was) read)) c.all_of.ensures.shows
