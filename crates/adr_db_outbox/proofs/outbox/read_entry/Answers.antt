use Rattle.std.proofs.Common.{◌≡◌, Option, Some, refl, ap}
use Rattle.adr_delivery.specs.declared.entry.Entry.{Entry}
use Rattle.adr_db.specs.Admitted.{ReadsWaiting}
use Rattle.adr_db.proofs.KeptMaps.{stored_one_finds}
use Rattle.adr_db.proofs.Maps.{outbox_map}
use Rattle.adr_db.proofs.Waiting.{waiting_kept}
use Rattle.adr_db_outbox.proofs.OutboxStatements.{texts}
use Rattle.adr_db_outbox.proofs.outbox.read_entry.Goals as goal

pub returns-clause-finds : goal.returns-clause-finds
returns-clause-finds g c =
    stored_one_finds outbox_map g.S.Store c.args.tx.now.conn.now c.first_of.new.tx.conn.now _ ReadsWaiting (λ (found there : Option Entry). found ≡ there) c.args.id _ refl texts.reads_one refl (λ a b same. ap Some (waiting_kept a b same))
    (rw (c.in_ok-number.ensures.value, c.get.ensures) at c.first_of.ensures.shows)

pub returns-clause-fails : goal.returns-clause-fails
returns-clause-fails g c = rw (c.in_ok-number.ensures.value, c.get.ensures) at c.first_of.ensures.fails
