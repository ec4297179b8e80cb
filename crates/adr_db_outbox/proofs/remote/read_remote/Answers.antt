use Rattle.std.proofs.Common.{◌≡◌, ℕ, List, Option, Some, Ok, refl, ap, ◌∙◌}
use Rattle.std.specs.Prelude.{option_map}
use Rattle.adr_db.specs.declared.outbox.RemoteRow.{RemoteRow}
use Rattle.adr_text.specs.declared.refusal.Refusal.{Refusal}
use Rattle.adr_db.specs.Admitted.{ReadsRemote}
use Rattle.adr_db.proofs.KeptMaps.{one_finds}
use Rattle.adr_db.proofs.Maps.{remote_map}
use Rattle.adr_db_outbox.proofs.RemoteStatements.{texts, remote_read}
use Rattle.adr_db_outbox.proofs.remote.read_remote.Goals as goal

pub returns-clause-finds : goal.returns-clause-finds
returns-clause-finds g c clean kept was =
    let event = c.args.event.now in
    let found =
    one_finds remote_map {E = Refusal} g.S.Store c.args.tx.now.conn.now c.first_of.new.tx.conn.now _ ReadsRemote (λ (found : Option RemoteRow) (there : Option (List ℕ)). option_map (λ row. row.id) found ≡ there) event (Ok c.in_ok-row.row) refl texts.reads_one refl
    (λ row id reads. ap (λ (e : List ℕ × List ℕ). Some e.1) (remote_read row (event, id) reads)) (rw (c.to_sql.ensures, c.as_str.ensures.text) at c.in_ok-row.ensures.shows) clean kept was in
    (c.id_of.ensures ∙ found.0, found.1)
