use Rattle.adr_delivery.specs.declared.outbox.Outbox.{Outbox}
use Rattle.adr_db.proofs.Common.{state}
use Rattle.adr_lent.proofs.Streams.{clean_before}
use Rattle.adr_lent_image.proofs.image.lent_outbox.Goals as goal

pub returns-clause-finds : goal.returns-clause-finds
returns-clause-finds g c clean kept was =
    let entries_clean = clean_before (state g.S.Store c.lent_entries.new.conn) (state g.S.Store c.lent_remotes.new.conn) _ c.lent_remotes.ensures.stands.crash clean in
    let entries = c.in_ok-entries.ensures.finds entries_clean kept was in
    let remotes = c.in_ok-remotes.ensures.finds clean kept entries.1 in
    (λ i. let outbox : Outbox = record { entries = entries.0 i; remotes = remotes.0 i; counts = c.args.meta.now.counts } in outbox, remotes.1)
