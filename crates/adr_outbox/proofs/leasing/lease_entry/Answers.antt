use Rattle.std.proofs.Common.{◌≡◌, sym, ap, subst, ◌∙◌, arith}
use Rattle.adr_delivery.specs.declared.entry.Entry.{Entry}
use Rattle.adr_delivery.specs.Jobs.{job_for}
use Rattle.adr_delivery.specs.Outboxes.{with_delivery, remote_for}
use Rattle.adr_db.proofs.Common.{state, HasCleanDisk}
use Rattle.adr_db.specs.Kept.{Keeps, with_waiting}
use Rattle.adr_db.specs.Images.{outbox_of}
use Rattle.adr_outbox.proofs.Leases.{same_ids}
use Rattle.adr_outbox.proofs.leasing.lease_entry.Goals as goal

pub returns-clause-leases : goal.returns-clause-leases
returns-clause-leases g c clean kept was =
    let new = state g.S.Store c.remote_for.new.tx.conn.now in
    let n = c.args.number in
    let e = c.args.entry.now in
    let d = c.in_ok-leased.field-0 in
    let l : Entry = c.in_ok-leased-2.leased in
    let is : l ≡ with_delivery d e = c.in_ok-leased-2.ensures in
    let early : HasCleanDisk (state g.S.Store c.put_entry.new.tx.conn.now) = omega (arith, c.remote_for.ensures.lent.stays.crash.clean) in
    let waits = c.in_ok-put_entry.ensures.leaves early kept was in
    let found = c.in_ok-remote.ensures.finds clean (with_waiting n l kept) waits in
    record {
      delivery = d;
      decided = sym c.in_ok-leased.ensures;
      told = λ numbers.
          c.in_ok-job_for.ensures
          ∙ ap (λ remote. job_for remote (n, l)) (c.as_ref.ensures.value ∙ found.0 numbers)
          ∙ ap (λ (l : Entry). job_for (remote_for l.addressee (outbox_of numbers (with_waiting n l kept))) (n, l)) is
          ∙ ap (λ remote. job_for remote (n, with_delivery d e)) (same_ids numbers n (with_delivery d e) kept e.addressee);
      keeps = subst (λ (l : Entry). Keeps (with_waiting n l kept) new) is found.1;
    }
