use Rattle.std.proofs.Common.{◌+◌, ℕ, Bool, cond, length, add-one, sym, ap, ap₂, ◌∙◌, arith}
use Rattle.std.specs.Prelude.{is_some}
use Rattle.adr_db.proofs.Common.{state, HasCleanDisk, at, nat_cmp, nat_cmp_total}
use Rattle.adr_db.proofs.Entries.{length_put}
use Rattle.adr_db.proofs.Rises.{waiting_rises}
use Rattle.adr_outbox.proofs.appending.append_one.Goals as goal

pub returns-clause-turns : goal.returns-clause-turns
returns-clause-turns g c clean kept was =
    let before = c.args.meta.now in
    let early : HasCleanDisk (state g.S.Store c.read_entry.new.tx.conn.now) = omega (arith, c.put_entry.ensures.lent.stays.crash.clean) in
    let found = (rw c.next-number.ensures at c.in_ok-there.ensures.finds) early kept was in
    let put = (rw c.next-number.ensures at c.in_ok-put_entry.ensures.leaves) clean kept found.1 in
    let many = length_put nat_cmp_total (before.serial + 1) c.args.entry.now kept.entries (waiting_rises kept (state g.S.Store c.args.tx.now.conn.now) was) in
    let serial = c.after_next-meta.ensures in
    let there = c.is_some.ensures ∙ ap is_some found.0 in (
      λ same.
          let there_so : Bool = is_some (at nat_cmp (before.serial + 1) kept.entries) in
          let waiting = c.waiting_after-meta.ensures ∙ ap₂ (λ (b : Bool) (n : ℕ). cond b n (n + 1)) there same ∙ ap (λ (n : ℕ). cond there_so (length kept.entries) n) (add-one (length kept.entries)) ∙ sym many in
          λ i. record before { serial = serial i; pending = waiting i },
      put,
    )
