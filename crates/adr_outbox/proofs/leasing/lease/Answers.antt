use Rattle.std.proofs.Common.{sym, ◌∙◌, arith}
use Rattle.adr_db.proofs.Common.{state, HasCleanDisk}
use Rattle.adr_db.proofs.Rises.{waiting_rises}
use Rattle.adr_outbox.proofs.Leases.{none_leased, one_leased}
use Rattle.adr_outbox.proofs.leasing.lease.Goals as goal

pub returns-in-None-clause-turns : goal.returns-in-None-clause-turns
returns-in-None-clause-turns g c numbers clean kept was same =
    let found = c.in_ok-next.ensures.finds clean kept was in
    none_leased c.args.most c.args.now numbers kept same (state g.S.Store c.read_next.new.tx.conn.now) (sym c.in-None.is ∙ found.0) found.1

pub returns-in_ok-lease_entry-in-Some-clause-turns : goal.returns-in_ok-lease_entry-in-Some-clause-turns
returns-in_ok-lease_entry-in-Some-clause-turns g c numbers clean kept was same =
    let old = state g.S.Store c.args.tx.now.conn.now in
    let new = state g.S.Store c.lease_entry.new.tx.conn.now in
    let early : HasCleanDisk (state g.S.Store c.read_next.new.tx.conn.now) = omega (arith, c.lease_entry.ensures.lent.stays.crash.clean) in
    let found = c.in_ok-next.ensures.finds early kept was in
    let leases = c.in_ok-lease_entry-in-Some.ensures.leases clean kept found.1 in
    one_leased c.args.most c.args.now numbers kept same new c.in-Some.next.0 c.in-Some.next.1 leases.delivery c.in_ok-lease_entry-in-Some.field-0 (waiting_rises kept old was) (sym c.in-Some.is ∙ found.0) leases.decided (leases.told numbers) leases.keeps
