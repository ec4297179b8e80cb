use Rattle.std.proofs.Common.{arith}
use Rattle.adr_db.proofs.Common.{state, HasCleanDisk}
use Rattle.adr_db.proofs.Results.{handed_on}
use Rattle.adr_db.specs.Bases.{kept_beside}
use Rattle.adr_kept_view.proofs.OrderLemmas.{held_in_order}
use Rattle.adr_commit.proofs.Ended.{all_visited, ended, refused}
use Rattle.adr_commit.proofs.commit.commit_touched.Goals as goal

pub returns-clause-commits : goal.returns-clause-commits
returns-clause-commits g c clean before after beside was it =
    let s0 = state g.S.Store c.args.tx.now.conn.now in
    let s1 = state g.S.Store c.visit_objects.new.tx.conn.now in
    let s2 = state g.S.Store c.visit_events.new.tx.conn.now in
    let s3 = state g.S.Store c.visit_objects-2.new.tx.conn.now in
    let s4 = state g.S.Store c.visit_rollups.new.tx.conn.now in
    let third : HasCleanDisk s3 = omega (arith, clean, c.visit_rollups.ensures.lent.stays.crash.clean) in
    let second : HasCleanDisk s2 = omega (arith, third, c.visit_objects-2.ensures.lent.stays.crash.clean) in
    let first : HasCleanDisk s1 = omega (arith, second, c.visit_events.ensures.lent.stays.crash.clean) in
    let stands = held_in_order beside after s0 was in
    let settings = c.args.settings.now in
    let all = all_visited settings before after beside c.args.now c.args.meta.now c.args.touched.now it stands c.new-visit.result c.visit_objects.new.visit c.visit_events.new.visit c.visit_objects-2.new.visit c.visit_rollups.new.visit
    c.visit_objects.new.meta c.visit_events.new.meta c.visit_objects-2.new.meta c.visit_rollups.new.meta s0 s1 s2 s3 s4
    (c.new-visit.ensures (kept_beside beside after)) was
    (rw c.as_slice-programs.ensures at (c.in_ok-visit_objects.ensures.visits first)) (rw c.as_slice-events.ensures at (c.in_ok-visit_events.ensures.visits second)) (rw c.as_slice-reports.ensures at (c.in_ok-visit_objects-2.ensures.visits third)) (rw (c.as_slice-rollups.ensures, c.new-teller.ensures) at (c.in_ok-visit_rollups.ensures.visits clean)) in
    rw c.changes.ensures (ended settings before after beside c.args.now c.args.meta.now c.args.touched.now it stands c.visit_rollups.new.visit c.visit_rollups.new.meta s4 all c.get-made.ensures.within (all.at.come.written c.in_ok-close.ensures.ends))

pub returns-in_err-close-clause-refuses : goal.returns-in_err-close-clause-refuses
returns-in_err-close-clause-refuses g c clean =
    let e = c.in_err-close.field-0.0 in
    handed_on _ c.from_residual-in_err-close.result e c.from_residual-in_err-close.ensures.1 (λ before after beside was it.
    let s0 = state g.S.Store c.args.tx.now.conn.now in
    let s1 = state g.S.Store c.visit_objects.new.tx.conn.now in
    let s2 = state g.S.Store c.visit_events.new.tx.conn.now in
    let s3 = state g.S.Store c.visit_objects-2.new.tx.conn.now in
    let s4 = state g.S.Store c.visit_rollups.new.tx.conn.now in
    let third : HasCleanDisk s3 = omega (arith, clean, c.visit_rollups.ensures.lent.stays.crash.clean) in
    let second : HasCleanDisk s2 = omega (arith, third, c.visit_objects-2.ensures.lent.stays.crash.clean) in
    let first : HasCleanDisk s1 = omega (arith, second, c.visit_events.ensures.lent.stays.crash.clean) in
    let stands = held_in_order beside after s0 was in
    let settings = c.args.settings.now in
    let all = all_visited settings before after beside c.args.now c.args.meta.now c.args.touched.now it stands c.new-visit.result c.visit_objects.new.visit c.visit_events.new.visit c.visit_objects-2.new.visit c.visit_rollups.new.visit
    c.visit_objects.new.meta c.visit_events.new.meta c.visit_objects-2.new.meta c.visit_rollups.new.meta s0 s1 s2 s3 s4
    (c.new-visit.ensures (kept_beside beside after)) was
    (rw c.as_slice-programs.ensures at (c.in_ok-visit_objects.ensures.visits first)) (rw c.as_slice-events.ensures at (c.in_ok-visit_events.ensures.visits second)) (rw c.as_slice-reports.ensures at (c.in_ok-visit_objects-2.ensures.visits third)) (rw (c.as_slice-rollups.ensures, c.new-teller.ensures) at (c.in_ok-visit_rollups.ensures.visits clean)) in
    refused settings before after beside c.args.now c.args.meta.now c.args.touched.now it stands c.visit_rollups.new.visit c.visit_rollups.new.meta s4 all e c.in_err-close.ensures.refuses)
