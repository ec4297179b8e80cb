use Rattle.std.proofs.Common.{refl, ap, arith}
use Rattle.adr_db.proofs.Common.{state, HasCleanDisk, Ven, ven_name, fresh, PutVen, putting_ven}
use Rattle.adr_db.specs.declared.meta.Meta.{Meta}
use Rattle.adr_db.specs.Bases.{kept_beside}
use Rattle.adr_db.proofs.Results.{handed_on, refused_so}
use Rattle.adr_portfolio.proofs.Decisions.{new_tested}
use Rattle.adr_portfolio.proofs.ven.ven_add.Goals as goal

pub returns-in_err-check_new-clause-refuses : goal.returns-in_err-check_new-clause-refuses
returns-in_err-check_new-clause-refuses g c clean =
    let made : Ven = record { name = c.args.name.now; stamps = fresh c.args.now } in
    let e = c.in_err-check_new.field-0.0 in
    handed_on _ c.from_residual-in_err-check_new.result e c.from_residual-in_err-check_new.ensures.1 (λ beside base was same.
    let named = c.in_ok-named.ensures.finds clean (kept_beside beside base) was in
    refused_so e _ (new_tested (putting_ven c.args.number made) ven_name c.args.name.now base.portfolio.vens _ _ c.in_err-check_new.was _ named.0 c.args.limits.now.vens _ _ _ c.get.ensures.value (ap (λ (m : Meta). m.vens) same) c.is_empty.ensures c.check_new.ensures))

pub returns-clause-carries : goal.returns-clause-carries
returns-clause-carries g c clean beside base was same =
    let read : HasCleanDisk (state g.S.Store c.read_vens_named.new.tx.conn.now) = omega (arith, c.add_ven.ensures.lent.stays.crash.clean) in
    let named = c.in_ok-named.ensures.finds read (kept_beside beside base) was in
    let made : Ven = record { name = c.args.name.now; stamps = fresh c.args.now } in
    let passes = new_tested (putting_ven c.args.number made) ven_name c.args.name.now base.portfolio.vens _ _ c.in_ok-check_new.was _ named.0 c.args.limits.now.vens _ _ _ c.get.ensures.value (ap (λ (m : Meta). m.vens) same) c.is_empty.ensures c.check_new.ensures in
    record {
      change = PutVen c.args.number (record { name = c.in_ok-copy.field-0; stamps = c.fresh.result });
      decided = rw (passes, c.shown.ensures, c.in_ok-copy.ensures, c.fresh.ensures) refl;
      left = c.in_ok-add_ven.ensures.counts clean beside base named.1 same tt;
    }
