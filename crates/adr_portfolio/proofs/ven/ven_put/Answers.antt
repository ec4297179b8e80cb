use Rattle.std.proofs.Common.{refl, sym, ap, ◌∙◌, arith}
use Rattle.adr_db.proofs.Common.{state, HasCleanDisk, Ven, ven_name, modified_at, number_in, PutVen, putting_ven}
use Rattle.adr_text.specs.Refusals.{or_else}
use Rattle.adr_text.specs.declared.refusal.Refusal.TheVariants.{NotFound}
use Rattle.adr_state.specs.Vens.{ven_with_id}
use Rattle.adr_db.specs.Bases.{kept_beside}
use Rattle.adr_db.proofs.Results.{handed_on, refused_so}
use Rattle.adr_counted.proofs.Known.{found_is, is_known}
use Rattle.adr_portfolio.proofs.Decisions.{free_tested}
use Rattle.adr_portfolio.proofs.ven.ven_put.Goals as goal

pub returns-in_err-old-clause-refuses : goal.returns-in_err-old-clause-refuses
returns-in_err-old-clause-refuses g c clean =
    let e = c.in_err-old.field-0.0 in
    handed_on _ c.from_residual-in_err-old.result e c.from_residual-in_err-old.ensures.1 (λ beside base was same.
    let found = c.in_ok-found.ensures.finds clean (kept_beside beside base) was in
    refused_so e _ (rw (ap (or_else NotFound) (sym found.0) ∙ sym c.there.ensures.gives ∙ c.in_err-old.was) refl))

pub returns-in_err-check_free-clause-refuses : goal.returns-in_err-check_free-clause-refuses
returns-in_err-check_free-clause-refuses g c clean =
    let early : HasCleanDisk (state g.S.Store c.ven_with_id.new.tx.conn.now) = omega (arith, c.read_vens_named.ensures.lent.stays.crash.clean) in
    let n = c.in_ok-old.old.0 in
    let made : Ven = record { name = c.args.name.now; stamps = modified_at c.args.now c.in_ok-old.old.1.stamps } in
    let e = c.in_err-check_free.field-0.0 in
    handed_on _ c.from_residual-in_err-check_free.result e c.from_residual-in_err-check_free.ensures.1 (λ beside base was same.
    let found = c.in_ok-found.ensures.finds early (kept_beside beside base) was in
    let named = c.in_ok-named.ensures.finds clean (kept_beside beside base) found.1 in
    let there_is = ap (or_else NotFound) (sym found.0) ∙ sym c.there.ensures.gives ∙ c.in_ok-old.was in
    refused_so e _ (rw there_is (free_tested (putting_ven n made) ven_name c.args.name.now base.portfolio.vens _ _ c.in_err-check_free.was _ named.0 n _ _ c.is_another_there.ensures c.as_slice.ensures c.check_free.ensures)))

pub returns-clause-carries : goal.returns-clause-carries
returns-clause-carries g c clean beside base was same =
    let read : HasCleanDisk (state g.S.Store c.read_vens_named.new.tx.conn.now) = omega (arith, c.put_ven.ensures.lent.stays.crash.clean) in
    let early : HasCleanDisk (state g.S.Store c.ven_with_id.new.tx.conn.now) = omega (arith, read, c.read_vens_named.ensures.lent.stays.crash.clean) in
    let n = c.in_ok-old.old.0 in
    let found = c.in_ok-found.ensures.finds early (kept_beside beside base) was in
    let named = c.in_ok-named.ensures.finds read (kept_beside beside base) found.1 in
    let there_is = ap (or_else NotFound) (sym found.0) ∙ sym c.there.ensures.gives ∙ c.in_ok-old.was in
    let known = is_known base.portfolio.vens (number_in 118 c.args.id.now) c.in_ok-old.old (found_is NotFound (ven_with_id c.args.id.now base.portfolio) c.in_ok-old.old there_is) in
    let made : Ven = record { name = c.args.name.now; stamps = modified_at c.args.now c.in_ok-old.old.1.stamps } in
    let passes = free_tested (putting_ven n made) ven_name c.args.name.now base.portfolio.vens _ _ c.in_ok-check_free.was _ named.0 n _ _ c.is_another_there.ensures c.as_slice.ensures c.check_free.ensures in
    record {
      change = PutVen n c.in_ok-ven.ven;
      decided = rw (there_is, passes, c.shown.ensures, c.in_ok-ven.ensures) refl;
      left = c.in_ok-put_ven.ensures.counts clean beside base named.1 same (sym known);
    }
