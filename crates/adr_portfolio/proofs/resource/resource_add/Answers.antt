use Rattle.std.proofs.Common.{refl, sym, ap, ◌∙◌, arith}
use Rattle.adr_db.proofs.Common.{state, HasCleanDisk, Resource, resource_name, fresh, PutResource, putting_resource}
use Rattle.adr_text.specs.Refusals.{or_else}
use Rattle.adr_text.specs.declared.refusal.Refusal.TheVariants.{NotFound}
use Rattle.adr_db.specs.declared.meta.Meta.{Meta}
use Rattle.adr_db.specs.Bases.{kept_beside}
use Rattle.adr_db.proofs.Results.{handed_on, refused_so}
use Rattle.adr_portfolio.proofs.Decisions.{new_tested}
use Rattle.adr_portfolio.proofs.resource.resource_add.Goals as goal

pub returns-in_err-ven-clause-refuses : goal.returns-in_err-ven-clause-refuses
returns-in_err-ven-clause-refuses g c clean =
    let e = c.in_err-ven.field-0.0 in
    handed_on _ c.from_residual-in_err-ven.result e c.from_residual-in_err-ven.ensures.1 (λ beside base was same.
    let found = c.in_ok-found.ensures.finds clean (kept_beside beside base) was in
    refused_so e _ (rw (ap (or_else NotFound) (sym found.0) ∙ sym c.there.ensures.gives ∙ c.in_err-ven.was) refl))

pub returns-in_err-check_new-clause-refuses : goal.returns-in_err-check_new-clause-refuses
returns-in_err-check_new-clause-refuses g c clean =
    let early : HasCleanDisk (state g.S.Store c.ven_at.new.tx.conn.now) = omega (arith, clean, c.read_resources_named.ensures.lent.stays.crash.clean) in
    let made : Resource = record { ven = c.in_ok-ven.ven; name = c.args.name.now; stamps = fresh c.args.now } in
    let e = c.in_err-check_new.field-0.0 in
    handed_on _ c.from_residual-in_err-check_new.result e c.from_residual-in_err-check_new.ensures.1 (λ beside base was same.
    let found = c.in_ok-found.ensures.finds early (kept_beside beside base) was in
    let named = c.in_ok-named.ensures.finds clean (kept_beside beside base) found.1 in
    let there_is = ap (or_else NotFound) (sym found.0) ∙ sym c.there.ensures.gives ∙ c.in_ok-ven.was in
    refused_so e _ (rw there_is (new_tested (putting_resource c.args.number made) resource_name c.args.name.now base.portfolio.resources _ _ c.in_err-check_new.was _ named.0 c.args.limits.now.resources _ _ _ c.get.ensures.value (ap (λ (m : Meta). m.resources) same) c.is_empty.ensures c.check_new.ensures)))

pub returns-clause-carries : goal.returns-clause-carries
returns-clause-carries g c clean beside base was same =
    let read : HasCleanDisk (state g.S.Store c.read_resources_named.new.tx.conn.now) = omega (arith, c.add_resource.ensures.lent.stays.crash.clean) in
    let early : HasCleanDisk (state g.S.Store c.ven_at.new.tx.conn.now) = omega (arith, read, c.read_resources_named.ensures.lent.stays.crash.clean) in
    let found = c.in_ok-found.ensures.finds early (kept_beside beside base) was in
    let named = c.in_ok-named.ensures.finds read (kept_beside beside base) found.1 in
    let there_is = ap (or_else NotFound) (sym found.0) ∙ sym c.there.ensures.gives ∙ c.in_ok-ven.was in
    let made : Resource = record { ven = c.in_ok-ven.ven; name = c.args.name.now; stamps = fresh c.args.now } in
    let passes = new_tested (putting_resource c.args.number made) resource_name c.args.name.now base.portfolio.resources _ _ c.in_ok-check_new.was _ named.0 c.args.limits.now.resources _ _ _ c.get.ensures.value (ap (λ (m : Meta). m.resources) same) c.is_empty.ensures c.check_new.ensures in
    record {
      change = PutResource c.args.number (record { ven = c.in_ok-ven.ven; name = c.in_ok-copy_of.field-0; stamps = c.fresh.result });
      decided = rw (there_is, passes, c.in_ok-shown.ensures, c.in_ok-copy_of.ensures, c.fresh.ensures) refl;
      left = c.in_ok-add_resource.ensures.counts clean beside base named.1 same tt;
    }
