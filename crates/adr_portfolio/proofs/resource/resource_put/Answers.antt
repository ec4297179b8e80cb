use Rattle.std.proofs.Common.{refl, sym, ap, ◌∙◌, arith}
use Rattle.adr_db.proofs.Common.{state, HasCleanDisk, Resource, resource_name, modified_at, PutResource, putting_resource}
use Rattle.adr_text.specs.Refusals.{or_else}
use Rattle.adr_text.specs.declared.refusal.Refusal.TheVariants.{NotFound}
use Rattle.adr_state.specs.Resources.{resource_under}
use Rattle.adr_db.specs.Bases.{kept_beside}
use Rattle.adr_db.proofs.Results.{handed_on, refused_so}
use Rattle.adr_counted.proofs.Known.{found_is}
use Rattle.adr_portfolio.proofs.Decisions.{resource_known, free_tested}
use Rattle.adr_portfolio.proofs.resource.resource_put.Goals as goal

pub returns-in_err-row-clause-refuses : goal.returns-in_err-row-clause-refuses
returns-in_err-row-clause-refuses g c clean =
    let e = c.in_err-row.field-0.0 in
    handed_on _ c.from_residual-in_err-row.result e c.from_residual-in_err-row.ensures.1 (λ beside base was same.
    let found = c.in_ok-found.ensures.finds clean (kept_beside beside base) was in
    refused_so e _ (rw (ap (or_else NotFound) (sym found.0) ∙ sym c.there.ensures.gives ∙ c.in_err-row.was) refl))

pub returns-in_err-check_free-clause-refuses : goal.returns-in_err-check_free-clause-refuses
returns-in_err-check_free-clause-refuses g c clean =
    let early : HasCleanDisk (state g.S.Store c.read_under.new.tx.conn.now) = omega (arith, c.read_resources_named.ensures.lent.stays.crash.clean) in
    let n = c.in_ok-row.row.0 in
    let old = c.in_ok-row.row.1 in
    let made : Resource = record { ven = old.ven; name = c.args.name.now; stamps = modified_at c.args.now old.stamps } in
    let e = c.in_err-check_free.field-0.0 in
    handed_on _ c.from_residual-in_err-check_free.result e c.from_residual-in_err-check_free.ensures.1 (λ beside base was same.
    let found = c.in_ok-found.ensures.finds early (kept_beside beside base) was in
    let named = c.in_ok-named.ensures.finds clean (kept_beside beside base) found.1 in
    let there_is = ap (or_else NotFound) (sym found.0) ∙ sym c.there.ensures.gives ∙ c.in_ok-row.was in
    refused_so e _ (rw there_is (free_tested (putting_resource n made) resource_name c.args.name.now base.portfolio.resources _ _ c.in_err-check_free.was _ named.0 n _ _ c.is_another_there.ensures c.as_slice.ensures c.check_free.ensures)))

pub returns-clause-carries : goal.returns-clause-carries
returns-clause-carries g c clean beside base was same =
    let read : HasCleanDisk (state g.S.Store c.read_resources_named.new.tx.conn.now) = omega (arith, c.put_resource.ensures.lent.stays.crash.clean) in
    let early : HasCleanDisk (state g.S.Store c.read_under.new.tx.conn.now) = omega (arith, read, c.read_resources_named.ensures.lent.stays.crash.clean) in
    let n = c.in_ok-row.row.0 in
    let old = c.in_ok-row.row.1 in
    let found = c.in_ok-found.ensures.finds early (kept_beside beside base) was in
    let named = c.in_ok-named.ensures.finds read (kept_beside beside base) found.1 in
    let there_is = ap (or_else NotFound) (sym found.0) ∙ sym c.there.ensures.gives ∙ c.in_ok-row.was in
    let known = resource_known c.args.ven.now c.args.id.now base.portfolio c.in_ok-row.row (found_is NotFound (resource_under c.args.ven.now c.args.id.now base.portfolio) c.in_ok-row.row there_is) in
    let made : Resource = record { ven = old.ven; name = c.args.name.now; stamps = modified_at c.args.now old.stamps } in
    let passes = free_tested (putting_resource n made) resource_name c.args.name.now base.portfolio.resources _ _ c.in_ok-check_free.was _ named.0 n _ _ c.is_another_there.ensures c.as_slice.ensures c.check_free.ensures in
    record {
      change = PutResource n c.in_ok-resource.resource;
      decided = rw (there_is, passes, c.in_ok-shown.ensures, c.in_ok-resource.ensures) refl;
      left = c.in_ok-put_resource.ensures.counts clean beside base named.1 same (sym known);
    }
