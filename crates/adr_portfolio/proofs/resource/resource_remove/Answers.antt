use Rattle.std.proofs.Common.{refl, sym, ap, ◌∙◌, arith}
use Rattle.adr_db.proofs.Common.{state, HasCleanDisk, DropResource}
use Rattle.adr_text.specs.Refusals.{or_else}
use Rattle.adr_text.specs.declared.refusal.Refusal.TheVariants.{NotFound}
use Rattle.adr_state.specs.Resources.{resource_under}
use Rattle.adr_db.specs.Bases.{kept_beside}
use Rattle.adr_db.proofs.Results.{handed_on, refused_so}
use Rattle.adr_counted.proofs.Known.{found_is}
use Rattle.adr_portfolio.proofs.Decisions.{resource_known}
use Rattle.adr_portfolio.proofs.resource.resource_remove.Goals as goal

pub returns-in_err-row-clause-refuses : goal.returns-in_err-row-clause-refuses
returns-in_err-row-clause-refuses g c clean =
    let e = c.in_err-row.field-0.0 in
    handed_on _ c.from_residual-in_err-row.result e c.from_residual-in_err-row.ensures.1 (λ beside base was same.
    let found = c.in_ok-found.ensures.finds clean (kept_beside beside base) was in
    refused_so e _ (rw (ap (or_else NotFound) (sym found.0) ∙ sym c.there.ensures.gives ∙ c.in_err-row.was) refl))

pub returns-clause-carries : goal.returns-clause-carries
returns-clause-carries g c clean beside base was same =
    let early : HasCleanDisk (state g.S.Store c.read_under.new.tx.conn.now) = omega (arith, c.remove_resource.ensures.lent.stays.crash.clean) in
    let n = c.in_ok-row.row.0 in
    let found = c.in_ok-found.ensures.finds early (kept_beside beside base) was in
    let there_is = ap (or_else NotFound) (sym found.0) ∙ sym c.there.ensures.gives ∙ c.in_ok-row.was in
    let known = resource_known c.args.ven.now c.args.id.now base.portfolio c.in_ok-row.row (found_is NotFound (resource_under c.args.ven.now c.args.id.now base.portfolio) c.in_ok-row.row there_is) in
    record {
      change = DropResource n;
      decided = rw (there_is, c.in_ok-shown.ensures) refl;
      left = c.in_ok-remove_resource.ensures.counts clean beside base found.1 same known;
    }
