use Rattle.std.proofs.Common.{refl, sym, ap, ◌∙◌, arith}
use Rattle.adr_db.proofs.Common.{state, HasCleanDisk, number_in, DropVen}
use Rattle.adr_text.specs.Refusals.{or_else}
use Rattle.adr_text.specs.declared.refusal.Refusal.TheVariants.{NotFound}
use Rattle.adr_state.specs.Vens.{ven_with_id}
use Rattle.adr_db.specs.Bases.{kept_beside}
use Rattle.adr_db.proofs.Results.{handed_on, refused_so}
use Rattle.adr_counted.proofs.Known.{found_is, is_known}
use Rattle.adr_portfolio.proofs.ven.ven_remove.Goals as goal

pub returns-in_err-ven-clause-refuses : goal.returns-in_err-ven-clause-refuses
returns-in_err-ven-clause-refuses g c clean =
    let e = c.in_err-ven.field-0.0 in
    handed_on _ c.from_residual-in_err-ven.result e c.from_residual-in_err-ven.ensures.1 (λ beside base was same.
    let found = c.in_ok-found.ensures.finds clean (kept_beside beside base) was in
    refused_so e _ (rw (ap (or_else NotFound) (sym found.0) ∙ sym c.there.ensures.gives ∙ c.in_err-ven.was) refl))

pub returns-clause-carries : goal.returns-clause-carries
returns-clause-carries g c clean beside base was same =
    let early : HasCleanDisk (state g.S.Store c.ven_with_id.new.tx.conn.now) = omega (arith, c.remove_ven.ensures.lent.stays.crash.clean) in
    let found = c.in_ok-found.ensures.finds early (kept_beside beside base) was in
    let there_is = ap (or_else NotFound) (sym found.0) ∙ sym c.there.ensures.gives ∙ c.in_ok-ven.was in
    let known = is_known base.portfolio.vens (number_in 118 c.args.id.now) c.in_ok-ven.ven (found_is NotFound (ven_with_id c.args.id.now base.portfolio) c.in_ok-ven.ven there_is) in
    record {
      change = DropVen c.in_ok-ven.ven.0;
      decided = rw (there_is, c.shown.ensures) refl;
      left = c.in_ok-remove_ven.ensures.counts clean beside base found.1 same known;
    }
