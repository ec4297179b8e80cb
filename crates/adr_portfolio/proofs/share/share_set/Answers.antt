use Rattle.std.proofs.Common.{◌≡◌, refl, sym, ap, ◌∙◌, arith}
use Rattle.std.proofs.lemmas.Result.{IfErr-weaker}
use Rattle.adr_db.proofs.Common.{state, HasCleanDisk}
use Rattle.adr_text.specs.Refusals.{or_else}
use Rattle.adr_text.specs.declared.refusal.Refusal.TheVariants.{NotFound}
use Rattle.adr_db.specs.Bases.{kept_beside}
use Rattle.adr_db.proofs.Results.{handed_on, ok_then, refused_so}
use Rattle.adr_counted.proofs.Decided.{carried_as}
use Rattle.adr_portfolio.proofs.share.share_set.Goals as goal

pub returns-in_err-resource-clause-refuses : goal.returns-in_err-resource-clause-refuses
returns-in_err-resource-clause-refuses g c clean =
    let e = c.in_err-resource.field-0.0 in
    handed_on _ c.from_residual-in_err-resource.result e c.from_residual-in_err-resource.ensures.1 (λ beside base was same.
    let found = c.in_ok-found.ensures.finds clean (kept_beside beside base) was in
    refused_so e _ (rw (ap (or_else NotFound) (sym found.0) ∙ sym c.there.ensures.gives ∙ c.in_err-resource.was) refl))

pub returns-clause-carries : goal.returns-clause-carries
returns-clause-carries g c clean =
    let early : HasCleanDisk (state g.S.Store c.resource_at.new.tx.conn.now) = omega (arith, c.set_of.ensures.lent.stays.crash.clean) in
    let copy = c.in_ok-program.ensures.cases in
    let program : c.args.program.now ≡ c.in_ok-program.program = sym copy.2 ∙ sym copy.4 ∙ copy.3 in
    ok_then c.set_of.result (λ x sets beside base was same.
    let found = c.in_ok-found.ensures.finds early (kept_beside beside base) was in
    let there_is = ap (or_else NotFound) (sym found.0) ∙ sym c.there.ensures.gives ∙ c.in_ok-resource.was in
    let set = sets beside base found.1 same in
    carried_as set (rw (there_is, program) refl)) (c.set_of.ensures.carries clean)

pub returns-clause-refuses : goal.returns-clause-refuses
returns-clause-refuses g c clean =
    let early : HasCleanDisk (state g.S.Store c.resource_at.new.tx.conn.now) = omega (arith, clean, c.set_of.ensures.lent.stays.crash.clean) in
    let copy = c.in_ok-program.ensures.cases in
    let program : c.args.program.now ≡ c.in_ok-program.program = sym copy.2 ∙ sym copy.4 ∙ copy.3 in
    IfErr-weaker c.set_of.result _ _ (λ e refuses beside base was same.
    let found = c.in_ok-found.ensures.finds early (kept_beside beside base) was in
    let there_is = ap (or_else NotFound) (sym found.0) ∙ sym c.there.ensures.gives ∙ c.in_ok-resource.was in
    rw (there_is, program) (refuses beside base found.1 same)) (c.set_of.ensures.refuses clean)
