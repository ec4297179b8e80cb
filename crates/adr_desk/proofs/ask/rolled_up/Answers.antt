use Rattle.std.proofs.Common.{◌≡◌, true, Err, refl, sym, ap, subst, ◌∙◌, arith}
use Rattle.adr_db.proofs.Common.{Forbidden}
use Rattle.adr_held.specs.Held.{kept_of}
use Rattle.adr_queries.specs.Listed.{listed_for}
use Rattle.adr_queries.specs.declared.query.Query.TheVariants as query
use Rattle.adr_queries.specs.Roles.{is_operator}
use Rattle.adr_queries.specs.Reported.{rollup_told}
use Rattle.adr_queries.specs.Replies.{reply}
use Rattle.adr_db.proofs.Results.{handed_on, refused_so, found_so, passed, refused_then, stopped}
use Rattle.adr_desk.proofs.ListedLemmas.{Listed, contained_listed, contained_all}
use Rattle.adr_desk.proofs.ReplyLemmas.{rollup_listed, rollup_replied}
use Rattle.adr_desk.proofs.ask.rolled_up.Goals as goal

-- another may not ask
pub returns-in_err-unless-clause-refuses : goal.returns-in_err-unless-clause-refuses
unfolding reply
returns-in_err-unless-clause-refuses g c clean =
    let e = c.in_err-unless.field-0.0 in
    let other = stopped Forbidden _ e (sym c.unless.ensures.gives ∙ c.in_err-unless.was) in
    handed_on _ c.from_residual.result e c.from_residual.ensures.1 (λ held was. refused_so e _ (rw (sym c.is_operator.ensures ∙ other.0) (ap Err (sym other.1))))

pub returns-in_err-unless-clause-listed : goal.returns-in_err-unless-clause-listed
returns-in_err-unless-clause-listed g c =
    let e = c.in_err-unless.field-0.0 in
    let these = listed_for (query.Rollup c.args.role.now c.args.event.now) in
    let other = stopped Forbidden _ e (sym c.unless.ensures.gives ∙ c.in_err-unless.was) in
    handed_on (Listed these) c.from_residual.result e c.from_residual.ensures.1 (subst (Listed these) (sym other.1) (contained_listed these Forbidden (0, omega arith, refl)))

pub returns-clause-tells : goal.returns-clause-tells
unfolding reply
returns-clause-tells g c clean =
    let yes : is_operator c.args.role.now ≡ true = sym c.is_operator.ensures ∙ passed Forbidden _ _ (sym c.unless.ensures.gives ∙ c.in_ok-unless.was) in
    found_so c.rollup_told.result (λ answer told held was. rollup_replied held.base c.args.role.now c.args.event.now c.in_ok-copy_of.field-0 c.in_ok-found.found yes c.in_ok-copy_of.ensures (c.in_ok-found.ensures.finds clean (kept_of held) was.keeps).0 ∙ sym c.rollup_told.ensures ∙ told)

pub returns-clause-refuses : goal.returns-clause-refuses
unfolding reply
returns-clause-refuses g c clean =
    let yes : is_operator c.args.role.now ≡ true = sym c.is_operator.ensures ∙ passed Forbidden _ _ (sym c.unless.ensures.gives ∙ c.in_ok-unless.was) in
    refused_then c.rollup_told.result (λ e told held was.
    refused_so e _ (rollup_replied held.base c.args.role.now c.args.event.now c.in_ok-copy_of.field-0 c.in_ok-found.found yes c.in_ok-copy_of.ensures (c.in_ok-found.ensures.finds clean (kept_of held) was.keeps).0 ∙ sym c.rollup_told.ensures ∙ told))

pub returns-clause-listed : goal.returns-clause-listed
returns-clause-listed g c = rw c.rollup_told.ensures (contained_all (listed_for (query.Rollup c.args.role.now c.args.event.now)) (rollup_told c.in_ok-copy_of.field-0 c.in_ok-found.found) (rollup_listed c.in_ok-copy_of.field-0 c.in_ok-found.found))
