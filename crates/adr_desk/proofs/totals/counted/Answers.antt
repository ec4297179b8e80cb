use Rattle.std.proofs.Common.{◌≡◌, true, Ok, Err, refl, sym, ap, subst, ◌∙◌, arith}
use Rattle.adr_db.proofs.Common.{Forbidden}
use Rattle.adr_db.proofs.Results.{handed_on, refused_so, passed, stopped}
use Rattle.adr_objects.specs.declared.counts.OutboxCounts.{OutboxCounts}
use Rattle.adr_held.specs.Held.{kept_of}
use Rattle.adr_queries.specs.Listed.{listed_for}
use Rattle.adr_queries.specs.declared.query.Query.TheVariants as query
use Rattle.adr_queries.specs.Roles.{is_operator}
use Rattle.adr_queries.specs.Replies.{reply}
use Rattle.adr_queries.specs.declared.answer.Answer.TheVariants as answer
use Rattle.adr_desk.proofs.ListedLemmas.{Listed, contained_listed}
use Rattle.adr_desk.proofs.totals.counted.Goals as goal

-- another may not ask
pub returns-in_err-unless-clause-refuses : goal.returns-in_err-unless-clause-refuses
unfolding reply
returns-in_err-unless-clause-refuses g c clean =
    let e = c.in_err-unless.field-0.0 in
    let other = stopped Forbidden _ e (sym c.unless.ensures.gives ∙ c.in_err-unless.was) in
    handed_on _ c.from_residual.result e c.from_residual.ensures.1 (λ held was. refused_so e _ (rw (sym c.is_operator.ensures ∙ other.0) (ap Err (sym other.1))))

pub returns-in_err-unless-clause-listed : goal.returns-in_err-unless-clause-listed
returns-in_err-unless-clause-listed g c =
    let e = c.in_err-unless.field-0.0 in
    let these = listed_for (query.Outbox c.args.role.now) in
    let other = stopped Forbidden _ e (sym c.unless.ensures.gives ∙ c.in_err-unless.was) in
    handed_on (Listed these) c.from_residual.result e c.from_residual.ensures.1 (subst (Listed these) (sym other.1) (contained_listed these Forbidden (0, omega arith, refl)))

pub returns-clause-tells : goal.returns-clause-tells
unfolding reply
returns-clause-tells g c clean held was =
    let yes : is_operator c.args.role.now ≡ true = sym c.is_operator.ensures ∙ passed Forbidden _ _ (sym c.unless.ensures.gives ∙ c.in_ok-unless.was) in
    rw yes (ap (λ (n : OutboxCounts). Ok (answer.Counts n)) (sym ((c.in_ok-counts.ensures.finds clean (kept_of held) was.keeps).0 refl)))
