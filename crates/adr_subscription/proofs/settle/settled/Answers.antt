use Rattle.std.proofs.lemmas.Result.{err_from_is_err_and}
use Rattle.adr_subscription.proofs.Unsettled.{not_the_store}
use Rattle.adr_subscription.proofs.settle.settled.Goals as goal

pub returns-in_err-items-clause-no_store : goal.returns-in_err-items-clause-no_store
returns-in_err-items-clause-no_store c =
    let handed = err_from_is_err_and c.from_residual.result c.from_residual.ensures.1 in
    rw (handed.1, handed.2) (λ is. not_the_store c.into_vec.result.items c.in_err-items.field-0.0 c.in_err-items.ensures.items cc)
