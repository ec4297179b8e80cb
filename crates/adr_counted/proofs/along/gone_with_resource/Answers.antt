use Rattle.adr_counted.proofs.Going.{resource_goes}
use Rattle.adr_counted.proofs.along.gone_with_resource.Goals as goal

pub returns-clause-finds : goal.returns-clause-finds
returns-clause-finds g c clean kept was =
    let found = c.in_ok-along.ensures.finds clean kept was in
    (λ there. resource_goes kept.portfolio c.args.resource c.in_ok-along.along found.0 there, found.1)
