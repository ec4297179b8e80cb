use Rattle.adr_touched.proofs.FrozenFound.{keys_has}
use Rattle.adr_touched.proofs.frozen.events_frozen_for.Goals as goal

pub returns-clause-finds : goal.returns-clause-finds
returns-clause-finds g c clean kept was =
    let found = c.in_ok-shares.ensures.finds clean kept was in
    (rw c.in_ok-keys_of.ensures (keys_has c.args.resource kept.portfolio.frozen_shares c.in_ok-shares.shares found.0), found.1)
