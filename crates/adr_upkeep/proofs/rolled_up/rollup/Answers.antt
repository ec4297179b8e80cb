use Rattle.adr_db.proofs.Results.{ok_then}
use Rattle.adr_upkeep.proofs.rolled_up.rollup.Goals as goal

pub returns-clause-finds : goal.returns-clause-finds
returns-clause-finds g c clean =
    ok_then c.rollup_by.result (λ rollup finds kept was. let found = finds kept was (c.none-sharers.ensures kept) in (found.0, found.2)) (c.rollup_by.ensures.finds clean)
