use Rattle.adr_db.proofs.Results.{ok_then}
use Rattle.adr_db.specs.Bases.{kept_beside}
use Rattle.adr_upkeep.proofs.events.refresh.Goals as goal

pub returns-clause-refreshes : goal.returns-clause-refreshes
returns-clause-refreshes g c clean =
    ok_then c.refresh_sharing.result (λ changes refreshes owner rows beside before base was keeps owns so_was.
    let so = refreshes owner rows beside before base was keeps owns so_was (c.none-sharers.ensures (kept_beside beside base)) in
    (so.0, so.1, so.3)) (c.refresh_sharing.ensures.refreshes clean)
