use Rattle.adr_db.proofs.Results.{ok_then}
use Rattle.adr_db.specs.Bases.{kept_beside}
use Rattle.adr_upkeep.proofs.rollups.refresh_rollup.Goals as goal

pub returns-clause-refreshes : goal.returns-clause-refreshes
returns-clause-refreshes g c clean =
    ok_then c.refresh_rollup_sharing.result (λ change refreshes owner rows beside before base was keeps.
    let so = refreshes owner rows beside before base was keeps (c.none-sharers.ensures (kept_beside beside base)) in
    (so.0, so.1, so.3)) (c.refresh_rollup_sharing.ensures.refreshes clean)
