use Rattle.adr_db.specs.Bases.{kept_beside}
use Rattle.adr_touched.proofs.Edits.{shares_covered}
use Rattle.adr_touched.proofs.by_share.touched_by_share.Goals as goal

pub returns-clause-finds : goal.returns-clause-finds
returns-clause-finds g c clean beside base holds =
    let program = c.args.program.now in
    let found = c.in_ok-keys.ensures.finds clean (kept_beside beside base) holds in
    (rw (c.in_ok-with_rollups.ensures, c.in_ok-events.ensures, c.as_slice.ensures, c.new.ensures, c.new-2.ensures) (shares_covered beside base c.in_ok-keys.keys program found.0), found.1)
