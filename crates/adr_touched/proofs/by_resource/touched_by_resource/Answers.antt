use Rattle.std.proofs.Common.{refl}
use Rattle.adr_state.specs.Portfolios.{PutResource}
use Rattle.adr_db.specs.Bases.{kept_beside}
use Rattle.adr_touched.proofs.Edits.{events_covered}
use Rattle.adr_touched.proofs.by_resource.touched_by_resource.Goals as goal

pub returns-clause-finds : goal.returns-clause-finds
returns-clause-finds g c clean beside base holds =
    let found = c.in_ok-keys.ensures.finds clean (kept_beside beside base) holds in
    (λ resource. rw (c.in_ok-with_rollups.ensures, c.in_ok-events.ensures, c.as_slice.ensures, c.new.ensures, c.new-2.ensures) (events_covered beside base c.in_ok-keys.keys (PutResource c.args.resource resource) refl found.0), found.1)
