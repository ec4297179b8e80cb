use Rattle.adr_db.proofs.Results.{ok_then}
use Rattle.adr_touched.proofs.Live.{keys_found}
use Rattle.adr_touched.proofs.events.events_of_program.Goals as goal

pub returns-clause-finds : goal.returns-clause-finds
returns-clause-finds g c clean =
    let program = c.args.program.now in
    ok_then c.read_live_events.result (λ keys finds kept was.
    let found = finds kept was in
    (rw found.0 (keys_found program kept), found.1)) (c.read_live_events.ensures.finds clean)
