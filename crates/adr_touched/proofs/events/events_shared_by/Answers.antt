use Rattle.std.proofs.Common.{arith}
use Rattle.std.specs.Prelude.{bytes_eq}
use Rattle.std.specs.List.{list_any}
use Rattle.adr_db.proofs.Common.{state, HasCleanDisk}
use Rattle.adr_db.proofs.Results.{ok_then}
use Rattle.adr_refresh.specs.Touched.{live_in, shares_in}
use Rattle.adr_touched.proofs.Found.{shares_are}
use Rattle.adr_touched.proofs.Gathered.{weaker}
use Rattle.adr_touched.proofs.Tested.{by_program}
use Rattle.adr_touched.proofs.events.events_shared_by.Goals as goal

pub returns-clause-finds : goal.returns-clause-finds
returns-clause-finds g c clean =
    let n = c.args.resource in
    let early : HasCleanDisk (state g.S.Store c.programs_of_resource.new.tx.conn.now) = omega (arith, c.events_of_programs.ensures.lent.stays.crash.clean) in
    ok_then c.events_of_programs.result (λ keys finds kept was.
    let programs = c.in_ok-programs.ensures.finds early kept was in
    let found = finds kept programs.1 in
    (λ id there. found.0 id (weaker live_in by_program kept.mirror (shares_in kept.portfolio n) (λ p. list_any (λ program. bytes_eq p program) c.in_ok-programs.programs) (λ program shares. rw programs.0 (shares_are kept.portfolio n program shares)) id there), found.1)) (c.events_of_programs.ensures.finds clean)
