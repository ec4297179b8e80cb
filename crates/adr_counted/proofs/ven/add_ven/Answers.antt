use Rattle.std.proofs.Common.{ap, ◌∙◌, arith}
use Rattle.std.specs.Prelude.{is_some}
use Rattle.adr_db.proofs.Common.{state, HasCleanDisk}
use Rattle.adr_db.specs.Bases.{kept_beside}
use Rattle.adr_db.proofs.Results.{on_then}
use Rattle.adr_counted.proofs.ven.add_ven.Goals as goal

pub returns-clause-counts : goal.returns-clause-counts
returns-clause-counts g c clean =
    let early : HasCleanDisk (state g.S.Store c.read_ven.new.tx.conn.now) = omega (arith, c.put_ven.ensures.lent.stays.crash.clean) in
    on_then c.put_ven.result (λ counts beside base was same _.
    let found = c.in_ok-found.ensures.finds early (kept_beside beside base) was in
    counts beside base found.1 same (c.is_some.ensures ∙ ap is_some found.0)) (c.put_ven.ensures.counts clean)
