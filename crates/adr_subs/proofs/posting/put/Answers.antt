use Rattle.std.proofs.Common.{ap, sym, subst, arith}
use Rattle.std.proofs.lemmas.Result.{IfErr-weaker}
use Rattle.adr_db.proofs.Common.{state, HasCleanDisk, number_in, IsRefusalOf}
use Rattle.adr_db.specs.Bases.{kept_beside}
use Rattle.adr_db.proofs.Results.{ok_then}
use Rattle.adr_counted.proofs.Decided.{carried_as}
use Rattle.adr_counted.proofs.Known.{found_there}
use Rattle.adr_subs.specs.Found.{replaced}
use Rattle.adr_subs.proofs.posting.put.Goals as goal

pub returns-clause-carries : goal.returns-clause-carries
returns-clause-carries g c clean =
    let early : HasCleanDisk (state g.S.Store c.sub_with_id.new.tx.conn.now) = omega (arith, c.put_found.ensures.lent.stays.crash.clean) in
    ok_then c.put_found.result (λ x carries beside base was same.
    let found = c.in_ok-found.ensures.finds early (kept_beside beside base) was in
    carried_as (carries beside base found.1 same (found_there base.portfolio.subs (number_in 115 c.args.id.now) c.in_ok-found.found found.0)) (ap (λ found. replaced c.args.sight c.args.now found c.args.body) (sym found.0))) (c.put_found.ensures.carries clean)

pub returns-clause-refuses : goal.returns-clause-refuses
returns-clause-refuses g c clean =
    let early : HasCleanDisk (state g.S.Store c.sub_with_id.new.tx.conn.now) = omega (arith, clean, c.put_found.ensures.lent.stays.crash.clean) in
    IfErr-weaker c.put_found.result _ _ (λ e refuses beside base was same.
    let found = c.in_ok-found.ensures.finds early (kept_beside beside base) was in
    subst (λ found. IsRefusalOf e (replaced c.args.sight c.args.now found c.args.body)) found.0 (refuses beside base found.1 same)) (c.put_found.ensures.refuses clean)
