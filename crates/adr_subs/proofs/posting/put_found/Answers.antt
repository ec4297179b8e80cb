use Rattle.std.proofs.Common.{refl, sym, ◌∙◌}
use Rattle.adr_db.proofs.Results.{ok_then}
use Rattle.adr_counted.proofs.Decided.{carried_as}
use Rattle.adr_subs.proofs.Sights.{seen_there}
use Rattle.adr_subs.proofs.posting.put_found.Goals as goal

pub returns-clause-carries : goal.returns-clause-carries
returns-clause-carries g c clean =
    let old = c.in_ok-old.old in
    let there_so = sym c.in_sight.ensures.gives ∙ c.in_ok-old.was in
    ok_then c.put_kept.result (λ x carries beside base was same there.
    let put = carries beside base was same (seen_there c.args.sight base.portfolio.subs c.args.found old there_so there) in
    carried_as put (rw (there_so, c.again.ensures) refl)) (c.put_kept.ensures.carries clean)
