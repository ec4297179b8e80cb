use Rattle.std.proofs.Common.{◌∙◌, subst}
use Rattle.adr_db.proofs.Results.{ok_then}
use Rattle.adr_pages.specs.Stamps.{AreFound}
use Rattle.adr_pages.proofs.StampLemmas.{told_alike}
use Rattle.adr_pages.proofs.objects.objects_of.Goals as goal

pub returns-clause-finds : goal.returns-clause-finds
returns-clause-finds g c clean =
    ok_then c.all_told.result
    (λ objects are kept was.
    let found = c.in_ok-stamps.ensures.finds clean kept was in
    let its = subst (AreFound kept.stamps c.in_ok-stamps.stamps) c.as_slice.ensures found.0 in
    (are ∙ told_alike kept.stamps c.in_ok-stamps.stamps c.args.rows its, found.1))
    c.all_told.ensures.objects
