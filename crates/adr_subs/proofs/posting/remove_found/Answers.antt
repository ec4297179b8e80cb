use Rattle.std.proofs.Common.{refl, sym, ◌∙◌}
use Rattle.adr_db.proofs.Common.{DropSub}
use Rattle.adr_subs.proofs.Sights.{seen_there}
use Rattle.adr_subs.proofs.posting.remove_found.Goals as goal

pub returns-clause-carries : goal.returns-clause-carries
returns-clause-carries g c clean beside base was same there =
    let there_so = sym c.in_sight.ensures.gives ∙ c.in_ok-old.was in
    record {
      change = DropSub c.in_ok-old.old.0;
      decided = rw (there_so, c.told.ensures) refl;
      left = c.in_ok-remove_sub.ensures.counts clean beside base was same (seen_there c.args.sight base.portfolio.subs c.args.found c.in_ok-old.old there_so there);
    }
