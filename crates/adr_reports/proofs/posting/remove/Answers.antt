use Rattle.std.proofs.Common.{refl, sym, ◌∙◌}
use Rattle.adr_text.specs.declared.refusal.Refusal.TheVariants.{NotFound}
use Rattle.adr_state.specs.Portfolios.{DropReport}
use Rattle.adr_counted.proofs.Known.{one_there}
use Rattle.adr_reports.proofs.posting.remove.Goals as goal

pub returns-clause-carries : goal.returns-clause-carries
returns-clause-carries g c clean beside base was same there =
    let found_so = sym c.there.ensures.gives ∙ c.in_ok-old.was in
    record {
      change = DropReport c.in_ok-old.old.0;
      decided = rw found_so refl;
      left = c.in_ok-remove_report.ensures.counts clean beside base was same (one_there base.portfolio.reports NotFound c.args.found c.in_ok-old.old found_so there);
    }
