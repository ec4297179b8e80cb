use Rattle.std.proofs.Common.{refl, sym}
use Rattle.adr_state.specs.Portfolios.{PutReport}
use Rattle.adr_reports.proofs.posting.put_kept.Goals as goal

pub returns-clause-carries : goal.returns-clause-carries
returns-clause-carries g c clean beside base was same there = record {
  change = PutReport c.args.number c.in_ok-kept.kept;
  decided = rw c.in_ok-kept.ensures refl;
  left = c.in_ok-put_report.ensures.counts clean beside base was same (sym there);
}
