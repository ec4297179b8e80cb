use Rattle.std.specs.Option.{option_copied}
use Rattle.adr_touched.proofs.Edits.{report_covered}
use Rattle.adr_touched.proofs.by_report.touched_by_report.Goals as goal

pub returns : goal.returns
returns c = rw (c.in_ok-rollups.ensures, c.in_ok-push.ensures.ok, c.new-reports.ensures, c.new.ensures, c.new-2.ensures) (report_covered c.args.old (option_copied c.args.event))
