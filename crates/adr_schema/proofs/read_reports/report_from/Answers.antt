use Rattle.std.proofs.Common.{map, ap, ◌∙◌}
use Rattle.adr_objects.specs.declared.report.UsageInterval.{UsageInterval}
use Rattle.adr_schema.specs.declared.posted.PostedInterval.{PostedInterval}
use Rattle.adr_schema.proofs.Reading.{differ-same_ids}
use Rattle.adr_schema.proofs.read_reports.report_from.Goals as goal

-- the ids are those that were posted, which differ
pub of-requires-clause-apart : goal.of-requires-clause-apart
of-requires-clause-apart c =
    let same = c.in_ok-intervals.ensures.ids ∙ ap (map (λ (p : PostedInterval). p.id)) c.as_slice.ensures.value in
    differ-same_ids (λ (i : UsageInterval). i.id) (λ (p : PostedInterval). p.id) c.in_ok-intervals.intervals.items c.args.posted.intervals same c.as_slice.ensures.apart
